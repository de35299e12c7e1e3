-- From the calls that name them a profile and a device can be told.
use Rattle.std.proofs.Common.{◌≡◌, ℕ, ℤ, pos, negsuc, List, [], ◌∷◌, ◌++◌, refl, ap, ◌∙◌}
use Rattle.link_io.specs.Calls.{Call, Took}
use Rattle.modem_profile.specs.declared.phonebook.PhonebookEntry.{PhonebookEntry}
use Rattle.modem_profile.specs.Profile.{Profile}
use Rattle.transparency.specs.Naming.{named_number, named_texts, named_entries, named_profile, named_proxy}

-- ---- more calls stand behind the others ----

texts_behind : (texts : List (List ℕ)) (calls more : List Call) → named_texts texts (calls ++ more) ≡ named_texts texts calls ++ more
unfolding named_texts
texts_behind [] calls more = refl
texts_behind (text ∷ texts) calls more = ap (λ (l : List Call). Took text ∷ l) (texts_behind texts calls more)

entries_behind : (entries : List PhonebookEntry) (calls more : List Call) → named_entries entries (calls ++ more) ≡ named_entries entries calls ++ more
unfolding named_entries
entries_behind [] calls more = refl
entries_behind (entry ∷ entries) calls more = ap (λ (l : List Call). Took entry.number ∷ Took entry.name ∷ l) (entries_behind entries calls more)

pub profiles_behind : (profile : Profile) (calls more : List Call) → named_profile profile (calls ++ more) ≡ named_profile profile calls ++ more
unfolding named_profile
profiles_behind p calls more =
    ap (λ (l : List Call). Took p.manufacturer ∷ Took p.model ∷ Took p.revision ∷ Took p.msisdn ∷ Took p.imei ∷ Took p.operator ∷ Took (p.mcc ∷ p.mnc ∷ []) ∷ Took (named_number p.signal) ∷ l)
    (ap (named_texts p.sms) (entries_behind p.phonebook calls more) ∙ texts_behind p.sms (named_entries p.phonebook calls) more)

pub proxies_behind : (profile : Profile) (device : List ℕ) (calls more : List Call) → named_proxy profile device (calls ++ more) ≡ named_proxy profile device calls ++ more
unfolding named_proxy
proxies_behind profile device calls more = ap (λ (l : List Call). Took device ∷ l) (profiles_behind profile calls more)

-- ---- what is named can be told ----

number_named : (x y : ℤ) → named_number x ≡ named_number y → x ≡ y
number_named (pos n) (pos m) e = let same : n ≡ m = cc in ap pos same
number_named (pos n) (negsuc m) e = absurd (cc)
number_named (negsuc n) (pos m) e = absurd (cc)
number_named (negsuc n) (negsuc m) e = let same : n ≡ m = cc in ap negsuc same

texts_named : (xs ys : List (List ℕ)) (calls more : List Call) → named_texts xs calls ≡ named_texts ys more → (xs ≡ ys) × (calls ≡ more)
unfolding named_texts
texts_named [] [] calls more e = let same : calls ≡ more = cc in (refl, same)
texts_named [] (y ∷ ys) calls more e = absurd (cc)
texts_named (x ∷ xs) [] calls more e = absurd (cc)
texts_named (x ∷ xs) (y ∷ ys) calls more e =
    let first : x ≡ y = cc in
    let behind : named_texts xs calls ≡ named_texts ys more = cc in
    let rest = texts_named xs ys calls more behind in
    (λ i. first i ∷ rest.0 i, rest.1)

entries_named : (xs ys : List PhonebookEntry) (calls more : List Call) → named_entries xs calls ≡ named_entries ys more → (xs ≡ ys) × (calls ≡ more)
unfolding named_entries
entries_named [] [] calls more e = let same : calls ≡ more = cc in (refl, same)
entries_named [] (y ∷ ys) calls more e = absurd (cc)
entries_named (x ∷ xs) [] calls more e = absurd (cc)
entries_named (x ∷ xs) (y ∷ ys) calls more e =
    let number : x.number ≡ y.number = cc in
    let name : x.name ≡ y.name = cc in
    let behind : named_entries xs calls ≡ named_entries ys more = cc in
    let rest = entries_named xs ys calls more behind in
    (λ i. record { number = number i; name = name i } ∷ rest.0 i, rest.1)

pub profiles_named : (p q : Profile) (calls more : List Call) → named_profile p calls ≡ named_profile q more → (p ≡ q) × (calls ≡ more)
unfolding named_profile
profiles_named p q calls more e =
    let manufacturer : p.manufacturer ≡ q.manufacturer = cc in
    let model : p.model ≡ q.model = cc in
    let revision : p.revision ≡ q.revision = cc in
    let msisdn : p.msisdn ≡ q.msisdn = cc in
    let imei : p.imei ≡ q.imei = cc in
    let operator : p.operator ≡ q.operator = cc in
    let mcc : p.mcc ≡ q.mcc = cc in
    let mnc : p.mnc ≡ q.mnc = cc in
    let number : named_number p.signal ≡ named_number q.signal = cc in
    let behind : named_texts p.sms (named_entries p.phonebook calls) ≡ named_texts q.sms (named_entries q.phonebook more) = cc in
    let signal = number_named p.signal q.signal number in
    let texts = texts_named p.sms q.sms (named_entries p.phonebook calls) (named_entries q.phonebook more) behind in
    let entries = entries_named p.phonebook q.phonebook calls more texts.1 in (
      λ i. record {
        manufacturer = manufacturer i;
        model = model i;
        revision = revision i;
        msisdn = msisdn i;
        imei = imei i;
        operator = operator i;
        mcc = mcc i;
        mnc = mnc i;
        signal = signal i;
        sms = texts.0 i;
        phonebook = entries.0 i;
      },
      entries.1,
    )

pub proxies_named : (p q : Profile) (device other : List ℕ) (calls more : List Call) → named_proxy p device calls ≡ named_proxy q other more → (p ≡ q) × (device ≡ other) × (calls ≡ more)
unfolding named_proxy
proxies_named p q device other calls more e =
    let device_is : device ≡ other = cc in
    let behind : named_profile p calls ≡ named_profile q more = cc in
    let rest = profiles_named p q calls more behind in
    (rest.0, device_is, rest.1)
