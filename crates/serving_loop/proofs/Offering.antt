-- Who is blocked, and what was offered, as the record grows. Lists of calls and of events have the newest first.
use Rattle.std.proofs.Common.{◌≡◌, inl, inr, ℕ, zero, suc, Bool, true, false, ◌||◌, ◌==◌, nat_lt, length, if◌then◌else◌, List, [], ◌∷◌, ◌++◌, refl, sym, ◌∙◌, ap, subst, arith}
use Rattle.std.proofs.lemmas.Bool.Decides.{nat_tests}
use Rattle.std.proofs.lemmas.Bool.{cond-true, cond-false, eqb-true, or_parts}
use Rattle.std.specs.List.{AllByRecursion, list_any}
use Rattle.proxy_history.specs.Connections.{contains, without}
use Rattle.hub_io.specs.Record.{Call, ToldRoom, Sent}
use Rattle.proxy_serving.specs.Serving.{is_blocked}
use Rattle.many_io.specs.Record.{ManyCall, ToldModemRoom, SentModem, Reopened, events, calls_without_device}
use Rattle.many_serving.specs.Proxy.{ManyProxy}
use Rattle.many_serving.specs.Serving.{IsOffered, is_modem_blocked}
use Rattle.serving_loop.specs.Server.{remembering}

-- ---- lists of names ----

pub contains-any : (c : ℕ) (names : List ℕ) → list_any (λ d. c == d) names ≡ contains c names
contains-any c [] = refl
contains-any c (d ∷ names) = ap (λ (b : Bool). (c == d) || b) (contains-any c names)

pub both_on : {P Q R : ℕ → Type 0} (names : List ℕ) → ((d : ℕ) → P d → Q d → R d) → AllByRecursion P names → AllByRecursion Q names → AllByRecursion R names
both_on [] follows ps qs = tt
both_on (d ∷ names) follows ps qs = (follows d ps.0 qs.0, both_on names follows ps.1 qs.1)

pub all_joined : (P : ℕ → Type 0) (names others : List ℕ) → AllByRecursion P names → AllByRecursion P others → AllByRecursion P (names ++ others)
all_joined P [] others all more = more
all_joined P (d ∷ names) others all more = (all.0, all_joined P names others all.1 more)

-- who isn't among these has another name than each
pub differs_from_all : (c : ℕ) (names : List ℕ) → contains c names ≡ false → AllByRecursion (λ d. (c == d) ≡ false) names
differs_from_all c [] is = tt
differs_from_all c (d ∷ names) is = let parts = or_parts (c == d) (contains c names) is in (parts.0, differs_from_all c names parts.1)

pub is_among : (P : ℕ → Type 0) (c : ℕ) (names : List ℕ) → AllByRecursion P names → contains c names ≡ true → P c
is_among P c [] all is = absurd (cc)
is_among P c (d ∷ names) all is =
    let step : (b : Bool) → (c == d) ≡ b → P c =
    λ b. elim b as (λ b. (c == d) ≡ b → P c) [
      | true ↦ λ same. subst P (sym (eqb-true c d same)) all.0
      | false ↦ λ other. is_among P c names all.1 (sym (ap (λ (b : Bool). b || contains c names) other) ∙ is)
    ]
    in step (c == d) refl

-- ---- whether a client's socket takes nothing ----

pub blocked-sent_none : (c : ℕ) (bytes : List ℕ) (calls : List Call) → is_blocked c (Sent c bytes 0 ∷ calls) ≡ true
unfolding is_blocked
blocked-sent_none c bytes calls = let same : (c == c) ≡ true = grind (arith, nat_tests) in cond-true _ _ _ same

pub blocked-sent_other : (c d : ℕ) (bytes : List ℕ) (taken : ℕ) (calls : List Call) → (c == d) ≡ false → is_blocked d (Sent c bytes taken ∷ calls) ≡ is_blocked d calls
unfolding is_blocked
blocked-sent_other c d bytes zero calls other = cond-false _ _ _ other
blocked-sent_other c d bytes (suc taken) calls other = cond-false _ _ _ other

pub blocked-room_other : (c d : ℕ) (calls : List Call) → (c == d) ≡ false → is_blocked d (ToldRoom c ∷ calls) ≡ is_blocked d calls
unfolding is_blocked
blocked-room_other c d calls other = cond-false _ _ _ other

-- a sending that took nothing leaves those blocked that were
pub blocked-sent_none_on : (c d : ℕ) (bytes : List ℕ) (calls : List Call) → is_blocked d calls ≡ true → is_blocked d (Sent c bytes 0 ∷ calls) ≡ true
unfolding is_blocked
blocked-sent_none_on c d bytes calls is =
    let step : (b : Bool) → (c == d) ≡ b → is_blocked d (Sent c bytes 0 ∷ calls) ≡ true =
    λ b. elim b as (λ b. (c == d) ≡ b → is_blocked d (Sent c bytes 0 ∷ calls) ≡ true) [
      | true ↦ λ e. cond-true _ _ _ e
      | false ↦ λ e. cond-false _ _ _ e ∙ is
    ]
    in step (c == d) refl

-- ---- the clients that are known to be blocked ----

abbrev pub AreBlocked : List Call → List ℕ → Type 0
AreBlocked calls names = AllByRecursion (λ d. is_blocked d calls ≡ true) names

-- of the others each is as it is to be
pub all_without : (P Q : ℕ → Type 0) (c : ℕ) (names : List ℕ) → ((d : ℕ) → (c == d) ≡ false → P d → Q d) → AllByRecursion P names → AllByRecursion Q (without c names)
all_without P Q c [] follows all = tt
all_without P Q c (d ∷ names) follows all =
    let step : (b : Bool) → (c == d) ≡ b → AllByRecursion Q (without c (d ∷ names)) =
    λ b. elim b as (λ b. (c == d) ≡ b → AllByRecursion Q (without c (d ∷ names))) [
      | true ↦ λ same. rw same (all_without P Q c names follows all.1)
      | false ↦ λ other. rw other (follows d other all.0, all_without P Q c names follows all.1)
    ]
    in step (c == d) refl

pub still_without : (P : ℕ → Type 0) (c : ℕ) (names : List ℕ) → AllByRecursion P names → AllByRecursion P (without c names)
still_without P c names all = all_without P P c names (λ d other is. is) all

pub blocked_but : (c : ℕ) (calls : List Call) (names : List ℕ) → AreBlocked calls names → AreBlocked (ToldRoom c ∷ calls) (without c names)
blocked_but c calls names all = all_without _ _ c names (λ d other is. blocked-room_other c d calls other ∙ is) all

pub blocked_others : (c : ℕ) (bytes : List ℕ) (taken : ℕ) (calls : List Call) (names : List ℕ) → AllByRecursion (λ d. (c == d) ≡ false) names → AreBlocked calls names → AreBlocked (Sent c bytes taken ∷ calls) names
blocked_others c bytes taken calls names differ all = both_on names (λ d other is. blocked-sent_other c d bytes taken calls other ∙ is) differ all

-- one more is remembered, where it is one of the first
pub all_remembered : (P : ℕ → Type 0) (c : ℕ) (names now : List ℕ) → now ≡ remembering c names → P c → AllByRecursion P names → AllByRecursion P now
all_remembered P c names now is one all =
    subst (AllByRecursion P) (sym is)
    (elim (nat_lt (length names) 64) as (λ b. AllByRecursion P (if b then names ++ c ∷ [] else names)) [
      | true ↦ all_joined P names (c ∷ []) all (one, tt)
      | false ↦ all
    ])

-- ---- whether a device's modem takes nothing ----

pub modem_blocked-sent_none : (d : ℕ) (bytes : List ℕ) (calls : List ManyCall) → is_modem_blocked d (SentModem d bytes 0 ∷ calls) ≡ true
unfolding is_modem_blocked
modem_blocked-sent_none d bytes calls = let same : (d == d) ≡ true = grind (arith, nat_tests) in cond-true _ _ _ same

pub modem_blocked-sent_none_on : (d e : ℕ) (bytes : List ℕ) (calls : List ManyCall) → is_modem_blocked e calls ≡ true → is_modem_blocked e (SentModem d bytes 0 ∷ calls) ≡ true
unfolding is_modem_blocked
modem_blocked-sent_none_on d e bytes calls is =
    let step : (b : Bool) → (d == e) ≡ b → is_modem_blocked e (SentModem d bytes 0 ∷ calls) ≡ true =
    λ b. elim b as (λ b. (d == e) ≡ b → is_modem_blocked e (SentModem d bytes 0 ∷ calls) ≡ true) [
      | true ↦ λ same. cond-true _ _ _ same
      | false ↦ λ other. cond-false _ _ _ other ∙ is
    ]
    in step (d == e) refl

pub modem_blocked-sent_other : (d e : ℕ) (bytes : List ℕ) (taken : ℕ) (calls : List ManyCall) → (d == e) ≡ false → is_modem_blocked e (SentModem d bytes taken ∷ calls) ≡ is_modem_blocked e calls
unfolding is_modem_blocked
modem_blocked-sent_other d e bytes zero calls other = cond-false _ _ _ other
modem_blocked-sent_other d e bytes (suc taken) calls other = cond-false _ _ _ other

pub modem_blocked-room_other : (d e : ℕ) (calls : List ManyCall) → (d == e) ≡ false → is_modem_blocked e (ToldModemRoom d ∷ calls) ≡ is_modem_blocked e calls
unfolding is_modem_blocked
modem_blocked-room_other d e calls other = cond-false _ _ _ other

pub modem_blocked-reopened_other : (d e : ℕ) (calls : List ManyCall) → (d == e) ≡ false → is_modem_blocked e (Reopened d ∷ calls) ≡ is_modem_blocked e calls
unfolding is_modem_blocked
modem_blocked-reopened_other d e calls other = cond-false _ _ _ other

abbrev pub AreModemsBlocked : List ManyCall → List ℕ → Type 0
AreModemsBlocked calls devices = AllByRecursion (λ d. is_modem_blocked d calls ≡ true) devices

pub modems_blocked_others : (d : ℕ) (bytes : List ℕ) (taken : ℕ) (calls : List ManyCall) (devices : List ℕ) → AllByRecursion (λ e. (d == e) ≡ false) devices → AreModemsBlocked calls devices → AreModemsBlocked (SentModem d bytes taken ∷ calls) devices
modems_blocked_others d bytes taken calls devices differ all = both_on devices (λ e other is. modem_blocked-sent_other d e bytes taken calls other ∙ is) differ all

-- ---- what was offered stays offered ----

-- where neither what waits nor whether the socket takes nothing has changed
pub offered_as : (p : ManyProxy) (d : ℕ) (before after : List ManyCall) → p.waiting d (events after) ≡ p.waiting d (events before) → is_blocked d (calls_without_device after) ≡ is_blocked d (calls_without_device before) → IsOffered p before d → IsOffered p after d
offered_as p d before after waiting blocked (inl none) = inl (waiting ∙ none)
offered_as p d before after waiting blocked (inr is) = inr (blocked ∙ is)
