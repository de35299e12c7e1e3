-- Half octets, one by one.
use Rattle.std.proofs.Common.{◌≡◌, ℕ, zero, suc, ◌+◌, ◌*◌, ◌/◌, ◌%◌, ◌<◌, ◌≤◌, nat_lt, Bool, true, false, cond, List, [], ◌∷◌, ◌++◌, length, take, get_or, map, filter, refl, ap, sym, ◌∙◌, arith, append_assoc}
use Rattle.std.proofs.lemmas.List.{append-nil, take_more}
use Rattle.std.proofs.lemmas.Bool.Decides.{nat_tests}
use Rattle.sms_pdu.specs.Address.{digit, digits, half_octets}

low_half : (octets : List ℕ) (k at : ℕ) → 2 * k ≡ at → get_or (half_octets octets) at 0 ≡ get_or octets k 0 % 16
low_half [] k at is = refl
low_half (octet ∷ octets) zero zero is = refl
low_half (octet ∷ octets) zero (suc at) is = absurd (omega arith)
low_half (octet ∷ octets) (suc k) zero is = absurd (omega arith)
low_half (octet ∷ octets) (suc k) (suc zero) is = absurd (omega arith)
low_half (octet ∷ octets) (suc k) (suc (suc at)) is = low_half octets k at (omega arith)

high_half : (octets : List ℕ) (k at : ℕ) → 2 * k + 1 ≡ at → get_or (half_octets octets) at 0 ≡ get_or octets k 0 / 16
high_half [] k at is = refl
high_half (octet ∷ octets) zero zero is = absurd (omega arith)
high_half (octet ∷ octets) zero (suc zero) is = refl
high_half (octet ∷ octets) zero (suc (suc at)) is = absurd (omega arith)
high_half (octet ∷ octets) (suc k) zero is = absurd (omega arith)
high_half (octet ∷ octets) (suc k) (suc zero) is = absurd (omega arith)
high_half (octet ∷ octets) (suc k) (suc (suc at)) is = high_half octets k at (omega arith)

pub low_half-at : (octets : List ℕ) (index : ℕ) → index % 2 ≡ 0 → get_or octets (index / 2) 0 % 16 ≡ get_or (half_octets octets) index 0
low_half-at octets index even = sym (low_half octets (index / 2) index (omega arith))

pub high_half-at : (octets : List ℕ) (index : ℕ) → index % 2 ≡ 1 → get_or octets (index / 2) 0 / 16 ≡ get_or (half_octets octets) index 0
high_half-at octets index odd = sym (high_half octets (index / 2) index (omega arith))

pub length-half_octets : (octets : List ℕ) → length (half_octets octets) ≡ 2 * length octets
length-half_octets [] = refl
length-half_octets (octet ∷ octets) = let rest = length-half_octets octets in omega arith

-- ---- one half octet more ----

digits-push : (halves : List ℕ) (half : ℕ) → digits (halves ++ half ∷ []) ≡ digits halves ++ digits (half ∷ [])
digits-push [] half = refl
digits-push (first ∷ halves) half = by (nat_lt first 15) (digits-push halves half)
  where
    by : (b : Bool) → digits (halves ++ half ∷ []) ≡ digits halves ++ digits (half ∷ []) → map digit (cond b (first ∷ filter (λ h. nat_lt h 15) (halves ++ half ∷ [])) (filter (λ h. nat_lt h 15) (halves ++ half ∷ [])))
        ≡ map digit (cond b (first ∷ filter (λ h. nat_lt h 15) halves) (filter (λ h. nat_lt h 15) halves)) ++ digits (half ∷ [])
    by true more = ap (λ (l : List ℕ). digit first ∷ l) more
    by false more = more

-- the digits of the first half octets, and of one more
pub digits-more : (octets : List ℕ) (k half : ℕ) → k < 2 * length octets → half ≡ get_or (half_octets octets) k 0 → digits (take (k + 1) (half_octets octets)) ≡ digits (take k (half_octets octets)) ++ digits (half ∷ [])
digits-more octets k half within is =
    let more = take_more (half_octets octets) k 0 (omega (arith, length-half_octets octets)) in
    ap digits more ∙ digits-push (take k (half_octets octets)) (get_or (half_octets octets) k 0) ∙ ap (λ (h : ℕ). digits (take k (half_octets octets)) ++ digits (h ∷ [])) (sym is)

-- characters that have the digits of some half octets, and those of one more
pub with_digit : (old new begun before after : List ℕ) (half : ℕ) → half < 15 → new ≡ old ++ digit half ∷ [] → old ≡ begun ++ before → after ≡ before ++ digits (half ∷ []) → new ≡ begun ++ after
with_digit old new begun before after half fits pushed held more =
    let one : digits (half ∷ []) ≡ digit half ∷ [] = let test : nat_lt half 15 ≡ true = grind (arith, nat_tests) in rw test refl in
    pushed ∙ ap (λ (l : List ℕ). l ++ digit half ∷ []) held ∙ append_assoc begun before (digit half ∷ []) ∙ ap (λ (l : List ℕ). begun ++ l) (ap (λ (l : List ℕ). before ++ l) (sym one) ∙ sym more)

pub without_digit : (old begun before after : List ℕ) (half : ℕ) → 15 ≤ half → old ≡ begun ++ before → after ≡ before ++ digits (half ∷ []) → old ≡ begun ++ after
without_digit old begun before after half fills held more =
    let none : digits (half ∷ []) ≡ [] = let test : nat_lt half 15 ≡ false = grind (arith, nat_tests) in rw test refl in
    held ∙ ap (λ (l : List ℕ). begun ++ l) (sym (append-nil before) ∙ ap (λ (l : List ℕ). before ++ l) (sym none) ∙ sym more)
