-- A header's elements, one by one.
use Rattle.std.proofs.Common.{◌≡◌, ℕ, zero, suc, ◌-◌, ◌<◌, ◌≤◌, nat_lt, true, false, List, [], ◌∷◌, length, take, drop, get_or, refl, ap, ◌∙◌, arith, Option, None}
use Rattle.std.specs.Option.{option_or}
use Rattle.std.proofs.lemmas.List.{take_all}
use Rattle.std.proofs.lemmas.Bool.Decides.{nat_tests}
use Rattle.sms_pdu.specs.declared.pdu.Part.{Part}
use Rattle.sms_pdu.specs.Header.{elements, elements_behind, first_told, told}

elements_behind-drop : (count : ℕ) (bytes : List ℕ) → elements_behind count bytes ≡ elements (drop count bytes)
elements_behind-drop zero [] = refl
elements_behind-drop (suc count) [] = refl
elements_behind-drop zero (byte ∷ bytes) = refl
elements_behind-drop (suc count) (byte ∷ bytes) = elements_behind-drop count bytes

pub first_told-whole : (number size : ℕ) (rest : List ℕ) → size ≤ length rest
    → first_told (elements (number ∷ size ∷ rest)) ≡ option_or (told number (take size rest)) (first_told (elements (drop size rest)))
first_told-whole number size rest fits =
    let whole : nat_lt size (suc (length rest)) ≡ true = grind (arith, nat_tests) in
    rw (whole, elements_behind-drop size rest) refl

pub first_told-short : (number size : ℕ) (rest : List ℕ) → length rest < size → None ≡ first_told (elements (number ∷ size ∷ rest))
first_told-short number size rest short =
    let cut : nat_lt size (suc (length rest)) ≡ false = grind (arith, nat_tests) in
    rw cut refl

-- the first element of bytes, of which its octets and what is behind them are known
pub first_told-step : (left : List ℕ) (size : ℕ) (front back : List ℕ) (o : Option Part) → 2 ≤ length left → size ≡ get_or left 1 0 → size ≤ length (take (length left - 2) (drop 2 left))
    → front ≡ take size (take (length left - 2) (drop 2 left)) → back ≡ drop size (take (length left - 2) (drop 2 left)) → o ≡ told (get_or left 0 0) front
    → first_told (elements left) ≡ option_or o (first_told (elements back))
first_told-step [] size front back o two size_is fits front_is back_is o_is = absurd (omega arith)
first_told-step (number ∷ []) size front back o two size_is fits front_is back_is o_is = absurd (omega arith)
first_told-step (number ∷ second ∷ rest) size front back o two size_is fits front_is back_is o_is =
    let all : take (suc (suc (length rest)) - 2) rest ≡ rest = take_all (suc (suc (length rest)) - 2) rest (omega arith) in
    let front_at : front ≡ take size rest = front_is ∙ ap (take size) all in
    let back_at : back ≡ drop size rest = back_is ∙ ap (drop size) all in
    let within : second ≤ length rest = omega (arith, ap length all) in
    let first = first_told-whole number second rest within in
    rw (o_is, front_at, back_at, size_is) first

pub first_told-none : (left : List ℕ) → length left < 2 → None ≡ first_told (elements left)
first_told-none [] few = refl
first_told-none (number ∷ []) few = refl
first_told-none (number ∷ size ∷ rest) few = absurd (omega arith)
