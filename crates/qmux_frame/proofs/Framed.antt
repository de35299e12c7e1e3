-- What framed messages have.
use Rattle.std.proofs.Common.{◌≡◌, ℕ, ◌+◌, ◌≤◌, Bool, true, false, ◌/◌, ◌%◌, ◌==◌, List, ◌∷◌, ◌++◌, length, take, drop, refl, ap, arith, if◌then◌else◌, Some, None}
use Rattle.std.proofs.lemmas.Bool.{eqb-true}
use Rattle.std.proofs.lemmas.List.{length-append, length-take, length-drop}
use Rattle.qmux_frame.specs.declared.kind.MessageKind.TheVariants as kind
use Rattle.qmux_frame.specs.Kind.{framed_kind, kind_of}
use Rattle.qmux_frame.specs.Head.{is_control, head_length, tlv_length, is_framed}
use Rattle.qmux_frame.specs.Reply.{with_number}

pub framed_long : (m : List ℕ) → is_framed m ≡ true → 12 ≤ length m
framed_long m framed =
    let is : head_length m + tlv_length m ≡ length m = eqb-true (head_length m + tlv_length m) (length m) framed in
    let head : (b : Bool) → 12 ≤ (if b then 12 else 13) = λ b. elim b as (λ b. 12 ≤ (if b then 12 else 13)) [ true ↦ omega arith | false ↦ omega arith ] in
    let least : 12 ≤ head_length m = head (is_control m) in
    omega arith

-- a response is framed
pub responses_framed : (m : List ℕ) → framed_kind m ≡ Some kind.Response → is_framed m ≡ true
responses_framed m e = by_test (is_framed m) e
  where
    by_test : (framed : Bool) → (if framed then Some (kind_of m) else None) ≡ Some kind.Response → framed ≡ true
    by_test true e = refl
    by_test false e = absurd (cc)

-- the number that is put last counts
pub number_last : (n : ℕ) (m : List ℕ) → 12 ≤ length m → with_number n (with_number 0 m) ≡ with_number n m
number_last n (a ∷ b ∷ c ∷ d ∷ service ∷ e ∷ f ∷ g ∷ h ∷ rest) long =
    let m : List ℕ = a ∷ b ∷ c ∷ d ∷ service ∷ e ∷ f ∷ g ∷ h ∷ rest in
    let step : (t : Bool) → (service == 0) ≡ t → with_number n (if t then take 7 m ++ 0 ∷ drop 8 m else take 7 m ++ 0 ∷ 0 ∷ drop 9 m) ≡ (if t then take 7 m ++ n ∷ drop 8 m else take 7 m ++ n % 256 ∷ n / 256 ∷ drop 9 m) =
    λ t. elim t as (λ t. (service == 0) ≡ t → with_number n (if t then take 7 m ++ 0 ∷ drop 8 m else take 7 m ++ 0 ∷ 0 ∷ drop 9 m) ≡ (if t then take 7 m ++ n ∷ drop 8 m else take 7 m ++ n % 256 ∷ n / 256 ∷ drop 9 m)) [
      | true ↦ λ is. ap (λ (t : Bool). if t then take 7 m ++ n ∷ drop 8 m else take 7 m ++ n % 256 ∷ n / 256 ∷ drop 9 m) is
      | false ↦ λ is. ap (λ (t : Bool). if t then take 7 m ++ n ∷ 0 ∷ drop 9 m else take 7 m ++ n % 256 ∷ n / 256 ∷ drop 9 m) is
    ]
    in step (service == 0) refl
number_last n _ long = absurd (omega arith)

-- the number changes no length
pub numbered_length : (number : ℕ) (m : List ℕ) → 12 ≤ length m → length (with_number number m) ≡ length m
numbered_length number m long =
    let first = length-take 7 m in
    let control = length-append (take 7 m) (number ∷ drop 8 m) in
    let service = length-append (take 7 m) (number % 256 ∷ number / 256 ∷ drop 9 m) in
    let rest = length-drop 8 m in
    let rest_more = length-drop 9 m in
    elim (is_control m) as (λ b. length (if b then take 7 m ++ number ∷ drop 8 m else take 7 m ++ number % 256 ∷ number / 256 ∷ drop 9 m) ≡ length m) [ true ↦ omega arith | false ↦ omega arith ]
