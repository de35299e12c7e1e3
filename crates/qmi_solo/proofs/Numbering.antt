-- A message with another number is the same else.
use Rattle.std.proofs.Common.{◌≡◌, ℕ, ◌+◌, ◌*◌, ◌≤◌, Bool, true, false, ◌/◌, ◌%◌, ◌==◌, List, ◌∷◌, ◌++◌, length, take, drop, refl, ap, ◌∙◌, arith, if◌then◌else◌}
use Rattle.qmux_frame.specs.Frame.{size_of}
use Rattle.qmux_frame.specs.Head.{service_of, cid_of, number_of}
use Rattle.qmux_frame.specs.Reply.{with_number}
use Rattle.qmux_frame.specs.Kind.{framed_kind}
use Rattle.qmi_proxy.specs.Messages.{value_of}

pub record Same (n : ℕ) (m later : List ℕ) : Type 0 where
  pub service : service_of later ≡ service_of m
  pub cid : cid_of later ≡ cid_of m
  pub number : number_of later ≡ n
  pub kind : framed_kind later ≡ framed_kind m
  pub value : (k : ℕ) → value_of k later ≡ value_of k m
  pub size : size_of later ≡ size_of m
  pub long : length later ≡ length m
  pub blank : with_number 0 later ≡ with_number 0 m

pub renumbered : (n : ℕ) (m : List ℕ) → 12 ≤ length m → Same n m (with_number n m)
renumbered n (a ∷ b ∷ c ∷ d ∷ service ∷ e ∷ f ∷ g ∷ h ∷ rest) long =
    let m : List ℕ = a ∷ b ∷ c ∷ d ∷ service ∷ e ∷ f ∷ g ∷ h ∷ rest in
    let step : (t : Bool) → (service == 0) ≡ t → Same n m (if t then take 7 m ++ n ∷ drop 8 m else take 7 m ++ n % 256 ∷ n / 256 ∷ drop 9 m) =
    λ t. elim t as (λ t. (service == 0) ≡ t → Same n m (if t then take 7 m ++ n ∷ drop 8 m else take 7 m ++ n % 256 ∷ n / 256 ∷ drop 9 m)) [
      | true ↦ λ is. record {
        service = refl;
        cid = refl;
        number = ap (λ (t : Bool). if t then n else n + 256 * (h + 256 * 0)) is;
        kind = refl;
        value = λ k. rw is refl;
        size = refl;
        long = refl;
        blank = rw is refl;
      }
      | false ↦ λ is. record {
        service = refl;
        cid = refl;
        number = ap (λ (t : Bool). if t then n % 256 else n % 256 + 256 * (n / 256 + 256 * 0)) is ∙ omega arith;
        kind = refl;
        value = λ k. rw is refl;
        size = refl;
        long = refl;
        blank = rw is refl;
      }
    ]
    in step (service == 0) refl
renumbered n _ long = absurd (omega arith)
