-- What is printed twice is the same.
use Rattle.std.specs.Prelude.{Result, Ok, Err}
use Rattle.std.proofs.Common.{◌≡◌, ℕ, List, Option, refl, sym, ◌∙◌, ap}
use Rattle.link_session.specs.declared.fault.SessionFault.{SessionFault}
use Rattle.link_session.specs.declared.fault.SessionFault.TheVariants as fault
use Rattle.twin_sessions.specs.Twice.{ComeToTheSame}
use Rattle.printed_ends.specs.declared.printed.Printed.{Printed}
use Rattle.printed_ends.specs.Printed.{IsByPeer, Prints, status_by, status_of, text_of}

-- ends that are the same in this sense have the same text, and refuse by the same code or don't
module _ {E : Type 0} {Same : E → E → Type 0} {text : E → List ℕ} {refusal : E → Option ℕ} (prints : (a b : E) → Same a b → (text a ≡ text b) × (refusal a ≡ refusal b)) where
  ends_alike : (a b : Result E SessionFault) → IsByPeer a → IsByPeer b → ComeToTheSame Same a b → (text_of text a ≡ text_of text b) × (status_of refusal a ≡ status_of refusal b)
  ends_alike (Ok a) (Ok b) is_a is_b same = let it = prints a b same in (it.0, ap status_by it.1)
  ends_alike (Err (fault.Broken place)) (Err (fault.Broken other)) is_a is_b same = (refl, refl)
  ends_alike (Err (fault.Broken place)) (Ok b) is_a is_b same = absurd same
  ends_alike (Err (fault.Broken place)) (Err fault.Flooded) is_a is_b same = absurd same
  ends_alike (Err (fault.Broken place)) (Err fault.TimedOut) is_a is_b same = absurd same
  ends_alike (Err (fault.Broken place)) (Err why) is_a is_b same = absurd is_b
  ends_alike (Err fault.TimedOut) (Ok b) is_a is_b same = absurd same
  ends_alike (Err fault.TimedOut) (Err fault.OutOfMemory) is_a is_b same = absurd is_b
  ends_alike (Err fault.TimedOut) (Err why) is_a is_b same = absurd same
  ends_alike (Err fault.Flooded) (Ok b) is_a is_b same = absurd same
  ends_alike (Err fault.Flooded) (Err fault.OutOfMemory) is_a is_b same = absurd is_b
  ends_alike (Err fault.Flooded) (Err why) is_a is_b same = absurd same
  ends_alike (Ok a) (Err (fault.Broken place)) is_a is_b same = absurd same
  ends_alike (Ok a) (Err fault.Flooded) is_a is_b same = absurd same
  ends_alike (Ok a) (Err fault.TimedOut) is_a is_b same = absurd same
  ends_alike (Ok a) (Err why) is_a is_b same = absurd is_b
  ends_alike (Err why) b is_a is_b same = absurd is_a

  pub prints_alike : {W : Type 0} {EndsWith : Result E SessionFault → W → Type 0} (word other : W) (direct through : Printed)
      → ((a b : Result E SessionFault) → EndsWith a word → EndsWith b other → ComeToTheSame Same a b) → Prints text refusal EndsWith word direct → Prints text refusal EndsWith other through → direct ≡ through
  prints_alike word other direct through come a b =
      let alike = ends_alike a.end b.end a.by_peer b.by_peer (come a.end b.end a.ends b.ends) in
      let text_is : direct.text ≡ through.text = a.printed_is.0 ∙ alike.0 ∙ sym b.printed_is.0 in
      let status_is : direct.status ≡ through.status = a.printed_is.1 ∙ alike.1 ∙ sym b.printed_is.1 in
      λ i. record { text = text_is i; status = status_is i }
