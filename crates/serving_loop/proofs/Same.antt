-- What stays the same from call to call.
use Rattle.std.proofs.Common.{◌≡◌, ◌≤◌, ℕ, List, refl, sym, ◌∙◌, subst, arith}
use Rattle.many_history.specs.Events.{ManyEvent}
use Rattle.many_serving.specs.Proxy.{ManyProxy}
use Rattle.serving_loop.specs.Face.{ManyFace}
use Rattle.serving_loop.specs.Cores.{IsKnown}
use Rattle.serving_loop.specs.Same.{IsAsBefore}

module _ {C H : Type 0} {keeps : ManyProxy → List ManyEvent → C → Type 0} {face : C → ManyFace} {faults_of greatest_of devices_of : H → ℕ} where
  -- no call was made
  pub as_before-none : {core : C} {hub : H} → IsKnown keeps core → IsAsBefore keeps face faults_of greatest_of devices_of core core hub hub
  as_before-none known = record { known = known; devices = refl; greatest = refl; later = omega arith; names = refl; hub = refl }

  -- one call after the other
  pub as_before-then : {first mid last : C} {start next end : H} → IsAsBefore keeps face faults_of greatest_of devices_of first mid start next → IsAsBefore keeps face faults_of greatest_of devices_of mid last next end
      → IsAsBefore keeps face faults_of greatest_of devices_of first last start end
  as_before-then one other = record {
    known = other.known;
    devices = other.devices ∙ one.devices;
    greatest = other.greatest ∙ one.greatest;
    later = omega (arith, one.later, other.later);
    names = other.names ∙ one.names;
    hub = other.hub ∙ one.hub;
  }

  -- the core has changed
  pub as_before-met : {first mid last : C} {start end : H} → IsAsBefore keeps face faults_of greatest_of devices_of first mid start end → IsKnown keeps last → (face last).devices ≡ (face mid).devices → (face last).greatest ≡ (face mid).greatest
      → IsAsBefore keeps face faults_of greatest_of devices_of first last start end
  as_before-met one known devices greatest = record { known = known; devices = devices ∙ one.devices; greatest = greatest ∙ one.greatest; later = one.later; names = one.names; hub = one.hub }

  -- the hub has
  pub as_before-called : {first last : C} {start next end : H} → IsAsBefore keeps face faults_of greatest_of devices_of first last start next → faults_of next ≤ faults_of end → greatest_of end ≡ greatest_of next → devices_of end ≡ devices_of next
      → IsAsBefore keeps face faults_of greatest_of devices_of first last start end
  as_before-called one later names hub = record { known = one.known; devices = one.devices; greatest = one.greatest; later = omega (arith, one.later, later); names = names ∙ one.names; hub = hub ∙ one.hub }

  -- the core is the same
  pub as_before-is : {first mid last : C} {start end : H} → last ≡ mid → IsAsBefore keeps face faults_of greatest_of devices_of first mid start end → IsAsBefore keeps face faults_of greatest_of devices_of first last start end
  as_before-is {first = first} {start = start} {end = end} is one = subst (λ (core : C). IsAsBefore keeps face faults_of greatest_of devices_of first core start end) (sym is) one
