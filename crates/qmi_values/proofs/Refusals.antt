-- Why bytes are refused.
use Rattle.std.proofs.Common.{◌≡◌, ℕ, ◌<◌, inl, inr, List, [], ◌∷◌, length, refl, sym, ◌∙◌, arith}
use Rattle.qmi_shapes.specs.declared.shape.Prefix.TheVariants.{Rest}
use Rattle.qmi_shapes.specs.Form.{Form, string}
use Rattle.qmi_shapes.specs.WellMade.{IsPart, IsWellMade}
use Rattle.qmi_values.specs.Value.{Value}
use Rattle.qmi_values.specs.Spelling.{Spells}
use Rattle.qmi_values.specs.Breaking.{BreaksOffAt, GoesOnAt}
use Rattle.qmi_values.specs.Reading.{Reading, Takes, StopsIn}
use Rattle.qmi_values.specs.Decoding.{Refuses}
use Rattle.qmi_values.specs.declared.fault.ValFault.{ValFault}
use Rattle.qmi_values.specs.declared.fault.ValFault.TheVariants.{Short, Over, OutOfMemory}
use Rattle.qmi_values.proofs.Breaking.{broken, longer}

pub part_if_no_rest : (form : Form) → IsWellMade form → (form ≡ string Rest → ⊥) → IsPart form
part_if_no_rest form made other = elim made as (λ m. IsPart form) [ inl rest ↦ absurd (other rest) | inr part ↦ part ]

pub stops_refused : (form : Form) (bytes : List ℕ) (start : Reading) (fault : ValFault) → IsPart form → start.place ≡ 0 → start.left ≡ bytes → StopsIn form start fault → Refuses form bytes fault
stops_refused form bytes start (Short place) is zero all (behind, place_is, breaks) =
    let here : BreaksOffAt form bytes place =
    record { front = breaks.front; left = breaks.left; whole = sym all ∙ breaks.whole; before = omega (arith, place_is, zero, breaks.before); next = breaks.next; comes = breaks.comes; short = breaks.short } in
    (here, broken form bytes place (inr is) here)
stops_refused form bytes start (Over place) is zero all stops = absurd stops
stops_refused form bytes start OutOfMemory is zero all stops = tt

some_left : (left : List ℕ) → (left ≡ [] → ⊥) → 0 < length left
some_left [] some = absurd (some refl)
some_left (byte ∷ left) some = omega arith

pub more_refused : (form : Form) (bytes : List ℕ) (value : Value) (start end : Reading) (place : ℕ) → IsPart form → start.place ≡ 0 → start.left ≡ bytes → Takes (Spells form value) start end
    → (end.left ≡ [] → ⊥) → place ≡ end.place → Refuses form bytes (Over place)
more_refused form bytes value start end place is zero all takes some place_is =
    let here : GoesOnAt form bytes place =
    record {
      front = takes.bytes;
      left = end.left;
      whole = sym all ∙ takes.took.left;
      before = omega (arith, place_is, takes.took.place, zero);
      some = some_left end.left some;
      value = value;
      spelled = takes.holds;
    } in
    (here, longer form bytes place is here)
