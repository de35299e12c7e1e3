-- Objects that are read one after another.
use Rattle.std.proofs.Common.{◌≡◌, ℕ, ◌+◌, ◌-◌, ◌^◌, ◌<◌, min, List, length, drop, get_or, Ok, Err, ap, ◌∙◌}
use Rattle.serde_json.specs.View.{view, items_view}
use Rattle.serde_json.specs.declared.value.Value.{Value}
use Rattle.message_tables.specs.declared.fault.ObjectFault.{ObjectFault}
use Rattle.message_tables.specs.declared.fault.ObjectFault.TheVariants.{Member, Format, Twice, Deep, OutOfMemory}
use Rattle.message_tables.specs.declared.objects.Described as declared
use Rattle.message_tables.specs.Objects.{Described, first_described, with_object}
use Rattle.message_tables.specs.State.{GoesOn, Describes}
use Rattle.message_tables.specs.Tables.{described_by, or_fault, fault_at}
use Rattle.message_tables.proofs.Lists.{drop_item}

module _ (objects : List Value) (i number : ℕ) (so_far : Described) (value : Value) (within : i < length objects) (is : value ≡ get_or objects i value)
    (has : described_by 0 first_described (items_view objects) ≡ described_by number so_far (items_view (drop i objects))) where
  next : described_by 0 first_described (items_view objects)
      ≡ or_fault number (λ described. described_by (min (number + 1) (2 ^ 32 - 1)) described (items_view (drop (i + 1) objects))) (with_object so_far (view value))
  unfolding described_by
  next = has ∙ ap (λ values. described_by number so_far (items_view values)) (drop_item objects i value within is)

  -- the object at the place is taken in
  pub described_by-more : (described : Described) → with_object so_far (view value) ≡ Ok described
      → described_by 0 first_described (items_view objects) ≡ described_by (min (number + 1) (2 ^ 32 - 1)) described (items_view (drop (i + 1) objects))
  described_by-more described taken =
      next ∙ ap (or_fault number (λ described. described_by (min (number + 1) (2 ^ 32 - 1)) described (items_view (drop (i + 1) objects)))) taken

  -- or is refused, and then so are all
  pub Describes-fault : (state : declared.Described) (fault : ObjectFault) → GoesOn state (Err fault) (with_object so_far (view value))
      → Describes (Err (fault_at number fault)) (described_by 0 first_described (items_view objects))
  Describes-fault state (Member which) refused = next ∙ ap (or_fault number (λ described. described_by (min (number + 1) (2 ^ 32 - 1)) described (items_view (drop (i + 1) objects)))) refused
  Describes-fault state Format refused = next ∙ ap (or_fault number (λ described. described_by (min (number + 1) (2 ^ 32 - 1)) described (items_view (drop (i + 1) objects)))) refused
  Describes-fault state Twice refused = next ∙ ap (or_fault number (λ described. described_by (min (number + 1) (2 ^ 32 - 1)) described (items_view (drop (i + 1) objects)))) refused
  Describes-fault state Deep refused = next ∙ ap (or_fault number (λ described. described_by (min (number + 1) (2 ^ 32 - 1)) described (items_view (drop (i + 1) objects)))) refused
  Describes-fault state OutOfMemory refused = tt
