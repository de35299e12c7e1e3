use Rattle.std.proofs.Common.{◌≡◌, ℕ, ◌+◌, ◌*◌, ◌++◌, length, drop, flat_map, ◌∙◌, ap, arith, length-append}
use Rattle.kit_bytes.specs.Subscriptions.{by_service}
use Rattle.kit_bytes.specs.Numbers.{number_bytes}
use Rattle.mbim_fields.proofs.RoundTrip.{number_bytes-length}
use Rattle.mbim_services.specs.SubscribeLists.{references, structure}
use Rattle.mbim_services.proofs.Runs.{Puts-length, Puts-then, references-length}
use Rattle.mbim_services.proofs.lists.write_events.Goals as goal

pub put_structures-requires-clause-here : goal.put_structures-requires-clause-here
put_structures-requires-clause-here c =
    let subscriptions = by_service c.args.pairs.now in
    omega (
      arith,
      c.put_references-structures.ensures.end,
      c.put_number-references.ensures.end,
      references-length (4 + 8 * c.service_count-count.result) subscriptions,
      c.service_count-count.ensures.count,
      c.service_count-count.ensures.few,
      c.requires.few,
      c.requires.room,
      Puts-length _ _ _ _ c.put_references-structures.ensures.put,
      Puts-length _ _ _ _ c.put_number-references.ensures.put,
    )

pub returns-clause-written : goal.returns-clause-written
returns-clause-written c =
    let subscriptions = by_service c.args.pairs.now in
    let old = c.args.into.now in
    let count = number_bytes 4 (length subscriptions) in
    let places = references (4 + 8 * length subscriptions) subscriptions in
    let structures = flat_map structure subscriptions in
    let first = rw c.service_count-count.ensures.count at c.put_number-references.ensures.put in
    let second = rw c.service_count-count.ensures.count at c.put_references-structures.ensures.put in
    let second_end = rw c.service_count-count.ensures.count at c.put_references-structures.ensures.end in
    let count_long = number_bytes-length 4 (length subscriptions) in
    let two = Puts-then 0 c.put_number-references.result count places old c.put_number-references.new.into c.put_references-structures.new.into first second (omega (arith, c.put_number-references.ensures.end, count_long)) in
    let all =
    Puts-then 0 c.put_references-structures.result (count ++ places) structures old c.put_references-structures.new.into c.put_structures.new.into two c.put_structures.ensures.put
    (omega (arith, c.put_number-references.ensures.end, second_end, count_long, length-append count places)) in
    let end : 0 + length (count ++ places ++ structures) ≡ c.put_structures.result =
    omega (arith, c.put_structures.ensures.end, c.put_number-references.ensures.end, second_end, count_long, length-append count places, length-append (count ++ places) structures) in
    all.is ∙ ap (λ (n : ℕ). (count ++ places ++ structures) ++ drop n old) end
