use Rattle.std.proofs.Common.{ap, sym, ◌∙◌, length, get_or, arith, List, ℕ}
use Rattle.std.specs.List.{remove}
use Rattle.std.proofs.lemmas.List.Edits.{length-remove}
use Rattle.number_space.specs.Index.{Indexed, beside}
use Rattle.number_space.proofs.Beside.{length_beside, key_beside, remove_beside}
use Rattle.number_space.proofs.by_number.Index.take.Goals as goal

pub remove-requires : goal.remove-requires
remove-requires c = omega (arith, c.requires, length_beside c.self.inside.numbers.items c.self.inside.keys.items c.self.invariant, ap (λ (i : Indexed). length i.entries) c.self.view_is)

pub take_at-requires : goal.take_at-requires
take_at-requires c = omega (arith, c.requires, c.self.invariant, length_beside c.self.inside.numbers.items c.self.inside.keys.items c.self.invariant, ap (λ (i : Indexed). length i.entries) c.self.view_is)

pub returns-clause-key : goal.returns-clause-key
returns-clause-key c = λ d.
    c.take_at.ensures.value d.key
    ∙ sym (key_beside c.self.inside.numbers.items c.self.inside.keys.items c.args.place d c.self.invariant)
    ∙ ap (λ (i : Indexed). (get_or i.entries c.args.place d).key) c.self.view_is

pub returns-clause-entries : goal.returns-clause-entries
returns-clause-entries c =
    ap (λ (l : List ℕ). beside l c.take_at.new.queue.items) c.remove.ensures.items
    ∙ ap (beside (remove c.self.inside.numbers.items c.args.place)) c.take_at.ensures.items
    ∙ remove_beside c.self.inside.numbers.items c.self.inside.keys.items c.args.place c.self.invariant
    ∙ ap (λ (i : Indexed). remove i.entries c.args.place) c.self.view_is

pub invariant_of-self : goal.invariant_of-self
invariant_of-self c =
    omega (
      arith,
      c.requires,
      c.self.invariant,
      length_beside c.self.inside.numbers.items c.self.inside.keys.items c.self.invariant,
      ap (λ (i : Indexed). length i.entries) c.self.view_is,
      ap length c.remove.ensures.items,
      ap length c.take_at.ensures.items,
      length-remove c.self.inside.numbers.items c.args.place (omega (arith, c.requires, length_beside c.self.inside.numbers.items c.self.inside.keys.items c.self.invariant, ap (λ (i : Indexed). length i.entries) c.self.view_is)),
      length-remove c.self.inside.keys.items c.args.place (omega (arith, c.requires, c.self.invariant, length_beside c.self.inside.numbers.items c.self.inside.keys.items c.self.invariant, ap (λ (i : Indexed). length i.entries) c.self.view_is)),
    )
