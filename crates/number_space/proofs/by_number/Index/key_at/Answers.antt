use Rattle.std.proofs.Common.{ap, sym, ◌∙◌, length, get_or, arith}
use Rattle.std.proofs.lemmas.List.{get_or_default}
use Rattle.number_space.specs.Index.{Indexed}
use Rattle.number_space.proofs.Beside.{length_beside, key_beside}
use Rattle.number_space.proofs.by_number.Index.key_at.Goals as goal

pub index-requires : goal.index-requires
index-requires c = omega (arith, c.requires, c.self.invariant, length_beside c.self.inside.numbers.items c.self.inside.keys.items c.self.invariant, ap (λ (i : Indexed). length i.entries) c.self.view_is)

pub returns : goal.returns
returns c = λ d.
    c.index.ensures
    ∙ get_or_default c.self.inside.keys.items c.args.place c.index.result.now d.key (omega (arith, c.requires, c.self.invariant, length_beside c.self.inside.numbers.items c.self.inside.keys.items c.self.invariant, ap (λ (i : Indexed). length i.entries) c.self.view_is))
    ∙ sym (key_beside c.self.inside.numbers.items c.self.inside.keys.items c.args.place d c.self.invariant)
    ∙ ap (λ (i : Indexed). (get_or i.entries c.args.place d).key) c.self.view_is
