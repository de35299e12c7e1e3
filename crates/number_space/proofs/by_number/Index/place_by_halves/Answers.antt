use Rattle.std.proofs.Common.{subst, sym}
use Rattle.number_space.specs.Index.{Indexed, AreRising, IsPlaceOf}
use Rattle.number_space.proofs.Beside.{rising_beside, place_beside}
use Rattle.number_space.proofs.by_number.Index.place_by_halves.Goals as goal

pub count_below-requires : goal.count_below-requires
count_below-requires c = rising_beside c.self.inside.numbers.items c.self.inside.keys.items c.self.invariant (subst (λ (i : Indexed). AreRising i.entries) (sym c.self.view_is) c.requires)

pub returns : goal.returns
returns c =
    subst (λ (i : Indexed). IsPlaceOf c.args.number i.entries c.count_below.result) c.self.view_is
    (place_beside c.self.inside.numbers.items c.self.inside.keys.items c.count_below.result c.args.number c.self.invariant c.count_below.ensures.within c.count_below.ensures.below)
