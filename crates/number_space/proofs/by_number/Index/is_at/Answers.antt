use Rattle.std.proofs.Common.{◌==◌, subst, refl, sym, ◌∙◌}
use Rattle.std.proofs.lemmas.Bool.{OnTrue_from, OnFalse_from, eqb-true, eq-eqb, true≢false}
use Rattle.number_space.specs.Index.{Indexed, NumberAt}
use Rattle.number_space.proofs.Beside.{number_there, not_there, none_there}
use Rattle.number_space.proofs.by_number.Index.is_at.Goals as goal

pub returns-in-Some-clause-there : goal.returns-in-Some-clause-there
returns-in-Some-clause-there c =
    OnTrue_from (c.args.number == c.in-Some.other) (NumberAt c.args.number c.args.self.now.entries c.args.place)
    (λ here. subst (λ (i : Indexed). NumberAt c.args.number i.entries c.args.place) c.self.view_is
    (number_there c.self.inside.numbers.items c.self.inside.keys.items c.args.place c.args.number c.in-Some.other c.self.invariant (c.in-Some.ensures.within refl) c.in-Some.ensures.value (eqb-true c.args.number c.in-Some.other here)))

pub returns-in-Some-clause-other : goal.returns-in-Some-clause-other
returns-in-Some-clause-other c =
    OnFalse_from (c.args.number == c.in-Some.other) (NumberAt c.args.number c.args.self.now.entries c.args.place → ⊥)
    (λ differs at. not_there c.self.inside.numbers.items c.self.inside.keys.items c.args.place c.args.number c.in-Some.other c.self.invariant (c.in-Some.ensures.within refl) c.in-Some.ensures.value
    (λ same. true≢false (sym (eq-eqb c.args.number c.in-Some.other same) ∙ differs))
    (subst (λ (i : Indexed). NumberAt c.args.number i.entries c.args.place) (sym c.self.view_is) at))

pub returns-in-None-clause-other : goal.returns-in-None-clause-other
returns-in-None-clause-other c = λ at.
    none_there c.self.inside.numbers.items c.self.inside.keys.items c.args.place c.args.number c.self.invariant (c.in-None.ensures.behind refl)
    (subst (λ (i : Indexed). NumberAt c.args.number i.entries c.args.place) (sym c.self.view_is) at)
