use Rattle.std.proofs.Common.{◌≡◌, ◌<◌, ℕ, true, false, nat_lt, subst, refl, sym, arith}
use Rattle.std.proofs.lemmas.Bool.Decides.{nat_tests}
use Rattle.std.proofs.lemmas.Bool.{OnTrue_from, OnFalse_from}
use Rattle.number_space.specs.Index.{Indexed, IsBelowAt}
use Rattle.number_space.proofs.Beside.{below_there, not_below, none_below}
use Rattle.number_space.proofs.by_number.Index.is_below_at.Goals as goal

less : (m n : ℕ) → nat_lt m n ≡ true → m < n
less m n test = grind (arith, nat_tests, test)

not_less : (m n : ℕ) → nat_lt m n ≡ false → m < n → ⊥
not_less m n test low = grind (arith, nat_tests, test, low)

pub returns-in-Some-clause-there : goal.returns-in-Some-clause-there
returns-in-Some-clause-there c =
    OnTrue_from (nat_lt c.in-Some.other c.args.number) (IsBelowAt c.args.number c.args.self.now.entries c.args.place)
    (λ below. subst (λ (i : Indexed). IsBelowAt c.args.number i.entries c.args.place) c.self.view_is
    (below_there c.self.inside.numbers.items c.self.inside.keys.items c.args.place c.args.number c.in-Some.other c.self.invariant (c.in-Some.ensures.within refl) c.in-Some.ensures.value (less c.in-Some.other c.args.number below)))

pub returns-in-Some-clause-other : goal.returns-in-Some-clause-other
returns-in-Some-clause-other c =
    OnFalse_from (nat_lt c.in-Some.other c.args.number) (IsBelowAt c.args.number c.args.self.now.entries c.args.place → ⊥)
    (λ above at. not_below c.self.inside.numbers.items c.self.inside.keys.items c.args.place c.args.number c.in-Some.other c.self.invariant (c.in-Some.ensures.within refl) c.in-Some.ensures.value (not_less c.in-Some.other c.args.number above)
    (subst (λ (i : Indexed). IsBelowAt c.args.number i.entries c.args.place) (sym c.self.view_is) at))

pub returns-in-None-clause-other : goal.returns-in-None-clause-other
returns-in-None-clause-other c = λ at.
    none_below c.self.inside.numbers.items c.self.inside.keys.items c.args.place c.args.number c.self.invariant (c.in-None.ensures.behind refl)
    (subst (λ (i : Indexed). IsBelowAt c.args.number i.entries c.args.place) (sym c.self.view_is) at)
