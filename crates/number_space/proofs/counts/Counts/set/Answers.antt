use Rattle.std.proofs.Common.{◌≡◌, ℕ, List, Some, set, ap, sym, ◌∙◌, subst, arith}
use Rattle.number_space.specs.declared.counts.Count.{Count}
use Rattle.number_space.specs.Counts.{known}
use Rattle.number_space.proofs.Waiting.{set_here, set_others}
use Rattle.number_space.proofs.counts.Counts.set.Goals as goal

pub returns-clause-here : goal.returns-clause-here
returns-clause-here c =
    ap (λ (place : ℕ). known (set c.self.inside.by_place.items place (record { conn = c.args.conn; waits = c.args.waits })) c.args.conn) c.place_of.ensures.value
    ∙ set_here c.self.inside.by_place.items c.args.conn c.args.waits (omega (arith, c.self.invariant, c.self.inside.by_place.ok.0))

pub returns-clause-others : goal.returns-clause-others
returns-clause-others c = λ other n differs e.
    subst (λ (l : List Count). known l other ≡ Some n) c.self.view_is
    (set_others c.self.inside.by_place.items c.args.conn c.args.waits (omega (arith, c.self.invariant, c.self.inside.by_place.ok.0)) other n differs
    (sym (ap (λ (place : ℕ). known (set c.self.inside.by_place.items place (record { conn = c.args.conn; waits = c.args.waits })) other) c.place_of.ensures.value) ∙ e))
