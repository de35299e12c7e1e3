use Rattle.std.proofs.Common.{List, length, map, ap, sym, ◌∙◌, subst, refl}
use Rattle.std.proofs.lemmas.List.{length-map}
use Rattle.proxy_history.specs.Events.{Now}
use Rattle.qmi_state.specs.Core.{QmiCore}
use Rattle.many_cores.specs.Cores.{met, HasNoFewer}
use Rattle.many_core.specs.Core.{ManyCore, MovesNobody, with_cores}
use Rattle.many_history.specs.Events as history
use Rattle.many_core.proofs.Greatest.{greatest_of, stays_greatest, all_names_kept}
use Rattle.many_core.proofs.Meeting.{value, seating_of, tick_is, ticks_move_nobody}
use Rattle.many_core.proofs.many.ManyCore.tick.Goals as goal

pub invariant_of-self : goal.invariant_of-self
invariant_of-self c =
    let cores : List QmiCore = c.self.inside.cores in
    let its = Now c.args.time in
    record {
      some = c.self.invariant.some;
      count = ap (λ (l : List QmiCore). length l) c.tick.ensures.met ∙ length-map cores (met its) ∙ c.self.invariant.count;
      names = c.self.invariant.names ∙ sym (ap (λ (l : List QmiCore). map greatest_of l) c.tick.ensures.met ∙ all_names_kept greatest_of (met its) (stays_greatest its refl) cores);
      places = c.self.invariant.places;
    }

pub returns-clause-met : goal.returns-clause-met
returns-clause-met c =
    ap (λ (l : List QmiCore). value c.self.inside.paths c.self.inside.limits l c.self.inside.seats) c.tick.ensures.met
    ∙ ap (λ (v : ManyCore). with_cores (map (met (Now c.args.time)) v.core.cores) v) c.self.view_is
    ∙ tick_is c.args.self.now c.args.time c.requires

pub returns-clause-moved : goal.returns-clause-moved
returns-clause-moved c = λ none.
    subst (λ (v : ManyCore). MovesNobody (history.Now c.args.time) v) c.self.view_is (ticks_move_nobody c.self.inside.paths c.self.inside.limits c.self.inside.cores c.self.inside.seats c.args.time (c.tick.ensures.fewer none))
