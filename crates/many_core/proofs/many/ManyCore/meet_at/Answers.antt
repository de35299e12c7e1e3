use Rattle.std.proofs.Common.{◌≡◌, ◌<◌, List, length, map, slice_get, ap, sym, ◌∙◌, subst}
use Rattle.hub_io.specs.Events.{event_of}
use Rattle.qmi_state.specs.Core.{QmiCore}
use Rattle.many_cores.specs.Cores.{at_place, met}
use Rattle.many_cores.proofs.Places.{some_at, at_got, at_place_set, at_place_length}
use Rattle.many_core.specs.Core.{ManyCore, with_cores}
use Rattle.many_core.proofs.Greatest.{greatest_of, stays_greatest, names_kept}
use Rattle.many_core.proofs.Inside.{no_fewer}
use Rattle.many_core.proofs.Meeting.{value}
use Rattle.many_core.proofs.many.ManyCore.meet_at.Goals as goal

pub invariant_of-self : goal.invariant_of-self
invariant_of-self c =
    let cores : List QmiCore = c.self.inside.cores in
    let d = c.args.device in
    let its = event_of c.args.event in
    let within : d < length cores = subst (λ (v : ManyCore). d < length v.core.cores) (sym c.self.view_is) c.requires.within in
    let core = some_at cores d within in
    let placed : c.meet.new.self ≡ at_place d (met its) cores = c.meet.ensures.met core.0 core.1 ∙ at_place_set (met its) cores d core.0 within core.1 in
    record {
      some = c.self.invariant.some;
      count = ap (λ (l : List QmiCore). length l) placed ∙ at_place_length (met its) cores d ∙ c.self.invariant.count;
      names = c.self.invariant.names ∙ sym (ap (λ (l : List QmiCore). map greatest_of l) placed ∙ names_kept greatest_of (met its) (stays_greatest its c.requires.joins) cores d);
      places = c.self.invariant.places;
    }

pub returns-clause-met : goal.returns-clause-met
returns-clause-met c =
    let cores : List QmiCore = c.self.inside.cores in
    let d = c.args.device in
    let its = event_of c.args.event in
    let within : d < length cores = subst (λ (v : ManyCore). d < length v.core.cores) (sym c.self.view_is) c.requires.within in
    let core = some_at cores d within in
    ap (λ (l : List QmiCore). value c.self.inside.paths c.self.inside.limits l c.self.inside.seats) (c.meet.ensures.met core.0 core.1 ∙ at_place_set (met its) cores d core.0 within core.1)
    ∙ ap (λ (v : ManyCore). with_cores (at_place d (met its) v.core.cores) v) c.self.view_is

pub returns-clause-fewer : goal.returns-clause-fewer
returns-clause-fewer c = λ none core got.
    let is = at_got c.self.inside.cores c.args.device core (ap (λ (v : ManyCore). slice_get v.core.cores c.args.device) c.self.view_is ∙ got) in
    no_fewer (length core.state.table.present) (length (met (event_of c.args.event) core).state.table.present) c.meet.result (c.meet.ensures.fewer core is) none
