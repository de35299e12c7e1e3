use Rattle.std.proofs.Common.{◌≡◌, [], length, slice_index, ap, ◌∙◌, rules}
use Rattle.std.proofs.lemmas.List.{length-replicate, get_or-replicate}
use Rattle.rig_runs.specs.Rig as rig
use Rattle.rig_runs.specs.Stage as defined
use Rattle.rig_stage.proofs.Stopping.{also_on_err, none_more, short_of_more}
use Rattle.rig_play.specs.Play.{cast_of, script_of}
use Rattle.rig_play.proofs.Beginning.{begins_with, begins_empty}
use Rattle.rig_play.proofs.Halting.{none_to_ready, joined_to_ready}
use Rattle.rig_play.proofs.players.Players.open.Given.{Over}
use Rattle.rig_play.proofs.players.Players.open.Goals as goal

pub returns-clause-numbers : goal.returns-clause-numbers
returns-clause-numbers g c = ap length c.in_ok-numbers.ensures ∙ length-replicate c.args.clients c.FIRST_NUMBER.result

pub returns-clause-plays : goal.returns-clause-plays
returns-clause-plays g c = λ opened earlier runs.
    let p = g.P.Protocol in
    let size = g.P.Modem.Framing.Framing.size in
    let cast : defined.Cast = cast_of p.proxy p.answers size c.args.clients in
    let numbered = g.met.P.Protocol.numbered in
    let number : c.FIRST_NUMBER.result ≡ p.FIRST_NUMBER = search rules in
    record {
      stands = c.in_ok-open_all.ensures.acts.plays cast opened earlier _ (c.in_ok-join_all.ensures.acts.plays cast opened earlier defined.empty
          (begins_empty size p.proxy p.answers c.args.clients _ c.new-stage.result c.args.bench.now opened earlier c.new-stage.ensures c.in_ok-modem.ensures g.met.P.Protocol.keeps_time g.met.P.Protocol.begins runs));
      numbers = begins_with p.proxy p.answers size c.args.clients p.first p.second p.asks p.FIRST_NUMBER _ numbered.0 numbered.1 (ap length c.in_ok-numbers.ensures ∙ length-replicate c.args.clients c.FIRST_NUMBER.result)
          (λ at within. ap (λ list. slice_index list at) c.in_ok-numbers.ensures ∙ get_or-replicate c.args.clients at c.FIRST_NUMBER.result 0 within ∙ number);
    }

abbrev script : Over → rig.Script
script g = script_of g.P.Protocol.first g.P.Protocol.second g.P.Protocol.asks g.P.Protocol.FIRST_NUMBER

pub returns-in_err-modem-clause-stops : goal.returns-in_err-modem-clause-stops
returns-in_err-modem-clause-stops g c =
    let p = g.P.Protocol in
    let cast : defined.Cast = cast_of p.proxy p.answers g.P.Modem.Framing.Framing.size c.args.clients in
    also_on_err c.from_residual.result (λ opened earlier runs. record { met = []; within = none_to_ready cast (script g); told = runs.told })

pub returns-in_err-join_all-clause-stops : goal.returns-in_err-join_all-clause-stops
returns-in_err-join_all-clause-stops g c =
    let p = g.P.Protocol in
    let size = g.P.Modem.Framing.Framing.size in
    let cast : defined.Cast = cast_of p.proxy p.answers size c.args.clients in
    also_on_err c.from_residual-in_err-join_all.result
    (λ opened earlier runs.
    short_of_more (joined_to_ready cast (script g))
    (c.in_err-join_all.ensures.stops.cut_short cast opened earlier defined.empty
    (begins_empty size p.proxy p.answers c.args.clients _ c.new-stage.result c.args.bench.now opened earlier c.new-stage.ensures c.in_ok-modem.ensures g.met.P.Protocol.keeps_time g.met.P.Protocol.begins runs)))

pub returns-in_err-open_all-clause-stops : goal.returns-in_err-open_all-clause-stops
returns-in_err-open_all-clause-stops g c =
    let p = g.P.Protocol in
    let size = g.P.Modem.Framing.Framing.size in
    let cast : defined.Cast = cast_of p.proxy p.answers size c.args.clients in
    also_on_err c.from_residual-in_err-open_all.result
    (λ opened earlier runs.
    c.in_err-open_all.ensures.stops.cut_short cast opened earlier _
    (c.in_ok-join_all.ensures.acts.plays cast opened earlier defined.empty
    (begins_empty size p.proxy p.answers c.args.clients _ c.new-stage.result c.args.bench.now opened earlier c.new-stage.ensures c.in_ok-modem.ensures g.met.P.Protocol.keeps_time g.met.P.Protocol.begins runs)))

pub returns-in_err-numbers-clause-stops : goal.returns-in_err-numbers-clause-stops
returns-in_err-numbers-clause-stops g c =
    let p = g.P.Protocol in
    let size = g.P.Modem.Framing.Framing.size in
    let cast : defined.Cast = cast_of p.proxy p.answers size c.args.clients in
    also_on_err c.from_residual-in_err-numbers.result
    (λ opened earlier runs. record {
      met = (rig.ready cast (script g)).events;
      within = none_more _;
      told = (c.in_ok-open_all.ensures.acts.plays cast opened earlier _ (c.in_ok-join_all.ensures.acts.plays cast opened earlier defined.empty
          (begins_empty size p.proxy p.answers c.args.clients _ c.new-stage.result c.args.bench.now opened earlier c.new-stage.ensures c.in_ok-modem.ensures g.met.P.Protocol.keeps_time g.met.P.Protocol.begins runs))).runs.told;
    })
