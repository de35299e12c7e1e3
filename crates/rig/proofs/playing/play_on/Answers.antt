use Rattle.std.proofs.Common.{◌≡◌, false, List, [], ◌∷◌, sym, ◌∙◌, subst}
use Rattle.proxy_history.specs.Events.{Event}
use Rattle.rig_stage.specs.Running.{AreRecorded}
use Rattle.rig_stage.proofs.Stopping.{also_on_err}
use Rattle.rig_play.specs.Runs.{run_of}
use Rattle.rig.specs.Playing.{AddsRuns}
use Rattle.rig.proofs.Running.{has_earlier, plays_rig}
use Rattle.rig.proofs.Stopping.{first_stops, first_runs, later_stop}
use Rattle.rig.proofs.playing.play_on.Goals as goal

pub returns-clause-plays : goal.returns-clause-plays
returns-clause-plays g c =
    let events : List Event = g.P.Protocol.events c.args.clients c.args.turns c.args.number in
    let some = has_earlier (g.B.Bench.runs c.args.noting.now.bench) in
    let kept = (c.in_ok-run_clients.ensures.runs some.earlier some.are_told).kept in
    let went_well : c.run_clients.new.bench.notes.failed ≡ false = sym c.has_failed.ensures ∙ c.if-has_failed.false in
    plays_rig g.R.Reading.reading g.P.Protocol.proxy g.P.Protocol.kind c.args.clients events c.deref.result.now (g.B.Bench.runs c.args.noting.now.bench) (g.B.Bench.runs c.take_trace-trace.new.self.bench) (g.B.Bench.runs c.count_equal.new.noting.bench)
    c.counts-counts.result c.in_ok-equal.equal
    (λ earlier are_told.
    subst (λ (b : g.row.B.Denot). AreRecorded (g.B.Bench.runs b) (run_of g.P.Protocol.kind events ∷ earlier)) (sym c.take_trace-trace.ensures.bench) (c.in_ok-run_clients.ensures.runs earlier are_told).told)
    (c.deref.ensures.value ∙ c.take_trace-trace.ensures.noted g.P.Protocol.proxy events kept went_well)
    (c.counts-counts.ensures.noted g.P.Protocol.proxy events kept went_well)
    c.in_ok-equal.ensures.each

pub returns-in_err-run_clients-clause-stops : goal.returns-in_err-run_clients-clause-stops
returns-in_err-run_clients-clause-stops g c =
    let p = g.P.Protocol in
    also_on_err c.from_residual.result
    (first_stops g.R.Reading.reading p.proxy p.kind c.args.clients (p.events c.args.clients c.args.turns c.args.number) (g.B.Bench.runs c.args.noting.now.bench) (g.B.Bench.runs c.run_clients.new.bench.bench) c.in_err-run_clients.ensures.stops)

pub returns-then-has_failed-clause-stops : goal.returns-then-has_failed-clause-stops
returns-then-has_failed-clause-stops g c =
    let p = g.P.Protocol in
    first_runs g.R.Reading.reading p.proxy p.kind c.args.clients (p.events c.args.clients c.args.turns c.args.number) (g.B.Bench.runs c.args.noting.now.bench) (g.B.Bench.runs c.run_clients.new.bench.bench)
    (λ earlier told. (c.in_ok-run_clients.ensures.runs earlier told).told)

pub returns-in_err-equal-clause-stops : goal.returns-in_err-equal-clause-stops
returns-in_err-equal-clause-stops g c =
    let p = g.P.Protocol in
    let events : List Event = p.events c.args.clients c.args.turns c.args.number in
    let ran : AddsRuns (g.B.Bench.runs c.args.noting.now.bench) (run_of p.kind events ∷ []) (g.B.Bench.runs c.take_trace-trace.new.self.bench) =
    λ earlier told.
    let Told : g.row.B.Denot → Type 0 = λ bench. AreRecorded (g.B.Bench.runs bench) (run_of p.kind events ∷ earlier) in
    subst Told (sym c.take_trace-trace.ensures.bench) (c.in_ok-run_clients.ensures.runs earlier told).told
    in
    also_on_err c.from_residual-in_err-equal.result
    (later_stop g.R.Reading.reading p.proxy p.kind c.args.clients events c.deref.result.now (g.B.Bench.runs c.args.noting.now.bench) (g.B.Bench.runs c.take_trace-trace.new.self.bench) (g.B.Bench.runs c.count_equal.new.noting.bench) ran
    (λ earlier told. c.deref.ensures.value ∙ c.take_trace-trace.ensures.noted p.proxy events (c.in_ok-run_clients.ensures.runs earlier told).kept (sym c.has_failed.ensures ∙ c.if-has_failed.false))
    c.in_err-equal.ensures.stops)
