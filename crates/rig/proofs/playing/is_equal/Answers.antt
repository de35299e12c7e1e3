use Rattle.std.proofs.Common.{[], sym, subst, inl, inr}
use Rattle.rig_stage.specs.Running.{AreRecorded}
use Rattle.rig_stage.proofs.Stopping.{on_err, also_on_err}
use Rattle.rig_play.specs.Runs.{run_of}
use Rattle.rig_notes.specs.Noting.{Keeps}
use Rattle.rig_notes.specs.declared.noting.Noting.{Noting}
use Rattle.rig.proofs.Running.{if_ok, runs_one}
use Rattle.rig.proofs.playing.is_equal.Goals as goal

pub returns-clause-one : goal.returns-clause-one
returns-clause-one g c =
    if_ok c.run_alone.result
    (λ same. runs_one g.R.Reading.reading g.P.Protocol.proxy g.P.Protocol.kind c.args.trace.now (Keeps g.R.Reading.reading g.B.Bench.keeps) (λ s. g.B.Bench.runs s.bench) c.args.conn (g.B.Bench.runs c.args.noting.now.bench) c.open_core.new.bench c.run_alone.new.bench
    same c.in_ok-open_core.ensures.runs) c.run_alone.ensures.same

pub returns-in_err-open_core-clause-stops : goal.returns-in_err-open_core-clause-stops
returns-in_err-open_core-clause-stops g c =
    also_on_err c.from_residual.result
    (record {
      runs = λ earlier told.
          let Told : Noting g.row.R.Denot g.row.B.Denot → Type 0 = λ noting. AreRecorded (g.B.Bench.runs noting.bench) earlier in
          inl (subst Told (sym c.in_err-open_core.ensures.err) told);
    })

pub returns-clause-stops : goal.returns-clause-stops
returns-clause-stops g c =
    let p = g.P.Protocol in
    on_err c.run_alone.result
    (λ stops. record { runs = λ earlier told. inr (stops.cut_short p.proxy (run_of p.kind []) earlier (c.in_ok-open_core.ensures.runs earlier told)) })
    c.run_alone.ensures.stops
