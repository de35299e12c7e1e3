use Rattle.std.proofs.Common.{◌≡◌, ℕ, ◌+◌, ◌<◌, Bool, true, false, List, [], ◌∷◌, drop, sym, ◌∙◌, subst}
use Rattle.std.proofs.lemmas.Bool.{false≢true}
use Rattle.std.proofs.lemmas.List.{drop_all}
use Rattle.rig_stage.specs.Ready.{IsReady}
use Rattle.rig_stage.specs.Running.{IsCutShort}
use Rattle.rig_stage.proofs.Stopping.{also_on_err}
use Rattle.rig_trace.specs.declared.Met.{Met}
use Rattle.rig_trace.specs.Alone.{met_alone}
use Rattle.rig_notes.specs.Noting.{Keeps}
use Rattle.rig_notes.specs.declared.noting.Noting.{Noting}
use Rattle.rig_notes.specs.Alone.{is_met}
use Rattle.rig_notes.proofs.Meeting.{HasMet, next_is, nothing_met, goes_to, meets_none, meets_one, unfit, fits_in_the_end, all_met}
use Rattle.rig_notes.proofs.Stopping.{stops_short}
use Rattle.rig_notes.proofs.alone.run_alone.Goals as goal
use Rattle.rig_notes.proofs.alone.run_alone.Goals.{then-is_met+in_ok-meet_own+else-not-branch, else-is_met}

pub loop-met-init : goal.loop-met-init
loop-met-init g c = record {
  ready = c.requires.ready;
  new = λ fresh. c.requires.new;
  met = λ p opened earlier runs. nothing_met g.R.Reading.reading c.args.conn c.args.trace.now p opened earlier c.args.bench.now runs;
}

pub loop-met-preserved : goal.loop-met-preserved
loop-met-preserved g c =
    let reading = g.R.Reading.reading in
    let conn : ℕ = c.args.conn in
    let trace : List Met = c.args.trace.now in
    let place : ℕ = c.loop-met.met-index in
    let met : Met = c.met-item.result in
    let more : List Met = drop (place + 1) trace in
    let next : drop place trace ≡ met ∷ more = next_is trace place met met c.loop-met-test.true c.met-item.is in
    let before = c.loop-met.invariant in
    let Ready : Noting g.row.R.Denot g.row.B.Denot → Type 0 = λ noting. IsReady (g.B.Bench.is_held noting.bench) (g.B.Bench.face noting.bench) in
    let New : Noting g.row.R.Denot g.row.B.Denot → Type 0 = λ noting. (g.B.Bench.face noting.bench).greatest < conn in
    elim c.if-is_met.branch [
      | then-is_met+in_ok-meet_own+else-not-branch w ↦
          record {
            ready = subst Ready (sym w.bench-is) w.in_ok-meet_own.ensures.ready;
            new = λ is. absurd (false≢true (sym w.fresh-is ∙ is));
            met = λ p opened earlier runs.
                let Has : Noting g.row.R.Denot g.row.B.Denot → Bool → Type 0 = λ noting fresh. HasMet (Keeps reading g.B.Bench.keeps) (λ s. g.B.Bench.runs s.bench) reading conn trace more fresh p opened earlier noting in
                subst (λ noting. Has noting c.if-is_met.fresh) (sym w.bench-is)
                (subst (Has w.meet_own.new.bench) (sym w.fresh-is)
                (meets_one reading conn trace p opened earlier met more c.loop-met.fresh c.loop-met.bench w.meet_own.new.bench w.in_ok-meet_own.field-0 (sym c.is_met.ensures ∙ w.if-is_met.true) w.in_ok-meet_own.ensures.same
                (goes_to reading conn trace p opened earlier (drop place trace) met more c.loop-met.fresh c.loop-met.bench next (before.met p opened earlier runs)) w.if-not-branch.false));
          }
      | else-is_met w ↦
          record {
            ready = subst Ready (sym w.bench-is) before.ready;
            new = λ is. subst New (sym w.bench-is) (before.new (sym w.fresh-is ∙ is));
            met = λ p opened earlier runs.
                let Has : Noting g.row.R.Denot g.row.B.Denot → Bool → Type 0 = λ noting fresh. HasMet (Keeps reading g.B.Bench.keeps) (λ s. g.B.Bench.runs s.bench) reading conn trace more fresh p opened earlier noting in
                subst (λ noting. Has noting c.if-is_met.fresh) (sym w.bench-is)
                (subst (Has c.loop-met.bench) (sym w.fresh-is)
                (meets_none reading conn trace p opened earlier met more c.loop-met.fresh c.loop-met.bench (sym c.is_met.ensures ∙ w.if-is_met.false)
                (goes_to reading conn trace p opened earlier (drop place trace) met more c.loop-met.fresh c.loop-met.bench next (before.met p opened earlier runs))));
          }
    ]

pub returns-then-not-branch-clause-same : goal.returns-then-not-branch-clause-same
returns-then-not-branch-clause-same g c =
    let reading = g.R.Reading.reading in
    let trace : List Met = c.args.trace.now in
    let place : ℕ = c.loop-met.met-index in
    let met : Met = c.met-item.result in
    let more : List Met = drop (place + 1) trace in
    let next : drop place trace ≡ met ∷ more = next_is trace place met met c.loop-met-test.true c.met-item.is in
    record {
      told = λ p opened earlier runs.
          sym c.if-not-branch.true
          ∙ unfit reading c.args.conn trace p opened earlier met more c.loop-met.fresh c.loop-met.bench c.meet_own.new.bench c.in_ok-meet_own.field-0 (sym c.is_met.ensures ∙ c.if-is_met.true) c.in_ok-meet_own.ensures.same
          (goes_to reading c.args.conn trace p opened earlier (drop place trace) met more c.loop-met.fresh c.loop-met.bench next (c.loop-met.invariant.met p opened earlier runs)) c.if-not-branch.true;
      runs = λ p opened earlier runs is. absurd (false≢true is);
    }

pub returns-clause-same : goal.returns-clause-same
returns-clause-same g c =
    let reading = g.R.Reading.reading in
    let trace : List Met = c.args.trace.now in
    let none : drop c.loop-met.met-index trace ≡ [] = drop_all c.loop-met.met-index trace c.loop-met-test.false in
    let inner : g.row.B.Denot = c.loop-met.bench.bench in
    record {
      told = λ p opened earlier runs.
          let has = c.loop-met.invariant.met p opened earlier runs in
          c.nothing_waits.ensures
          ∙ fits_in_the_end reading c.args.conn trace c.loop-met.fresh p opened earlier c.loop-met.bench (drop c.loop-met.met-index trace) none has (g.B.Bench.face inner) (g.met.B.Bench.shows p has.own inner has.runs.kept.kept).1
          (λ absent. g.met.B.Bench.nobody inner c.args.conn absent c.loop-met.invariant.ready.asked);
      runs = λ p opened earlier runs is.
          all_met reading c.args.conn trace c.loop-met.fresh p opened earlier c.loop-met.bench (drop c.loop-met.met-index trace) none (c.loop-met.invariant.met p opened earlier runs);
    }

pub returns-in_err-meet_own-clause-stops : goal.returns-in_err-meet_own-clause-stops
returns-in_err-meet_own-clause-stops g c =
    let reading = g.R.Reading.reading in
    let trace : List Met = c.args.trace.now in
    also_on_err c.from_residual.result
    (record {
      cut_short = λ p opened earlier runs.
          let Short : Noting g.row.R.Denot g.row.B.Denot → Type 0 = λ noting. IsCutShort opened earlier (met_alone reading p c.args.conn trace) (g.B.Bench.runs noting.bench) in
          subst Short (sym c.in_err-meet_own.ensures.err)
          (stops_short reading c.args.conn trace (drop c.loop-met.met-index trace) c.loop-met.fresh p opened earlier c.loop-met.bench (c.loop-met.invariant.met p opened earlier runs));
    })
