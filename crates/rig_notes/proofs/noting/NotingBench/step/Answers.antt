use Rattle.std.proofs.Common.{◌≡◌, ℕ, ◌≤◌, List, [], ◌∷◌, length, take, sym, subst}
use Rattle.proxy_history.specs.Events.{Event, Took}
use Rattle.hub_io.specs.Events.{event_of}
use Rattle.hub_io.specs.declared.Event.{Event as HubEvent}
use Rattle.proxy_serving.specs.Face.{MayCome}
use Rattle.rig_notes.specs.Notes.{AreNoted}
use Rattle.rig_notes.proofs.Noted.{notes_event, notes_taking, asked_is, taken_is, nothing_taken_by}
use Rattle.rig_notes.proofs.noting.NotingBench.step.Goals as goal

pub returns-in-Took-clause-keeps : goal.returns-in-Took-clause-keeps
returns-in-Took-clause-keeps g c = λ p past kept.
    let old : g.row.B.Denot = c.args.self.now.bench in
    let queue : List ℕ = (g.B.Bench.face old).queue c.in-Took.conn in
    let May : HubEvent → Type 0 = λ event. MayCome (event_of event) (g.B.Bench.face old) in
    let within : c.in-Took.count ≤ length queue = subst May c.in-Took.is c.requires.can.may_come in
    let taken : take c.in-Took.count queue ≡ take c.in-Took.count (p.waiting c.in-Took.conn past) =
    taken_is p past (g.B.Bench.face old) c.in-Took.conn c.in-Took.count (g.met.B.Bench.shows p past old kept.kept).1 (λ absent. g.met.B.Bench.nobody old c.in-Took.conn absent c.requires.can.hung_up) within
    in
    let noted : AreNoted g.R.Reading.reading p (Took c.in-Took.conn c.in-Took.count ∷ past) c.note_taking.new.notes =
    notes_taking g.R.Reading.reading p past kept.noted c.in-Took.conn c.in-Took.count [] (take c.in-Took.count queue) c.note_taking.ensures taken
    in
    let Noted_by : HubEvent → Type 0 = λ event. AreNoted g.R.Reading.reading p (event_of event ∷ past) c.note_taking.new.notes in
    record {
      kept = c.step.ensures.keeps p past kept.kept;
      noted = subst Noted_by (sym c.in-Took.is) noted;
    }

pub returns-clause-keeps : goal.returns-clause-keeps
returns-clause-keeps g c = λ p past kept.
    let event : Event = event_of c.args.event in
    let old : g.row.B.Denot = c.args.self.now.bench in
    let met : g.row.B.Denot = c.step-2.new.self in
    let stepped : g.B.Bench.keeps p (event ∷ past) met = c.step-2.ensures.keeps p past kept.kept in
    record {
      kept = stepped;
      noted =
          notes_event g.R.Reading.reading p past kept.noted event _ [] c.note_met.ensures
          (asked_is p event past (g.B.Bench.face old) (g.B.Bench.face met) c.count_modem_waiting-before.result (g.met.B.Bench.shows p past old kept.kept).1 (g.met.B.Bench.shows p (event ∷ past) met stepped).1
          c.count_modem_waiting-before.ensures) (nothing_taken_by p past c.args.event c.in_default.not-Took);
    }
