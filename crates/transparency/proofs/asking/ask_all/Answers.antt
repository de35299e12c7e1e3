use Rattle.std.proofs.Common.{◌∙◌}
use Rattle.framing.specs.Cutting.{cut}
use Rattle.rig_stage.proofs.Splitting.{first_is}
use Rattle.transparency.proofs.Hearing.{hearing_begins, hearing_one, hearing_done}
use Rattle.transparency.proofs.asking.ask_all.Goals as goal

pub loop-count-init : goal.loop-count-init
loop-count-init g c = λ modem asked kept. rw (c.new-messages.ensures.items) (hearing_begins (cut g.S.Framing.Framing.size c.args.bytes.now).messages c.args.sim.now kept)

pub loop-count-preserved : goal.loop-count-preserved
loop-count-preserved g c = λ modem asked kept.
    rw (c.in_ok-add_messages.ensures)
    (hearing_one c.split_at.result.0.now c.as_slice.result.now (cut g.S.Framing.Framing.size c.split_at.result.1.now).messages (first_is c.in-Some.ensures c.split_at.ensures.front c.split_at.ensures.back) c.in_ok-answer.ensures.keeps
    (λ answering past kept. c.as_slice.ensures ∙ c.in_ok-answer.ensures.answers answering past kept) (c.loop-count.invariant modem asked kept))

pub returns : goal.returns
returns g c = λ modem asked kept. hearing_done c.in_default.ensures (c.loop-count.invariant modem asked kept)
