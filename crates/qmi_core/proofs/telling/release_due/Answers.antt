use Rattle.std.proofs.Common.{◌∙◌, subst}
use Rattle.connections.specs.Table.{opened}
use Rattle.proxy_core.specs.Meaning.{state_of}
use Rattle.qmi_core.specs.State.{NextReleased}
use Rattle.qmi_core.proofs.Releases.{turn_same, turn_less, turns_end}
use Rattle.qmi_core.proofs.telling.release_due.Goals as goal

pub returns-then-not-release_next : goal.returns-then-not-release_next
returns-then-not-release_next c = λ table.
    let was = state_of table c.loop-after.side in
    let now = state_of table c.release_next.new.side in
    turns_end c.args.after was now (subst (NextReleased c.args.after was now) c.if-not-release_next.true (c.release_next.ensures table)) ∙ c.loop-after.invariant table

pub loop-after-smaller : goal.loop-after-smaller
loop-after-smaller c =
    let was = state_of (opened 0 0) c.loop-after.side in
    let now = state_of (opened 0 0) c.release_next.new.side in
    turn_less c.args.after was now (subst (NextReleased c.args.after was now) c.if-not-release_next.false (c.release_next.ensures (opened 0 0)))

pub loop-after-preserved : goal.loop-after-preserved
loop-after-preserved c = λ table.
    let was = state_of table c.loop-after.side in
    let now = state_of table c.release_next.new.side in
    turn_same c.args.after was now (subst (NextReleased c.args.after was now) c.if-not-release_next.false (c.release_next.ensures table)) ∙ c.loop-after.invariant table
