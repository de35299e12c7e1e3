use Rattle.std.proofs.Common.{List, [], ℕ, sym, ◌∙◌, subst}
use Rattle.connections.specs.Table.{connection_in, left_for, waiting_or}
use Rattle.outbox.specs.Fronts.{IsFrontOf}
use Rattle.many_core.proofs.Waits.{there_waits, nobody_waits, no_bytes_wait}
use Rattle.many_core.proofs.many.queued_in.Goals as goal

pub returns-then-has_at : goal.returns-then-has_at
returns-then-has_at c =
    let core = c.args.core.now in
    let name = c.args.name in
    subst (λ (l : List ℕ). IsFrontOf c.queued-queue.result.now l) (there_waits (left_for name core.state.table.dropped) (connection_in name core.state.table.present) (sym c.has_at.ensures ∙ c.if-has_at.true)) c.queued-queue.ensures.queue

pub returns-else-has_at : goal.returns-else-has_at
returns-else-has_at c =
    let core = c.args.core.now in
    let name = c.args.name in
    no_bytes_wait (waiting_or [] (connection_in name core.state.table.present)) (nobody_waits (connection_in name core.state.table.present) (sym c.has_at.ensures ∙ c.if-has_at.false))
