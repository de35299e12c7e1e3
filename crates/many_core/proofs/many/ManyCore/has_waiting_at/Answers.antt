use Rattle.std.proofs.Common.{sym, ◌∙◌}
use Rattle.many_core.proofs.Waits.{waits_as}
use Rattle.many_core.proofs.many.ManyCore.has_waiting_at.Goals as goal

pub returns-then-place-present-clause-waits : goal.returns-then-place-present-clause-waits
returns-then-place-present-clause-waits c = λ waits seat at. sym (waits_as c.queued_at.result.now _ (c.queued_at.ensures seat at) c.is_empty.result c.is_empty.ensures) ∙ waits
