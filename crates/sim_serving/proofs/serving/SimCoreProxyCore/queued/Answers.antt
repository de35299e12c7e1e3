use Rattle.std.proofs.Common.{ℕ, List, [], sym, subst}
use Rattle.std.proofs.lemmas.List.{append-nil}
use Rattle.outbox.specs.Fronts.{IsFrontOf}
use Rattle.sim_serving.proofs.serving.SimCoreProxyCore.queued.Goals as goal

-- all that waits is a front of itself
whole_front : (bytes : List ℕ) → IsFrontOf bytes bytes
whole_front bytes = record { rest = []; whole = sym (append-nil bytes); some = λ none. none }

pub returns : goal.returns
returns g c = subst (IsFrontOf c.queued.result.now) c.queued.ensures (whole_front c.queued.result.now)
