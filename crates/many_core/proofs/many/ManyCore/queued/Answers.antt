use Rattle.std.proofs.Common.{rules, ℕ, ◌++◌, List, [], refl, ap, sym, ◌∙◌, subst}
use Rattle.outbox.specs.Fronts.{IsFrontOf}
use Rattle.many_core.proofs.Waiting.{owed_waiting}
use Rattle.many_core.proofs.many.ManyCore.queued.Goals as goal

pub returns-in-Some-clause-text : goal.returns-in-Some-clause-text
returns-in-Some-clause-text c = λ events S owed. subst (λ (l : List ℕ). IsFrontOf c.queued.result.now l) (sym c.in-Some.ensures.found ∙ owed_waiting c.args.self.now c.core_of.ensures.some events S c.args.conn owed) c.queued.ensures.queue

pub returns-in-None-clause-text : goal.returns-in-None-clause-text
returns-in-None-clause-text c = λ events S owed.
    subst (λ (l : List ℕ). IsFrontOf [] l) (sym (c.in-None.ensures.none (search rules)) ∙ owed_waiting c.args.self.now c.core_of.ensures.some events S c.args.conn owed) (record { rest = []; whole = refl; some = λ none. none })
