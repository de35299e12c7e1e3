use Rattle.std.proofs.Common.{ap, sym, ◌∙◌, subst}
use Rattle.many_core.specs.Core.{ManyCore, Stands}
use Rattle.many_core.proofs.Meeting.{value}
use Rattle.many_core.proofs.Shown.{asked, asked_stands}
use Rattle.many_core.proofs.many.ManyCore.next_dropped.Goals as goal

pub returns-clause-stands : goal.returns-clause-stands
returns-clause-stands c = λ events S.
    let is = ap (value c.self.inside.paths c.self.inside.limits c.self.inside.cores) c.next_dropped.ensures.asked ∙ ap (λ (v : ManyCore). asked v) c.self.view_is in
    subst (λ (v : ManyCore). Stands events v) (sym is) (asked_stands c.args.self.now events S)
