use Rattle.std.proofs.Common.{List, ap, sym, ◌∙◌}
use Rattle.std.specs.Vec.Iter.{into_iter_items}
use Rattle.sim_serving.specs.Core.{Replies}
use Rattle.sim_serving.specs.Hearing.{all_passed}
use Rattle.sim_serving.specs.declared.replies.Late.{Late}
use Rattle.sim_serving.proofs.Owing.{passed-first}
use Rattle.sim_serving.proofs.replies.pass_all.Goals as goal

pub loop-one-preserved : goal.loop-one-preserved
loop-one-preserved c = (
  tt,
  tt,
  ap (λ (r : Replies). all_passed (into_iter_items c.next.new.self) r) c.in_ok-pass.ensures
      ∙ passed-first c.in-Some.one (into_iter_items c.next.new.self) c.loop-one.replies
      ∙ ap (λ (l : List Late). all_passed l c.loop-one.replies) (sym c.in-Some.ensures.steps.0)
      ∙ c.loop-one.invariant.2,
)
