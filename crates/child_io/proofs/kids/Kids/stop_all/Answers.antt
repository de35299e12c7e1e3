use Rattle.std.proofs.Common.{◌∙◌, arith}
use Rattle.std.proofs.lemmas.List.{take_more, take_all}
use Rattle.child_io.proofs.Stops.{Tried-more, Tried-all, HasCause-and}
use Rattle.child_io.proofs.kids.Kids.stop_all.Goals as goal

pub loop-child-preserved : goal.loop-child-preserved
loop-child-preserved g c =
    let i = c.loop-child.invariant in
    record {
      tried = rw (c.and-result.ensures, take_more c.as_slice-child-items.result.now c.loop-child.child-index 0 c.loop-child-test.true) (Tried-more i.tried _ c.stop.result c.stop.ensures.calls);
      cause = rw c.and-result.ensures (HasCause-and c.loop-child.result c.stop.result i.cause c.stop.ensures.cause);
    }

pub returns-clause-stops : goal.returns-clause-stops
returns-clause-stops g c =
    let items = c.as_slice-child-items.result.now in
    Tried-all c.loop-child.invariant.tried (take_all c.loop-child.child-index items (omega (arith, c.loop-child-test.false)) ∙ c.as_slice-child-items.ensures.value ∙ c.self.view_is)
