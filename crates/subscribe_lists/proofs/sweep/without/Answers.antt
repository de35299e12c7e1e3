use Rattle.std.proofs.Common.{sym}
use Rattle.mbim_services.proofs.Runs.{agree}
use Rattle.subscribe_lists.proofs.Sweeping.{leaves_behind}
use Rattle.subscribe_lists.proofs.sweep.without.Goals as goal

pub returns-then-stretch-other-2 : goal.returns-then-stretch-other-2
returns-then-stretch-other-2 c =
    let service = sym (agree c.args.stretch.now.uuid c.args.other.now.uuid c.ne.result c.ne.ensures c.if-ne.false) in
    λ buffer is other_is. leaves_behind buffer c.args.stretch.now c.args.other.now c.min.result is other_is service c.if-stretch-other.false c.if-other-stretch.true c.if-stretch-other-2.true c.min.ensures
