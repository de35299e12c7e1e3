use Rattle.std.proofs.Common.{arith, ap, length}
use Rattle.mbim_services.specs.Writing.{subscription_in}
use Rattle.mbim_services.proofs.Runs.{structure-length, first-is}
use Rattle.mbim_services.proofs.lists.structure_length.Goals as goal

pub returns-clause-length : goal.returns-clause-length
returns-clause-length c =
    let first = ap length (first-is c.args.run.now c.index-run-0.result c.requires.some) in
    omega (arith, first, ap length c.as_bytes.ensures, structure-length (subscription_in c.args.run.now), c.cid_count.ensures.count)
