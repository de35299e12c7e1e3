use Rattle.message_tables.proofs.Describing.{described_by-more, Describes-fault}
use Rattle.message_tables.proofs.read.describe.Goals as goal

pub returns-in-Err : goal.returns-in-Err
returns-in-Err c =
    let so_far = c.loop-object.invariant.0 in
    rw c.at.ensures
    (Describes-fault c.args.objects.now c.loop-object.object-index c.loop-object.number so_far c.object-item.result c.loop-object-test.true c.object-item.is c.loop-object.invariant.2
    c.read.new.self c.in-Err.fault (c.in-Err.ensures so_far c.loop-object.invariant.1))

pub loop-object-preserved : goal.loop-object-preserved
loop-object-preserved c =
    let so_far = c.loop-object.invariant.0 in
    let goes = c.in_default.ensures so_far c.loop-object.invariant.1 in (
      goes.0,
      goes.2,
      rw c.saturating_add-number.ensures
          (described_by-more c.args.objects.now c.loop-object.object-index c.loop-object.number so_far c.object-item.result c.loop-object-test.true c.object-item.is c.loop-object.invariant.2
          goes.0 goes.1),
    )
