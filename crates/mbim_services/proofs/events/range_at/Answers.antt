use Rattle.std.proofs.Common.{◌∙◌, ap₂}
use Rattle.mbim_services.specs.SubscribeLists.{pairs_at}
use Rattle.mbim_services.specs.EventLists.{subscription_at}
use Rattle.mbim_services.proofs.Ranges.{range-is, range-pairs}
use Rattle.mbim_services.proofs.events.range_at.Goals as goal

pub returns-clause-pairs : goal.returns-clause-pairs
returns-clause-pairs c =
    let is = range-is c.args.buffer.now c.u32_at-offset.result c.u32_at-size.result c.in_ok-room.room c.uuid_at.result c.uuid_at.ensures c.if-buffer-offset.false c.in_ok-room.ensures.some.0 c.in_ok-room.ensures.some.1 in
    range-pairs c.args.buffer.now c.u32_at-offset.result c.u32_at-size.result c.in_ok-room.room _ c.if-buffer-offset.false c.in_ok-room.ensures.some.0 c.in_ok-room.ensures.some.1 is
    ∙ ap₂ (pairs_at c.args.buffer.now) c.u32_at-offset.ensures c.u32_at-size.ensures

pub returns-clause-event : goal.returns-clause-event
returns-clause-event c =
    range-is c.args.buffer.now c.u32_at-offset.result c.u32_at-size.result c.in_ok-room.room c.uuid_at.result c.uuid_at.ensures c.if-buffer-offset.false c.in_ok-room.ensures.some.0 c.in_ok-room.ensures.some.1
    ∙ ap₂ (subscription_at c.args.buffer.now) c.u32_at-offset.ensures c.u32_at-size.ensures
