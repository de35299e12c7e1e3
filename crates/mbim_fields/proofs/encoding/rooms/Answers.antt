use Rattle.std.proofs.Common.{map, length, ◌+◌, ◌^◌, ◌<◌, ◌≤◌, refl, arith}
use Rattle.mbim_fields.specs.View.{layout_of, field_view}
use Rattle.mbim_fields.proofs.Writings.{RoomSoFar-next, RoomSoFar-past, RoomSoFar-over}
use Rattle.mbim_fields.proofs.encoding.rooms.Goals as goal

pub loop-index-preserved : goal.loop-index-preserved
loop-index-preserved c =
    let in_values : c.loop-index.index < length c.args.values.now = omega (arith, c.loop-index-test.true, c.requires) in
    let more = rw c.in_ok-room.ensures.some at c.in_ok-bytes.ensures.1 in
    RoomSoFar-next (layout_of (map field_view c.args.fields.now)) c.args.fields.now c.args.values.now c.loop-index.index _ c.loop-index.bytes c.in_ok-bytes.bytes c.loop-index-test.true in_values c.loop-index.invariant more

pub returns-in_err-room-clause-none : goal.returns-in_err-room-clause-none
returns-in_err-room-clause-none c = λ _.
    let in_values : c.loop-index.index < length c.args.values.now = omega (arith, c.loop-index-test.true, c.requires) in
    RoomSoFar-over (layout_of (map field_view c.args.fields.now)) c.args.fields.now c.args.values.now c.loop-index.index _ c.loop-index.bytes (2 ^ 64) c.loop-index-test.true in_values c.loop-index.invariant (c.in_err-room.ensures.none refl)

pub returns-in_err-bytes-clause-none : goal.returns-in_err-bytes-clause-none
returns-in_err-bytes-clause-none c = λ _.
    let in_values : c.loop-index.index < length c.args.values.now = omega (arith, c.loop-index-test.true, c.requires) in
    let past : 2 ^ 64 ≤ c.loop-index.bytes + c.in_ok-room.field-0 = omega (arith, c.in_err-bytes.ensures) in
    RoomSoFar-past (layout_of (map field_view c.args.fields.now)) c.args.fields.now c.args.values.now c.loop-index.index _ c.loop-index.bytes c.in_ok-room.field-0 (2 ^ 64) c.loop-index-test.true in_values c.loop-index.invariant c.in_ok-room.ensures.some past
