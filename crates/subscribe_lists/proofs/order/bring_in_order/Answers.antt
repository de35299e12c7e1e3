use Rattle.std.proofs.Common.{ℕ, List, length, arith}
use Rattle.std.proofs.lemmas.Slice.{between_to_end}
use Rattle.mbim_services.specs.SubscribeLists.{numbers_of}
use Rattle.subscribe_lists.proofs.Orders.{offset_there, offset_taken, offsets_taken}
use Rattle.subscribe_lists.proofs.order.bring_in_order.Goals as goal

pub uuid_at-requires : goal.uuid_at-requires
uuid_at-requires c =
    let whole = c.requires.whole c.u32_at-offset.result (offset_there _ c.loop-left.left.now (numbers_of c.args.references.now) c.u32_at-offset.result c.loop-left.invariant c.loop-left-test.true c.u32_at-offset.ensures) in
    omega (arith, whole)

pub loop-left-preserved : goal.loop-left-preserved
loop-left-preserved c =
    let left : List ℕ = c.loop-left.left.now in
    let behind = between_to_end left 8 (length left) (omega arith) in
    let taken = offset_taken c.loop-left.order.items left (numbers_of c.args.references.now) (_, c.u32_at-offset.result) c.loop-left.invariant c.loop-left-test.true c.u32_at-offset.ensures in
    rw (behind, c.push.ensures.items) taken

pub returns : goal.returns
returns c = λ _. offsets_taken c.loop-left.order.items c.sort_unstable.new.self c.loop-left.left.now (numbers_of c.args.references.now) c.loop-left.invariant (omega (arith, c.loop-left-test.false)) (rw (← c.as_mut_slice.ensures.value) c.sort_unstable.ensures.permutation) (rw (← c.as_mut_slice.ensures.value) c.sort_unstable.ensures.len)
