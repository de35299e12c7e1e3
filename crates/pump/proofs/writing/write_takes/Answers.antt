use Rattle.std.proofs.Common.{◌≡◌, [], ◌∷◌, length, take, refl, arith, rules}
use Rattle.kit_io.proofs.Growth.{Grows-none}
use Rattle.link_io.specs.Calls as link
use Rattle.pump.specs.Writing.{taken, found_end, take_failed, write_failed, turns_spent}
use Rattle.pump.proofs.Sending.{some_taken}
use Rattle.pump.proofs.Passing.{HasPassed-none, HasPassed-quiet, HasPassed-piece, HasPassed-ends}
use Rattle.pump.proofs.writing.write_takes.Goals as goal

pub loop-init : goal.loop-init
loop-init g c = record { passed = HasPassed-none _ _ _ c.requires.new; ready = c.requires.ready; room = refl; within = omega arith; later = omega arith; later_write = omega arith }

pub loop-preserved-in-Ok-Quiet : goal.loop-preserved-in-Ok-Quiet
loop-preserved-in-Ok-Quiet g c = record {
  passed = HasPassed-quiet c.loop.invariant.passed (rw c.in-Ok-Quiet.field-0-is at c.in-Ok-Quiet.ensures.calls);
  ready = c.loop.invariant.ready;
  room = search rules;
  within = omega (arith, c.loop-test.true);
  later = search rules;
  later_write = search rules;
}

pub returns-in-Ok-End-clause-calls : goal.returns-in-Ok-End-clause-calls
returns-in-Ok-End-clause-calls g c =
    HasPassed-ends c.loop.invariant.passed c.args.turns _ (link.WasEnd ∷ []) [] (found_end refl c.loop-test.true refl refl) (rw c.in-Ok-End.field-0-is at c.in-Ok-End.ensures.calls) (Grows-none _)

pub returns-in-Err-clause-calls : goal.returns-in-Err-clause-calls
returns-in-Err-clause-calls g c =
    HasPassed-ends c.loop.invariant.passed c.args.turns _ (link.TakeFailed ∷ []) [] (take_failed refl c.loop-test.true refl refl) c.in-Err.ensures.calls (Grows-none _)

pub write_piece-requires-clause-ready : goal.write_piece-requires-clause-ready
write_piece-requires-clause-ready g c = c.loop.invariant.ready

pub returns-in-Err-write_piece-clause-calls : goal.returns-in-Err-write_piece-clause-calls
returns-in-Err-write_piece-clause-calls g c =
    let room : length c.take.new.buffer ≡ 16384 = search rules in
    let within = rw c.in-Ok-Bytes.field-0-is at c.in-Ok-Bytes.ensures.within in
    let some = some_taken c.take.new.buffer c.in-Ok-Bytes.count within.0 (omega (arith, within.1, room)) in
    let passed = c.loop.invariant.passed in
    let writing = c.in-Err-write_piece.ensures.writes (taken passed.takes) passed.stands in
    HasPassed-ends passed c.args.turns _ (link.Took (take c.in-Ok-Bytes.count c.take.new.buffer) ∷ []) writing.calls
    (write_failed _ refl c.loop-test.true some refl writing.are) (rw c.in-Ok-Bytes.field-0-is at c.in-Ok-Bytes.ensures.calls) writing.grows

pub loop-preserved : goal.loop-preserved
loop-preserved g c =
    let room : length c.take.new.buffer ≡ 16384 = search rules in
    let within = rw c.in-Ok-Bytes.field-0-is at c.in-Ok-Bytes.ensures.within in
    let some = some_taken c.take.new.buffer c.in-Ok-Bytes.count within.0 (omega (arith, within.1, room)) in
    record {
      passed = HasPassed-piece c.loop.invariant.passed (take c.in-Ok-Bytes.count c.take.new.buffer) some (rw c.in-Ok-Bytes.field-0-is at c.in-Ok-Bytes.ensures.calls) c.in_default.ensures.writes c.in_default.ensures.stands;
      ready = c.in_default.ensures.ready;
      room = room;
      within = omega (arith, c.loop-test.true);
      later = search rules;
      later_write = search rules;
    }

pub returns-clause-calls : goal.returns-clause-calls
returns-clause-calls g c =
    HasPassed-ends c.loop.invariant.passed c.args.turns _ [] [] (turns_spent refl (omega (arith, c.loop.invariant.within, c.loop-test.false)) refl refl) (Grows-none _) (Grows-none _)
