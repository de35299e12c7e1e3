use Rattle.std.proofs.Common.{◌≤◌, false, [], ◌∷◌, length, take, refl, ap, arith, rules}
use Rattle.kit_io.proofs.Growth.{Grows-none}
use Rattle.link_io.specs.Calls as link
use Rattle.file_io.specs.Calls as file
use Rattle.pump.specs.Reading.{found_end, read_failed, send_failed, turns_spent}
use Rattle.pump.proofs.Sending.{HasSent-more, HasSent-ends, some_taken}
use Rattle.pump.proofs.reading.send_reads.Goals as goal

pub returns-in-Err-clause-calls : goal.returns-in-Err-clause-calls
returns-in-Err-clause-calls g c =
    HasSent-ends c.loop.invariant.sent c.args.turns _ [] (file.ReadFailed ∷ []) (read_failed refl c.loop-test.true refl refl) c.in-Err.ensures.calls (Grows-none _)

pub returns-then-count-eq0-clause-calls : goal.returns-then-count-eq0-clause-calls
returns-then-count-eq0-clause-calls g c =
    HasSent-ends c.loop.invariant.sent c.args.turns _ [] (file.Gave (take c.in-Ok.count c.read.new.buffer) ∷ [])
    (found_end refl c.loop-test.true refl (ap (λ n. file.Gave (take n c.read.new.buffer) ∷ []) c.if-count-eq0.true)) c.in-Ok.ensures.calls (Grows-none _)

pub returns-in-Err-send-clause-calls : goal.returns-in-Err-send-clause-calls
returns-in-Err-send-clause-calls g c =
    let within : c.in-Ok.count ≤ length c.read.new.buffer = search rules in
    let some = some_taken c.read.new.buffer c.in-Ok.count (omega (arith, c.if-count-eq0.false)) within in
    let sent = c.in-Err-send.ensures.calls in
    HasSent-ends c.loop.invariant.sent c.args.turns _ (link.Sent sent.front false ∷ []) (file.Gave (take c.in-Ok.count c.read.new.buffer) ∷ [])
    (send_failed _ sent.front sent.rest refl c.loop-test.true some sent.whole refl refl) c.in-Ok.ensures.calls sent.grows

pub loop-preserved : goal.loop-preserved
loop-preserved g c =
    let within : c.in-Ok.count ≤ length c.read.new.buffer = search rules in
    let some = some_taken c.read.new.buffer c.in-Ok.count (omega (arith, c.if-count-eq0.false)) within in
    record {
      sent = HasSent-more c.loop.invariant.sent (take c.in-Ok.count c.read.new.buffer) some c.in-Ok.ensures.calls c.in_default.ensures.calls;
      room = search rules;
      within = omega (arith, c.loop-test.true);
      later = search rules;
      later_read = search rules;
    }

pub returns-clause-calls : goal.returns-clause-calls
returns-clause-calls g c =
    HasSent-ends c.loop.invariant.sent c.args.turns _ [] [] (turns_spent refl (omega (arith, c.loop.invariant.within, c.loop-test.false)) refl refl) (Grows-none _) (Grows-none _)
