use Rattle.std.proofs.Common.{arith}
use Rattle.link_session.proofs.Looking.{Looked-more, Looked-none, Looks-bad, Looks-end, Looks-failed, Looks-message, Looks-quiet}
use Rattle.link_session.proofs.mark.next_mark.Goals as goal

pub loop-found-init : goal.loop-found-init
loop-found-init g c = record { looked = λ heard stands. Looked-none _ _ stands; later = omega arith; later_open = omega arith }

pub returns-in-Message-clause-looks : goal.returns-in-Message-clause-looks
returns-in-Message-clause-looks g c = λ heard stands.
    let looked = c.loop-found.invariant.looked heard stands in Looks-message _ looked c.in-Message.found (c.in-Message.ensures.next looked.now looked.stands)

pub returns-in-Bad-clause-looks : goal.returns-in-Bad-clause-looks
returns-in-Bad-clause-looks g c = λ heard stands.
    let looked = c.loop-found.invariant.looked heard stands in Looks-bad _ looked {new = c.next.new.self} c.in-Bad.place (c.in-Bad.ensures.next looked.now looked.stands)

pub returns-in-Ok-Quiet-clause-looks : goal.returns-in-Ok-Quiet-clause-looks
returns-in-Ok-Quiet-clause-looks g c = λ heard stands.
    let looked = c.loop-found.invariant.looked heard stands in
    let waits = c.in-NeedMore.ensures.next looked.now looked.stands in
    Looks-quiet _ looked waits.0 waits.1 (rw c.in-Ok-Quiet.field-0-is at c.in-Ok-Quiet.ensures.calls)

pub returns-in-Ok-End-clause-looks : goal.returns-in-Ok-End-clause-looks
returns-in-Ok-End-clause-looks g c = λ heard stands.
    let looked = c.loop-found.invariant.looked heard stands in
    let waits = c.in-NeedMore.ensures.next looked.now looked.stands in
    Looks-end _ looked waits.0 waits.1 (rw c.in-Ok-End.field-0-is at c.in-Ok-End.ensures.calls)

pub returns-in-Err-clause-looks : goal.returns-in-Err-clause-looks
returns-in-Err-clause-looks g c = λ heard stands.
    let looked = c.loop-found.invariant.looked heard stands in
    let waits = c.in-NeedMore.ensures.next looked.now looked.stands in
    Looks-failed _ looked waits.0 waits.1 c.in-Err.ensures.calls

pub loop-found-preserved : goal.loop-found-preserved
loop-found-preserved g c = record {
  looked = λ heard stands.
      let looked = c.loop-found.invariant.looked heard stands in
      let waits = c.in-NeedMore.ensures.next looked.now looked.stands in
      Looked-more _ looked waits.0 _ (c.push.ensures.stands looked.now waits.1) (rw c.in-Ok-Bytes.field-0-is at c.in-Ok-Bytes.ensures.calls);
  later = omega arith;
  later_open = omega arith;
}
