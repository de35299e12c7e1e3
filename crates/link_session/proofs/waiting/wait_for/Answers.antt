use Rattle.std.proofs.Common.{Err, refl, ◌∙◌, arith}
use Rattle.link_session.specs.declared.fault.SessionFault.TheVariants as fault
use Rattle.link_session.proofs.Passing.{Passed-message, Passed-none, Passed-quiet, WaitsFor-answered, WaitsFor-broken, WaitsFor-ends, WaitsFor-flooded, WaitsFor-timed_out}
use Rattle.link_session.proofs.waiting.wait_for.Goals as goal

pub loop-found-init : goal.loop-found-init
loop-found-init g c = record {
  passed = λ heard stands. Passed-none _ _ _ _ c.requires stands;
  judge = refl;
  number = refl;
  few_quiets = omega arith;
  few_messages = omega arith;
  later = omega arith;
  later_open = omega arith;
}

pub returns-in-Answer-clause-waits : goal.returns-in-Answer-clause-waits
returns-in-Answer-clause-waits g c = λ heard stands.
    let i = c.loop-found.invariant in
    let passed = i.passed heard stands in
    let looks = c.in-Message.ensures.looks passed.now passed.stands in
    let hears = rw (c.bytes.ensures, i.judge) at (c.in-Answer.ensures.hears _ passed.knows) in
    WaitsFor-answered _ _ passed looks i.few_quiets i.few_messages hears.0 hears.1

pub returns-in-Broken-clause-waits : goal.returns-in-Broken-clause-waits
returns-in-Broken-clause-waits g c = λ heard stands.
    let i = c.loop-found.invariant in
    let passed = i.passed heard stands in
    let looks = c.in-Message.ensures.looks passed.now passed.stands in
    let hears = rw (c.bytes.ensures, i.judge) at (c.in-Broken.ensures.hears _ passed.knows) in
    WaitsFor-broken _ _ passed looks i.few_quiets i.few_messages _ hears

pub returns-then-messages-eq-MOST_MESSAGES-clause-waits : goal.returns-then-messages-eq-MOST_MESSAGES-clause-waits
returns-then-messages-eq-MOST_MESSAGES-clause-waits g c = λ heard stands.
    let i = c.loop-found.invariant in
    let passed = i.passed heard stands in
    let looks = c.in-Message.ensures.looks passed.now passed.stands in
    let hears = rw (c.bytes.ensures, i.judge) at (c.in-NoAnswer.ensures.hears _ passed.knows) in
    WaitsFor-flooded _ _ passed looks i.few_quiets i.few_messages _ c.if-messages-eq-MOST_MESSAGES.true hears.0

pub loop-found-preserved-else-messages-eq-MOST_MESSAGES : goal.loop-found-preserved-else-messages-eq-MOST_MESSAGES
loop-found-preserved-else-messages-eq-MOST_MESSAGES g c =
    let i = c.loop-found.invariant in
    record {
      passed = λ heard stands.
          let passed = i.passed heard stands in
          let looks = c.in-Message.ensures.looks passed.now passed.stands in
          let hears = rw (c.bytes.ensures, i.judge) at (c.in-NoAnswer.ensures.hears _ passed.knows) in
          Passed-message _ _ passed looks _ refl hears.0 hears.1;
      judge = c.in-NoAnswer.ensures.judge ∙ i.judge;
      number = c.in-NoAnswer.ensures.number ∙ i.number;
      few_quiets = i.few_quiets;
      few_messages = omega (arith, i.few_messages, c.if-messages-eq-MOST_MESSAGES.false);
      later = omega arith;
      later_open = omega arith;
    }

pub returns-then-quiets-patience-clause-waits : goal.returns-then-quiets-patience-clause-waits
returns-then-quiets-patience-clause-waits g c = λ heard stands.
    let i = c.loop-found.invariant in
    let passed = i.passed heard stands in
    let looks = c.in-Quiet.ensures.looks passed.now passed.stands in
    WaitsFor-timed_out _ _ passed looks _ i.few_quiets i.few_messages (c.if-quiets-patience.true ∙ c.patience_of-patience.ensures)

pub loop-found-preserved : goal.loop-found-preserved
loop-found-preserved g c =
    let i = c.loop-found.invariant in
    record {
      passed = λ heard stands.
          let passed = i.passed heard stands in
          let looks = c.in-Quiet.ensures.looks passed.now passed.stands in
          Passed-quiet _ _ passed looks _ refl;
      judge = i.judge;
      number = i.number;
      few_quiets = omega (arith, i.few_quiets, c.if-quiets-patience.false, c.patience_of-patience.ensures);
      few_messages = i.few_messages;
      later = omega arith;
      later_open = omega arith;
    }

pub returns-in-Bad-clause-waits : goal.returns-in-Bad-clause-waits
returns-in-Bad-clause-waits g c = λ heard stands.
    let i = c.loop-found.invariant in
    let passed = i.passed heard stands in
    let looks = c.in-Bad.ensures.looks passed.now passed.stands in
    WaitsFor-ends _ _ passed looks _ (Err (fault.Broken c.in-Bad.place)) i.few_quiets i.few_messages refl tt

pub returns-in-End-clause-waits : goal.returns-in-End-clause-waits
returns-in-End-clause-waits g c = λ heard stands.
    let i = c.loop-found.invariant in
    let passed = i.passed heard stands in
    let looks = c.in-End.ensures.looks passed.now passed.stands in
    WaitsFor-ends _ _ passed looks _ (Err fault.LinkEnd) i.few_quiets i.few_messages refl tt

pub returns-in-Failed-clause-waits : goal.returns-in-Failed-clause-waits
returns-in-Failed-clause-waits g c = λ heard stands.
    let i = c.loop-found.invariant in
    let passed = i.passed heard stands in
    let looks = c.in-Failed.ensures.looks passed.now passed.stands in
    WaitsFor-ends _ _ passed looks _ (Err fault.LinkFault) i.few_quiets i.few_messages refl tt
