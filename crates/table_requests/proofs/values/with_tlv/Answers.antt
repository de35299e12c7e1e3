use Rattle.std.proofs.Common.{ℕ, ◌+◌, ◌-◌, ◌<◌, ◌≤◌, List, length, Option, ap, subst, arith}
use Rattle.qmux_frame.specs.declared.writing.TheConstants.{LONGEST_TLVS}
use Rattle.table_requests.specs.Written.{IsWritten}
use Rattle.table_requests.proofs.Written.{written-more, too_long, too_long-still}
use Rattle.table_requests.proofs.values.with_tlv.Goals as goal

pub returns-in_default : goal.returns-in_default
returns-in_default c = λ done one is written. too_long-still done one _ is (subst (λ (w : Option (List ℕ)). IsWritten w done) c.in_default.is written)

pub returns-then-value-saturating_sub : goal.returns-then-value-saturating_sub
returns-then-value-saturating_sub c = λ done one is written.
    let count = ap (λ (l : List ℕ). length l) c.as_slice.ensures in
    let room : LONGEST_TLVS - length c.in-Some.out < length c.args.value.now + 3 = omega (arith, c.if-value-saturating_sub.true, c.saturating_sub.ensures, count) in
    too_long done one _ is c.in-Some.out (subst (λ (w : Option (List ℕ)). IsWritten w done) c.in-Some.is written) room

pub returns : goal.returns
returns c = λ done one is written.
    let count = ap (λ (l : List ℕ). length l) c.as_slice.ensures in
    let room : length c.args.value.now + 3 ≤ LONGEST_TLVS - length c.in-Some.out = omega (arith, c.if-value-saturating_sub.false, c.saturating_sub.ensures, count) in
    written-more done one _ is c.in-Some.out c.write_tlv.new.out (subst (λ (w : Option (List ℕ)). IsWritten w done) c.in-Some.is written) c.in_ok-write_tlv.ensures.ok room
