use Rattle.std.proofs.Common.{◌≤◌, [], length, take, refl, ap, arith, rules}
use Rattle.std.proofs.lemmas.Result.{err_from_is_err_and}
use Rattle.file_io.specs.Calls.{Gave, ReadFailed}
use Rattle.file_io.proofs.Pieces.{HasRead-more, GrowsByReads-last, length-read}
use Rattle.file_io.proofs.reading.read_to_end.Goals as goal

pub returns-in_err-count-clause-calls : goal.returns-in_err-count-clause-calls
returns-in_err-count-clause-calls g c =
    let i = c.loop-bytes.invariant in
    let p = err_from_is_err_and c.from_residual.result c.from_residual.ensures.1 in
    rw (p.1, p.2) (GrowsByReads-last i.read ReadFailed _ i.short refl c.in_err-count.ensures.calls)

pub returns-then-count-eq0-clause-calls : goal.returns-then-count-eq0-clause-calls
returns-then-count-eq0-clause-calls g c =
    let i = c.loop-bytes.invariant in
    GrowsByReads-last i.read (Gave _) _ i.short (ap (λ n. Gave (take n c.read.new.buffer)) c.if-count-eq0.true, refl) c.in_ok-count.ensures.calls

pub returns-then-count-as_slice-clause-calls : goal.returns-then-count-as_slice-clause-calls
returns-then-count-as_slice-clause-calls g c =
    let i = c.loop-bytes.invariant in
    let whole = length-read c.loop-bytes.bytes c.read.new.buffer c.in_ok-count.count (search rules) in
    GrowsByReads-last i.read (Gave _) _ i.short (_, refl, omega (arith, whole, c.if-count-as_slice.true, ap length c.as_slice.ensures)) c.in_ok-count.ensures.calls

pub loop-bytes-preserved : goal.loop-bytes-preserved
loop-bytes-preserved g c =
    let i = c.loop-bytes.invariant in
    let within : c.in_ok-count.count ≤ length c.read.new.buffer = search rules in
    let piece = length-read [] c.read.new.buffer c.in_ok-count.count within in
    let whole = length-read c.loop-bytes.bytes c.read.new.buffer c.in_ok-count.count within in
    let same = c.in_ok-extend_from_slice.ensures.ok in
    record {
      read = rw same (HasRead-more i.read _ (omega (arith, piece, c.if-count-eq0.false)) c.in_ok-count.ensures.calls);
      short = rw same (omega (arith, whole, i.short, c.if-count-as_slice.false, ap length c.as_slice.ensures));
      later_read = search rules;
      later_write = search rules;
    }

pub returns-in_err-extend_from_slice-clause-calls : goal.returns-in_err-extend_from_slice-clause-calls
returns-in_err-extend_from_slice-clause-calls g c =
    let i = c.loop-bytes.invariant in
    let within : c.in_ok-count.count ≤ length c.read.new.buffer = search rules in
    let piece = length-read [] c.read.new.buffer c.in_ok-count.count within in
    let whole = length-read c.loop-bytes.bytes c.read.new.buffer c.in_ok-count.count within in
    let p = err_from_is_err_and c.from_residual-in_err-extend_from_slice.result c.from_residual-in_err-extend_from_slice.ensures.1 in
    rw (p.1, p.2)
    (GrowsByReads-last i.read (Gave _) _ i.short
    (_, refl, omega (arith, piece, c.if-count-eq0.false), omega (arith, whole, i.short, c.if-count-as_slice.false, ap length c.as_slice.ensures)) c.in_ok-count.ensures.calls)
