use Rattle.std.proofs.Common.{Ok, Err, refl, ap, arith, rules}
use Rattle.std.proofs.lemmas.Result.{err_from_is_err_and}
use Rattle.pump.proofs.Following.{HasCut-none, HasCut-more, HasCut-fails, HasCut-last, HasCut-stands, end_within, bad_writes, bad_stands, writes_framed, OnOk-any}
use Rattle.pump.proofs.piece.write_piece.Goals as goal

pub returns-then-not-stream-clause-writes : goal.returns-then-not-stream-clause-writes
returns-then-not-stream-clause-writes g c = λ before stands. bad_writes c.args.stream.now c.if-not-stream.true before c.args.piece.now stands c.write_all.ensures.calls

pub returns-then-not-stream-clause-stands : goal.returns-then-not-stream-clause-stands
returns-then-not-stream-clause-stands g c =
    OnOk-any c.write_all.result (λ before stands. bad_stands c.args.stream.now c.if-not-stream.true before c.args.piece.now stands)

pub loop-count-init : goal.loop-count-init
loop-count-init g c = record {
  cut = HasCut-none c.args.stream.now _ c.args.piece.now _ c.if-not-stream.false (c.requires.ready c.if-not-stream.false) refl refl (ap (λ reading. reading.rest) c.push.ensures.pushed);
  later = omega arith;
}

pub overflow_add-at : goal.overflow_add-at
overflow_add-at g c = let within = end_within c.loop-count.invariant.cut c.in-Some.ensures in omega (arith, within, c.requires.short)

pub slice_bounds-write_all-end : goal.slice_bounds-write_all-end
slice_bounds-write_all-end g c = end_within c.loop-count.invariant.cut c.in-Some.ensures

pub returns-in_err-write_all-clause-writes : goal.returns-in_err-write_all-clause-writes
returns-in_err-write_all-clause-writes g c = λ before stands.
    let p = err_from_is_err_and c.from_residual.result c.from_residual.ensures.1 in
    rw p.1 (writes_framed c.args.piece.now (Err p.0) stands c.if-not-stream.false (HasCut-fails c.loop-count.invariant.cut c.in-Some.ensures _ c.in_err-write_all.ensures.calls))

pub overflow_add-at-in-Some : goal.overflow_add-at-in-Some
overflow_add-at-in-Some g c = let within = end_within c.loop-count.invariant.cut c.in-Some.ensures in omega (arith, within, c.requires.short)

pub loop-count-preserved : goal.loop-count-preserved
loop-count-preserved g c = record { cut = HasCut-more c.loop-count.invariant.cut c.in-Some.ensures c.in_ok-write_all.ensures.calls; later = search rules }

pub returns-in_err-write_all-2-clause-writes : goal.returns-in_err-write_all-2-clause-writes
returns-in_err-write_all-2-clause-writes g c = λ before stands.
    let p = err_from_is_err_and c.from_residual-in_err-write_all-2.result c.from_residual-in_err-write_all-2.ensures.1 in
    rw p.1 (writes_framed c.args.piece.now (Err p.0) stands c.if-not-stream.false (HasCut-last c.loop-count.invariant.cut c.in_default.ensures (Err p.0) c.in_err-write_all-2.ensures.calls))

pub returns-clause-writes : goal.returns-clause-writes
returns-clause-writes g c = λ before stands. writes_framed c.args.piece.now (Ok tt) stands c.if-not-stream.false (HasCut-last c.loop-count.invariant.cut c.in_default.ensures (Ok tt) c.in_ok-write_all-2.ensures.calls)

pub returns-clause-stands : goal.returns-clause-stands
returns-clause-stands g c = λ before stands. HasCut-stands c.loop-count.invariant.cut c.in_default.ensures _ before refl refl (stands.framed c.if-not-stream.false)
