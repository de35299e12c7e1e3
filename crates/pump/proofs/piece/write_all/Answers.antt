use Rattle.std.proofs.Common.{◌≡◌, rules, arith, length}
use Rattle.std.proofs.lemmas.Grind.{common_steps}
use Rattle.pump.proofs.Passing.{HasWritten-more, HasWritten-all, HasWritten-fails, no_bytes}
use Rattle.pump.proofs.piece.write_all.Goals as goal

pub loop-rest-preserved : goal.loop-rest-preserved
loop-rest-preserved g c = record {
  written = HasWritten-more c.loop-rest.invariant.written c.in-Ok.count (search rules) c.in-Ok.ensures.within c.in-Ok.ensures.calls;
  later = search rules;
}

pub returns-in-Err-clause-calls : goal.returns-in-Err-clause-calls
returns-in-Err-clause-calls g c = HasWritten-fails c.loop-rest.invariant.written _ (search rules) c.in-Err.ensures.calls

pub returns-clause-calls : goal.returns-clause-calls
returns-clause-calls g c =
    let none : length c.loop-rest.rest.now ≡ 0 = grind (arith, common_steps) in
    HasWritten-all c.loop-rest.invariant.written _ (no_bytes c.loop-rest.rest.now none)
