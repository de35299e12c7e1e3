use Rattle.std.proofs.Common.{◌≡◌, ◌<◌, length, sym, ◌∙◌, rules, arith}
use Rattle.std.proofs.lemmas.Bool.Decides.{nat_tests}
use Rattle.many_cores.proofs.Saying.{none_said, one_said}
use Rattle.many_cores.proofs.cores.say.Goals as goal

pub meet-requires : goal.meet-requires
meet-requires c = omega (arith, c.split_at.ensures.front_len, c.min.ensures)

pub loop-rest-preserved : goal.loop-rest-preserved
loop-rest-preserved c =
    let some : 0 < length c.loop-rest.rest.now = grind (arith, nat_tests, c.is_empty.ensures, c.loop-rest-test.true) in
    one_said c.loop-rest.core c.meet.new.core c.args.name c.min.result c.loop-rest.rest.now c.split_at.result.0.now c.split_at.result.1.now some (search rules) c.split_at.ensures.front c.split_at.ensures.back c.meet.ensures.met ∙ c.loop-rest.invariant

pub returns : goal.returns
returns c =
    let none : length c.loop-rest.rest.now ≡ 0 = grind (arith, nat_tests, c.is_empty.ensures, c.loop-rest-test.false) in
    sym (none_said c.loop-rest.core c.args.name c.loop-rest.rest.now none) ∙ c.loop-rest.invariant
