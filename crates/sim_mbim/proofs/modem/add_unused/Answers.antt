use Rattle.std.proofs.Common.{◌≡◌, ℕ, ◌+◌, ◌-◌, ◌++◌, None, length, replicate, ap, ◌∙◌, arith}
use Rattle.sim_mbim.proofs.Loops.{copies-more}
use Rattle.sim_mbim.proofs.modem.add_unused.Goals as goal

pub loop-preserved : goal.loop-preserved
loop-preserved c = (
  copies-more c.args.entries.now.items c.loop.entries.items c.push.new.self.items None (c.loop.counter - c.len-used.result) (c.loop.counter + 1 - c.len-used.result) c.loop.invariant.0 c.in_ok-push.ensures.items
      (omega (arith, c.loop.auto.counter)),
  omega (arith, c.loop-test.true),
)

pub returns : goal.returns
returns c =
    let room : c.loop.counter - c.len-used.result ≡ 100 - length c.args.entries.now.items = omega (arith, c.len-used.ensures, c.loop.invariant.1, c.loop-test.false, c.loop.auto.counter) in
    c.loop.invariant.0 ∙ ap (λ (n : ℕ). c.args.entries.now.items ++ replicate n None) room
