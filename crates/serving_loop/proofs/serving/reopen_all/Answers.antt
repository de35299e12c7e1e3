use Rattle.std.proofs.Common.{arith}
use Rattle.serving_loop.proofs.Carrying.{Carries-none, Carries-then}
use Rattle.serving_loop.proofs.Same.{as_before-then}
use Rattle.serving_loop.proofs.Modem.{reopened_all}
use Rattle.serving_loop.proofs.serving.reopen_all.Goals as goal

pub loop-device-preserved : goal.loop-device-preserved
loop-device-preserved g c =
    let i = c.loop-device.invariant in
    let opened = c.reopen.ensures in
    record {
      carried = λ p until turns. Carries-then (i.carried p until turns) (opened.carries p until turns);
      asked = opened.asked;
      same = as_before-then i.same opened.same;
      within = omega arith;
    }

pub returns-clause-carries : goal.returns-clause-carries
returns-clause-carries g c = λ p until turns.
    let i = c.loop-device.invariant in
    Carries-then (i.carried p until turns) (Carries-none _ _ _ (λ calls may. reopened_all may (omega (arith, i.same.devices))))
