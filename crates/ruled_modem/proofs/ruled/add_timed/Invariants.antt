use Rattle.std.proofs.Common.{◌&&◌}
use Rattle.ruled_modem.specs.Host.{hears}
use Rattle.ruled_modem.specs.Turns.{is_at}
use Rattle.ruled_modem.proofs.Telling.{IsLeft}
use Rattle.ruled_modem.proofs.ruled.add_timed.Given as goal

abbrev pub invariant-loop-rule : goal.invariant-loop-rule
invariant-loop-rule l = IsLeft l.host (λ rule. is_at l.tick rule.when && hears l.host rule.kind) l.rules l.fn.text l.text l.rule-index
