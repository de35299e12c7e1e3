use Rattle.std.proofs.Common.{◌≡◌, drop}
use Rattle.message_tables.specs.Numbers.{spelled_behind}
use Rattle.message_tables.proofs.digits.number_of.Given as goal

abbrev pub invariant-loop-digit : goal.invariant-loop-digit
invariant-loop-digit l = spelled_behind l.base 0 l.digits ≡ spelled_behind l.base l.number (drop l.digit-index l.digits)
