-- What a simulated modem does otherwise than by itself.
use Rattle.std.specs.Prelude.{List}
use Rattle.modem_rules.specs.declared.rules.AnswerRule.{AnswerRule}
use Rattle.modem_rules.specs.declared.rules.FaultRule.{FaultRule}
use Rattle.modem_rules.specs.declared.rules.IndicationRule.{IndicationRule}
use Rattle.modem_rules.specs.declared.rules.Rules as declared

-- the lists in the order of the file
pub record Rules : Type 0 where
  pub answers : List AnswerRule
  pub faults : List FaultRule
  pub indications : List IndicationRule

-- what the code's lists stand for, without the memory that they take
abbrev pub rules_view : declared.Rules → Rules
rules_view rules = record { answers = rules.answers.items; faults = rules.faults.items; indications = rules.indications.items }
