-- Kinds are compared field by field.
use Rattle.std.proofs.Common.{rules, ◌≡◌}
use Rattle.std.proofs.lemmas.Grind.{common_steps}
use Rattle.modem_rules.specs.declared.kind.RequestKind.{RequestKind}
use Rattle.modem_rules.specs.declared.kind.RequestKind.TheVariants.{Message, Command}
use Rattle.modem_rules.specs.contracts.kind.RequestKindPartialEq.TheImpl.{eq-value}
use Rattle.modem_rules.specs.Kinds.{is_same}

-- as a table's keys are
pub same-same : eq-value.it ≡ is_same
same-same = λ i kind other. equal kind other i
  where
    equal : (kind other : RequestKind) → eq-value.it kind other ≡ is_same kind other
    equal (Message service message) (Message other_service other_message) = search (rules, common_steps)
    equal (Message service message) (Command other_service other_command) = search (rules, common_steps)
    equal (Command service command) (Message other_service other_message) = search (rules, common_steps)
    equal (Command service command) (Command other_service other_command) = search (rules, common_steps)
