-- Rules in JSON: an object with lists of rules. Members of other names count for nothing, and of two of one name the last counts.
use Rattle.std.specs.Prelude.{ℕ, List, Option, Some, None, Result, Ok, Err, if◌then◌else◌}
use Rattle.std.specs.Str.{is_utf8}
use Rattle.serde_json.specs.Data.{Data, Members}
use Rattle.serde_json.specs.Find.{as_object}
use Rattle.serde_json.specs.Read.{read}
use Rattle.kit_bytes.specs.declared.Kind.{Kind}
use Rattle.modem_rules.specs.declared.fault.RuleList.TheVariants.{Answers, Faults, Indications}
use Rattle.modem_rules.specs.declared.fault.RulesFault.{RulesFault}
use Rattle.modem_rules.specs.declared.fault.RulesFault.TheVariants.{Json}
use Rattle.modem_rules.specs.Lists.{list_in}
use Rattle.modem_rules.specs.Rules.{Rules}
use Rattle.modem_rules.specs.Values.{answer_rule, fault_rule, indication_rule}

-- one list after another, up to the first fault
infixl 10 ◌>>=◌
abbrev pub ◌>>=◌ : {A B : Type 0} → Result A RulesFault → (A → Result B RulesFault) → Result B RulesFault
Ok a >>= next = next a
Err fault >>= next = Err fault

-- the rules that an object gives a modem of this kind
unfoldable pub rules_of : Kind → Data → Result Rules RulesFault
rules_of kind members = do
  answers ← list_in Answers (answer_rule kind) members
  faults ← list_in Faults (fault_rule kind) members
  indications ← list_in Indications (indication_rule kind) members
  Ok (record { answers = answers; faults = faults; indications = indications })

-- the JSON value that a text is, where it is one
unfoldable pub value_of : List ℕ → Option Data
value_of text = if is_utf8 text then read text else None

abbrev pub rules_at : Kind → Data → Option Members → Result Rules RulesFault
rules_at kind value None = Err Json
rules_at kind value (Some inside) = rules_of kind value

abbrev pub rules_read : Kind → Option Data → Result Rules RulesFault
rules_read kind None = Err Json
rules_read kind (Some value) = rules_at kind value (as_object value)

-- the rules of a text, or that it is no object, or the first member or value that is none
unfoldable pub rules_in : Kind → List ℕ → Result Rules RulesFault
rules_in kind text = rules_read kind (value_of text)
