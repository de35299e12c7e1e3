-- The lists of rules of a JSON object, each of which may be missing.
use Rattle.std.specs.Prelude.{ℕ, ◌+◌, List, [], ◌∷◌, Option, Some, None, Result, Ok, Err, codes}
use Rattle.serde_json.specs.Data.{Data, Items, no_items, item}
use Rattle.serde_json.specs.Find.{get, as_array}
use Rattle.serde_json.specs.View.{items_view}
use Rattle.serde_json.specs.declared.value.Value.{Value}
use Rattle.modem_rules.specs.declared.fault.RuleList.{RuleList}
use Rattle.modem_rules.specs.declared.fault.RuleList.TheVariants as list
use Rattle.modem_rules.specs.declared.fault.RulesFault.{RulesFault}
use Rattle.modem_rules.specs.declared.fault.RulesFault.TheVariants.{NoList, NoRule}

-- the name of a list's member in JSON
unfoldable pub list_text : RuleList → List ℕ
list_text list.Answers = codes "answers"
list_text list.Faults = codes "faults"
list_text list.Indications = codes "indications"

-- a rule, and those behind it
abbrev pub then_rules : {A : Type 0} → A → Result (List A) RulesFault → Result (List A) RulesFault
then_rules rule (Ok rules) = Ok (rule ∷ rules)
then_rules rule (Err fault) = Err fault

abbrev pub with_rule : {A : Type 0} → RulesFault → Option A → Result (List A) RulesFault → Result (List A) RulesFault
with_rule fault None rules = Err fault
with_rule fault (Some rule) rules = then_rules rule rules

-- the rules that the values from a place on are, or the place of the first that is none
abbrev pub rules_from : {A : Type 0} → RuleList → (Data → Option A) → (place : ℕ) → Items → Result (List A) RulesFault
rules_from list read place no_items = Ok []
rules_from list read place (item value values) = with_rule (NoRule list place) (read value) (rules_from list read (place + 1) values)

-- places are counted from 0
abbrev pub rules_in_list : {A : Type 0} → RuleList → (Data → Option A) → List Value → Result (List A) RulesFault
rules_in_list list read values = rules_from list read 0 (items_view values)

abbrev pub rules_of_array : {A : Type 0} → RuleList → (Data → Option A) → Option Items → Result (List A) RulesFault
rules_of_array list read None = Err (NoList list)
rules_of_array list read (Some values) = rules_from list read 0 values

abbrev pub rules_of_member : {A : Type 0} → RuleList → (Data → Option A) → Option Data → Result (List A) RulesFault
rules_of_member list read None = Ok []
rules_of_member list read (Some value) = rules_of_array list read (as_array value)

unfoldable pub list_in : {A : Type 0} → RuleList → (Data → Option A) → Data → Result (List A) RulesFault
list_in list read members = rules_of_member list read (get (list_text list) members)
