-- Lists whose values are read one after another.
use Rattle.std.proofs.Common.{◌≡◌, ℕ, ◌+◌, ◌<◌, ◌≤◌, List, [], ◌∷◌, ◌++◌, length, drop, get_or, Option, Some, None, Result, Ok, Err, refl, sym, ap, ◌∙◌, append_assoc, append-nil, length-append, add-one}
use Rattle.std.proofs.Math.Seq.{drop-cons}
use Rattle.std.proofs.lemmas.List.{drop_all}
use Rattle.serde_json.specs.Data.{Data}
use Rattle.serde_json.specs.View.{view, items_view}
use Rattle.serde_json.specs.declared.value.Value.{Value}
use Rattle.modem_rules.specs.declared.fault.RuleList.{RuleList}
use Rattle.modem_rules.specs.declared.fault.RulesFault.{RulesFault}
use Rattle.modem_rules.specs.declared.fault.RulesFault.TheVariants.{NoRule}
use Rattle.modem_rules.specs.Lists.{then_rules, with_rule, rules_from}

-- what is left from a place on, of which the first is known
drop_item : {A : Type 0} (xs : List A) (i : ℕ) (x : A) → i < length xs → x ≡ get_or xs i x → drop i xs ≡ x ∷ drop (i + 1) xs
drop_item xs i x within is = rw (add-one i, drop-cons xs i x within, ← is) refl

abbrev pub in_front : {A : Type 0} → List A → Result (List A) RulesFault → Result (List A) RulesFault
in_front front (Ok more) = Ok (front ++ more)
in_front front (Err fault) = Err fault

in_front-one : {A : Type 0} (front : List A) (rule : A) (rest : Result (List A) RulesFault) → in_front front (then_rules rule rest) ≡ in_front (front ++ rule ∷ []) rest
in_front-one front rule (Ok more) = ap (λ list. Ok list) (sym (append_assoc front (rule ∷ []) more))
in_front-one front rule (Err fault) = refl

in_front-none : {A : Type 0} (rules : Result (List A) RulesFault) → rules ≡ in_front [] rules
in_front-none (Ok more) = refl
in_front-none (Err fault) = refl

-- of a list's values those up to a place are these rules
pub record HasRead {A : Type 0} (list : RuleList) (read : Data → Option A) (values : List Value) (i : ℕ) (rules : List A) : Type 0 where
  pub whole : rules_from list read 0 (items_view values) ≡ in_front rules (rules_from list read i (items_view (drop i values)))
  pub count : length rules ≡ i

pub HasRead-begin : {A : Type 0} (list : RuleList) (read : Data → Option A) (values : List Value) → HasRead list read values 0 []
HasRead-begin list read values = record { whole = in_front-none (rules_from list read 0 (items_view values)); count = refl }

module _ {A : Type 0} (list : RuleList) (read : Data → Option A) (values : List Value) (i : ℕ) (rules : List A) (value : Value)
    (within : i < length values) (is : value ≡ get_or values i value) (has : HasRead list read values i rules) where
  behind : Result (List A) RulesFault
  behind = rules_from list read (i + 1) (items_view (drop (i + 1) values))

  next : rules_from list read 0 (items_view values) ≡ in_front rules (with_rule (NoRule list i) (read (view value)) behind)
  unfolding behind
  next = has.whole ∙ ap (λ vs. in_front rules (rules_from list read i (items_view vs))) (drop_item values i value within is)

  -- the value at the place is one rule more
  pub HasRead-part : (rule : A) → read (view value) ≡ Some rule → HasRead list read values (i + 1) (rules ++ rule ∷ [])
  unfolding behind
  HasRead-part rule gives = record {
    whole = next ∙ ap (λ first. in_front rules (with_rule (NoRule list i) first behind)) gives ∙ in_front-one rules rule behind;
    count = length-append rules (rule ∷ []) ∙ ap (λ n. n + 1) has.count;
  }

  -- or none
  pub HasRead-none : read (view value) ≡ None → rules_from list read 0 (items_view values) ≡ Err (NoRule list (length rules))
  HasRead-none gives =
      next ∙ ap (λ first. in_front rules (with_rule (NoRule list i) first behind)) gives
      ∙ ap (λ n. Err (NoRule list n)) (sym has.count)

-- all values have been read
pub HasRead-all : {A : Type 0} (list : RuleList) (read : Data → Option A) (values : List Value) (i : ℕ) (rules : List A) → length values ≤ i → HasRead list read values i rules
    → rules_from list read 0 (items_view values) ≡ Ok rules
HasRead-all list read values i rules all has = has.whole ∙ ap (λ vs. in_front rules (rules_from list read i (items_view vs))) (drop_all i values all) ∙ ap (λ list. Ok list) (append-nil rules)
