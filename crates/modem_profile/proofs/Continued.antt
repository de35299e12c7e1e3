-- Lists whose values are read one after another.
use Rattle.std.proofs.Common.{◌≡◌, ℕ, ◌+◌, ◌<◌, ◌≤◌, suc, List, [], ◌∷◌, ◌++◌, length, drop, get_or, Option, Some, None, option_map, option_and_then, refl, sym, ap, ◌∙◌, append_assoc, append-nil, add-one}
use Rattle.std.proofs.Math.Seq.{drop-cons}
use Rattle.std.proofs.lemmas.List.{drop_all}
use Rattle.serde_json.specs.Data.{Data, Items}
use Rattle.serde_json.specs.View.{view, items_view}
use Rattle.serde_json.specs.declared.value.Value.{Value}
use Rattle.modem_profile.specs.Values.{each, few_values, items_length, short_list}

-- what is left from a place on, of which the first is known
drop_item : {A : Type 0} (xs : List A) (i : ℕ) (x : A) → i < length xs → x ≡ get_or xs i x → drop i xs ≡ x ∷ drop (i + 1) xs
drop_item xs i x within is = rw (add-one i, drop-cons xs i x within, ← is) refl

behind : {A : Type 0} → List A → Option (List A) → Option (List A)
behind front rest = option_map (λ more. front ++ more) rest

behind-one : {A : Type 0} (front : List A) (part : A) (rest : Option (List A)) → behind front (option_map (λ more. part ∷ more) rest) ≡ behind (front ++ part ∷ []) rest
unfolding behind
behind-one front part None = refl
behind-one front part (Some more) = ap (λ list. Some list) (sym (append_assoc front (part ∷ []) more))

-- what is read of a list's values, of which those up to a place gave these parts
abbrev pub HasRead : {A : Type 0} → (Data → Option A) → List Value → ℕ → List A → Type 0
HasRead read values i parts = each read (items_view values) ≡ option_map (λ more. parts ++ more) (each read (items_view (drop i values)))

module _ {A : Type 0} (read : Data → Option A) (values : List Value) (i : ℕ) (parts : List A) (value : Value)
    (within : i < length values) (is : value ≡ get_or values i value) (has : HasRead read values i parts) where
  next : each read (items_view values) ≡ option_map (λ more. parts ++ more) (option_and_then (λ first. option_map (λ more. first ∷ more) (each read (items_view (drop (i + 1) values)))) (read (view value)))
  next = has ∙ ap (λ vs. option_map (λ more. parts ++ more) (each read (items_view vs))) (drop_item values i value within is)

  -- the value at the place gives one part more
  pub HasRead-part : (part : A) → read (view value) ≡ Some part → HasRead read values (i + 1) (parts ++ part ∷ [])
  unfolding behind
  HasRead-part part gives =
      next ∙ ap (λ first. option_map (λ more. parts ++ more) (option_and_then (λ first. option_map (λ more. first ∷ more) (each read (items_view (drop (i + 1) values)))) first)) gives
      ∙ behind-one parts part (each read (items_view (drop (i + 1) values)))

  -- or nothing, and so does the list
  pub HasRead-none : read (view value) ≡ None → each read (items_view values) ≡ None
  HasRead-none gives =
      next ∙ ap (λ first. option_map (λ more. parts ++ more) (option_and_then (λ first. option_map (λ more. first ∷ more) (each read (items_view (drop (i + 1) values)))) first)) gives

-- all values have been read
pub HasRead-all : {A : Type 0} (read : Data → Option A) (values : List Value) (i : ℕ) (parts : List A) → length values ≤ i → HasRead read values i parts
    → each read (items_view values) ≡ Some parts
HasRead-all read values i parts all has = has ∙ ap (λ vs. option_map (λ more. parts ++ more) (each read (items_view vs))) (drop_all i values all) ∙ ap (λ list. Some list) (append-nil parts)

pub items_length-view : (values : List Value) → items_length (items_view values) ≡ length values
items_length-view [] = refl
items_length-view (value ∷ values) = ap suc (items_length-view values)

pub ruleset counts = (items_length-view)

-- what a list of few values gives
pub short_list-reads : {A : Type 0} (read : Data → Option A) (value : Data) (values : Items) (list : Option (List A)) → Some values ≡ few_values value → each read values ≡ list
    → list ≡ short_list read value
short_list-reads read value values list few reads = sym reads ∙ ap (λ found. option_and_then (each read) found) few
