-- The one message of a name among objects.
use Rattle.std.proofs.Common.{◌≡◌, ℕ, suc, ◌<◌, length, List, [], ◌∷◌, map, filter, take, drop, get_or, Some, None, Err, refl, sym, ap, ◌∙◌}
use Rattle.std.specs.List.{position}
use Rattle.serde_json.specs.Data.{Data}
use Rattle.serde_json.specs.View.{view, items_of}
use Rattle.serde_json.specs.declared.value.Value.{Value}
use Rattle.message_tables.specs.Definitions.{named_by}
use Rattle.named_messages.specs.declared.fault.NamedFault.TheVariants.{Missing, Several}
use Rattle.named_messages.specs.Named.{is_named}
use Rattle.named_messages.specs.Reading.{defined_in, message_in, message_named, list_of}
use Rattle.named_messages.proofs.Firsts.{passes, is_first, none_passes}

pub missing : (name : List ℕ) (objects : List Value) → None ≡ position (passes (is_named name)) objects → message_named name (map view objects) ≡ Err Missing
unfolding message_named
missing name objects none = rw (none_passes (is_named name) objects none) refl

module _ (name : List ℕ) (objects : List Value) (i : ℕ) (first : Some i ≡ position (passes (is_named name)) objects) where
  pub place_within : i < length objects
  place_within = (is_first (is_named name) objects i first).within

  pub several : (j : ℕ) → Some j ≡ position (passes (is_named name)) (drop (suc i) objects) → message_named name (map view objects) ≡ Err Several
  unfolding message_named
  several j second = rw ((is_first (is_named name) objects i first).some.1, (is_first (is_named name) (drop (suc i) objects) j second).some.1) refl

  pub alone : (one : Value) → one ≡ get_or objects i one → None ≡ position (passes (is_named name)) (drop (suc i) objects)
      → message_named name (map view objects) ≡ message_in (named_by (defined_in (map view (take i objects)))) name (view one)
  unfolding message_named
  alone one is none =
      let f = is_first (is_named name) objects i first in
      let here : filter (is_named name) (map view objects) ≡ view one ∷ [] =
      f.chosen one ∙ ap (λ (rest : List Data). view (get_or objects i one) ∷ rest) (none_passes (is_named name) (drop (suc i) objects) none) ∙ ap (λ (v : Value). view v ∷ []) (sym is) in
      rw (here, f.front) refl

pub list_of-items : (entries : List Data) → list_of (items_of entries) ≡ entries
list_of-items [] = refl
list_of-items (entry ∷ entries) = ap (λ (l : List Data). entry ∷ l) (list_of-items entries)
