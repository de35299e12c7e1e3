-- The first object that passes a test, and those before and behind it.
use Rattle.std.proofs.Common.{◌≡◌, ℕ, suc, ◌+◌, ◌<◌, ◌≤◌, Bool, true, false, cond, not, nat_lt, List, [], ◌∷◌, length, map, filter, take, drop, get_or, Option, Some, None, refl, sym, ap, subst, ◌∙◌, arith}
use Rattle.std.proofs.lemmas.Bool.Decides.{nat_tests}
use Rattle.std.specs.List.{position, position_or_len, before_first}
use Rattle.serde_json.specs.Data.{Data}
use Rattle.serde_json.specs.View.{view}
use Rattle.serde_json.specs.declared.value.Value.{Value}

module _ (test : Data → Bool) where
  abbrev pub passes : Value → Bool
  passes one = test (view one)

  pub record IsFirst (objects : List Value) (i : ℕ) : Type 0 where
    pub within : i < length objects
    pub some : (one : Data) × (filter test (map view objects) ≡ one ∷ filter test (map view (drop (suc i) objects)))
    pub front : before_first test (map view objects) ≡ map view (take i objects)
    pub chosen : (d : Value) → filter test (map view objects) ≡ view (get_or objects i d) ∷ filter test (map view (drop (suc i) objects))

  first-at : (objects : List Value) → position_or_len passes objects < length objects → IsFirst objects (position_or_len passes objects)
  first-at [] less = absurd (omega arith)
  first-at (one ∷ objects) less = by (first-at objects) (test (view one)) refl less
    where
      by : (position_or_len passes objects < length objects → IsFirst objects (position_or_len passes objects)) → (b : Bool) → test (view one) ≡ b → cond (not b) (1 + position_or_len passes objects) 0 < length (one ∷ objects) → IsFirst (one ∷ objects) (cond (not b) (1 + position_or_len passes objects) 0)
      by later_on true here less = record { within = less; some = (view one, rw here refl); front = rw here refl; chosen = λ d. rw here refl }
      by later_on false later less =
          let more : 1 + position_or_len passes objects ≡ suc (position_or_len passes objects) = omega arith in
          let further : 1 + position_or_len test (map view objects) ≡ suc (position_or_len test (map view objects)) = omega arith in
          let rest = later_on (omega (arith, less)) in
          subst (IsFirst (one ∷ objects)) (sym more)
          (record {
            within = omega (arith, less);
            some = (rest.some.0, rw later rest.some.1);
            front = rw (later, further) (ap (λ (l : List Data). view one ∷ l) rest.front);
            chosen = λ d. rw later (rest.chosen d);
          })

  none-at : (objects : List Value) → length objects ≤ position_or_len passes objects → filter test (map view objects) ≡ []
  none-at [] past = refl
  none-at (one ∷ objects) past = by (none-at objects) (test (view one)) refl past
    where
      by : (length objects ≤ position_or_len passes objects → filter test (map view objects) ≡ []) → (b : Bool) → test (view one) ≡ b → length (one ∷ objects) ≤ cond (not b) (1 + position_or_len passes objects) 0 → filter test (map view (one ∷ objects)) ≡ []
      by later_on true here past = absurd (omega (arith, past))
      by later_on false later past = rw later (later_on (omega (arith, past)))

  pub is_first : (objects : List Value) (i : ℕ) → Some i ≡ position passes objects → IsFirst objects i
  is_first objects i is = by (nat_lt (position_or_len passes objects) (length objects)) refl is
    where
      by : (b : Bool) → nat_lt (position_or_len passes objects) (length objects) ≡ b → Some i ≡ cond b (Some (position_or_len passes objects)) None → IsFirst objects i
      by true less is = let same : position_or_len passes objects ≡ i = cc in subst (IsFirst objects) same (first-at objects (grind (arith, nat_tests, less)))
      by false less is = absurd cc

  pub none_passes : (objects : List Value) → None ≡ position passes objects → filter test (map view objects) ≡ []
  none_passes objects is = by (nat_lt (position_or_len passes objects) (length objects)) refl is
    where
      by : (b : Bool) → nat_lt (position_or_len passes objects) (length objects) ≡ b → None ≡ cond b (Some (position_or_len passes objects)) None → filter test (map view objects) ≡ []
      by true less is = absurd cc
      by false less is = none-at objects (grind (arith, nat_tests, less))
