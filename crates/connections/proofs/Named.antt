-- The connection of a name, by its place.
use Rattle.std.proofs.Common.{◌≡◌, ℕ, zero, suc, ◌<◌, Bool, true, false, List, [], ◌∷◌, length, get_or, set, refl, ap, sym, ◌∙◌, arith, cond, ◌==◌, Some, None, nat_lt, if◌then◌else◌}
use Rattle.std.specs.List.{AllWithin, position, remove}
use Rattle.std.specs.List.Sorted.{IsPartitionedBy}
use Rattle.std.proofs.lemmas.Bool.Decides.{nat_tests}
use Rattle.std.proofs.lemmas.Bool.{eqb-true}
use Rattle.std.proofs.lemmas.List.{get_or_default}
use Rattle.std.proofs.lemmas.List.Quantifiers.{position-Some}
use Rattle.kit_bytes.proofs.Lists.{find_first, find_none}
use Rattle.kit_bytes.proofs.Sorted.{position_is, in_order_at, partitioned, searched_here, searched_end, searched_other}
use Rattle.connections.specs.Table.{Connection, AreRising, connection_in, changed, without}

module _ {T : Type 0} (name : ℕ) where
  abbrev pub is_named : Connection T → Bool
  is_named k = name == k.name

  -- ---- its place ----

  abbrev pub is_before : Connection T → Bool
  is_before k = nat_lt k.name name

  pub halved : (present : List (Connection T)) → AreRising present → IsPartitionedBy is_before present
  halved present rising = partitioned (λ (k l : Connection T). k.name < l.name) is_before (λ k l less before. grind (arith, nat_tests, less, before)) present rising

  apart : (k : Connection T) → is_before k ≡ true → is_named k ≡ false
  apart k before = grind (arith, nat_tests, before)

  ahead : (k l : Connection T) → k.name < l.name → is_named l ≡ true → is_before k ≡ true
  ahead k l less named = grind (arith, nat_tests, less, named)

  module _ (present : List (Connection T)) (place : ℕ) (lower : AllWithin (λ k. is_before k ≡ true) present 0 place) where
    pub named_here : (k : Connection T) → place < length present → k ≡ get_or present place k → name ≡ k.name → position is_named present ≡ Some place
    named_here k within at named =
        let here : is_named k ≡ true = grind (arith, nat_tests, named) in
        searched_here (λ (k l : Connection T). k.name < l.name) is_named is_before apart ahead present place lower k within (ap is_named (sym at) ∙ here)

    pub named_end : place ≡ length present → position is_named present ≡ None
    named_end end = searched_end (λ (k l : Connection T). k.name < l.name) is_named is_before apart ahead present place lower end

    pub named_other : (k : Connection T) → place < length present → k ≡ get_or present place k → is_named k ≡ false → AllWithin (λ k. is_before k ≡ false) present place (length present) → AreRising present → position is_named present ≡ None
    named_other k within at other rest rising =
        searched_other (λ (k l : Connection T). k.name < l.name) is_named is_before apart ahead present place lower rest rising within
        (λ d. ap is_named (get_or_default present place d k within ∙ sym at) ∙ other)

  -- names rise, so that it is nobody before whom this one is
  pub named_in_order : (present : List (Connection T)) (place : ℕ) → AreRising present → (k : Connection T) → place < length present → k ≡ get_or present place k → name ≡ k.name → position is_named present ≡ Some place
  named_in_order present place rising k within at named =
      let here : is_named k ≡ true = grind (arith, nat_tests, named) in
      let found : is_named (get_or present place k) ≡ true = ap is_named (sym at) ∙ here in
      let earlier : (j : ℕ) → j < place → is_named (get_or present j k) ≡ false = λ j less.
      apart (get_or present j k) (ahead (get_or present j k) (get_or present place k) (in_order_at (λ (k l : Connection T). k.name < l.name) present j place k rising less within) found)
      in
      position_is is_named present place k earlier within found

  -- ---- what is done to it is done at its place ----

  -- the first of this name stands at this place
  pub record IsAt (present : List (Connection T)) (place : ℕ) : Type 0 where
    pub within : place < length present
    pub named : (d : Connection T) → is_named (get_or present place d) ≡ true
    pub before : (j : ℕ) (d : Connection T) → j < place → is_named (get_or present j d) ≡ false

  pub is_at : (present : List (Connection T)) (place : ℕ) → Some place ≡ position is_named present → (d : Connection T) → IsAt present place
  is_at present place is d = record {
    within = (position-Some is_named present place d (sym is)).0;
    named = λ e. (position-Some is_named present place e (sym is)).1;
    before = λ j e low. (position-Some is_named present place e (sym is)).2 j low;
  }

  is_behind : (k : Connection T) (present : List (Connection T)) (place : ℕ) → IsAt (k ∷ present) (suc place) → IsAt present place
  is_behind k present place at = record {
    within = omega (arith, at.within);
    named = at.named;
    before = λ j d low. at.before (suc j) d (omega arith);
  }

  changed_set : (change : Connection T → Connection T) (present : List (Connection T)) (place : ℕ) (d : Connection T) → IsAt present place → changed name change present ≡ set present place (change (get_or present place d))
  unfolding changed
  changed_set change [] place d at = absurd (omega (arith, at.within))
  changed_set change (k ∷ present) zero d at = rw (at.named d) refl
  changed_set change (k ∷ present) (suc place) d at = rw (at.before 0 d (omega arith)) (ap (λ t. k ∷ t) (changed_set change present place d (is_behind k present place at)))

  pub without_at : (present : List (Connection T)) (place : ℕ) (d : Connection T) → IsAt present place → without name present ≡ remove present place
  unfolding without
  without_at [] place d at = absurd (omega (arith, at.within))
  without_at (k ∷ present) zero d at = rw (at.named d) refl
  without_at (k ∷ present) (suc place) d at = rw (at.before 0 d (omega arith)) (ap (λ t. k ∷ t) (without_at present place d (is_behind k present place at)))

  pub inside : (present : List (Connection T)) (place : ℕ) → Some place ≡ position is_named present → (d : Connection T) → place < length present
  inside present place is d = (is_at present place is d).within

  module _ (present : List (Connection T)) (place : ℕ) (is : Some place ≡ position is_named present) (k : Connection T) (at : k ≡ get_or present place k) where
    pub found_at : connection_in name present ≡ Some k
    found_at = find_first is_named present place k (sym is) ∙ ap Some (sym at)

    pub name_is : name ≡ k.name
    name_is = eqb-true name k.name (ap is_named at ∙ (is_at present place is k).named k)

    pub changed_at : (change : Connection T → Connection T) → changed name change present ≡ set present place (change k)
    changed_at change = changed_set change present place k (is_at present place is k) ∙ ap (λ (l : Connection T). set present place (change l)) (sym at)

    pub gone_at : without name present ≡ remove present place
    gone_at = without_at present place k (is_at present place is k)

  -- ---- none has this name ----

  pub changed_none : (change : Connection T → Connection T) (present : List (Connection T)) → connection_in name present ≡ None → changed name change present ≡ present
  unfolding changed
  changed_none change [] none = refl
  changed_none change (k ∷ present) none =
      let step : (b : Bool) → cond b (Some k) (connection_in name present) ≡ None → (if b then change k ∷ present else k ∷ changed name change present) ≡ k ∷ present =
      λ b. elim b as (λ b. cond b (Some k) (connection_in name present) ≡ None → (if b then change k ∷ present else k ∷ changed name change present) ≡ k ∷ present) [
        | true ↦ λ none. absurd (cc)
        | false ↦ λ none. ap (λ (l : List (Connection T)). k ∷ l) (changed_none change present none)
      ]
      in step (is_named k) none

  pub without_none : (present : List (Connection T)) → connection_in name present ≡ None → without name present ≡ present
  unfolding without
  without_none [] none = refl
  without_none (k ∷ present) none =
      let step : (b : Bool) → cond b (Some k) (connection_in name present) ≡ None → (if b then present else k ∷ without name present) ≡ k ∷ present =
      λ b. elim b as (λ b. cond b (Some k) (connection_in name present) ≡ None → (if b then present else k ∷ without name present) ≡ k ∷ present) [
        | true ↦ λ none. absurd (cc)
        | false ↦ λ none. ap (λ (l : List (Connection T)). k ∷ l) (without_none present none)
      ]
      in step (is_named k) none

  pub none_found : (present : List (Connection T)) → position is_named present ≡ None → connection_in name present ≡ None
  none_found present none = find_none is_named present none
