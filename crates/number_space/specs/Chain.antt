-- Values in the order in which they came, each under a key and linked to its neighbours.
use Rattle.std.specs.Prelude.{◌≡◌, ℕ, zero, suc, ◌<◌, Bool, false, ◌==◌, if◌then◌else◌, List, [], ◌∷◌, length, map, Option, Some, None, option_map, slice_index_or}
use Rattle.std.specs.List.{IsDistinct}
use Rattle.number_space.specs.declared.chain.Link.{Link}

-- what a chain has: the values with their keys, in order of coming, and how many fit
pub record Entries (V : Type 0) : Type 0 where
  pub entries : List (ℕ × V)
  pub capacity : ℕ

abbrev pub keys : {V : Type 0} → List (ℕ × V) → List ℕ
keys entries = map (λ entry. entry.0) entries

abbrev pub values : {V : Type 0} → List (ℕ × V) → List V
values entries = map (λ entry. entry.1) entries

-- the entry of this key stands there
pub record KeyAt {V : Type 0} (key : ℕ) (entries : List (ℕ × V)) (place : ℕ) : Type 0 where
  pub within : place < length entries
  pub named : (d : ℕ × V) → (slice_index_or entries place d).0 ≡ key

pub record HasKey {V : Type 0} (key : ℕ) (entries : List (ℕ × V)) : Type 0 where
  pub place : ℕ
  pub there : KeyAt key entries place

-- the key of the first, or else what comes behind
abbrev pub first_key : {V : Type 0} → Option ℕ → List (ℕ × V) → Option ℕ
first_key behind [] = behind
first_key behind (entry ∷ entries) = Some entry.0

-- the key of the last, or else what comes before
abbrev pub last_key : {V : Type 0} → Option ℕ → List (ℕ × V) → Option ℕ
last_key before [] = before
last_key before (entry ∷ entries) = last_key (Some entry.0) entries

-- ---- how they are linked ----

-- each value stands under its key, linked to the keys of its neighbours
abbrev pub AreLinked : {V : Type 0} → (ℕ → Option (Link V)) → Option ℕ → List (ℕ × V) → Option ℕ → Type 0
AreLinked links before [] behind = Unit {0}
AreLinked links before (entry ∷ entries) behind =
    (links entry.0 ≡ Some (record { value = entry.1; before = before; after = first_key behind entries })) × AreLinked links (Some entry.0) entries behind

-- what is met from this key on
abbrev pub met_from : {V : Type 0} → (ℕ → Option (Link V)) → ℕ → Option ℕ → List (ℕ × V)
met_from links zero at = []
met_from links (suc count) None = []
met_from links (suc count) (Some key) = elim (links key) [ None ↦ [] | Some link ↦ (key, link.value) ∷ met_from links count link.after ]

-- so many links are those of these entries
pub record AreLinksOf {V : Type 0} (links : ℕ → Option (Link V)) (count : ℕ) (first last : Option ℕ) (entries : List (ℕ × V)) : Type 0 where
  pub linked : AreLinked links None entries None
  pub begins : first ≡ first_key None entries
  pub ends : last ≡ last_key None entries
  pub counted : length entries ≡ count
  pub distinct : IsDistinct (λ j k. j == k) (keys entries)

-- ---- a link that is turned ----

abbrev pub is_key : ℕ → Option ℕ → Bool
is_key key None = false
is_key key (Some other) = key == other

abbrev pub with_value : {V : Type 0} → V → Link V → Link V
with_value value link = record link { value = value }

abbrev pub with_after : {V : Type 0} → Option ℕ → Link V → Link V
with_after after link = record link { after = after }

abbrev pub with_before : {V : Type 0} → Option ℕ → Link V → Link V
with_before before link = record link { before = before }

-- behind this one, if there is one, comes that one
abbrev pub after_at : {V : Type 0} → Option ℕ → Option ℕ → (ℕ → Option (Link V)) → ℕ → Option (Link V)
after_at at after links key = if is_key key at then option_map (with_after after) (links key) else links key

-- before this one, if there is one, comes that one
abbrev pub before_at : {V : Type 0} → Option ℕ → Option ℕ → (ℕ → Option (Link V)) → ℕ → Option (Link V)
before_at at before links key = if is_key key at then option_map (with_before before) (links key) else links key
