-- What is kept under indexes, which are counted from 1 and don't move. Where something was deleted, or nothing was written yet, there is None.
-- Source: the USB-IF MBIM specification 1.0, MBIM_SMS_FLAG and MBIM_PHONEBOOK_FLAG.
use Rattle.std.specs.Prelude.{ℕ, zero, suc, ◌-◌, ◌==◌, List, [], ◌∷◌, length, map, replicate, get_or, set, filter_map, Option, Some, None, option_map, if◌then◌else◌}
use Rattle.std.specs.List.{enumerate_from}

-- ---- flags ----

-- whatever is kept
abbrev pub all : ℕ
all = 0

-- what the index names
abbrev pub one : ℕ
one = 1

-- ---- what is there ----

-- what is kept under an index
abbrev pub kept_at : {A : Type 0} → (index : ℕ) → List (Option A) → Option A
kept_at zero places = None
kept_at (suc place) places = get_or places place None

-- all that is kept, each with its index, where the first place has this one
abbrev pub kept_from : {A : Type 0} → (index : ℕ) → List (Option A) → List (ℕ × A)
kept_from index places = filter_map (λ place. option_map (λ item. (place.0, item)) place.1) (enumerate_from index places)

abbrev pub kept : {A : Type 0} → List (Option A) → List (ℕ × A)
kept places = kept_from 1 places

-- what a flag and an index ask for, if it is there
abbrev pub asked : {A : Type 0} → (flag index : ℕ) → List (Option A) → Option (List (ℕ × A))
asked flag index places =
    if flag == all then Some (kept places)
    else if flag == one then option_map (λ item. (index, item) ∷ []) (kept_at index places)
    else None

-- and the values of that
abbrev pub values_asked : {A B : Type 0} → (ℕ × A → B) → (flag index : ℕ) → List (Option A) → Option (List B)
values_asked value flag index places = option_map (map value) (asked flag index places)

-- ---- what is changed ----

-- the places with this under an index
abbrev pub with_item : {A : Type 0} → (index : ℕ) → Option A → List (Option A) → List (Option A)
with_item index item places = set places (index - 1) item

-- the places without what a flag and an index name, if that is there
abbrev pub without : {A : Type 0} → (flag index : ℕ) → List (Option A) → Option (List (Option A))
without flag index places =
    if flag == all then Some (replicate (length places) None)
    else if flag == one then option_map (λ item. with_item index None places) (kept_at index places)
    else None
