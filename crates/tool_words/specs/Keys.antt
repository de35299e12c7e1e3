-- Lists of keys and values, as in apn=internet,ip-type=4.
use Rattle.std.specs.Prelude.{ℕ, ◌==◌, Bool, List, Option, Some, None, is_some, if◌then◌else◌, option_and_then, option_map, unwrap_or}
use Rattle.std.specs.List.{filter_map, list_all, list_any, slice_split}
use Rattle.std.specs.Str.{bytes_eq}
use Rattle.tool_words.specs.Sole.{at_most_one, sole}
use Rattle.tool_words.specs.Values.{optional, split_at}

-- a key may have several names
abbrev pub is_among : List (List ℕ) → List ℕ → Bool
is_among names text = list_any (bytes_eq text) names

abbrev pub if_among : List (List ℕ) → List ℕ × List ℕ → Option (List ℕ)
if_among names pair = if is_among names pair.0 then Some pair.1 else None

-- the value in a part of a list: behind the first '=', if a key of these names stands before it
unfoldable pub value_in : List (List ℕ) → List ℕ → Option (List ℕ)
value_in names part = option_and_then (if_among names) (split_at 61 part)

abbrev pub if_all : (List ℕ → Bool) → List (List ℕ) → Option (List (List ℕ))
if_all test parts = if list_all test parts then Some parts else None

-- the parts of a list, which stand between commas, if each has one of these keys
unfoldable pub parts_in : List (List ℕ) → List ℕ → Option (List (List ℕ))
parts_in names text = if_all (λ part. is_some (value_in names part)) (slice_split (λ byte. byte == 44) text)

-- the value of a key of these names, which at most one part may have
unfoldable pub value_of : List (List ℕ) → List (List ℕ) → Option (Option (List ℕ))
value_of names parts = at_most_one (sole (filter_map (value_in names) parts))

-- the same, if it reads
unfoldable pub keyed : {A : Type 0} → (List ℕ → Option A) → List (List ℕ) → List (List ℕ) → Option (Option A)
keyed read names parts = option_and_then (optional read) (value_of names parts)

-- the same, or the default where no part has such a key
unfoldable pub keyed_or : {A : Type 0} → A → (List ℕ → Option A) → List (List ℕ) → List (List ℕ) → Option A
keyed_or default read names parts = option_map (λ value. unwrap_or value default) (keyed read names parts)
