-- The paths of several devices.
use Rattle.std.specs.Prelude.{ℕ, ◌&&◌, Bool, true, not, nat_le, List, [], ◌∷◌, length, Option, Some, None, if◌then◌else◌, option_and_then}
use Rattle.std.specs.List.{list_any}
use Rattle.std.specs.Str.{bytes_eq, encode_utf8_all}
use Rattle.tool_words.specs.Values.{◌>>=◌, path_in}

-- two paths are the same, by their bytes
abbrev pub is_same : List ℕ → List ℕ → Bool
is_same path other = bytes_eq (encode_utf8_all path) (encode_utf8_all other)

-- none of them is the same as one after it
unfoldable pub are_different : List (List ℕ) → Bool
are_different [] = true
are_different (path ∷ others) = not (list_any (is_same path) others) && are_different others

-- one to eight paths, each of them once
abbrev pub are_devices : List (List ℕ) → Bool
are_devices paths = nat_le 1 (length paths) && nat_le (length paths) 8 && are_different paths

-- each of these texts as a path, if all of them read
unfoldable pub paths_in : List (List ℕ) → Option (List (List ℕ))
paths_in [] = Some []
paths_in (text ∷ others) = do
  path ← path_in text
  paths ← paths_in others
  Some (path ∷ paths)

abbrev pub if_devices : List (List ℕ) → Option (List (List ℕ))
if_devices paths = if are_devices paths then Some paths else None

-- the same, if they are those of devices
unfoldable pub devices_in : List (List ℕ) → Option (List (List ℕ))
devices_in texts = option_and_then if_devices (paths_in texts)
