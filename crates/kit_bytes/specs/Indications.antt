-- Which indications a list of subscriptions asks for.
use Rattle.std.specs.Prelude.{ℕ, bytes_eq, Bool, true, ◌&&◌, ◌==◌, List, Option, Some, None}
use Rattle.std.specs.List.{list_any}
use Rattle.kit_bytes.specs.Subscriptions.{Pair}

abbrev pub is_cid : (cid : ℕ) → Option ℕ → Bool
is_cid cid None = true
is_cid cid (Some n) = n == cid

abbrev pub wants : List Pair → (uuid : List ℕ) → (cid : ℕ) → Bool
wants list uuid cid = list_any (λ pair. bytes_eq pair.0 uuid && is_cid cid pair.1) list
