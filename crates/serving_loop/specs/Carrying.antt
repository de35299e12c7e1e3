-- How what is known of a hub's record is carried from call to call. A record has the newest call first.
use Rattle.std.specs.Prelude.{List, ◌++◌, Option}
use Rattle.hub_io.specs.Record.{Since}
use Rattle.many_io.specs.Record.{ManyCall}

-- where `Before` holds of a record, `After` holds of it with what was recorded since then, where the hub tells it
pub record Carries (old : Option (List ManyCall)) (Before : List ManyCall → Type 0) (new : Option (List ManyCall)) (After : List ManyCall → Type 0) : Type 0 where
  pub since : Since old new (λ later. (earlier : List ManyCall) → Before earlier → After (later ++ earlier))
