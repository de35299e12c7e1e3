-- What stays the same over the life of a QMI proxy.
use Rattle.std.specs.Prelude.{ℕ, Bool, List, Option}

pub record Setup : Type 0 where
  -- the path of the device
  pub device : List ℕ
  -- how long a request waits for its answer, in milliseconds
  pub time_limit : ℕ
  -- whether the modem is away at the opening
  pub starts_away : Bool
  -- after how many milliseconds the proxy itself releases a client id whose holder went; never where it has none
  pub release : Option ℕ
