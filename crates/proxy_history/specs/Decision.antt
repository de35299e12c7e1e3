-- What is decided on a client's message.
use Rattle.std.specs.Prelude.{ℕ, Option, Some, None}
use Rattle.proxy_history.specs.Facts.{Verdict, Full}

pub data Decision : Type 0 where
  -- it has this verdict, and with it a reply, or nothing yet
  Replies : (verdict : Verdict) → Decision
  -- a request goes to the modem for it, under this number
  Forwards : (number : ℕ) → Decision

-- under the number that is free, where one is
abbrev pub forwards_under : Option ℕ → Decision
forwards_under None = Replies Full
forwards_under (Some number) = Forwards number
