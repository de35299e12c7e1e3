-- What a file tells.
use Rattle.std.specs.Prelude.{ℕ, List, Result}
use Rattle.message_tables.specs.Messages.{MessageForm}
use Rattle.named_messages.specs.Told.{indications_in}
use Rattle.table_requests.specs.declared.fault.NoRequest.{NoRequest}
use Rattle.table_requests.specs.Faults.{no_message}
use Rattle.table_requests.specs.Files.{or_none}

-- the indications that a text tells, or why none
abbrev pub told_in : List ℕ → Result (List MessageForm) NoRequest
told_in text = or_none no_message (indications_in text)
