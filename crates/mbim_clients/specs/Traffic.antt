-- What stands between the clients and the modem.
use Rattle.std.specs.Prelude.{ℕ, ◌+◌, nat_le, Bool, List, ◌++◌, length, Option, None, if◌then◌else◌}
use Rattle.outbox.specs.Queue.{Queue}
use Rattle.number_space.specs.Table.{pending_of, next_number}
use Rattle.mbim_proxy.specs.Setup.{mbim_limits}
use Rattle.mbim_state.specs.Core.{Numbers}

pub record Traffic : Type 0 where
  -- the numbers in use, with their senders and deadlines
  pub numbers : Numbers
  -- the bytes that wait for the modem
  pub outbox : Queue

-- as many requests of the client wait as may
abbrev pub has_share : (conn : ℕ) → Numbers → Bool
has_share c numbers = nat_le mbim_limits.share (pending_of c numbers)

-- the number that a request of so many bytes gets: the next one, where one is free and there is room for them
abbrev pub number_for : (count : ℕ) → Traffic → Option ℕ
number_for count traffic = if nat_le (length traffic.outbox.bytes + count) traffic.outbox.capacity then next_number traffic.numbers else None

abbrev pub queues : (bytes : List ℕ) → Traffic → Traffic
queues bytes traffic = record traffic { outbox = record traffic.outbox { bytes = traffic.outbox.bytes ++ bytes } }
