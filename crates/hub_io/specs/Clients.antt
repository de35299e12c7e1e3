-- The clients of a hub: their names, and the table of their counts of faults.
use Rattle.std.specs.Prelude.{◌≡◌, ℕ, ◌-◌, ◌%◌, Bool, false, ◌==◌, List, replicate, slice_index, slice_index_or, Option, Some, None}
use Rattle.hub_io.specs.Hub.{NamesRise, ToldOfThose}
use Rattle.hub_io.specs.declared.hub.HubEvent.{HubEvent}

-- the place that a name has for ever
abbrev pub place_in_table : ℕ → ℕ
place_in_table name = (name - 1) % 128

-- the count of a client, in a table of counts by the places of the names
abbrev pub fault_of : List ℕ → ℕ → ℕ
fault_of counts conn = slice_index counts (place_in_table conn)

-- no send has failed
abbrev pub no_faults : List ℕ
no_faults = replicate 128 0

pub record Clients : Type 0 where
  -- the greatest name that was told
  pub greatest : ℕ
  -- the name of who is there, at each place
  pub by_place : List (Option ℕ)

-- nobody is there, and no name was told
abbrev pub nobody : Clients
nobody = record { greatest = 0; by_place = replicate 128 None }

abbrev pub is_name : ℕ → Option ℕ → Bool
is_name conn None = false
is_name conn (Some name) = name == conn

abbrev pub is_there : Clients → ℕ → Bool
is_there clients conn = is_name conn (slice_index_or clients.by_place (place_in_table conn) None)

-- the clients before this was told, and after
abbrev pub TellsOf : Option HubEvent → Clients → Clients → Type 0
TellsOf None old new = new ≡ old
TellsOf (Some event) old new = NamesRise (Some event) old.greatest new.greatest × ToldOfThose (Some event) (is_there old) (is_there new)
