-- The places of connections, and of those that were dropped.
use Rattle.std.specs.Prelude.{◌≡◌, ℕ, ◌+◌, List, [], ◌∷◌, ◌++◌, Option, Some, None}
use Rattle.std.specs.List.{AllByRecursion, remove}
use Rattle.outbox.specs.Queue.{Queue}
use Rattle.connections.specs.Table.{Connection, Dropped, Table}

abbrev pub place_in : Option Queue → ℕ
place_in None = 0
place_in (Some queue) = 1

-- how many have a place
abbrev pub places_in : List Dropped → ℕ
places_in [] = 0
places_in (d ∷ dropped) = place_in d.outbox + places_in dropped

abbrev pub HasRoom : ℕ → Option Queue → Type 0
HasRoom room None = Unit {0}
HasRoom room (Some queue) = queue.capacity ≡ room

-- in each of their places so many bytes may wait
abbrev pub HaveRoom : ℕ → List Dropped → Type 0
HaveRoom room dropped = AllByRecursion (λ d. HasRoom room d.outbox) dropped

-- the connection of this place is dropped
abbrev pub drops_at : {T : Type 0} → ℕ → Connection T → Table T → Table T
drops_at place k table = record table { present = remove table.present place; dropped = table.dropped ++ record { name = k.name; outbox = Some k.outbox } ∷ [] }
