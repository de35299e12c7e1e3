-- The connections of a proxy's clients, and what each call makes of them.
use Rattle.std.specs.Prelude.{◌≡◌, ℕ, zero, suc, ◌+◌, ◌<◌, ◌≤◌, Bool, true, false, ◌==◌, nat_lt, if◌then◌else◌, List, [], ◌∷◌, ◌++◌, length, drop, find, position, Option, Some, None}
use Rattle.std.specs.Option.{option_map}
use Rattle.std.specs.List.{AllByRecursion}
use Rattle.kit_bytes.specs.Sorted.{IsInOrder}
use Rattle.outbox.specs.Queue.{Queue, has_room, takes}
use Rattle.outbox.specs.Queue as queue

-- a connection that is there
pub record Connection (T : Type 0) : Type 0 where
  pub name : ℕ
  -- what the protocol keeps of its client
  pub client : T
  -- the bytes of its stream behind its whole messages
  pub rest : List ℕ
  -- the bytes that wait for it
  pub outbox : Queue

-- a connection that was dropped, and wasn't asked for yet
pub record Dropped : Type 0 where
  pub name : ℕ
  -- what waited for it; none where it was never let in
  pub outbox : Option Queue

pub record Table (T : Type 0) : Type 0 where
  -- in order of joining
  pub present : List (Connection T)
  -- in order of dropping
  pub dropped : List Dropped
  -- the greatest name of a connection so far
  pub greatest : ℕ
  -- how many connections may be there, and how many bytes may wait for each
  pub limit : ℕ
  pub room : ℕ

abbrev pub opened : {T : Type 0} → ℕ → ℕ → Table T
opened limit room = record { present = []; dropped = []; greatest = 0; limit = limit; room = room }

-- ---- what holds of every table ----

-- names rise in order of joining
abbrev pub AreRising : {T : Type 0} → List (Connection T) → Type 0
AreRising present = IsInOrder (λ k l. k.name < l.name) present

pub record IsRegular {T : Type 0} (table : Table T) : Type 0 where
  pub rising : AreRising table.present
  pub known : AllByRecursion (λ k. k.name ≤ table.greatest) table.present
  pub rooms : AllByRecursion (λ k. k.outbox.capacity ≡ table.room) table.present
  pub few : length table.present ≤ table.limit

-- ---- the connection of a name ----

abbrev pub connection_in : {T : Type 0} → ℕ → List (Connection T) → Option (Connection T)
connection_in name present = find (λ k. name == k.name) present

-- it is changed, and gone
unfoldable pub changed : {T : Type 0} → ℕ → (Connection T → Connection T) → List (Connection T) → List (Connection T)
changed name change [] = []
changed name change (k ∷ present) = if name == k.name then change k ∷ present else k ∷ changed name change present

unfoldable pub without : {T : Type 0} → ℕ → List (Connection T) → List (Connection T)
without name [] = []
without name (k ∷ present) = if name == k.name then present else k ∷ without name present

-- ---- what the protocol keeps of the client of a place ----

abbrev pub with_client : {T : Type 0} → T → Connection T → Connection T
with_client client k = record k { client = client }

abbrev pub changed_at : {T : Type 0} → ℕ → (Connection T → Connection T) → List (Connection T) → List (Connection T)
changed_at place change [] = []
changed_at zero change (k ∷ present) = change k ∷ present
changed_at (suc place) change (k ∷ present) = k ∷ changed_at place change present

abbrev pub with_client_at : {T : Type 0} → ℕ → T → Table T → Table T
with_client_at place client table = record table { present = changed_at place (with_client client) table.present }

-- ---- one joins, leaves or is dropped ----

abbrev pub joined : {T : Type 0} → ℕ → T → ℕ → Connection T
joined name client room = record { name = name; client = client; rest = []; outbox = queue.opened room }

abbrev pub joins_if : {T : Type 0} → Bool → ℕ → T → Table T → Table T
joins_if true name client table = record table { present = table.present ++ joined name client table.room ∷ []; greatest = name }
joins_if false name client table = record table { dropped = table.dropped ++ record { name = name; outbox = None } ∷ []; greatest = name }

-- it is let in behind the others, or dropped where as many as may be are there
abbrev pub joins : {T : Type 0} → ℕ → T → Table T → Table T
joins name client table = joins_if (nat_lt (length table.present) table.limit) name client table

abbrev pub leaves : {T : Type 0} → ℕ → Table T → Table T
leaves name table = record table { present = without name table.present }

-- what waits for it stays for it
abbrev pub drops : {T : Type 0} → ℕ → Queue → Table T → Table T
drops name outbox table = record table { present = without name table.present; dropped = table.dropped ++ record { name = name; outbox = Some outbox } ∷ [] }

-- the first that was dropped is asked for
abbrev pub asked : {T : Type 0} → Table T → Table T
asked table = record table { dropped = drop 1 table.dropped }

abbrev pub first_dropped : List Dropped → Option ℕ
first_dropped [] = None
first_dropped (d ∷ dropped) = Some d.name

-- ---- bytes for a client ----

abbrev pub gets : {T : Type 0} → List ℕ → Connection T → Connection T
gets bytes k = record k { outbox = record k.outbox { bytes = k.outbox.bytes ++ bytes } }

abbrev pub puts_if : {T : Type 0} → Bool → List ℕ → Connection T → Connection T
puts_if true bytes k = gets bytes k
puts_if false bytes k = k

-- all of the bytes, or none
abbrev pub puts : {T : Type 0} → List ℕ → Connection T → Connection T
puts bytes k = puts_if (has_room bytes k.outbox) bytes k

abbrev pub tells_if : {T : Type 0} → Bool → ℕ → List ℕ → Connection T → Table T → Table T
tells_if true name bytes k table = record table { present = changed name (gets bytes) table.present }
tells_if false name bytes k table = drops name k.outbox table

abbrev pub tells_to : {T : Type 0} → Option (Connection T) → ℕ → List ℕ → Table T → Table T
tells_to None name bytes table = table
tells_to (Some k) name bytes table = tells_if (has_room bytes k.outbox) name bytes k table

-- the bytes wait for it, or it is dropped where they find no room
abbrev pub tells : {T : Type 0} → ℕ → List ℕ → Table T → Table T
tells name bytes table = tells_to (connection_in name table.present) name bytes table

abbrev pub finds_room : {T : Type 0} → List ℕ → Option (Connection T) → Bool
finds_room bytes None = true
finds_room bytes (Some k) = has_room bytes k.outbox

-- its socket took the first so many bytes
abbrev pub took : {T : Type 0} → ℕ → Connection T → Connection T
took count k = record k { outbox = takes count k.outbox }

abbrev pub client_takes : {T : Type 0} → ℕ → ℕ → Table T → Table T
client_takes name count table = record table { present = changed name (took count) table.present }

-- ---- the bytes that wait ----

abbrev pub left_in : Option Queue → List ℕ
left_in None = []
left_in (Some queue) = queue.bytes

abbrev pub left_for : ℕ → List Dropped → List ℕ
left_for name [] = []
left_for name (d ∷ dropped) = if name == d.name then left_in d.outbox else left_for name dropped

abbrev pub waiting_or : {T : Type 0} → List ℕ → Option (Connection T) → List ℕ
waiting_or others None = others
waiting_or others (Some k) = k.outbox.bytes

-- for a connection that is there, or was dropped and wasn't asked for yet; none for any other name
abbrev pub queue_of : {T : Type 0} → ℕ → Table T → List ℕ
queue_of name table = waiting_or (left_for name table.dropped) (connection_in name table.present)

abbrev pub has_waiting : {T : Type 0} → Connection T → Bool
has_waiting k = nat_lt 0 (length k.outbox.bytes)

-- the place of the first from this place on for which bytes wait
abbrev pub first_waiting : {T : Type 0} → ℕ → List (Connection T) → Option ℕ
first_waiting from present = option_map (λ at. from + at) (position has_waiting (drop from present))
