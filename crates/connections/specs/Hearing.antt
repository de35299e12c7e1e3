-- The next piece of a client's stream, as the protocol hears it.
use Rattle.std.specs.Prelude.{◌≡◌, ℕ, Bool, true, false, not, ◌&&◌, List, [], ◌∷◌, ◌++◌, Option, Some, None}
use Rattle.framing.specs.declared.framing.Size.{Size}
use Rattle.framing.specs.Framing.{is_invalid}
use Rattle.framing.specs.Cutting.{Cutting, cut}
use Rattle.outbox.specs.Queue.{Queue}
use Rattle.connections.specs.Table.{Connection, Table, connection_in, changed, drops}

-- what hearing made of a client, of its outbox and of what is kept beside the connections, and whether all that was due to the client found room
pub record Hearing (T S : Type 0) : Type 0 where
  pub client : T
  pub outbox : Queue
  pub beside : S
  pub has_room : Bool

-- how a protocol hears a message of the connection of this name
abbrev pub Hearer : Type 0 → Type 0 → Type 0
Hearer T S = ℕ → List ℕ → T → Queue → S → Hearing T S

-- one message after the other; the first for which room lacks ends it
unfoldable pub hears_all : {T S : Type 0} → Hearer T S → ℕ → List (List ℕ) → T → Queue → S → Hearing T S
hears_all hears name [] client outbox beside = record { client = client; outbox = outbox; beside = beside; has_room = true }
hears_all hears name (m ∷ messages) client outbox beside =
    let one = hears name m client outbox beside in
    elim one.has_room [ true ↦ hears_all hears name messages one.client one.outbox one.beside | false ↦ one ]

-- what hearing the cut messages of a stream left, where this is what it made of the client and this is left of the stream:
-- whether it goes on (all found room, and the stream didn't go bad), the client, its outbox and what is beside
pub record IsLeft {T S : Type 0} (size : List ℕ → Size) (h : Hearing T S) (rest : List ℕ) (on : Bool) (its : T) (queue : Queue) (next : S) : Type 0 where
  pub goes_on : on ≡ (h.has_room && not (is_invalid (size rest)))
  pub client : its ≡ h.client
  pub outbox : queue ≡ h.outbox
  pub beside : next ≡ h.beside

-- the cut of what was left of its stream and the piece
abbrev pub cut_of : {T : Type 0} → (List ℕ → Size) → List ℕ → Connection T → Cutting
cut_of size piece k = cut size (k.rest ++ piece)

abbrev pub hearing_of : {T S : Type 0} → (List ℕ → Size) → Hearer T S → List ℕ → Connection T → S → Hearing T S
hearing_of size hears piece k beside = hears_all hears k.name (cut_of size piece k).messages k.client k.outbox beside

-- all found room, and the stream didn't go bad
abbrev pub goes_on : {T S : Type 0} → (List ℕ → Size) → Hearing T S → List ℕ → Connection T → Bool
goes_on size h piece k = h.has_room && not (is_invalid (size (cut_of size piece k).rest))

abbrev pub heard : {T S : Type 0} → (List ℕ → Size) → Hearing T S → List ℕ → Connection T → Connection T
heard size h piece k = record { name = k.name; client = h.client; rest = (cut_of size piece k).rest; outbox = h.outbox }

-- ---- what a piece makes of the table and of what is beside it, and whether the connection goes on ----

pub record Brought (T S : Type 0) : Type 0 where
  pub table : Table T
  pub beside : S
  pub goes_on : Bool

abbrev pub brings_if : {T S : Type 0} → (List ℕ → Size) → Bool → ℕ → Hearing T S → List ℕ → Table T → Brought T S
brings_if size true name h piece table = record { table = record table { present = changed name (heard size h piece) table.present }; beside = h.beside; goes_on = true }
brings_if size false name h piece table = record { table = drops name h.outbox table; beside = h.beside; goes_on = false }

abbrev pub brings_to : {T S : Type 0} → (List ℕ → Size) → Hearer T S → Option (Connection T) → ℕ → List ℕ → Table T → S → Brought T S
brings_to size hears None name piece table beside = record { table = table; beside = beside; goes_on = true }
brings_to size hears (Some k) name piece table beside =
    let h = hearing_of size hears piece k beside in
    brings_if size (goes_on size h piece k) name h piece table

-- where it doesn't go on, it is dropped
abbrev pub brings : {T S : Type 0} → (List ℕ → Size) → Hearer T S → ℕ → List ℕ → Table T → S → Brought T S
brings size hears name piece table beside = brings_to size hears (connection_in name table.present) name piece table beside
