-- Places stay as many, and each keeps its room.
use Rattle.std.proofs.Common.{◌≡◌, ℕ, ◌+◌, ◌<◌, Bool, true, false, List, [], ◌∷◌, ◌++◌, length, get_or, arith, refl, ap, sym, subst}
use Rattle.std.specs.List.{remove}
use Rattle.outbox.specs.Queue.{has_room}
use Rattle.connections.specs.Table.{Connection, Dropped, puts, puts_if}
use Rattle.connections.specs.Places.{HasRoom, HaveRoom, place_in, places_in}

pub places_push : (dropped : List Dropped) (d : Dropped) → places_in (dropped ++ d ∷ []) ≡ places_in dropped + place_in d.outbox
places_push [] d = omega arith
places_push (e ∷ dropped) d = omega (arith, places_push dropped d)

-- the first that was dropped is asked for
pub first_asked : (room : ℕ) (dropped : List Dropped) (d : Dropped) → 0 < length dropped → d ≡ get_or dropped 0 d → HaveRoom room dropped → HasRoom room d.outbox × (places_in dropped ≡ place_in d.outbox + places_in (remove dropped 0))
first_asked room [] d some at have = absurd (omega arith)
first_asked room (e ∷ dropped) d some at have = (subst (λ (f : Dropped). HasRoom room f.outbox) (sym at) have.0, ap (λ (f : Dropped). place_in f.outbox + places_in dropped) (sym at))

pub puts_capacity : {T : Type 0} (bytes : List ℕ) (k : Connection T) → (puts bytes k).outbox.capacity ≡ k.outbox.capacity
puts_capacity {T} bytes k = by (has_room bytes k.outbox)
  where
    by : (b : Bool) → (puts_if b bytes k).outbox.capacity ≡ k.outbox.capacity
    by true = refl
    by false = refl

pub puts_name : {T : Type 0} (bytes : List ℕ) (k : Connection T) → (puts bytes k).name ≡ k.name
puts_name {T} bytes k = by (has_room bytes k.outbox)
  where
    by : (b : Bool) → (puts_if b bytes k).name ≡ k.name
    by true = refl
    by false = refl
