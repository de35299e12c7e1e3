-- A table stays regular.
use Rattle.std.proofs.Common.{◌≡◌, ℕ, zero, suc, ◌<◌, ◌≤◌, List, [], ◌∷◌, ◌++◌, length, get_or, set, ap, ◌∙◌, arith, length-append}
use Rattle.std.specs.List.{AllByRecursion, remove}
use Rattle.std.proofs.lemmas.List.{length-set}
use Rattle.kit_bytes.specs.Sorted.{IsInOrder}
use Rattle.kit_bytes.proofs.Lists.{all_weaker, all_push, all_remove, all_set}
use Rattle.kit_bytes.proofs.Sorted.{in_order_push, in_order_remove, in_order_set}
use Rattle.connections.specs.Table.{Connection, Dropped, Table, IsRegular}

module _ {T : Type 0} where
  abbrev pub table : List (Connection T) → List Dropped → ℕ → ℕ → ℕ → Table T
  table present dropped greatest limit room = record { present = present; dropped = dropped; greatest = greatest; limit = limit; room = room }

  pub regular_none : (dropped : List Dropped) (limit room : ℕ) → IsRegular (table [] dropped 0 limit room)
  unfolding IsInOrder
  regular_none dropped limit room = record { rising = tt; known = tt; rooms = tt; few = omega arith }

  fewer : (present : List (Connection T)) (place : ℕ) → length (remove present place) ≤ length present
  fewer [] zero = omega arith
  fewer [] (suc place) = omega arith
  fewer (k ∷ present) zero = omega arith
  fewer (k ∷ present) (suc place) = omega (arith, fewer present place)

  module _ {t : Table T} (r : IsRegular t) where
    known_below : (name : ℕ) → t.greatest < name → AllByRecursion (λ (k : Connection T). k.name ≤ name) t.present
    known_below name above = all_weaker (λ (k : Connection T). k.name ≤ t.greatest) (λ (k : Connection T). k.name ≤ name) (λ k low. omega arith) t.present r.known

    -- one joins
    pub regular_joined : (k : Connection T) (name : ℕ) → t.greatest < name → k.name ≡ name → k.outbox.capacity ≡ t.room → length t.present < t.limit → IsRegular (table (t.present ++ k ∷ []) t.dropped name t.limit t.room)
    regular_joined k name above named capacity few = record {
      rising = in_order_push (λ (k l : Connection T). k.name < l.name) t.present k (all_weaker (λ (l : Connection T). l.name ≤ t.greatest) (λ (l : Connection T). l.name < k.name) (λ l low. omega (arith, named)) t.present r.known) r.rising;
      known = all_push (λ (l : Connection T). l.name ≤ name) t.present k (known_below name above) (omega (arith, named));
      rooms = all_push (λ (l : Connection T). l.outbox.capacity ≡ t.room) t.present k r.rooms capacity;
      few = omega (arith, length-append t.present (k ∷ []));
    }

    pub regular_refused : (dropped : List Dropped) (name : ℕ) → t.greatest < name → IsRegular (table t.present dropped name t.limit t.room)
    regular_refused dropped name above = record { rising = r.rising; known = known_below name above; rooms = r.rooms; few = r.few }

    -- one goes
    pub regular_removed : (dropped : List Dropped) (place : ℕ) → IsRegular (table (remove t.present place) dropped t.greatest t.limit t.room)
    regular_removed dropped place = record {
      rising = in_order_remove (λ (k l : Connection T). k.name < l.name) t.present place r.rising;
      known = all_remove (λ (k : Connection T). k.name ≤ t.greatest) t.present place r.known;
      rooms = all_remove (λ (k : Connection T). k.outbox.capacity ≡ t.room) t.present place r.rooms;
      few = omega (arith, fewer t.present place, r.few);
    }

    -- the one of a place changes, and keeps its name and its capacity
    pub regular_set : (place : ℕ) (k now : Connection T) → k ≡ get_or t.present place k → now.name ≡ k.name → now.outbox.capacity ≡ k.outbox.capacity → IsRegular (table (set t.present place now) t.dropped t.greatest t.limit t.room)
    regular_set place k now at named capacity = record {
      rising =
          in_order_set (λ (k l : Connection T). k.name < l.name) t.present place now k
          (λ l after. omega (arith, name_is, after)) (λ l before. omega (arith, name_is, before)) r.rising;
      known = all_set (λ (l : Connection T). l.name ≤ t.greatest) t.present place now k (λ low. omega (arith, name_is, low)) r.known;
      rooms = all_set (λ (l : Connection T). l.outbox.capacity ≡ t.room) t.present place now k (λ same. capacity ∙ ap (λ (l : Connection T). l.outbox.capacity) at ∙ same) r.rooms;
      few = omega (arith, length-set t.present place now, r.few);
    }
      where
        name_is : now.name ≡ (get_or t.present place k).name
        name_is = named ∙ ap (λ (l : Connection T). l.name) at
