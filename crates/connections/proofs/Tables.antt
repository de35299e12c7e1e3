-- What the code does on its fields, as what is made of the table.
use Rattle.std.proofs.Common.{◌≡◌, ℕ, zero, suc, ◌<◌, Bool, true, false, List, [], ◌∷◌, ◌++◌, length, get_or, set, ap, sym, ◌∙◌, arith, nat_lt, Option, Some, None, is_some, refl}
use Rattle.std.specs.List.{position, remove}
use Rattle.std.proofs.lemmas.Bool.Decides.{nat_tests}
use Rattle.std.proofs.lemmas.List.{get_or_default, get_or-set_same}
use Rattle.framing.specs.declared.framing.Size.{Size}
use Rattle.outbox.specs.Queue.{Queue, has_room}
use Rattle.connections.specs.Table.{Connection, Dropped, Table, connection_in, without, joined, joins, joins_if, leaves, gets, puts, puts_if, tells, tells_to, tells_if, finds_room, took, client_takes, left_for, waiting_or, queue_of}
use Rattle.connections.specs.Table.{with_client}
use Rattle.connections.specs.Table as words
use Rattle.connections.specs.Places.{drops_at}
use Rattle.connections.specs.Hearing.{Hearing, Hearer, hearing_of, goes_on, heard, brings, brings_to, brings_if}
use Rattle.connections.proofs.Named.{is_named, inside, found_at, name_is, changed_at, gone_at, changed_none, without_none, none_found}
use Rattle.connections.proofs.Regular.{table}

set_same : {X : Type 0} (xs : List X) (i : ℕ) (x : X) → x ≡ get_or xs i x → set xs i x ≡ xs
set_same [] i x same = refl
set_same (y ∷ xs) zero x same = ap (λ z. z ∷ xs) same
set_same (y ∷ xs) (suc i) x same = ap (λ l. y ∷ l) (set_same xs i x same)

pub remove_set : {X : Type 0} (xs : List X) (i : ℕ) (y : X) → remove (set xs i y) i ≡ remove xs i
remove_set [] i y = refl
remove_set (x ∷ xs) zero y = refl
remove_set (x ∷ xs) (suc i) y = ap (λ t. x ∷ t) (remove_set xs i y)

module _ {T : Type 0} where
  abbrev pub with_present : Table T → List (Connection T) → Table T
  with_present t present = table present t.dropped t.greatest t.limit t.room

  module _ {t old : Table T} (was : t ≡ old) where
    -- ---- one joins ----

    pub joined_is : (name : ℕ) (client : T) (after : List (Connection T)) (k : Connection T) (capacity : ℕ) → length t.present < t.limit → after ≡ t.present ++ k ∷ [] → k ≡ joined name client capacity → capacity ≡ t.room
        → table after t.dropped name t.limit t.room ≡ joins name client old
    joined_is name client after k capacity few after_is is room =
        let test : nat_lt (length t.present) t.limit ≡ true = grind (arith, nat_tests, few) in
        ap (λ (l : List (Connection T)). table l t.dropped name t.limit t.room) after_is
        ∙ ap (λ (m : Connection T). table (t.present ++ m ∷ []) t.dropped name t.limit t.room) is
        ∙ ap (λ (n : ℕ). table (t.present ++ joined name client n ∷ []) t.dropped name t.limit t.room) room
        ∙ sym (ap (λ (b : Bool). joins_if b name client t) test) ∙ ap (joins name client) was

    -- ---- the one of a place is dropped ----

    pub dropped_is : (place : ℕ) (k r : Connection T) → k ≡ get_or old.present place k → place < length old.present → r ≡ get_or t.present place r
        → (present : List (Connection T)) (dropped : List Dropped) (d : Dropped) (name : ℕ) (outbox : Queue) → present ≡ remove t.present place → dropped ≡ t.dropped ++ d ∷ [] → d ≡ record { name = name; outbox = Some outbox } → name ≡ r.name → outbox ≡ r.outbox
        → table present dropped t.greatest t.limit t.room ≡ drops_at place k old
    dropped_is place k r at within is present dropped d name outbox present_is dropped_list d_is named left =
        let one : r ≡ k = is ∙ ap (λ (o : Table T). get_or o.present place r) was ∙ get_or_default old.present place r k within ∙ sym at in
        ap (λ (l : List (Connection T)). table l dropped t.greatest t.limit t.room) present_is
        ∙ ap (λ (l : List Dropped). table (remove t.present place) l t.greatest t.limit t.room) dropped_list
        ∙ ap (λ (e : Dropped). table (remove t.present place) (t.dropped ++ e ∷ []) t.greatest t.limit t.room) d_is
        ∙ ap (λ (n : ℕ). table (remove t.present place) (t.dropped ++ record { name = n; outbox = Some outbox } ∷ []) t.greatest t.limit t.room) named
        ∙ ap (λ (q : Queue). table (remove t.present place) (t.dropped ++ record { name = r.name; outbox = Some q } ∷ []) t.greatest t.limit t.room) left
        ∙ ap (λ (m : Connection T). drops_at place m t) one ∙ ap (drops_at place k) was

    -- ---- the one of a name, or none ----

    module _ (name place : ℕ) (stands : Some place ≡ position (is_named name) old.present) (k : Connection T) (at : k ≡ get_or t.present place k) where
      is : Some place ≡ position (is_named name) t.present
      is = stands ∙ sym (ap (λ (o : Table T). position (is_named name) o.present) was)

      found : connection_in name t.present ≡ Some k
      found = found_at name t.present place is k at

      pub left_is : (after : List (Connection T)) → after ≡ remove t.present place → with_present t after ≡ leaves name old
      left_is after after_is = ap (with_present t) (after_is ∙ sym (gone_at name t.present place is k at)) ∙ ap (leaves name) was

      pub left_some : true ≡ is_some (connection_in name old.present)
      left_some = sym (sym (ap (λ (o : Table T). is_some (connection_in name o.present)) was) ∙ ap is_some found)

      pub took_is : (count : ℕ) (now : Connection T) → now ≡ took count k → with_present t (set t.present place now) ≡ client_takes name count old
      took_is count now now_is =
          ap (λ (m : Connection T). with_present t (set t.present place m)) now_is ∙ sym (ap (with_present t) (changed_at name t.present place is k at (took count))) ∙ ap (client_takes name count) was

      pub queue_is : queue_of name old ≡ k.outbox.bytes
      queue_is = sym (ap (queue_of name) was) ∙ ap (waiting_or (left_for name t.dropped)) found

      -- it is dropped as it is now
      module _ (now : Connection T) (after : Table T) (drops : (m : Connection T) → m ≡ get_or (set t.present place now) place m → after ≡ drops_at place m (with_present t (set t.present place now))) where
        gone_is : after ≡ table (without name t.present) (t.dropped ++ record { name = now.name; outbox = Some now.outbox } ∷ []) t.greatest t.limit t.room
        gone_is =
            drops now (sym (get_or-set_same t.present place now now (inside name t.present place is now)))
            ∙ ap (λ (l : List (Connection T)). table l (t.dropped ++ record { name = now.name; outbox = Some now.outbox } ∷ []) t.greatest t.limit t.room) (remove_set t.present place now ∙ sym (gone_at name t.present place is k at))

      -- bytes for it
      module _ (bytes : List ℕ) (now : Connection T) (now_is : now ≡ puts bytes k) where
        room_is : has_room bytes k.outbox ≡ finds_room bytes (connection_in name old.present)
        room_is = sym (sym (ap (λ (o : Table T). finds_room bytes (connection_in name o.present)) was) ∙ ap (finds_room bytes) found)

        tells_is : (b : Bool) → has_room bytes k.outbox ≡ b → tells_if b name bytes k t ≡ tells name bytes old
        tells_is b room = sym (ap (λ (c : Bool). tells_if c name bytes k t) room) ∙ sym (ap (λ (o : Option (Connection T)). tells_to o name bytes t) found) ∙ ap (tells name bytes) was

        pub told_is : has_room bytes k.outbox ≡ true → (with_present t (set t.present place now) ≡ tells name bytes old) × (true ≡ finds_room bytes (connection_in name old.present))
        told_is room = (
          ap (λ (m : Connection T). with_present t (set t.present place m)) (now_is ∙ ap (λ (b : Bool). puts_if b bytes k) room) ∙ sym (ap (with_present t) (changed_at name t.present place is k at (gets bytes))) ∙ tells_is true room,
          sym room ∙ room_is,
        )

        unchanged : has_room bytes k.outbox ≡ false → now ≡ k
        unchanged room = now_is ∙ ap (λ (b : Bool). puts_if b bytes k) room

        pub untold_is : has_room bytes k.outbox ≡ false → (after : Table T) → ((m : Connection T) → m ≡ get_or (set t.present place now) place m → after ≡ drops_at place m (with_present t (set t.present place now))) → (after ≡ tells name bytes old) × (false ≡ finds_room bytes (connection_in name old.present))
        untold_is room after drops = (
          gone_is now after drops
              ∙ ap (λ (m : Connection T). table (without name t.present) (t.dropped ++ record { name = m.name; outbox = Some m.outbox } ∷ []) t.greatest t.limit t.room) (unchanged room)
              ∙ ap (λ (n : ℕ). table (without name t.present) (t.dropped ++ record { name = n; outbox = Some k.outbox } ∷ []) t.greatest t.limit t.room) (sym (name_is name t.present place is k at))
              ∙ tells_is false room,
          sym room ∙ room_is,
        )

      -- a piece of its stream
      module _ {S : Type 0} (size : List ℕ → Size) (hears : Hearer T S) (piece : List ℕ) (beside : S) where
        abbrev h : Hearing T S
        h = hearing_of size hears piece k beside

        brings_is : (b : Bool) → goes_on size h piece k ≡ b → brings_if size b name h piece t ≡ brings size hears name piece old beside
        brings_is b on =
            sym (ap (λ (c : Bool). brings_if size c name h piece t) on) ∙ sym (ap (λ (o : Option (Connection T)). brings_to size hears o name piece t beside) found)
            ∙ ap (λ (o : Table T). brings size hears name piece o beside) was

        module _ (now : Connection T) (next : S) (next_is : next ≡ h.beside) where
          pub brought_on : true ≡ goes_on size h piece k → now ≡ heard size h piece k
              → (with_present t (set t.present place now) ≡ (brings size hears name piece old beside).table) × (next ≡ (brings size hears name piece old beside).beside) × (true ≡ (brings size hears name piece old beside).goes_on)
          brought_on on now_is = (
            ap (λ (m : Connection T). with_present t (set t.present place m)) now_is ∙ sym (ap (with_present t) (changed_at name t.present place is k at (heard size h piece))) ∙ ap (λ b. b.table) (brings_is true (sym on)),
            next_is ∙ ap (λ b. b.beside) (brings_is true (sym on)),
            ap (λ b. b.goes_on) (brings_is true (sym on)),
          )

          pub brought_off : false ≡ goes_on size h piece k → now.name ≡ k.name → now.outbox ≡ h.outbox → (after : Table T) → ((m : Connection T) → m ≡ get_or (set t.present place now) place m → after ≡ drops_at place m (with_present t (set t.present place now)))
              → (after ≡ (brings size hears name piece old beside).table) × (next ≡ (brings size hears name piece old beside).beside) × (false ≡ (brings size hears name piece old beside).goes_on)
          brought_off off named outbox after drops = (
            gone_is now after drops
                ∙ ap (λ (n : ℕ). table (without name t.present) (t.dropped ++ record { name = n; outbox = Some now.outbox } ∷ []) t.greatest t.limit t.room) (named ∙ sym (name_is name t.present place is k at))
                ∙ ap (λ (q : Queue). table (without name t.present) (t.dropped ++ record { name = name; outbox = Some q } ∷ []) t.greatest t.limit t.room) outbox
                ∙ ap (λ b. b.table) (brings_is false (sym off)),
            next_is ∙ ap (λ b. b.beside) (brings_is false (sym off)),
            ap (λ b. b.goes_on) (brings_is false (sym off)),
          )

  -- ---- none has this name ----

  module _ (t : Table T) (name : ℕ) (none : None ≡ position (is_named name) t.present) where
    nobody : connection_in name t.present ≡ None
    nobody = none_found name t.present (sym none)

    pub left_none : (t ≡ leaves name t) × (false ≡ is_some (connection_in name t.present))
    left_none = (sym (ap (with_present t) (without_none name t.present nobody)), sym (ap is_some nobody))

    pub took_none : (count : ℕ) → t ≡ client_takes name count t
    took_none count = sym (ap (with_present t) (changed_none name (took count) t.present nobody))

    pub queue_none : left_for name t.dropped ≡ queue_of name t
    queue_none = sym (ap (waiting_or (left_for name t.dropped)) nobody)

    pub told_none : (bytes : List ℕ) → (t ≡ tells name bytes t) × (true ≡ finds_room bytes (connection_in name t.present))
    told_none bytes = (sym (ap (λ (o : Option (Connection T)). tells_to o name bytes t) nobody), sym (ap (finds_room bytes) nobody))

    pub brought_none : {S : Type 0} (size : List ℕ → Size) (hears : Hearer T S) (piece : List ℕ) (beside : S)
        → (t ≡ (brings size hears name piece t beside).table) × (beside ≡ (brings size hears name piece t beside).beside) × (true ≡ (brings size hears name piece t beside).goes_on)
    brought_none size hears piece beside =
        let is = sym (ap (λ (o : Option (Connection T)). brings_to size hears o name piece t beside) nobody) in
        (ap (λ b. b.table) is, ap (λ b. b.beside) is, ap (λ b. b.goes_on) is)

-- ---- the client of a place ----

pub client_changed : {T : Type 0} (present : List (Connection T)) (place : ℕ) (k : Connection T) (client : T) → place < length present → k ≡ get_or present place k → set present place (with_client client k) ≡ words.changed_at place (with_client client) present
client_changed [] place k client within at = absurd (omega arith)
client_changed (l ∷ present) zero k client within at = ap (λ m. with_client client m ∷ present) at
client_changed (l ∷ present) (suc place) k client within at = ap (λ t. l ∷ t) (client_changed present place k client (omega arith) at)
