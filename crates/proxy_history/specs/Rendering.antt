-- The bytes for one client, made from its view alone. A view has the newest entry first; bytes have the oldest first.
-- `room` is how many bytes may wait for the client.
use Rattle.std.specs.Prelude.{◌≡◌, ℕ, ◌+◌, Bool, false, ◌||◌, nat_lt, if◌then◌else◌, List, [], ◌∷◌, ◌++◌, length, drop}
use Rattle.proxy_history.specs.View.{Entry, Said, Response, Refused, Indication, OpenedWith, Shut, Taking, End}

pub record Rendering : Type 0 where
  -- all bytes for the client so far
  pub bytes : List ℕ
  -- those of them that its socket hasn't taken
  pub waiting : List ℕ
  -- an entry's bytes didn't fit the outbox: neither they nor any later ones were written
  pub is_over : Bool

-- no bytes so far
abbrev pub empty : Rendering
empty = record { bytes = []; waiting = []; is_over = false }

abbrev pub put_unless : Bool → List ℕ → Rendering → Rendering
put_unless over new r = record {
  bytes = if over then r.bytes else r.bytes ++ new;
  waiting = if over then r.waiting else r.waiting ++ new;
  is_over = over;
}

-- an entry's bytes are written whole or not at all
abbrev pub put : ℕ → List ℕ → Rendering → Rendering
put room new r = put_unless (r.is_over || nat_lt room (length r.waiting + length new)) new r

abbrev pub take_waiting : ℕ → Rendering → Rendering
take_waiting count r = record { bytes = r.bytes; waiting = drop count r.waiting; is_over = r.is_over }

-- how a protocol puts an entry
abbrev pub EntryText : Type 0
EntryText = List Entry → Entry → List ℕ

-- `text entries entry`: the bytes of an entry that follows these entries
unfoldable pub render : ℕ → EntryText → List Entry → Rendering
render room text [] = empty
render room text (Taking count ∷ entries) = take_waiting count (render room text entries)
render room text (Said message verdict ∷ entries) = put room (text entries (Said message verdict)) (render room text entries)
render room text (Response place message ∷ entries) = put room (text entries (Response place message)) (render room text entries)
render room text (Refused place cause ∷ entries) = put room (text entries (Refused place cause)) (render room text entries)
render room text (Indication message ∷ entries) = put room (text entries (Indication message)) (render room text entries)
render room text (OpenedWith status ∷ entries) = put room (text entries (OpenedWith status)) (render room text entries)
render room text (Shut ∷ entries) = render room text entries
render room text (End why ∷ entries) = render room text entries

-- ---- what becomes of the bytes for a client ----

-- all that was there, and perhaps more behind it, which waits
pub record Grows (before after : Rendering) : Type 0 where
  pub more : List ℕ
  pub bytes : after.bytes ≡ before.bytes ++ more
  pub waiting : after.waiting ≡ before.waiting ++ more
