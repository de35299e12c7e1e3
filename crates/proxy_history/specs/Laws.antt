-- What holds of every history, whichever protocol makes it. Lists of facts and views have the newest first.
use Rattle.std.specs.Prelude.{◌≡◌, ◌↔◌, ℕ, zero, suc, ◌+◌, ◌≤◌, ◌<◌, Bool, true, false, ◌==◌, List, [], ◌∷◌, ◌++◌, length, take, drop, None, IsSomeAnd, All, Contains}
use Rattle.framing.specs.Cutting.{Cutting, cut}
use Rattle.proxy_history.specs.Streams.{Framing, messages_of_piece, is_bad, is_invalid}
use Rattle.proxy_history.specs.Facts.{Fact, Request, Ended, Forwarded, Answered, IdHeld, Late, Expired, Aborted, Reset, ModemLost}
use Rattle.proxy_history.specs.Connections.{contains}
use Rattle.proxy_history.specs.Requests.{in_use, pending, following, number_after}
use Rattle.proxy_history.specs.View.{Entry, Taking}
use Rattle.proxy_history.specs.Rendering.{EntryText, render}

-- ---- streams: what a piece brings depends on the piece and on what the stream left before it ----

-- the cut of what the stream left, and the piece behind it
abbrev pub cut_behind : Framing → List ℕ → List ℕ → Cutting
cut_behind size before piece = cut size ((cut size before).rest ++ piece)

pub record GoesOnFromRest (size : Framing) (before piece : List ℕ) : Type 0 where
  pub messages : messages_of_piece size before piece ≡ (cut_behind size before piece).messages
  pub rest : (cut size (before ++ piece)).rest ≡ (cut_behind size before piece).rest
  pub bad : is_bad size (before ++ piece) ≡ is_invalid (size (cut_behind size before piece).rest)

abbrev pub StreamsGoOnFromTheirRest : Type 0
StreamsGoOnFromTheirRest = (size : Framing) (before piece : List ℕ) → GoesOnFromRest size before piece

-- ---- requests: what the filters keep is what a reader of the history would say ----

-- a fact began this, and no later fact ends it
pub record GoesOn {X : Type 0} (begins : X → Fact) (ends : X → Fact → Bool) (x : X) (facts : List Fact) : Type 0 where
  pub later : List Fact
  pub earlier : List Fact
  pub whole : facts ≡ later ++ begins x ∷ earlier
  pub none : All (λ fact. ends x fact ≡ false) later

-- the request was forwarded, and no later fact ends it
abbrev pub IsForwardedAndGoesOn : (Request → Fact → Bool) → Request → List Fact → Type 0
IsForwardedAndGoesOn ends r facts = GoesOn (λ q. Forwarded q) ends r facts

-- an answer of any kind frees the request's number, and so does the end of all that the modem knows
abbrev pub frees_number : Request → Fact → Bool
frees_number r (Answered q message) = q.serial == r.serial
frees_number r (IdHeld q) = q.serial == r.serial
frees_number r (Late q) = q.serial == r.serial
frees_number r Reset = true
frees_number r ModemLost = true
frees_number r _ = false

-- a sender stops waiting also at a refusal in place of the answer, and when it is gone
abbrev pub ends_waiting : Request → Fact → Bool
ends_waiting r (Expired q) = q.serial == r.serial
ends_waiting r (Aborted q) = q.serial == r.serial
ends_waiting r (Ended c why) = c == r.conn
ends_waiting r fact = frees_number r fact

abbrev pub InUseUntilFreed : Type 0
InUseUntilFreed = (facts : List Fact) (r : Request) → Contains (in_use facts) r ↔ IsForwardedAndGoesOn frees_number r facts

abbrev pub PendingUntilEnded : Type 0
PendingUntilEnded = (facts : List Fact) (r : Request) → Contains (pending facts) r ↔ IsForwardedAndGoesOn ends_waiting r facts

-- ---- transaction numbers ----

-- the number that comes so many after n
unfoldable pub number_behind : ℕ → ℕ → ℕ → ℕ
number_behind top n zero = n
number_behind top n (suc count) = number_behind top (following top n) count

-- the first number from `start` on that isn't used: every number that comes before it is
pub record IsFirstFree (top start : ℕ) (used : List ℕ) (number : ℕ) : Type 0 where
  pub from_one : 1 ≤ number
  pub to_top : number ≤ top
  pub unused : contains number used ≡ false
  pub passed : ℕ
  pub reached : number ≡ number_behind top start passed
  pub others : (count : ℕ) → count < passed → contains (number_behind top start count) used ≡ true

-- where fewer than the limit are in use, the first free number after the last one is found
abbrev pub GivesFirstFree : Type 0
GivesFirstFree = (limit top last : ℕ) (used : List ℕ) → limit ≤ top → last ≤ top → length used < limit
    → IsSomeAnd (number_after limit top last used) (IsFirstFree top (following top last) used)

-- and none else
abbrev pub GivesNoneWhereFull : Type 0
GivesNoneWhereFull = (limit top last : ℕ) (used : List ℕ) → limit ≤ length used → number_after limit top last used ≡ None

-- ---- renderings, with whatever room ----

-- the bytes that the client's socket took
unfoldable pub taken_bytes : ℕ → EntryText → List Entry → List ℕ
taken_bytes room text [] = []
taken_bytes room text (Taking count ∷ entries) = taken_bytes room text entries ++ take count (render room text entries).waiting
taken_bytes room text (_ ∷ entries) = taken_bytes room text entries

-- how many bytes its socket is said to have taken
unfoldable pub taken_count : List Entry → ℕ
taken_count [] = 0
taken_count (Taking count ∷ entries) = taken_count entries + count
taken_count (_ ∷ entries) = taken_count entries

-- no taking is said to be of more than what waited
abbrev pub TakesWhatWaits : ℕ → EntryText → List Entry → Type 0
TakesWhatWaits room text [] = Unit {0}
TakesWhatWaits room text (Taking count ∷ entries) = (count ≤ length (render room text entries).waiting) × TakesWhatWaits room text entries
TakesWhatWaits room text (_ ∷ entries) = TakesWhatWaits room text entries

abbrev pub TakenAndWaitingAreAll : Type 0
TakenAndWaitingAreAll = (room : ℕ) (text : EntryText) (entries : List Entry)
    → (render room text entries).bytes ≡ taken_bytes room text entries ++ (render room text entries).waiting

-- the bytes taken are the first of all bytes, as many as the takings say, and those that wait are the others
pub record IsSplitByCount (room : ℕ) (text : EntryText) (entries : List Entry) : Type 0 where
  pub taken_bytes : taken_bytes room text entries ≡ take (taken_count entries) (render room text entries).bytes
  pub waiting : (render room text entries).waiting ≡ drop (taken_count entries) (render room text entries).bytes

abbrev pub TakingsSplitTheBytes : Type 0
TakingsSplitTheBytes = (room : ℕ) (text : EntryText) (entries : List Entry) → TakesWhatWaits room text entries → IsSplitByCount room text entries
