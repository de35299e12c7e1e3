-- What a link that is told of stands for, while its lines are written.
use Rattle.std.specs.Prelude.{◌≡◌, ℕ, ◌+◌, ◌^◌, ◌<◌, Bool, true, false, List, ◌++◌, length}
use Rattle.std.specs.List.{flat_map}
use Rattle.framing.specs.declared.framing.Size.{Size}
use Rattle.framing.specs.Framing.{IsBad, IsPartial}
use Rattle.framing.specs.Cutting.{cut}
use Rattle.framing.specs.Reading.{Reading}
use Rattle.stream_lines.specs.Lines.{Showing}
use Rattle.stream_lines.specs.Pieces.{Stands}
use Rattle.watched_link.specs.Notes.{Event}
use Rattle.link_lines.specs.Laws.{sent_in, taken_in}
use Rattle.link_lines.specs.Lines.{parts_from, text_of}

-- these bytes have come and their whole messages are shown, and the next may begin; or no message begins behind them
abbrev pub StandsFor : {S : Type 0} → (List ℕ → Size) → (Showing → List (List ℕ) → S → Type 0) → Showing → (bytes : List ℕ) → (good : Bool) → Reading → S → ℕ → Type 0
StandsFor size shows shown bytes true cutter state place = Stands size shows shown bytes cutter state place
StandsFor size shows shown bytes false cutter state place = IsBad size (cut size bytes).rest

-- where the next may begin, the rest isn't whole
abbrev pub IsReady : (List ℕ → Size) → (good : Bool) → Reading → Type 0
IsReady size good cutter = good ≡ true → IsPartial size cutter.rest

-- places fit their type
pub record AreShort (events : List Event) : Type 0 where
  pub sent : length (sent_in events) < 2 ^ 64
  pub taken : length (taken_in events) < 2 ^ 64

-- these events are still to be told, and their lines behind the text so far are the whole text; each direction stands for what went over it since the link was opened
pub record Telling {S : Type 0} (size : List ℕ → Size) (shows : Showing → List (List ℕ) → S → Type 0) (shown : Showing) (whole : List ℕ) (events : List Event) (text path : List ℕ)
    (sent_good : Bool) (sent_cutter : Reading) (sent_state : S) (sent_place : ℕ) (taken_good : Bool) (taken_cutter : Reading) (taken_state : S) (taken_place : ℕ) : Type 0 where
  pub sent : List ℕ
  pub taken : List ℕ
  pub sent_stands : StandsFor size shows shown sent sent_good sent_cutter sent_state sent_place
  pub taken_stands : StandsFor size shows shown taken taken_good taken_cutter taken_state taken_place
  pub sent_short : length sent + length (sent_in events) < 2 ^ 64
  pub taken_short : length taken + length (taken_in events) < 2 ^ 64
  pub said : text ++ flat_map text_of (parts_from size shown path sent taken events) ≡ whole
