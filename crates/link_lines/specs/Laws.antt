-- Why these lines may be believed: those of each direction are what `dissect` prints of its stream.
use Rattle.std.specs.Prelude.{◌≡◌, ℕ, zero, suc, ◌==◌, if◌then◌else◌, Bool, true, List, [], ◌∷◌, ◌++◌, length}
use Rattle.kit_bytes.specs.declared.kind.Kind.{Kind}
use Rattle.message_tables.specs.Messages.{MessageForm}
use Rattle.link_io.specs.Target.{Address}
use Rattle.link_io.specs.Calls.{Opened, Sent, Took}
use Rattle.watched_link.specs.Notes.{Event, Called}
use Rattle.dissect.specs.Stream.{lines}
use Rattle.link_lines.specs.Lines.{Part, Went, Came, parts, marked}

-- the bytes that were sent, and those that were taken
abbrev pub sent_in : List Event → List ℕ
sent_in [] = []
sent_in (Called (Sent bytes true) ∷ events) = bytes ++ sent_in events
sent_in (_ ∷ events) = sent_in events

abbrev pub taken_in : List Event → List ℕ
taken_in [] = []
taken_in (Called (Took bytes) ∷ events) = bytes ++ taken_in events
taken_in (_ ∷ events) = taken_in events

-- the link isn't opened
abbrev pub OpensNone : List Event → Type 0
OpensNone [] = Unit {0}
OpensNone (Called (Opened address ok) ∷ events) = ⊥
OpensNone (_ ∷ events) = OpensNone events

-- the lines of one direction
abbrev pub went : List Part → List ℕ
went [] = []
went (Went lines ∷ parts) = lines ++ went parts
went (_ ∷ parts) = went parts

abbrev pub came : List Part → List ℕ
came [] = []
came (Came lines ∷ parts) = lines ++ came parts
came (_ ∷ parts) = came parts

-- of a link that is opened once
pub record IsDissected (kind : Kind) (tables : List MessageForm) (address : Address) (ok : Bool) (events : List Event) : Type 0 where
  pub sent : went (parts kind tables (Called (Opened address ok) ∷ events)) ≡ lines kind tables (sent_in events)
  pub taken : came (parts kind tables (Called (Opened address ok) ∷ events)) ≡ lines kind tables (taken_in events)

abbrev pub EachDirectionIsDissected : Type 0
EachDirectionIsDissected = (kind : Kind) (tables : List MessageForm) (address : Address) (ok : Bool) (events : List Event) → OpensNone events → IsDissected kind tables address ok events

-- a text without so many bytes at the beginning of each line, and without the first of these now
abbrev pub unmarked_from : (count now : ℕ) → List ℕ → List ℕ
unmarked_from count now [] = []
unmarked_from count zero (byte ∷ text) = byte ∷ unmarked_from count (if byte == 10 then count else 0) text
unmarked_from count (suc now) (byte ∷ text) = unmarked_from count now text

-- with the marks cut off, a marked text is what it was
abbrev pub MarksComeOff : Type 0
MarksComeOff = (mark text : List ℕ) → unmarked_from (length mark) (length mark) (marked mark text) ≡ text
