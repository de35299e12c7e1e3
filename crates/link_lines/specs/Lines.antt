-- The lines that tell what went over a link.
use Rattle.std.specs.Prelude.{ℕ, ◌==◌, Bool, true, false, List, [], ◌∷◌, ◌++◌, length, drop, codes}
use Rattle.std.specs.List.{flat_map}
use Rattle.kit_bytes.specs.declared.kind.Kind.{Kind}
use Rattle.message_tables.specs.Messages.{MessageForm}
use Rattle.link_io.specs.Target.{Address, AtSocket, AtBridge}
use Rattle.link_io.specs.Calls.{Opened, Sent, Took}
use Rattle.watched_link.specs.Notes.{Event, Called, Said}
use Rattle.framing.specs.declared.framing.Size.{Size}
use Rattle.stream_lines.specs.Lines.{Showing, lines_by}
use Rattle.dissect.specs.Stream.{size_by, shown_by}

-- ---- what is told ----

-- the lines of what went out or came in with a call, or why a call failed on the way to a path
pub data Part : Type 0 where
  Went : (lines : List ℕ) → Part
  Came : (lines : List ℕ) → Part
  Fault : (path words : List ℕ) → Part

-- the lines that a stream has more with a piece behind it
abbrev pub added : (List ℕ → Size) → Showing → (before piece : List ℕ) → List ℕ
added size shown before piece = drop (length (lines_by size shown before)) (lines_by size shown (before ++ piece))

abbrev pub path_of : Address → List ℕ
path_of (AtSocket path) = path
path_of (AtBridge path) = path

-- what events come to on a link that was opened to a path, behind what was sent and what was taken since then; a `send` that failed adds nothing, since nobody knows how much of it went
abbrev pub parts_from : (List ℕ → Size) → Showing → (path sent taken : List ℕ) → List Event → List Part
parts_from size shown path sent taken [] = []
parts_from size shown path sent taken (Called (Opened address ok) ∷ events) = parts_from size shown (path_of address) [] [] events
parts_from size shown path sent taken (Called (Sent bytes true) ∷ events) = Went (added size shown sent bytes) ∷ parts_from size shown path (sent ++ bytes) taken events
parts_from size shown path sent taken (Called (Took bytes) ∷ events) = Came (added size shown taken bytes) ∷ parts_from size shown path sent (taken ++ bytes) events
parts_from size shown path sent taken (Said words ∷ events) = Fault path words ∷ parts_from size shown path sent taken events
parts_from size shown path sent taken (_ ∷ events) = parts_from size shown path sent taken events

-- what all events of a link come to
abbrev pub parts : Kind → List MessageForm → List Event → List Part
parts kind tables events = parts_from (size_by kind) (shown_by kind tables) [] [] [] events

-- ---- in lines ----

-- a text that begins a line or goes on in one
abbrev pub marked_from : (mark : List ℕ) → Bool → List ℕ → List ℕ
marked_from mark begins [] = []
marked_from mark true (byte ∷ text) = mark ++ byte ∷ marked_from mark (byte == 10) text
marked_from mark false (byte ∷ text) = byte ∷ marked_from mark (byte == 10) text

-- a text with a mark before each of its lines
abbrev pub marked : (mark text : List ℕ) → List ℕ
marked mark text = marked_from mark true text

abbrev pub text_of : Part → List ℕ
text_of (Went lines) = marked (codes "> ") lines
text_of (Came lines) = marked (codes "< ") lines
text_of (Fault path words) = codes "! " ++ path ++ codes ": " ++ words ++ codes "\n"

-- the lines of all events of a link
abbrev pub lines_of : Kind → List MessageForm → List Event → List ℕ
lines_of kind tables events = flat_map text_of (parts kind tables events)
