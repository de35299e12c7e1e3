-- What the code's calls do, as what the session has heard. `size` is the framing of the stream.
use Rattle.std.specs.Prelude.{◌≡◌, ◌⊎◌, ℕ, ◌<◌, ◌≤◌, List, [], ◌∷◌, ◌++◌, length, slice_range, Option, Result, Ok, Err}
use Rattle.std.specs.List.{concat}
use Rattle.kit_io.specs.Growth.{Grows}
use Rattle.framing.specs.declared.framing.Size.{Size}
use Rattle.framing.specs.Framing.{IsMessage, IsPartial}
use Rattle.framing.specs.Reading.{Reading, StandsFor}
use Rattle.link_io.specs.Calls.{Call}
use Rattle.link_session.specs.Marks.{Placed, Mark, Message, Bad, Quiet, End, Failed, marks_from}
use Rattle.link_session.specs.Waiting.{Outcome, Answered, Fails, Heard, Judge, Wait, Brings, AreNeeded, Waits}
use Rattle.link_session.specs.Asking.{Asked, Asks}
use Rattle.link_session.specs.declared.fault.SessionFault.{SessionFault}
use Rattle.link_session.specs.declared.asking.Reply.{Reply}
use Rattle.link_session.specs.declared.incoming.Found.{Found}
use Rattle.link_session.specs.declared.incoming.Next.{Next}
use Rattle.link_session.specs.declared.incoming.Next.TheVariants as next
use Rattle.link_session.specs.declared.mark.Mark as declared
use Rattle.link_session.specs.declared.mark.Mark.TheVariants as mark
use Rattle.link_session.specs.declared.waiting.Meaning.{Meaning}
use Rattle.link_session.specs.declared.waiting.Meaning.TheVariants as meaning

-- ---- what has come in ----

-- the cutter has given what was taken, up to what is left
pub record Stands (size : List ℕ → Size) (cutter : Reading) (heard : Heard) : Type 0 where
  pub given : List (List ℕ)
  pub stands : StandsFor size cutter heard.taken given
  pub left : heard.left ≡ marks_from size (length (concat given)) cutter.rest

-- the bytes of a message that was given
abbrev pub found_in : Reading → Found → List ℕ
found_in cutter found = slice_range cutter.handed found.span.start found.span.end

abbrev pub placed_in : Reading → Found → Placed
placed_in cutter found = record { place = found.place; bytes = found_in cutter found }

-- a whole message stands there
pub record IsGiven (size : List ℕ → Size) (cutter : Reading) (found : Found) : Type 0 where
  pub ordered : found.span.start ≤ found.span.end
  pub within : found.span.end ≤ length cutter.handed
  pub message : IsMessage size (found_in cutter found)

-- the first of these marks
pub record IsFirst (size : List ℕ → Size) (marks : List Mark) (first : Mark) (taken : List ℕ) (cutter : Reading) : Type 0 where
  pub later : List Mark
  pub are : marks ≡ first ∷ later
  pub stands : Stands size cutter (record { taken = taken; left = later })

-- the next mark of what has come in
abbrev pub FindsNext : (size : List ℕ → Size) → Heard → Next → Reading → Type 0
FindsNext size heard (next.Message found) cutter = IsFirst size heard.left (Message (placed_in cutter found)) heard.taken cutter
FindsNext size heard (next.Bad place) cutter = heard.left ≡ Bad place ∷ []
FindsNext size heard next.NeedMore cutter = (heard.left ≡ []) × Stands size cutter heard

-- a message can be read, and where there is none bytes can be added
abbrev pub IsReady : (size : List ℕ → Size) → (longest : ℕ) → Next → Reading → Type 0
IsReady size longest (next.Message found) cutter = IsGiven size cutter found
IsReady size longest (next.Bad place) cutter = Unit {0}
IsReady size longest next.NeedMore cutter = IsPartial size cutter.rest × (length cutter.rest < longest)

-- ---- the next mark ----

abbrev pub mark_in : Reading → declared.Mark → Mark
mark_in cutter (mark.Message found) = Message (placed_in cutter found)
mark_in cutter (mark.Bad place) = Bad place
mark_in cutter mark.Quiet = Quiet
mark_in cutter mark.End = End
mark_in cutter mark.Failed = Failed

-- behind bytes that begin no message nothing is looked at
abbrev pub UnlessBad : declared.Mark → Type 0 → Type 0
UnlessBad (mark.Bad place) Holds = Unit {0}
UnlessBad _ Holds = Holds

abbrev pub IsReadable : (size : List ℕ → Size) → declared.Mark → Reading → Type 0
IsReadable size (mark.Message found) cutter = IsGiven size cutter found
IsReadable size _ cutter = Unit {0}

-- takes were made up to the next mark, as few as bring it
pub record Looks (size : List ℕ → Size) (heard : Heard) (mark : declared.Mark) (cutter : Reading) (before after : Option (List Call)) : Type 0 where
  pub takes : List Call
  pub later : Heard
  pub brings : Brings size heard takes (mark_in cutter mark ∷ []) later
  pub needed : AreNeeded size heard takes []
  pub stands : UnlessBad mark (Stands size cutter later)
  pub grows : Grows before takes after

-- ---- the answer ----

-- one who waits hears a message behind others, which is this to it
abbrev pub Hears : Judge → (HasHeard : List Placed → Type 0) → (HasAnswer : List Placed → Placed → Type 0) → List Placed → Placed → Meaning → Type 0
Hears judge HasHeard HasAnswer before message meaning.NoAnswer = (judge before message ≡ meaning.NoAnswer) × HasHeard (before ++ message ∷ [])
Hears judge HasHeard HasAnswer before message meaning.Answer = (judge before message ≡ meaning.Answer) × HasAnswer before message
Hears judge HasHeard HasAnswer before message (meaning.Broken place) = judge before message ≡ meaning.Broken place

abbrev pub outcome_in : List Placed → Reading → Result Found SessionFault → Outcome
outcome_in before cutter (Ok found) = Answered before (placed_in cutter found)
outcome_in before cutter (Err why) = Fails why

abbrev pub IfAnswered : Result Found SessionFault → (Found → Type 0) → Type 0
IfAnswered (Ok found) Holds = Holds found
IfAnswered (Err why) Holds = Unit {0}

-- there is an answer behind these messages, and the session can go on
pub record HasAnswered (size : List ℕ → Size) (HasAnswer : List Placed → Placed → Type 0) (before : List Placed) (cutter : Reading) (later : Heard) (found : Found) : Type 0 where
  pub answer : HasAnswer before (placed_in cutter found)
  pub stands : Stands size cutter later

-- takes were made up to the answer
pub record WaitsFor
    (size : List ℕ → Size)
    (wait : Wait)
    (HasAnswer : List Placed → Placed → Type 0)
    (heard : Heard)
    (result : Result Found SessionFault)
    (cutter : Reading)
    (before after : Option (List Call)) : Type 0 where
  pub takes : List Call
  pub later : Heard
  pub passed : List Placed
  pub waits : Waits size wait heard takes (outcome_in passed cutter result) later
  pub answered : IfAnswered result (HasAnswered size HasAnswer passed cutter later)
  pub grows : Grows before takes after

-- a request was made, and its answer was waited for
pub record AsksFor (asked : Asked) (HasAnswer : List Placed → Placed → Type 0) (heard : Heard) (result : Result Found SessionFault) (cutter : Reading) (before after : Option (List Call)) : Type 0 where
  pub calls : List Call
  pub later : Heard
  pub passed : List Placed
  pub asks : Asks asked heard calls (outcome_in passed cutter result) later
  pub answered : IfAnswered result (HasAnswered asked.size HasAnswer passed cutter later)
  pub grows : Grows before calls after

-- ---- what an answer says ----

-- what the outcome of a request comes to: an answer that reads as `Reads` says, or none, or one that doesn't read
abbrev pub Says : {A : Type 0} → (size : List ℕ → Size) → (Reads : List Placed → Placed → Result A SessionFault → Type 0) → List Placed → Outcome → Result (Reply A) SessionFault → Reading → Heard → Type 0
Says size Reads passed outcome (Ok reply) cutter later =
    (outcome ≡ Answered passed (placed_in cutter reply.found)) × Reads passed (placed_in cutter reply.found) (Ok reply.answer) × Stands size cutter later
Says size Reads passed outcome (Err why) cutter later = (outcome ≡ Fails why) ⊎ ((message : Placed) × (outcome ≡ Answered passed message) × Reads passed message (Err why))

-- a request was made, and its answer was read
pub record RepliesTo {A : Type 0}
    (asked : Asked)
    (Reads : List Placed → Placed → Result A SessionFault → Type 0)
    (heard : Heard)
    (result : Result (Reply A) SessionFault)
    (cutter : Reading)
    (before after : Option (List Call)) : Type 0 where
  pub calls : List Call
  pub outcome : Outcome
  pub later : Heard
  pub passed : List Placed
  pub asks : Asks asked heard calls outcome later
  pub says : Says asked.size Reads passed outcome result cutter later
  pub grows : Grows before calls after
