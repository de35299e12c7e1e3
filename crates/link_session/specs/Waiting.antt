-- Which mark ends the wait for an answer.
-- Source of the limits: this project's own.
use Rattle.std.specs.Prelude.{◌≡◌, ◌⊎◌, ℕ, ◌+◌, ◌*◌, ◌-◌, ◌<◌, ◌≤◌, Bool, true, false, ◌==◌, if◌then◌else◌, List, [], ◌∷◌, ◌++◌, All, count_by, Option, Some, None}
use Rattle.framing.specs.declared.framing.Size.{Size}
use Rattle.link_io.specs.Calls.{Call}
use Rattle.link_session.specs.Marks.{Placed, Mark, Message, Bad, Quiet, End, Failed, IsTake, messages_in, take_marks, bytes_in}
use Rattle.link_session.specs.declared.waiting.Meaning.{Meaning}
use Rattle.link_session.specs.declared.waiting.Meaning.TheVariants as meaning
use Rattle.link_session.specs.declared.fault.SessionFault.{SessionFault}
use Rattle.link_session.specs.declared.fault.SessionFault.TheVariants as fault

-- so many messages that don't complete the answer are too many
abbrev pub most_messages : ℕ
most_messages = 65536

abbrev pub is_quiet : Mark → Bool
is_quiet Quiet = true
is_quiet _ = false

abbrev pub is_message : Mark → Bool
is_message (Message message) = true
is_message _ = false

-- what a message is to the one who waits, behind the messages that came before it since the request
abbrev pub Judge : Type 0
Judge = List Placed → Placed → Meaning

-- one who waits: what a message is to it, and how many quiet takes without an answer it lets pass; one more is too many
pub record Wait : Type 0 where
  pub judge : Judge
  pub patience : ℕ

-- a timeout of so many seconds is over with the last of its quiet takes, of 100 ms each
abbrev pub patience_of : ℕ → ℕ
patience_of seconds = 10 * seconds - 1

abbrev pub waiting : Judge → (seconds : ℕ) → Wait
waiting judge seconds = record { judge = judge; patience = patience_of seconds }

pub data Outcome : Type 0 where
  -- this message, behind those before it, completes the answer
  Answered : (before : List Placed) (message : Placed) → Outcome
  Fails : (fault : SessionFault) → Outcome

-- what a message decides that is this, behind marks, if anything
abbrev pub decided : List Mark → Placed → Meaning → Option Outcome
decided before message meaning.Answer = Some (Answered (messages_in before) message)
decided before message (meaning.Broken place) = Some (Fails (fault.Broken place))
decided before message meaning.NoAnswer = if count_by is_message before + 1 == most_messages then Some (Fails fault.Flooded) else None

-- what a mark decides behind those before it, if anything
abbrev pub decision : Wait → List Mark → Mark → Option Outcome
decision wait before (Message message) = decided before message (wait.judge (messages_in before) message)
decision wait before (Bad place) = Some (Fails (fault.Broken place))
decision wait before Quiet = if count_by is_quiet before == wait.patience then Some (Fails fault.TimedOut) else None
decision wait before End = Some (Fails fault.LinkEnd)
decision wait before Failed = Some (Fails fault.LinkFault)

abbrev pub IsPassed : Judge → List Mark → Mark → Type 0
IsPassed judge before (Message message) = judge (messages_in before) message ≡ meaning.NoAnswer
IsPassed judge before Quiet = Unit {0}
IsPassed judge before _ = ⊥

-- each of these marks is passed, behind some marks and those before it
abbrev pub ArePassed : Judge → List Mark → List Mark → Type 0
ArePassed judge before [] = Unit {0}
ArePassed judge before (mark ∷ marks) = IsPassed judge before mark × ArePassed judge (before ++ mark ∷ []) marks

-- no mark among these decides
pub record AreUndecided (wait : Wait) (marks : List Mark) : Type 0 where
  pub each : ArePassed wait.judge [] marks
  pub quiets : count_by is_quiet marks ≤ wait.patience
  pub messages : count_by is_message marks < most_messages

-- ---- takes ----

-- the bytes that a session has taken, and the marks of them that nothing has looked at
pub record Heard : Type 0 where
  pub taken : List ℕ
  pub left : List Mark

abbrev pub nothing_heard : Heard
nothing_heard = record { taken = []; left = [] }

-- what there is to look at with these takes
abbrev pub marks_with : (size : List ℕ → Size) → Heard → List Call → List Mark
marks_with size heard takes = heard.left ++ take_marks size heard.taken takes

-- none of the takes could be left out: those before the last bring no more than these marks
abbrev pub AreNeeded : (size : List ℕ → Size) → Heard → List Call → List Mark → Type 0
AreNeeded size heard takes marks =
    (takes ≡ []) ⊎ ((earlier : List Call) × (last : Call) × (more : List Mark) × (takes ≡ earlier ++ last ∷ []) × (marks ≡ marks_with size heard earlier ++ more))

-- takes, and no other calls, that bring these marks, and what is left then
pub record Brings (size : List ℕ → Size) (heard : Heard) (takes : List Call) (brought : List Mark) (later : Heard) : Type 0 where
  pub each : All IsTake takes
  pub marks : marks_with size heard takes ≡ brought ++ later.left
  pub taken : later.taken ≡ heard.taken ++ bytes_in takes

-- the wait for the answer to a request: the first mark that decides, and as few takes as bring it
pub record Waits (size : List ℕ → Size) (wait : Wait) (heard : Heard) (takes : List Call) (outcome : Outcome) (later : Heard) : Type 0 where
  pub before : List Mark
  pub mark : Mark
  pub brings : Brings size heard takes (before ++ mark ∷ []) later
  pub undecided : AreUndecided wait before
  pub decided_is : decision wait before mark ≡ Some outcome
  pub needed : AreNeeded size heard takes before
