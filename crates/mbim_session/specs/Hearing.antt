-- What the code that waits for an answer has heard.
use Rattle.std.specs.Prelude.{◌≡◌, Bool, true, false, List, Some}
use Rattle.mbim_fragments.specs.Assembling.{assembled_of}
use Rattle.link_session.specs.Marks.{Placed}
use Rattle.mbim_session.specs.declared.command_answer.CommandAnswer.{CommandAnswer}
use Rattle.mbim_session.specs.Requests.{bytes_of, begins_at, first_place, is_error, pieces}
use Rattle.mbim_session.specs.Answers.{body_with}

-- the one who waits keeps nothing of an answer
abbrev pub KeepsNothing : List Placed → Placed → Type 0
KeepsNothing before message = Unit {0}

-- the fragments of the answer that came, each of which left it open
pub record HasPieces (answer : CommandAnswer) (pieces : List Placed) : Type 0 where
  pub run : answer.assembly ≡ assembled_of (bytes_of pieces)
  pub first : answer.first ≡ first_place pieces

-- this fragment behind them completes the answer
pub record HasBody (answer : CommandAnswer) (pieces : List Placed) (message : Placed) : Type 0 where
  pub body : answer.body ≡ body_with pieces message
  pub first : answer.first ≡ Some (begins_at pieces message)

abbrev pub UnlessError : (error : Bool) → Type 0 → Type 0
UnlessError true Holds = Unit {0}
UnlessError false Holds = Holds

-- the answer to a command is there: an error, or the last of its fragments
abbrev pub HasReply : CommandAnswer → List Placed → Placed → Type 0
HasReply answer before message = UnlessError (is_error answer.number message.bytes) (HasBody answer (pieces answer.number before) message)
