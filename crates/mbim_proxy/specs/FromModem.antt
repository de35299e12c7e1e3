-- What a message of the modem and a request without an answer add to the history. A list of facts has the newest first.
-- Source: the USB-IF MBIM specification 1.0, section 9.4, for the kinds of message; an answer has the number of its request.
use Rattle.std.specs.Prelude.{ℕ, Bool, true, false, not, ◌&&◌, ◌==◌, List, ◌∷◌, length, Option, Some, None, if◌then◌else◌}
use Rattle.mbim_frame.specs.declared.kind.MessageKind.TheVariants.{OpenDone, CommandDone, FunctionError, IndicateStatus}
use Rattle.mbim_frame.specs.declared.status.TheConstants.{FAILURE}
use Rattle.mbim_frame.specs.Numbers.{u32_at}
use Rattle.mbim_frame.specs.Head.{is_kind, number_of}
use Rattle.mbim_frame.specs.Fragment.{body_of}
use Rattle.mbim_frame.specs.Bodies.{uuid_of, cid_of, is_done, is_indication}
use Rattle.proxy_history.specs.Facts.{Request, Fact, Answered, Late, Indicated, Stray, OpeningEnded, SessionsClosed}
use Rattle.proxy_history.specs.Connections.{present}
use Rattle.proxy_history.specs.Requests.{first_where, in_use, is_pending}
use Rattle.mbim_proxy.specs.Setup.{Setup}
use Rattle.mbim_proxy.specs.Step.{blank}
use Rattle.mbim_proxy.specs.Text.{note}
use Rattle.mbim_proxy.specs.ModemStates.{is_own_open}
use Rattle.mbim_proxy.specs.Lists.{receivers, waiting}

-- ---- what a message is ----

pub data Heard : Type 0 where
  -- the answer to a command, the answer to a request to open, and an error in place of either
  IsDone : Heard
  IsOpenDone : Heard
  IsError : Heard
  IsIndication : Heard
  -- it is of no use here, or out of form
  IsNeither : Heard

abbrev pub heard_if : Bool → Heard → Heard
heard_if true heard = heard
heard_if false heard = IsNeither

abbrev pub heard_as : (message : List ℕ) → Heard
heard_as m =
    if is_kind CommandDone m then heard_if (is_done (body_of m)) IsDone
    else if is_kind OpenDone m then heard_if (length m == 16) IsOpenDone
    else if is_kind FunctionError m then heard_if (length m == 16) IsError
    else if is_kind IndicateStatus m then heard_if (is_indication (body_of m)) IsIndication
    else IsNeither

-- ---- the opening ends ----

abbrev pub end_opening : Setup → (status : ℕ) → List Fact → List Fact
end_opening s status past = note s (OpeningEnded status (waiting s past)) past

-- where the request was the proxy's own to open
abbrev pub end_opening_by : Setup → Request → (status : ℕ) → List Fact → List Fact
end_opening_by s r status past = if is_own_open r then end_opening s status past else past

-- an OPEN_DONE has a status; an error in its place counts as a failure
abbrev pub opening_status : (message : List ℕ) → ℕ
opening_status m = if is_kind OpenDone m then u32_at m 12 else FAILURE

-- ---- answers ----

-- an OPEN_DONE is for the proxy's own request to open, a COMMAND_DONE for every other request
abbrev pub is_for : Heard → Request → Bool
is_for IsDone r = not (is_own_open r)
is_for IsOpenDone r = is_own_open r
is_for _ r = true

abbrev pub is_answered_by : Heard → (message : List ℕ) → Request → Bool
is_answered_by heard m r = r.number == number_of m && is_for heard r

abbrev pub first_answered_by : Heard → (message : List ℕ) → List Request → Option Request
first_answered_by heard m requests = first_where (is_answered_by heard m) requests

-- the second argument says whether the request still waits
abbrev pub answer_or_late : Setup → Bool → Request → (message : List ℕ) → List Fact → List Fact
answer_or_late s true r m past = end_opening_by s r (opening_status m) (note s (Answered r m) past)
answer_or_late s false r m past = Late r ∷ past

abbrev pub respond : Setup → Option Request → (message : List ℕ) → List Fact → List Fact
respond s None m past = Stray ∷ past
respond s (Some r) m past = answer_or_late s (is_pending r past) r m past

-- ---- indications ----

-- an indication has no number
abbrev pub indicate : Setup → (message : List ℕ) → List Fact → List Fact
indicate s m past = note s (Indicated (blank m) (receivers s (uuid_of (body_of m)) (cid_of (body_of m)) past)) past

-- ---- every message of the modem ----

abbrev pub hear_as : Setup → Heard → (message : List ℕ) → List Fact → List Fact
hear_as s IsNeither m past = Stray ∷ past
hear_as s IsIndication m past = indicate s m past
hear_as s heard m past = respond s (first_answered_by heard m (in_use past)) m past

abbrev pub hear_modem : Setup → (message : List ℕ) → List Fact → List Fact
hear_modem s m past = hear_as s (heard_as m) m past

-- ---- requests that get no answer ----

-- the fact says why; where the proxy's own request to open gets none, the opening fails
abbrev pub refuse : Setup → Fact → Request → List Fact → List Fact
refuse s fact r past = end_opening_by s r FAILURE (note s fact past)

-- they are refused in order of forwarding
abbrev pub in_order : List Request → List Request
in_order requests = requests

-- a modem that is lost has no open sessions
abbrev pub close : List Fact → List Fact
close past = SessionsClosed (present past) ∷ past
