-- The bytes for one client of an MBIM proxy: those of each entry of its view.
-- They are made from the view and the setup alone.
use Rattle.std.specs.Prelude.{ℕ, List, [], if◌then◌else◌}
use Rattle.mbim_frame.specs.declared.kind.MessageKind.TheVariants as kind
use Rattle.mbim_frame.specs.declared.status.TheConstants.{SUCCESS, BUSY, FAILURE}
use Rattle.mbim_frame.specs.Kinds.{kind_number}
use Rattle.mbim_frame.specs.Head.{kind_of, is_kind, number_of, with_number}
use Rattle.mbim_frame.specs.Fragment.{body_of}
use Rattle.mbim_frame.specs.Bodies.{uuid_of, cid_of, done_text}
use Rattle.mbim_frame.specs.Writing.{open_done, close_done, function_error}
use Rattle.mbim_fragments.specs.Splitting.{split}
use Rattle.proxy_history.specs.Facts.{Fact, Own, Share, Foreign, Away, Full, Forward, Ready, Waits}
use Rattle.proxy_history.specs.View.{Entry, Said, Response, Refused, Indication, OpenedWith, Shut, Taking, End}
use Rattle.proxy_history.specs.Wording.{Wording}
use Rattle.proxy_history.specs.Noting as noting
use Rattle.mbim_services.specs.SubscribeLists.{list_buffer}
use Rattle.mbim_proxy.specs.Setup.{Setup}
use Rattle.mbim_proxy.specs.Known.{Known, Ask, fresh, ask_at, waiting_number}
use Rattle.mbim_proxy.specs.OwnReplies.{OwnReply, Silent, Wrong, NotOpened, Closes, Refuses, Configures, Subscribes, own_reply}
use Rattle.mbim_proxy.specs.Step.{command_with, blank, step}

-- a message with this body, in fragments of the client's length
abbrev pub in_fragments : Known → (kind number : ℕ) → (body : List ℕ) → List ℕ
in_fragments known kind number body = split kind number known.fragment body

-- the answer to a command of this service and with this CID
abbrev pub done : Known → (number : ℕ) → (uuid : List ℕ) → (cid status : ℕ) → (buffer : List ℕ) → List ℕ
done known number uuid cid status buffer = in_fragments known (kind_number kind.CommandDone) number (done_text (record { uuid = uuid; cid = cid; status = status }) buffer)

-- to the command with this body
abbrev pub done_to : Known → (number : ℕ) → (command : List ℕ) → (status : ℕ) → (buffer : List ℕ) → List ℕ
done_to known number command status buffer = done known number (uuid_of command) (cid_of command) status buffer

abbrev pub reply_text : Known → (number : ℕ) → OwnReply → List ℕ
reply_text known number Silent = []
reply_text known number (Wrong code) = function_error number code
reply_text known number (NotOpened status) = open_done number status
reply_text known number Closes = close_done number SUCCESS
reply_text known number (Refuses command status) = done_to known number command status []
reply_text known number (Configures command) = done_to known number command SUCCESS []
reply_text known number (Subscribes command list) = done_to known number command SUCCESS (list_buffer list)

-- no number or no room is there
abbrev pub full_text : Setup → Known → (message : List ℕ) → List ℕ
full_text s known m = if is_kind kind.Open m then open_done (number_of m) BUSY else done_to known (number_of m) (command_with s known m) BUSY []

-- as many commands of the client wait as may
abbrev pub SHARE_PASSED : ℕ
SHARE_PASSED = 13

abbrev pub share_text : Setup → Known → (message : List ℕ) → List ℕ
share_text s known m = done_to known (number_of m) (command_with s known m) SHARE_PASSED []

-- the modem's answer, with the client's own number
abbrev pub response_text : Known → Ask → (message : List ℕ) → List ℕ
response_text known ask m =
    if is_kind kind.FunctionError m then with_number ask.number m
    else in_fragments known (kind_of m) ask.number (body_of m)

-- no answer of the modem comes
abbrev pub refusal_text : Known → Ask → List ℕ
refusal_text known ask = done known ask.number ask.uuid ask.cid FAILURE []

-- the bytes of an entry, from what the entries before it tell; no message uses a client id
abbrev pub text_as : Setup → Known → Entry → List ℕ
text_as s known (Said m Own) = reply_text known (number_of m) (own_reply s known m)
text_as s known (Said m Share) = share_text s known m
text_as s known (Said m Foreign) = []
text_as s known (Said m Away) = open_done (number_of m) FAILURE
text_as s known (Said m Full) = full_text s known m
text_as s known (Said m Forward) = []
text_as s known (Said m Ready) = open_done (number_of m) SUCCESS
text_as s known (Said m Waits) = []
text_as s known (Response place m) = response_text known (ask_at place known.asks) m
text_as s known (Refused place cause) = refusal_text known (ask_at place known.asks)
text_as s known (Indication m) = in_fragments known (kind_number kind.IndicateStatus) 0 (body_of m)
text_as s known (OpenedWith status) = open_done (waiting_number known.waits) status
text_as s known Shut = []
text_as s known (Taking count) = []
text_as s known (End why) = []

abbrev pub mbim_wording : Setup → Wording Known
mbim_wording s = record {
  blank = blank;
  fresh = fresh s;
  step = step s;
  text = λ known entries entry. text_as s known entry;
}

-- a fact, and the ends of the connections that have no room for what it brings them
abbrev pub note : Setup → Fact → List Fact → List Fact
note s fact past = noting.note s.limits (mbim_wording s) fact past
