-- What a client of the MBIM proxy would meet if it were alone with the modem.
-- Its own bytes come message by message. The modem answers its commands under the numbers that these have where it is alone, and tells it what it
-- subscribes to. What the proxy itself asks of the modem differs from what it asks beside others: so the modem's answers to that aren't kept. Where the
-- client is alone, the modem takes each list of subscriptions at once, and answers the request to open as the client's own was answered beside the others.
-- Lists of events and of facts have the newest first. `past` is the history of all just before an item, and `own` the client's history so far.
use Rattle.std.specs.Prelude.{ℕ, max, Bool, true, false, not, ◌&&◌, ◌==◌, if◌then◌else◌, List, [], ◌∷◌, ◌++◌, length, drop, Option, Some, None}
use Rattle.std.specs.List.{list_any}
use Rattle.kit_bytes.specs.declared.services.TheConstants.{BASIC_CONNECT}
use Rattle.mbim_frame.specs.declared.kind.MessageKind.TheVariants.{OpenDone}
use Rattle.mbim_frame.specs.declared.status.TheConstants.{SUCCESS, FAILURE}
use Rattle.mbim_frame.specs.Frame.{size_of, mbim_cut}
use Rattle.mbim_frame.specs.Head.{kind_of, is_kind, with_number}
use Rattle.mbim_frame.specs.Fragment.{body_of}
use Rattle.mbim_frame.specs.Bodies.{uuid_of, cid_of}
use Rattle.mbim_frame.specs.Writing.{open_done, plain_done}
use Rattle.mbim_fragments.specs.Splitting.{split}
use Rattle.proxy_history.specs.Events.{Event}
use Rattle.proxy_history.specs.Streams.{messages_of_piece}
use Rattle.proxy_history.specs.Items.{Item, Says, ModemSays, ModemIsLost, ClockShows}
use Rattle.proxy_history.specs.Facts.{Fact, Request, Judged, OpeningEnded, Ready, Waits}
use Rattle.proxy_history.specs.Decision.{Decision, Replies}
use Rattle.proxy_history.specs.Connections.{contains, is_present}
use Rattle.proxy_history.specs.Requests.{first_where, in_use, pending, is_pending}
use Rattle.proxy_history.specs.Modem.{now}
use Rattle.proxy_history.specs.Unanswered.{due}
use Rattle.proxy_solo.specs.Alone.{Alone}
use Rattle.proxy_solo.specs.Answers.{answer_alone}
use Rattle.proxy_solo.specs.Solo as alone
use Rattle.mbim_proxy.specs.Services.{subscribe_list_cid}
use Rattle.mbim_proxy.specs.Setup.{Setup}
use Rattle.mbim_proxy.specs.Step.{known_now}
use Rattle.mbim_proxy.specs.ModemStates.{is_own_open, is_own}
use Rattle.mbim_proxy.specs.Lists.{receivers, waiting}
use Rattle.mbim_proxy.specs.Clients.{decision_on}
use Rattle.mbim_proxy.specs.FromModem.{Heard, IsDone, IsOpenDone, IsError, IsIndication, IsNeither, heard_as, first_answered_by}
use Rattle.mbim_proxy.specs.History.{mbim_protocol}

-- ---- the client's bytes, cut at the ends of its messages ----

abbrev pub part_if_some : List ℕ → List (List ℕ)
part_if_some [] = []
part_if_some (byte ∷ bytes) = (byte ∷ bytes) ∷ []

-- a piece that makes these messages whole and leaves this rest; `begun` came before of the first of them. One that makes none whole stays as it is.
abbrev pub cut_at_ends : (piece begun : List ℕ) → (messages : List (List ℕ)) → (rest : List ℕ) → List (List ℕ)
cut_at_ends piece begun [] rest = piece ∷ []
cut_at_ends piece begun (m ∷ messages) rest = drop (length begun) m ∷ messages ++ part_if_some rest

abbrev pub parts : (before piece : List ℕ) → List (List ℕ)
parts before piece = cut_at_ends piece (mbim_cut before).rest (messages_of_piece size_of before piece) (mbim_cut (before ++ piece)).rest

-- ---- what the modem says to the client ----

-- the modem's fragments have at most so many bytes
abbrev pub longest_fragment : ℕ
longest_fragment = 4096

-- a message that came in fragments, in fragments with this number
abbrev pub in_fragments : (number : ℕ) → (message : List ℕ) → List ℕ
in_fragments number m = split (kind_of m) number longest_fragment (body_of m)

abbrev pub message_if : Bool → List ℕ → Option (List ℕ)
message_if true m = Some m
message_if false m = None

-- by what the message is: an answer to a request of the client, late or not, or an indication that it gets beside the others
abbrev pub heard_alone : Heard → Setup → ℕ → (message : List ℕ) → (past own : List Fact) → Option (List ℕ)
heard_alone IsDone s c m past own = answer_alone in_fragments c (first_answered_by IsDone m (in_use past)) m (in_use own)
heard_alone IsError s c m past own = answer_alone with_number c (first_answered_by IsError m (in_use past)) m (in_use own)
heard_alone IsIndication s c m past own = message_if (contains c (receivers s (uuid_of (body_of m)) (cid_of (body_of m)) past)) (in_fragments 0 m)
heard_alone IsOpenDone s c m past own = None
heard_alone IsNeither s c m past own = None

-- ---- the opening ----

-- the proxy's own request to open fails, with an error or with no answer
abbrev pub failed : List ℕ
failed = open_done 0 FAILURE

-- the request that the message answers
abbrev pub answered_by : Heard → (message : List ℕ) → List Fact → Option Request
answered_by IsIndication m past = None
answered_by IsNeither m past = None
answered_by heard m past = first_answered_by heard m (in_use past)

abbrev pub is_waiting_open : Option Request → List Fact → Bool
is_waiting_open None past = false
is_waiting_open (Some r) past = is_own_open r && is_pending r past

-- the OPEN_DONE that tells how an opening ends with this item, where one ends: one that the modem sends, and else one that tells of a failure
abbrev pub ends_opening : Item → List Fact → Option (List ℕ)
ends_opening (ModemSays m) past = message_if (is_waiting_open (answered_by (heard_as m) m past) past) (if is_kind OpenDone m then m else failed)
ends_opening ModemIsLost past = message_if (list_any is_own_open (pending past)) failed
ends_opening (ClockShows time) past = message_if (list_any is_own_open (due (max time (now past)) (pending past))) failed
ends_opening _ past = None

abbrev pub is_ready : Decision → Bool
is_ready (Replies Ready) = true
is_ready _ = false

-- the client asks to open the modem, and beside the others it is open already
abbrev pub finds_it_open : Setup → ℕ → Item → List Fact → Bool
finds_it_open s c (Says d m) past = d == c && is_present c past && is_ready (decision_on s (known_now s c past) m past)
finds_it_open s c _ past = false

-- what comes of the client's request to open with this item
abbrev pub opened_with : Setup → ℕ → Item → List Fact → Option (List ℕ)
opened_with s c item past =
    if finds_it_open s c item past then Some (open_done 0 SUCCESS)
    else if contains c (waiting s past) then ends_opening item past
    else None

-- ---- the proxy's own requests ----

-- an answer to such a request, under the number that it has
abbrev pub answer_to : Option Request → (message : List ℕ) → Option (List ℕ)
answer_to None m = None
answer_to (Some r) m = Some (with_number r.number m)

abbrev pub own_open_in : List Fact → Option Request
own_open_in own = first_where is_own_open (pending own)

abbrev pub own_list_in : List Fact → Option Request
own_list_in own = first_where (λ r. is_own r && not (is_own_open r)) (pending own)

-- the list is taken
abbrev pub list_taken : List ℕ
list_taken = plain_done 0 (record { uuid = BASIC_CONNECT; cid = subscribe_list_cid; status = SUCCESS })

-- ---- what MBIM brings to being alone ----

abbrev pub hears_if : Option (List ℕ) → Setup → ℕ → Item → (past own : List Fact) → Option (List ℕ)
hears_if (Some m) s c item past own = answer_to (own_open_in own) m
hears_if None s c (ModemSays m) past own = heard_alone (heard_as m) s c m past own
hears_if None s c _ past own = None

-- where the item answers the client's request to open, the modem says so to the proxy that asked for it; else it says to the client what it hears beside others
abbrev pub hears : Setup → ℕ → Item → (past own : List Fact) → Option (List ℕ)
hears s c item past own = hears_if (opened_with s c item past) s c item past own

-- a request to open that an open modem answers reads as one that waits, and is then answered
abbrev pub restated : Fact → List Fact
restated (Judged c place m Ready) = OpeningEnded SUCCESS (c ∷ []) ∷ Judged c place m Waits ∷ []
restated fact = fact ∷ []

abbrev pub mbim_alone : Setup → Alone
mbim_alone s = record {
  parts = parts;
  hears = hears s;
  answers = λ own. answer_to (own_list_in own) list_taken;
  restated = restated;
}

-- what the client would meet alone, of all these events
abbrev pub solo : Setup → ℕ → List Event → List Event
solo s c events = alone.solo (mbim_protocol s) (mbim_alone s) c events
