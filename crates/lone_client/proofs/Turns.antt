-- Each turn of a client that is alone behind an MBIM proxy. Lists of turns and of events have the newest first.
use Rattle.std.proofs.Common.{◌≡◌, ℕ, ◌+◌, ◌-◌, ◌<◌, ◌≤◌, ◌^◌, Bool, true, false, nat_lt, if◌then◌else◌, List, [], ◌∷◌, ◌++◌, length, None, refl, ap, ap₂, sym, ◌∙◌, arith, subst, append-nil, append_assoc, length-append, lit≤}
use Rattle.std.specs.List.{AllByRecursion, concat}
use Rattle.std.proofs.lemmas.Bool.{eq-eqb}
use Rattle.std.proofs.lemmas.Bool.Decides.{nat_tests}
use Rattle.std.proofs.lemmas.List.{length-take}
use Rattle.kit_bytes.specs.Subscriptions.{Pair}
use Rattle.kit_bytes.specs.Services.{starting_list}
use Rattle.framing.specs.Framing.{IsMessage}
use Rattle.framing.specs.Cutting.{cut_from}
use Rattle.mbim_frame.specs.declared.kind.MessageKind.TheVariants as kind
use Rattle.mbim_frame.specs.declared.status.TheConstants.{SUCCESS}
use Rattle.mbim_frame.specs.Frame.{size_of, mbim_cut}
use Rattle.mbim_frame.specs.Numbers.{u32_at, u32_bytes}
use Rattle.mbim_frame.specs.Kinds.{kind_number}
use Rattle.mbim_frame.specs.Head.{number_of}
use Rattle.mbim_frame.specs.Fragment.{body_of}
use Rattle.mbim_frame.specs.Bodies.{uuid_of, cid_of, done_text}
use Rattle.mbim_frame.specs.Writing.{message_text, open_request, open_done, close_request, close_done, unsplit}
use Rattle.mbim_frame.proofs.Numbers.{u32_at-bytes}
use Rattle.mbim_frame.proofs.Written.{written_is_read}
use Rattle.mbim_fragments.specs.Runs.{Joining, Whole}
use Rattle.mbim_fragments.specs.Assembling.{Assembled, assembled_of, joining_behind, assembled_after, left_by}
use Rattle.mbim_fragments.specs.Assembling as assembling
use Rattle.mbim_fragments.specs.Splitting.{pieces, split}
use Rattle.mbim_fragments.proofs.Cutting.{pieces_are_cut}
use Rattle.mbim_fragments.proofs.Sizes.{length-split, one_part}
use Rattle.proxy_history.specs.Events.{Event, Piece}
use Rattle.proxy_history.specs.Facts.{Fact, Request, EventBegan, Own, Forward, Waits, Judged, Forwarded, ListSent}
use Rattle.proxy_history.specs.Connections.{message_count}
use Rattle.proxy_history.specs.View.{Said, Response}
use Rattle.mbim_proxy.specs.Setup.{Setup, fragment_for}
use Rattle.mbim_proxy.specs.Known.{Known, Ask, ask_at, without_ask}
use Rattle.mbim_proxy.specs.ModemStates.{ModemState, IsShut, IsOpening, IsReady}
use Rattle.mbim_proxy.specs.OwnReplies.{OwnReply, Configures, own_reply, view_decides, is_open_request, is_for_modem, reply_to_joining}
use Rattle.mbim_proxy.specs.Step.{blank, step, with_message, with_reply, command_with}
use Rattle.mbim_proxy.specs.Text.{text_as, reply_text, response_text}
use Rattle.mbim_proxy.specs.Forwarding.{wire_of, own_subscribe}
use Rattle.mbim_proxy.specs.FromModem.{IsDone, IsOpenDone, IsIndication, heard_as, heard_if, is_answered_by}
use Rattle.mbim_proxy.specs.History.{history}
use Rattle.mbim_proxy.specs.OwnList.{finish}
use Rattle.mbim_solo.proofs.Spoken.{SaysOne, answer_says_one, indication_says_one, plain_says_one}
use Rattle.lone_client.specs.Relay.{Answering, Stage, sent_for, asked_then, hear_each}
use Rattle.lone_client.specs.Turns as turns
use Rattle.lone_client.specs.Turns.{Turn, Names, Opens, Commands, Closes, Phase, Joined, Named, Opened, Closed, command_text}
use Rattle.lone_client.specs.MbimLaw as law
use Rattle.lone_client.specs.MbimLaw.{done_bytes, told_bytes, told_messages, IsTold, NamesTheDevice, IsOpened, AsksTheModem, IsClosed}
use Rattle.lone_client.proofs.MbimCalm.{Scene, s, Calm, began}
use Rattle.lone_client.proofs.Saying.{IsFragment, wants_list, more_sent, Begun, begins, said_one, own_calm, own_is_said, add_says, finish_rests}
use Rattle.lone_client.proofs.Forwarding.{command_is_said, command_calm, request, open_is_said, open_calm, opening}
use Rattle.lone_client.proofs.Hearing.{Hears, answer_is_heard, own_is_heard, opened_is_heard, indication_is_heard}
use Rattle.lone_client.proofs.Closing.{own, closes, closed_calm}
use Rattle.lone_client.proofs.Events.{IsPart, Stands, Exchanged, says_so, comes, exchanged, hear_each-append}
use Rattle.lone_client.proofs.Fragments.{one_message, SplitCommand, command_is_split, are_parts, begins_with}

-- ---- how the proxy stands between turns ----

abbrev has_named : Phase → Bool
has_named Joined = false
has_named _ = true

abbrev has_opened : Phase → Bool
has_opened Opened = true
has_opened _ = false

abbrev modem_at : Phase → ModemState
modem_at Joined = IsShut
modem_at Named = IsShut
modem_at _ = IsReady

abbrev listed_at : Phase → List Pair
listed_at Opened = starting_list
listed_at _ = []

abbrev pub known_at : Phase → (sent : ℕ) → List Ask → Known
known_at phase sent asks = record { sent = sent; begun = assembling.fresh; configured = has_named phase; opened = has_opened phase; waits = None; fragment = 4096; list = starting_list; asks = asks }

abbrev pub scene_at : Phase → (sent : ℕ) → List Ask → (last : ℕ) → Scene
scene_at phase sent asks last = record { known = known_at phase sent asks; modem = modem_at phase; listed = listed_at phase; requests = []; last = last; queue = []; waiting = [] }

-- ---- messages ----

pub given_fits : (last : ℕ) → turns.number_after last < 2 ^ 32
given_fits last = elim (nat_lt last (2 ^ 32 - 1)) as (λ b. nat_lt last (2 ^ 32 - 1) ≡ b → (if b then last + 1 else 1) < 2 ^ 32) [
  | true ↦ λ below. grind (arith, nat_tests, below)
  | false ↦ λ above. omega arith
] refl

-- a message without fragments
pub plain_is_message : (kind number : ℕ) (tail : List ℕ) → kind < 2 ^ 32 → number < 2 ^ 32 → length tail ≤ 4 → IsMessage size_of (message_text kind number tail)
plain_is_message kind number tail kind_fits number_fits short = (written_is_read kind number tail kind_fits number_fits (omega (arith, short))).whole

pub number_behind : (number : ℕ) (rest : List ℕ) → number < 2 ^ 32 → u32_at (u32_bytes number ++ rest) 0 ≡ number
number_behind number rest fits = u32_at-bytes number rest fits

pub command_is_cut : (number : ℕ) (command : List ℕ) → number < 2 ^ 32 → length command ≤ 65536 → mbim_cut (command_text number command) ≡ record { messages = pieces (kind_number kind.Command) number 4096 command; rest = [] }
command_is_cut number command fits short = pieces_are_cut (kind_number kind.Command) number 4096 command (omega arith) fits (omega arith) (omega arith) (omega (arith, short))

module _ (device : List ℕ) (time_limit : ℕ) (modem : Answering) where
  abbrev t : Setup
  t = s device time_limit

  abbrev At : Scene → List Fact → Type 0
  At x past = Calm device time_limit x past

  abbrev StandsSo : Scene → List Event → Type 0
  StandsSo x events = Stands device time_limit [] x events

  -- at a stage the client says its turn and gets this
  abbrev pub Taken : Turn → List Turn → List ℕ → Stage → Type 0
  Taken turn before answer stage =
      (sent : ℕ) × (asks : List Ask)
      × Exchanged device time_limit modem stage (turns.text_of turn) answer (record (scene_at (turns.phase_after (turn ∷ before)) sent asks (turns.last_number (turn ∷ before))) { waiting = answer }) (asked_then stage.asked (mbim_cut (turns.asked_under (turns.next_number before) turn)).messages)

  -- what a message that opens no modem changes
  with_fragment : (known : Known) (m : List ℕ) (run : List (List ℕ)) (body : List ℕ) → IsFragment m → known.begun ≡ assembled_of run → joining_behind 65536 (assembled_of run) m ≡ Whole body
      → with_message t m known ≡ record known { sent = known.sent + 1; begun = assembling.fresh }
  with_fragment known m run body is begun whole =
      ap (λ (b : Bool). let k : Known = record known { sent = known.sent + 1; begun = if b then assembled_after 65536 known.begun m else known.begun; fragment = if is_open_request m then fragment_for t (u32_at m 12) else known.fragment } in k) is.fragment
      ∙ ap (λ (b : Bool). let k : Known = record known { sent = known.sent + 1; begun = assembled_after 65536 known.begun m; fragment = if b then fragment_for t (u32_at m 12) else known.fragment } in k) is.no_open
      ∙ ap (λ (a : Assembled). let k : Known = record known { sent = known.sent + 1; begun = assembled_after 65536 a m } in k) begun
      ∙ ap (λ (j : Joining). let k : Known = record known { sent = known.sent + 1; begun = left_by j (assembled_of run) m } in k) whole

  -- ---- the client names the device ----

  module _ (number : ℕ) (command : List ℕ) (before : List Turn) (met : NamesTheDevice device time_limit modem number command before) (sent : ℕ) (asks : List Ask) (stage : Stage) (stands : StandsSo (scene_at Joined sent asks (turns.last_number before)) stage.events) where
    abbrev last : ℕ
    last = turns.last_number before

    abbrev x : Scene
    x = scene_at Joined sent asks last

    abbrev past : List Fact
    past = EventBegan ∷ history t stage.events

    abbrev parts : SplitCommand number command
    parts = command_is_split number command met.number_fits met.short

    open_command : Begun device time_limit x [] parts.front parts.last command past (parts.last ∷ [])
    open_command = begins device time_limit parts.front [] parts.last command (parts.last ∷ []) (began device time_limit stands.calm) refl parts.are (lit≤ tt) parts.joins

    abbrev known : Known
    known = more_sent x.known (length parts.front) (assembled_of parts.front)

    decides : view_decides t known parts.last ≡ true
    decides = rw (parts.last_is.no_open, parts.last_is.fragment, open_command.whole, met.is_command, met.for_proxy) refl

    reply_is : own_reply t known parts.last ≡ Configures command
    reply_is =
        let by : own_reply t known parts.last ≡ reply_to_joining t known (joining_behind 65536 known.begun parts.last) = rw (parts.last_is.no_error, parts.last_is.no_opening, parts.last_is.no_close, parts.last_is.command, parts.last_is.long) refl in
        by
        ∙ ap (reply_to_joining t known) open_command.whole
        ∙ rw (met.is_command, met.for_proxy) (rw met.configures refl)

    abbrev answer : List ℕ
    answer = law.got device time_limit modem (Names number command) before met

    text_is : text_as t known (Said parts.last Own) ≡ answer
    text_is = ap (reply_text known (number_of parts.last)) reply_is ∙ ap (λ (n : ℕ). reply_text known n (Configures command)) parts.number_is

    answer_short : length answer ≤ 262144
    answer_short =
        let body : List ℕ = done_text (record { uuid = uuid_of command; cid = cid_of command; status = SUCCESS }) [] in
        let fields : List ℕ = u32_bytes (cid_of command) ++ u32_bytes SUCCESS ++ u32_bytes 0 in
        let body_length : length body ≡ length (uuid_of command) + 12 = ap length (append-nil (uuid_of command ++ fields)) ∙ length-append (uuid_of command) fields in
        let body_short : length body ≤ 28 = omega (arith, body_length, length-take 16 command) in
        omega (arith, length-split (kind_number kind.CommandDone) number 4096 body (omega arith), one_part 4076 (length body) (omega arith) (omega (arith, body_short)), body_short)

    fits : 0 + length (text_as t known (Said parts.last Own)) ≤ 262144
    fits = omega (arith, ap length text_is, answer_short)

    known_then : step t known (Said parts.last Own) ≡ known_at Named (sent + length parts.front + 1) asks
    known_then = ap₂ (λ (r : OwnReply) (k : Known). with_reply r k) reply_is (with_fragment known parts.last parts.front command parts.last_is refl open_command.whole)

    abbrev named_scene : Scene
    named_scene = record (scene_at Named (sent + length parts.front + 1) asks last) { waiting = answer }

    abbrev named_facts : List Fact
    named_facts = Judged 1 (message_count 1 open_command.then_past + 1) parts.last Own ∷ open_command.then_past

    named_calm : At named_scene named_facts
    named_calm =
        subst (λ (w : List ℕ). At (record named_scene { waiting = w }) named_facts) text_is
        (subst (λ (k : Known). At (record named_scene { known = k; waiting = text_as t known (Said parts.last Own) }) named_facts) known_then (own_calm device time_limit open_command.calm parts.last fits))

    named_stands : StandsSo named_scene (Piece 1 (command_text number command) ∷ stage.events)
    named_stands =
        says_so device time_limit stands (command_text number command) (pieces (kind_number kind.Command) number 4096 command) (command_is_cut number command met.number_fits met.short) named_scene named_facts met.comes_at_once
        (ap (λ (l : List (List ℕ)). finish t (add_says device time_limit l past)) parts.is
        ∙ ap (finish t) (open_command.is ∙ said_one device time_limit parts.last open_command.then_past ∙ own_is_said device time_limit open_command.calm parts.last decides fits)
        ∙ finish_rests device time_limit named_calm refl)
        named_calm refl

    pub names : Taken (Names number command) before answer stage
    unfolding sent_for hear_each cut_from
    names = (_, _, exchanged device time_limit modem stage (command_text number command) named_scene named_scene [] named_stands refl (λ events stands. stands))

  -- ---- it opens the modem ----

  module _ (number : ℕ) (before : List Turn) (met : IsOpened device time_limit modem number before) (sent : ℕ) (asks : List Ask) (stage : Stage) (at_it : stage ≡ law.stage_after device time_limit modem before) (stands : StandsSo (scene_at Named sent asks (turns.last_number before)) stage.events) where
    abbrev named : Scene
    named = scene_at Named sent asks (turns.last_number before)

    abbrev given : ℕ
    given = turns.next_number before

    abbrev m : List ℕ
    m = open_request number 4096

    m_number : number_of m ≡ number
    m_number = number_behind number (u32_bytes 4096) met.number_fits

    abbrev at_open : List Fact
    at_open = EventBegan ∷ history t stage.events

    open_past_calm : At named at_open
    open_past_calm = began device time_limit stands.calm

    abbrev r : Request
    r = opening device time_limit named open_past_calm m refl refl refl refl

    abbrev opening_scene : Scene
    opening_scene = record named { known = step t named.known (Said m Waits); modem = IsOpening; requests = r ∷ []; last = given; queue = open_request given 4096 }

    abbrev opening_facts : List Fact
    opening_facts = Forwarded r ∷ Judged 1 (message_count 1 at_open + 1) m Waits ∷ at_open

    opening_calm : At opening_scene opening_facts
    opening_calm = open_calm device time_limit named open_past_calm m refl refl refl refl

    opening_stands : StandsSo opening_scene (Piece 1 m ∷ stage.events)
    opening_stands =
        says_so device time_limit stands m (m ∷ []) (one_message m (plain_is_message (kind_number kind.Open) number (u32_bytes 4096) (omega arith) met.number_fits (omega arith))) opening_scene opening_facts (omega arith)
        (ap (finish t) (said_one device time_limit m at_open ∙ open_is_said device time_limit named open_past_calm m refl refl refl refl) ∙ finish_rests device time_limit opening_calm refl)
        opening_calm refl

    abbrev d : List ℕ
    d = open_done given SUCCESS

    d_number : number_of d ≡ given
    d_number = number_behind given (u32_bytes SUCCESS) (given_fits (turns.last_number before))

    abbrev opened_scene : Scene
    opened_scene = record (scene_at Opened (sent + 1) asks given) { waiting = open_done number SUCCESS }

    hears_opened : (past : List Fact) → At (record opening_scene { queue = [] }) past → Hears device time_limit d past opened_scene
    hears_opened past calm =
        let answers : is_answered_by IsOpenDone d r ≡ true = rw (eq-eqb given (number_of d) (sym d_number)) refl in
        subst (λ (n : ℕ). Hears device time_limit d past (record opened_scene { waiting = open_done n SUCCESS })) m_number
        (opened_is_heard device time_limit opening_scene r calm d refl answers refl refl refl refl (lit≤ tt))

    opens_so : (events : List Event) → StandsSo (record opening_scene { queue = [] }) events → StandsSo opened_scene (hear_each (d ∷ []) events)
    opens_so events stands =
        comes device time_limit d d (plain_says_one t d (plain_is_message (kind_number kind.OpenDone) given (u32_bytes SUCCESS) (omega arith) (given_fits (turns.last_number before)) (omega arith)) refl refl) (record opening_scene { queue = [] }) opened_scene hears_opened refl
        d [] [] events stands (append-nil d) (record { some = omega arith; short = omega arith }, tt)

    opens_said : sent_for size_of modem stage.asked (mbim_cut opening_scene.queue).messages ≡ d ∷ []
    opens_said = ap (λ (st : Stage). sent_for size_of modem st.asked (mbim_cut opening_scene.queue).messages) at_it ∙ met.opens

    pub opens : Taken (Opens number) before (open_done number SUCCESS) stage
    opens = (_, _, exchanged device time_limit modem stage m opening_scene opened_scene (d ∷ []) opening_stands opens_said opens_so)

  -- ---- what the modem tells ----

  -- a body's fragments, one a piece
  comes_split : (kind number : ℕ) (body whole : List ℕ) → kind < 2 ^ 32 → number < 2 ^ 32 → length body ≤ 65536 → SaysOne t (split kind number 4096 body) whole → (x after : Scene) → ((past : List Fact) → At x past → Hears device time_limit whole past after) → wants_list after ≡ false
      → (events : List Event) → StandsSo x events → StandsSo after (hear_each (pieces kind number 4096 body) events)
  comes_split kind number body whole kind_fits number_fits short one x after hears rests events stands =
      let begins = begins_with kind number body kind_fits number_fits short in
      subst (λ (l : List (List ℕ)). StandsSo after (hear_each l events)) (sym begins.is)
      (comes device time_limit (split kind number 4096 body) whole one x after hears rests begins.first begins.rest [] events stands (ap concat (sym begins.is)) (subst (AllByRecursion IsPart) begins.is (are_parts kind number body kind_fits number_fits short)))

  abbrev open_with : (sent : ℕ) → List Ask → (last : ℕ) → (waiting : List ℕ) → Scene
  open_with sent asks last waiting = record (scene_at Opened sent asks last) { waiting = waiting }

  module _ (sent : ℕ) (asks : List Ask) (last : ℕ) where
    abbrev tell : List ℕ → List ℕ
    tell body = split (kind_number kind.IndicateStatus) 0 4096 body

    tells_one : (body : List ℕ) → IsTold body → (w : List ℕ) → length w + length (tell body) ≤ 262144 → (events : List Event) → StandsSo (open_with sent asks last w) events
        → StandsSo (open_with sent asks last (w ++ tell body)) (hear_each (pieces (kind_number kind.IndicateStatus) 0 4096 body) events)
    tells_one body is w room events stands =
        let whole : List ℕ = unsplit (kind_number kind.IndicateStatus) 0 body in
        let told : heard_as whole ≡ IsIndication = ap (λ (b : Bool). heard_if b IsIndication) is.indication in
        comes_split (kind_number kind.IndicateStatus) 0 body whole (omega arith) (omega arith) is.short (indication_says_one t 0 body (omega arith) is.short (let n = is.short in omega (arith, n))) (open_with sent asks last w) (open_with sent asks last (w ++ tell body))
        (λ past calm. indication_is_heard device time_limit (open_with sent asks last w) calm whole told refl is.wanted room) refl events stands

    pub tells : (told : List (List ℕ)) → AllByRecursion IsTold told → (w : List ℕ) → length (w ++ told_bytes told) ≤ 262144 → (events : List Event) → StandsSo (open_with sent asks last w) events
        → StandsSo (open_with sent asks last (w ++ told_bytes told)) (hear_each (told_messages told) events)
    unfolding hear_each
    tells [] all w room events stands = subst (λ (l : List ℕ). StandsSo (open_with sent asks last l) events) (sym (append-nil w)) stands
    tells (body ∷ told) all w room events stands =
        let both : (w ++ tell body) ++ told_bytes told ≡ w ++ told_bytes (body ∷ told) = append_assoc w (tell body) (told_bytes told) in
        let fits : length w + length (tell body) ≤ 262144 = omega (arith, room, ap length both, length-append (w ++ tell body) (told_bytes told), length-append w (tell body)) in
        subst (λ (l : List ℕ). StandsSo (open_with sent asks last l) (hear_each (told_messages (body ∷ told)) events)) both
        (subst (StandsSo (open_with sent asks last ((w ++ tell body) ++ told_bytes told))) (sym (hear_each-append (pieces (kind_number kind.IndicateStatus) 0 4096 body) (told_messages told) events))
        (tells told all.1 (w ++ tell body) (subst (λ (l : List ℕ). length l ≤ 262144) (sym both) room) (hear_each (pieces (kind_number kind.IndicateStatus) 0 4096 body) events) (tells_one body all.0 w fits events stands)))

  -- ---- the client asks the modem ----

  module _ (number : ℕ) (command : List ℕ) (before : List Turn) (met : AsksTheModem device time_limit modem number command before) (sent : ℕ) (asks : List Ask) (stage : Stage) (at_it : stage ≡ law.stage_after device time_limit modem before)
      (stands : StandsSo (scene_at Opened sent asks (turns.last_number before)) stage.events) where
    abbrev open_scene : Scene
    open_scene = scene_at Opened sent asks (turns.last_number before)

    abbrev command_number : ℕ
    command_number = turns.next_number before

    number_small : command_number < 2 ^ 32
    number_small = given_fits (turns.last_number before)

    abbrev command_past : List Fact
    command_past = EventBegan ∷ history t stage.events

    abbrev command_parts : SplitCommand number command
    command_parts = command_is_split number command met.number_fits met.short

    begun : Begun device time_limit open_scene [] command_parts.front command_parts.last command command_past (command_parts.last ∷ [])
    begun = begins device time_limit command_parts.front [] command_parts.last command (command_parts.last ∷ []) (began device time_limit stands.calm) refl command_parts.are (lit≤ tt) command_parts.joins

    -- behind the fragments before the last
    abbrev begun_known : Known
    begun_known = more_sent open_scene.known (length command_parts.front) (assembled_of command_parts.front)

    abbrev begun_scene : Scene
    begun_scene = record open_scene { known = begun_known }

    meant : is_for_modem begun_known (Whole command) ≡ true
    meant = rw (met.is_command, met.for_modem, met.no_list) refl

    room_for_modem : length (wire_of t 0 (unsplit (kind_number kind.Command) (number_of command_parts.last) command)) ≤ 1048576
    room_for_modem = omega (arith, length-split (kind_number kind.Command) 0 4096 command (omega arith), length-split (kind_number kind.Command) number 4096 command (omega arith), met.comes_at_once)

    abbrev q : Request
    q = request device time_limit begun_scene begun.calm command_parts.last command command_parts.last_is begun.whole meant

    abbrev ask_made : Ask
    ask_made = record { place = begun_known.sent + 1; number = number_of command_parts.last; uuid = uuid_of (command_with t begun_known command_parts.last); cid = cid_of (command_with t begun_known command_parts.last) }

    abbrev asked_known : Known
    asked_known = known_at Opened (begun_known.sent + 1) (ask_made ∷ asks)

    known_asked : step t begun_known (Said command_parts.last Forward) ≡ asked_known
    known_asked = ap (λ (k : Known). let made : Known = record k { asks = ask_made ∷ k.asks } in made) (with_fragment begun_known command_parts.last command_parts.front command command_parts.last_is refl begun.whole)

    abbrev asked_scene : Scene
    asked_scene = record open_scene { known = asked_known; requests = q ∷ []; last = command_number; queue = command_text command_number command }

    abbrev asked_facts : List Fact
    asked_facts = Forwarded q ∷ Judged 1 (message_count 1 begun.then_past + 1) command_parts.last Forward ∷ begun.then_past

    asked_calm : At asked_scene asked_facts
    asked_calm = subst (λ (k : Known). At (record asked_scene { known = k }) asked_facts) known_asked (command_calm device time_limit begun_scene begun.calm command_parts.last command command_parts.last_is begun.whole meant room_for_modem)

    asked_stands : StandsSo asked_scene (Piece 1 (command_text number command) ∷ stage.events)
    asked_stands =
        says_so device time_limit stands (command_text number command) (pieces (kind_number kind.Command) number 4096 command) (command_is_cut number command met.number_fits met.short) asked_scene asked_facts met.comes_at_once
        (ap (λ (l : List (List ℕ)). finish t (add_says device time_limit l command_past)) command_parts.is
        ∙ ap (finish t) (begun.is ∙ said_one device time_limit command_parts.last begun.then_past ∙ command_is_said device time_limit begun_scene begun.calm command_parts.last command command_parts.last_is begun.whole meant room_for_modem)
        ∙ finish_rests device time_limit asked_calm refl)
        asked_calm refl

    -- ---- the modem answers ----

    abbrev answered : List ℕ
    answered = met.answered.done

    abbrev whole_answer : List ℕ
    whole_answer = unsplit (kind_number kind.CommandDone) command_number answered

    answer_number : number_of whole_answer ≡ command_number
    answer_number = number_behind command_number (u32_bytes 1 ++ u32_bytes 0 ++ answered) number_small

    is_heard_so : heard_as whole_answer ≡ IsDone
    is_heard_so = ap (λ (b : Bool). heard_if b IsDone) met.answered.is_done

    place_is : ask_made.place ≡ q.place
    unfolding message_count
    place_is = ap (λ (n : ℕ). n + 1) (sym begun.calm.counts)

    response_is : text_as t asked_known (Response q.place (blank whole_answer)) ≡ done_bytes number answered
    response_is =
        ap (λ (b : Bool). response_text asked_known (if b then ask_made else ask_at q.place asks) (blank whole_answer)) (eq-eqb ask_made.place q.place place_is)
        ∙ ap (λ (n : ℕ). done_bytes n answered) command_parts.number_is

    abbrev left_asks : List Ask
    left_asks = without_ask q.place (ask_made ∷ asks)

    abbrev answered_scene : Scene
    answered_scene = open_with (begun_known.sent + 1) left_asks command_number (done_bytes number answered)

    answer_room : length (done_bytes number answered) ≤ 262144
    answer_room = omega (arith, met.room, length-append (done_bytes number answered) (told_bytes met.told))

    hears_answer : (past : List Fact) → At (record asked_scene { queue = [] }) past → Hears device time_limit whole_answer past answered_scene
    hears_answer past calm =
        let answers : is_answered_by IsDone whole_answer q ≡ true = rw (eq-eqb command_number (number_of whole_answer) (sym answer_number)) refl in
        subst (λ (l : List ℕ). Hears device time_limit whole_answer past (record answered_scene { waiting = l })) response_is
        (answer_is_heard device time_limit asked_scene q calm whole_answer is_heard_so answers refl refl (omega (arith, ap length response_is, answer_room)))

    answers_so : (events : List Event) → StandsSo (record asked_scene { queue = [] }) events → StandsSo answered_scene (hear_each (law.done_messages command_number answered) events)
    answers_so events stands =
        comes_split (kind_number kind.CommandDone) command_number answered whole_answer (omega arith) number_small met.answered.short (answer_says_one t command_number answered number_small met.answered.short (let n = met.answered.short in omega (arith, n)))
        (record asked_scene { queue = [] }) answered_scene hears_answer refl events stands

    abbrev told_scene : Scene
    told_scene = open_with (begun_known.sent + 1) left_asks command_number (done_bytes number answered ++ told_bytes met.told)

    tells_so : (events : List Event) → StandsSo (record asked_scene { queue = [] }) events → StandsSo told_scene (hear_each (law.done_messages command_number answered ++ told_messages met.told) events)
    tells_so events stands =
        subst (StandsSo told_scene) (sym (hear_each-append (law.done_messages command_number answered) (told_messages met.told) events))
        (tells (begun_known.sent + 1) left_asks command_number met.told met.are_told (done_bytes number answered) met.room (hear_each (law.done_messages command_number answered) events) (answers_so events stands))

    command_said : sent_for size_of modem stage.asked (mbim_cut asked_scene.queue).messages ≡ law.done_messages command_number answered ++ told_messages met.told
    command_said = ap (λ (st : Stage). sent_for size_of modem st.asked (mbim_cut asked_scene.queue).messages) at_it ∙ met.answered.said

    pub commands : Taken (Commands number command) before (done_bytes number answered ++ told_bytes met.told) stage
    commands = (_, _, exchanged device time_limit modem stage (command_text number command) asked_scene told_scene (law.done_messages command_number answered ++ told_messages met.told) asked_stands command_said tells_so)

  -- ---- the client closes ----

  module _ (number : ℕ) (before : List Turn) (met : IsClosed device time_limit modem number before) (sent : ℕ) (asks : List Ask) (stage : Stage) (at_it : stage ≡ law.stage_after device time_limit modem before)
      (stands : StandsSo (scene_at Opened sent asks (turns.last_number before)) stage.events) where
    abbrev closing_number : ℕ
    closing_number = turns.next_number before

    closing_small : closing_number < 2 ^ 32
    closing_small = given_fits (turns.last_number before)

    abbrev close : List ℕ
    close = close_request number

    close_number : number_of close ≡ number
    close_number = number_behind number [] met.number_fits

    abbrev close_past : List Fact
    close_past = EventBegan ∷ history t stage.events

    -- the client is closed, and the modem isn't asked yet
    abbrev shut_scene : Scene
    shut_scene = record (scene_at Closed (sent + 1) asks (turns.last_number before)) { listed = starting_list; waiting = close_done number SUCCESS }

    abbrev shut_facts : List Fact
    shut_facts = Judged 1 (message_count 1 close_past + 1) close Own ∷ close_past

    close_before : At (scene_at Opened sent asks (turns.last_number before)) close_past
    close_before = began device time_limit stands.calm

    shut_calm : At shut_scene shut_facts
    shut_calm = subst (λ (n : ℕ). At (record shut_scene { waiting = close_done n SUCCESS }) shut_facts) close_number (own_calm device time_limit close_before close (lit≤ tt))

    abbrev o : Request
    o = own device time_limit shut_scene shut_calm refl refl

    abbrev unlisted_scene : Scene
    unlisted_scene = record shut_scene { listed = []; requests = o ∷ []; last = closing_number; queue = command_text closing_number (body_of (own_subscribe [])) }

    unlisted_stands : StandsSo unlisted_scene (Piece 1 close ∷ stage.events)
    unlisted_stands =
        says_so device time_limit stands close (close ∷ []) (one_message close (plain_is_message (kind_number kind.Close) number [] (omega arith) met.number_fits (omega arith))) unlisted_scene (ListSent [] ∷ Forwarded o ∷ shut_facts) (omega arith)
        (ap (finish t) (said_one device time_limit close close_past ∙ own_is_said device time_limit close_before close refl (lit≤ tt)) ∙ closes device time_limit shut_scene shut_calm refl refl)
        (closed_calm device time_limit shut_scene shut_calm refl refl) refl

    abbrev unlisted : List ℕ
    unlisted = met.answered.done

    abbrev whole_unlisted : List ℕ
    whole_unlisted = unsplit (kind_number kind.CommandDone) closing_number unlisted

    unlisted_number : number_of whole_unlisted ≡ closing_number
    unlisted_number = number_behind closing_number (u32_bytes 1 ++ u32_bytes 0 ++ unlisted) closing_small

    unlisted_is_done : heard_as whole_unlisted ≡ IsDone
    unlisted_is_done = ap (λ (b : Bool). heard_if b IsDone) met.answered.is_done

    abbrev closed_scene : Scene
    closed_scene = record (scene_at Closed (sent + 1) asks closing_number) { waiting = close_done number SUCCESS }

    hears_unlisted : (past : List Fact) → At (record unlisted_scene { queue = [] }) past → Hears device time_limit whole_unlisted past closed_scene
    hears_unlisted past calm =
        let answers : is_answered_by IsDone whole_unlisted o ≡ true = rw (eq-eqb closing_number (number_of whole_unlisted) (sym unlisted_number)) refl in
        own_is_heard device time_limit unlisted_scene o calm whole_unlisted unlisted_is_done answers refl refl

    closes_so : (events : List Event) → StandsSo (record unlisted_scene { queue = [] }) events → StandsSo closed_scene (hear_each (law.done_messages closing_number unlisted ++ []) events)
    closes_so events stands =
        subst (λ (l : List (List ℕ)). StandsSo closed_scene (hear_each l events)) (sym (append-nil (law.done_messages closing_number unlisted)))
        (comes_split (kind_number kind.CommandDone) closing_number unlisted whole_unlisted (omega arith) closing_small met.answered.short (answer_says_one t closing_number unlisted closing_small met.answered.short (let n = met.answered.short in omega (arith, n)))
        (record unlisted_scene { queue = [] }) closed_scene hears_unlisted refl events stands)

    unlisted_said : sent_for size_of modem stage.asked (mbim_cut unlisted_scene.queue).messages ≡ law.done_messages closing_number unlisted ++ []
    unlisted_said = ap (λ (st : Stage). sent_for size_of modem st.asked (mbim_cut unlisted_scene.queue).messages) at_it ∙ met.answered.said

    pub closes_turn : Taken (Closes number) before (close_done number SUCCESS) stage
    closes_turn = (_, _, exchanged device time_limit modem stage close unlisted_scene closed_scene (law.done_messages closing_number unlisted ++ []) unlisted_stands unlisted_said closes_so)
