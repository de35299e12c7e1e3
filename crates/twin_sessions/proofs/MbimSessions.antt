-- The session of a plan at two peers. Lists of turns and of messages have the newest first.
use Rattle.std.proofs.Common.{◌≡◌, ◌⊎◌, inl, inr, ℕ, ◌+◌, ◌<◌, ◌≤◌, ◌^◌, Bool, true, false, ◌&&◌, ◌||◌, ◌==◌, if◌then◌else◌, List, [], ◌∷◌, ◌++◌, length, reverse, refl, ap, ap₂, sym, ◌∙◌, arith, subst, append_assoc, append-nil, length-append, lit≤}
use Rattle.std.specs.List.{concat, AllByRecursion}
use Rattle.std.proofs.lemmas.Bool.{eq-eqb}
use Rattle.std.proofs.lemmas.List.{length-take}
use Rattle.framing.specs.Cutting.{Cutting, cut_from}
use Rattle.mbim_frame.specs.declared.kind.MessageKind.TheVariants as kind
use Rattle.mbim_frame.specs.declared.status.TheConstants.{SUCCESS}
use Rattle.mbim_frame.specs.Numbers.{u32_bytes}
use Rattle.mbim_frame.specs.Frame.{size_of, mbim_cut}
use Rattle.mbim_frame.specs.Kinds.{kind_number}
use Rattle.mbim_frame.specs.Head.{kind_of, number_of}
use Rattle.mbim_frame.specs.Fragment.{body_of}
use Rattle.mbim_frame.specs.Bodies.{uuid_of, cid_of, done_text}
use Rattle.mbim_frame.specs.Writing.{open_request, open_done, close_request, close_done}
use Rattle.mbim_services.specs.Requests.{sent_by}
use Rattle.framing.specs.Reading.{place_of}
use Rattle.link_session.specs.declared.waiting.Meaning.TheVariants as meaning
use Rattle.link_session.specs.Marks.{Placed, messages_in, messages_from}
use Rattle.link_session.specs.Peer.{Peer, Talk, Finish, ask_then, reply_to, nothing_said}
use Rattle.proxy_history.specs.Coming.{AreSound}
use Rattle.mbim_session.specs.declared.plan.MbimPlan.{MbimPlan}
use Rattle.mbim_session.specs.Requests.{command_message, commanding, opening, closing, judge_by, is_of, is_error}
use Rattle.mbim_session.specs.Requests as session
use Rattle.mbim_session.specs.Answers.{body_with}
use Rattle.mbim_session.specs.Session.{configuration}
use Rattle.mbim_session.specs.Peer.{LastWord, OfOpen, OfCommand, is_read, is_success, verdict, body_verdict, error_verdict, opens, unanswered, finish, close_at, command_at, open_at, session_at}
use Rattle.mbim_proxy.specs.Forwarding.{own_subscribe}
use Rattle.mbim_proxy.specs.History.{mbim_protocol}
use Rattle.lone_client.specs.Relay.{Answering, Cast, sent_for, asked_then, asked_by, relayed, directly, through}
use Rattle.lone_client.specs.Turns.{Turn, Names, Opens, Commands, Closes, command_text}
use Rattle.lone_client.specs.MbimLaw as lone
use Rattle.lone_client.specs.MbimLaw.{IsShort, IsTold, done_bytes, done_messages, told_bytes, told_messages, NamesTheDevice, IsOpened, IsAnswered, AsksTheModem, IsClosed}
use Rattle.twin_sessions.specs.MbimRuns.{direct_run, through_run, Alike}
use Rattle.twin_sessions.specs.MbimServing.{command_of, messages_of, IsPlan, IsServed, opened, commanded}
use Rattle.twin_sessions.specs.MbimLaw.{SessionsEndAlike, SessionsMayCome}
use Rattle.lone_client.proofs.MbimServed.{lone_clients_are_served}
use Rattle.lone_client.proofs.Fragments.{one_message}
use Rattle.lone_client.proofs.Turns.{plain_is_message, number_behind, command_is_cut}
use Rattle.twin_sessions.proofs.Asking.{IsWhole, IsAnsweredBy, goes_on}
use Rattle.twin_sessions.proofs.MbimSteps.{answered_behind, command_answered, done_message, done_before, done_body, no_error, told_from, told_read, few_told, bytes_are}

-- ---- one peer ----

module _ (peer : Peer) (plan : MbimPlan) (n : ℕ) (small : n + 2 < 2 ^ 32) (start : Talk) (whole : IsWhole size_of start.heard.taken) (left : start.heard.left ≡ []) (done : List ℕ) (short : IsShort done) (told : List (List ℕ)) (are_told : AllByRecursion IsTold told)
    (room : length (done_bytes (n + 1) done ++ told_bytes told) ≤ 262144) where
  abbrev open_text : List ℕ
  open_text = open_request n 4096

  abbrev asked_text : List ℕ
  asked_text = command_message plan.request (n + 1)

  abbrev close_text : List ℕ
  close_text = close_request (n + 1 + 1)

  module _ (opens_so : peer (start.texts ++ open_text ∷ []) ≡ open_done n SUCCESS) (answers_so : peer (start.texts ++ open_text ∷ asked_text ∷ []) ≡ done_bytes (n + 1) done ++ told_bytes told)
      (closes_so : peer (start.texts ++ open_text ∷ asked_text ∷ close_text ∷ []) ≡ close_done (n + 1 + 1) SUCCESS) where
    -- ---- OPEN ----

    abbrev d : List ℕ
    d = open_done n SUCCESS

    d_number : number_of d ≡ n
    d_number = number_behind n (u32_bytes SUCCESS) (omega (arith, small))

    open_judged : (before : List Placed) (q : Placed) → q.bytes ≡ d → (opening n plan.timeout).wait.judge before q ≡ meaning.Answer
    open_judged before q is =
        ap (λ (l : List ℕ). if is_of kind.OpenDone n l || is_error n l then meaning.Answer else meaning.NoAnswer) is
        ∙ ap (λ (b : Bool). if b || is_error n d then meaning.Answer else meaning.NoAnswer) (eq-eqb (number_of d) n d_number)

    open_passes : (before : List Placed) (q : Placed) → kind_of q.bytes ≡ kind_number kind.IndicateStatus → (opening n plan.timeout).wait.judge before q ≡ meaning.NoAnswer
    open_passes before q is = ap (λ (k : ℕ). if k == kind_number kind.OpenDone && (number_of q.bytes == n) || (k == kind_number kind.FunctionError && (number_of q.bytes == n)) then meaning.Answer else meaning.NoAnswer) is

    abbrev answer_at : Talk → List ℕ → Placed
    answer_at talk bytes = record { place = place_of (length (concat (mbim_cut talk.heard.taken).messages)); bytes = bytes }

    open_answered : IsAnsweredBy size_of peer (opening n plan.timeout) start [] (answer_at start d) []
    open_answered = answered_behind peer (opening n plan.timeout) refl start whole d (plain_is_message (kind_number kind.OpenDone) n (u32_bytes SUCCESS) (omega arith) (omega (arith, small)) (omega arith)) opens_so open_judged open_passes 0 [] tt (omega arith) left

    -- ---- the command ----

    abbrev talk_open : Talk
    talk_open = open_answered.later

    asked_texts : talk_open.texts ++ asked_text ∷ [] ≡ start.texts ++ open_text ∷ asked_text ∷ []
    asked_texts = ap (λ (l : List (List ℕ)). l ++ asked_text ∷ []) open_answered.texts ∙ append_assoc start.texts (open_text ∷ []) (asked_text ∷ [])

    number_small : n + 1 < 2 ^ 32
    number_small = omega (arith, small)

    command_replies : reply_to peer (commanding plan.request (n + 1) plan.timeout) talk_open ≡ done_bytes (n + 1) done ++ told_bytes told
    command_replies = ap peer asked_texts ∙ answers_so

    abbrev last_one : Placed
    last_one = done_message peer plan.request plan.timeout (n + 1) number_small talk_open open_answered.whole open_answered.left_is done short told are_told command_replies

    abbrev passed : List Placed
    passed = done_before peer plan.request plan.timeout (n + 1) number_small talk_open open_answered.whole open_answered.left_is done short told are_told command_replies

    abbrev left_from : ℕ
    left_from = told_from peer plan.request plan.timeout (n + 1) number_small talk_open open_answered.whole open_answered.left_is done short told are_told command_replies

    command_so : IsAnsweredBy size_of peer (commanding plan.request (n + 1) plan.timeout) talk_open passed last_one (messages_from left_from (told_messages told))
    command_so = command_answered peer plan.request plan.timeout (n + 1) number_small talk_open open_answered.whole open_answered.left_is done short told are_told command_replies

    abbrev word : LastWord
    word = OfCommand plan.request (n + 1) passed last_one

    -- ---- CLOSE ----

    abbrev talk_asked : Talk
    talk_asked = command_so.later

    all_texts : talk_asked.texts ≡ start.texts ++ open_text ∷ asked_text ∷ []
    all_texts = command_so.texts ∙ asked_texts

    closed_texts : talk_asked.texts ++ close_text ∷ [] ≡ start.texts ++ open_text ∷ asked_text ∷ close_text ∷ []
    closed_texts = ap (λ (l : List (List ℕ)). l ++ close_text ∷ []) all_texts ∙ append_assoc start.texts (open_text ∷ asked_text ∷ []) (close_text ∷ [])

    abbrev c : List ℕ
    c = close_done (n + 1 + 1) SUCCESS

    c_number : number_of c ≡ n + 1 + 1
    c_number = number_behind (n + 1 + 1) (u32_bytes SUCCESS) (omega (arith, small))

    close_judged : (before : List Placed) (q : Placed) → q.bytes ≡ c → (closing (n + 1 + 1) plan.timeout).wait.judge before q ≡ meaning.Answer
    close_judged before q is =
        ap (λ (l : List ℕ). if is_of kind.CloseDone (n + 1 + 1) l || is_error (n + 1 + 1) l then meaning.Answer else meaning.NoAnswer) is
        ∙ ap (λ (b : Bool). if b || is_error (n + 1 + 1) c then meaning.Answer else meaning.NoAnswer) (eq-eqb (number_of c) (n + 1 + 1) c_number)

    close_passes : (before : List Placed) (q : Placed) → kind_of q.bytes ≡ kind_number kind.IndicateStatus → (closing (n + 1 + 1) plan.timeout).wait.judge before q ≡ meaning.NoAnswer
    close_passes before q is = ap (λ (k : ℕ). if k == kind_number kind.CloseDone && (number_of q.bytes == n + 1 + 1) || (k == kind_number kind.FunctionError && (number_of q.bytes == n + 1 + 1)) then meaning.Answer else meaning.NoAnswer) is

    close_answered : IsAnsweredBy size_of peer (closing (n + 1 + 1) plan.timeout) talk_asked (messages_in (messages_from left_from (told_messages told))) (answer_at talk_asked c) []
    close_answered = answered_behind peer (closing (n + 1 + 1) plan.timeout) refl talk_asked command_so.whole c (plain_is_message (kind_number kind.CloseDone) (n + 1 + 1) (u32_bytes SUCCESS) (omega arith) (omega (arith, small)) (omega arith))
        (ap peer closed_texts ∙ closes_so) close_judged close_passes left_from (told_messages told) (told_read told are_told) (few_told (n + 1) done told are_told room) command_so.left_is

    -- ---- all of them ----

    record Ended (run : Finish LastWord) : Type 0 where
      end_is : run.end ≡ word
      texts : (run.talk.texts ≡ start.texts ++ open_text ∷ asked_text ∷ []) ⊎ (run.talk.texts ≡ start.texts ++ open_text ∷ asked_text ∷ close_text ∷ [])

    ends_here : Ended (finish word talk_asked)
    ends_here = record { end_is = refl; texts = inl all_texts }

    ends_closed : Ended (ask_then peer (closing (n + 1 + 1) plan.timeout) talk_asked unanswered (λ before message talk. finish word talk))
    ends_closed = subst Ended (sym (goes_on _ _ _ _ _ _ _ close_answered unanswered (λ before message talk. finish word talk))) (record { end_is = refl; texts = inr (close_answered.texts ∙ closed_texts) })

    ends_by_close : (close : Bool) → Ended (if close then ask_then peer (closing (n + 1 + 1) plan.timeout) talk_asked unanswered (λ before message talk. finish word talk) else finish word talk_asked)
    ends_by_close true = ends_closed
    ends_by_close false = ends_here

    ends_by_verdict : (read : Bool) → Ended (if read then close_at peer plan (n + 1 + 1) word talk_asked else finish word talk_asked)
    ends_by_verdict true = ends_by_close plan.close
    ends_by_verdict false = ends_here

    body_is : body_with (session.pieces (n + 1) passed) last_one ≡ done
    body_is = done_body peer plan.request plan.timeout (n + 1) number_small talk_open open_answered.whole open_answered.left_is done short told are_told command_replies

    no_error_is : is_error (n + 1) last_one.bytes ≡ false
    no_error_is = no_error peer plan.request plan.timeout (n + 1) number_small talk_open open_answered.whole open_answered.left_is done short told are_told command_replies

    ended : Ended (open_at peer plan n start)
    ended =
        let next : List Placed → Placed → Talk → Finish LastWord = λ before message talk. if is_read (verdict plan.request (n + 1) before message) then close_at peer plan (n + 1 + 1) (OfCommand plan.request (n + 1) before message) talk else finish (OfCommand plan.request (n + 1) before message) talk in
        subst Ended (sym (goes_on _ _ _ _ _ _ _ open_answered unanswered (λ before message talk. if opens n message.bytes then command_at peer plan (n + 1) talk else finish (OfOpen n message) talk) ∙ goes_on _ _ _ _ _ _ _ command_so unanswered next))
        (ends_by_verdict (is_read (verdict plan.request (n + 1) passed last_one)))

-- ---- both peers ----

nothing_whole : (mbim_cut []).rest ≡ []
unfolding cut_from
nothing_whole = refl

module _ (time_limit : ℕ) (modem : Answering) (plan : MbimPlan) (is : IsPlan plan) (serves : IsServed modem plan) where
  abbrev cast : Cast
  cast = lone.cast plan.device time_limit modem

  abbrev naming : List ℕ
  naming = command_of (configuration plan)

  abbrev command : List ℕ
  command = command_of plan.request

  abbrev done : List ℕ
  done = serves.answers.done

  done_alone : sent_for size_of modem [] (open_request 1 4096 ∷ []) ≡ open_done 1 SUCCESS ∷ []
  unfolding sent_for
  done_alone =
      ap (λ (l : List ℕ). (mbim_cut l).messages ++ []) serves.opens
      ∙ ap (λ (k : Cutting). k.messages ++ []) (one_message (open_done 1 SUCCESS) (plain_is_message (kind_number kind.OpenDone) 1 (u32_bytes SUCCESS) (omega arith) (omega arith) (omega arith)))

  closed_alone : sent_for size_of modem (commanded plan) (close_request 3 ∷ []) ≡ close_done 3 SUCCESS ∷ []
  unfolding sent_for
  closed_alone =
      ap (λ (l : List ℕ). (mbim_cut l).messages ++ []) serves.closes
      ∙ ap (λ (k : Cutting). k.messages ++ []) (one_message (close_done 3 SUCCESS) (plain_is_message (kind_number kind.CloseDone) 3 (u32_bytes SUCCESS) (omega arith) (omega arith) (omega arith)))

  open_is_cut : (number : ℕ) → number < 2 ^ 32 → (mbim_cut (open_request number 4096)).messages ≡ open_request number 4096 ∷ []
  open_is_cut number fits = ap (λ (k : Cutting). k.messages) (one_message (open_request number 4096) (plain_is_message (kind_number kind.Open) number (u32_bytes 4096) (omega arith) fits (omega arith)))

  close_is_cut : (mbim_cut (close_request 3)).messages ≡ close_request 3 ∷ []
  close_is_cut = ap (λ (k : Cutting). k.messages) (one_message (close_request 3) (plain_is_message (kind_number kind.Close) 3 [] (omega arith) (omega arith) (omega arith)))

  command_cut : (mbim_cut (command_text 2 command)).messages ≡ messages_of 2 command
  command_cut = ap (λ (k : Cutting). k.messages) (command_is_cut 2 command (omega arith) is.fits.short)

  -- ---- the modem itself ----

  abbrev direct : Peer
  direct = directly cast

  opens_direct : direct (open_request 1 4096 ∷ []) ≡ open_done 1 SUCCESS
  unfolding asked_by
  opens_direct = ap (λ (l : List (List ℕ)). concat (sent_for size_of modem [] l)) (open_is_cut 1 (omega arith)) ∙ ap concat done_alone ∙ append-nil (open_done 1 SUCCESS)

  asked_open : asked_by size_of (open_request 1 4096 ∷ []) ≡ opened
  unfolding asked_by asked_then
  asked_open = ap (λ (l : List (List ℕ)). asked_then [] l) (open_is_cut 1 (omega arith))

  answers_direct : direct (open_request 1 4096 ∷ command_message plan.request 2 ∷ []) ≡ done_bytes 2 done ++ told_bytes serves.told
  unfolding command_message
  answers_direct = ap₂ (λ (asked l : List (List ℕ)). concat (sent_for size_of modem asked l)) asked_open command_cut ∙ ap concat serves.answers.says ∙ bytes_are 2 done serves.told

  asked_command : asked_by size_of (command_message plan.request 2 ∷ open_request 1 4096 ∷ []) ≡ commanded plan
  unfolding asked_by command_message
  asked_command = ap₂ (λ (asked l : List (List ℕ)). asked_then asked l) asked_open command_cut

  closes_direct : direct (open_request 1 4096 ∷ command_message plan.request 2 ∷ close_request 3 ∷ []) ≡ close_done 3 SUCCESS
  closes_direct = ap₂ (λ (asked l : List (List ℕ)). concat (sent_for size_of modem asked l)) asked_command close_is_cut ∙ ap concat closed_alone ∙ append-nil (close_done 3 SUCCESS)

  abbrev direct_plan : MbimPlan
  direct_plan = record plan { proxied = false }

  abbrev direct_word : LastWord
  direct_word = word direct direct_plan 1 (omega arith) nothing_said nothing_whole refl done serves.answers.short serves.told serves.are_told (serves.room 2) opens_direct answers_direct closes_direct

  direct_ended : Ended direct direct_plan 1 (omega arith) nothing_said nothing_whole refl done serves.answers.short serves.told serves.are_told (serves.room 2) opens_direct answers_direct closes_direct (open_at direct direct_plan 1 nothing_said)
  direct_ended = ended direct direct_plan 1 (omega arith) nothing_said nothing_whole refl done serves.answers.short serves.told serves.are_told (serves.room 2) opens_direct answers_direct closes_direct

  -- ---- through the proxy: the turns of the tool are met ----

  abbrev first : List Turn
  first = Names 1 naming ∷ []

  abbrev second : List Turn
  second = Opens 2 ∷ first

  abbrev third : List Turn
  third = Commands 3 command ∷ second

  abbrev fourth : List Turn
  fourth = Closes 4 ∷ third

  names_it : NamesTheDevice plan.device time_limit modem 1 naming []
  names_it = record {
    phase = refl;
    number_fits = omega arith;
    short = is.configuration_fits.short;
    comes_at_once = is.configuration_fits.comes_at_once 1;
    is_command = is.configuration_fits.is_command;
    for_proxy = refl;
    configures = is.configures time_limit;
  }

  named : lone.IsServed plan.device time_limit modem (Names 1 naming) [] names_it
  named = lone_clients_are_served plan.device time_limit modem (Names 1 naming) [] names_it tt

  asked_first : (lone.stage_after plan.device time_limit modem first).asked ≡ []
  unfolding relayed asked_then cut_from
  asked_first = named.asked_is

  opens_it : IsOpened plan.device time_limit modem 2 first
  opens_it = record {
    phase = refl;
    number_fits = omega arith;
    opens = ap₂ (λ (asked l : List (List ℕ)). sent_for size_of modem asked l) asked_first (open_is_cut 1 (omega arith)) ∙ done_alone;
  }

  abbrev met_first : lone.AreMet plan.device time_limit modem first
  met_first = (names_it, tt)

  opened_it : lone.IsServed plan.device time_limit modem (Opens 2) first opens_it
  opened_it = lone_clients_are_served plan.device time_limit modem (Opens 2) first opens_it met_first

  asked_second : (lone.stage_after plan.device time_limit modem second).asked ≡ opened
  unfolding asked_then
  asked_second = opened_it.asked_is ∙ ap₂ (λ (asked l : List (List ℕ)). asked_then asked l) asked_first (open_is_cut 1 (omega arith))

  commands_it : AsksTheModem plan.device time_limit modem 3 command second
  commands_it = record {
    phase = refl;
    number_fits = omega arith;
    short = is.fits.short;
    comes_at_once = is.fits.comes_at_once 3;
    is_command = is.fits.is_command;
    for_modem = is.for_modem;
    no_list = is.no_list;
    told = serves.told;
    answered = record {
      done = done;
      said = ap₂ (λ (asked l : List (List ℕ)). sent_for size_of modem asked l) asked_second command_cut ∙ serves.answers.says;
      is_done = serves.answers.is_done;
      short = serves.answers.short;
    };
    are_told = serves.are_told;
    room = serves.room 3;
  }

  abbrev met_second : lone.AreMet plan.device time_limit modem second
  met_second = (opens_it, met_first)

  commanded_it : lone.IsServed plan.device time_limit modem (Commands 3 command) second commands_it
  commanded_it = lone_clients_are_served plan.device time_limit modem (Commands 3 command) second commands_it met_second

  asked_third : (lone.stage_after plan.device time_limit modem third).asked ≡ commanded plan
  asked_third = commanded_it.asked_is ∙ ap₂ (λ (asked l : List (List ℕ)). asked_then asked l) asked_second command_cut

  abbrev unlisting : List ℕ
  unlisting = body_of (own_subscribe [])

  closes_it : IsClosed plan.device time_limit modem 4 third
  closes_it = record {
    phase = refl;
    number_fits = omega arith;
    answered = record {
      done = serves.unlists.done;
      said = ap₂ (λ (asked l : List (List ℕ)). sent_for size_of modem asked l) asked_third (ap (λ (k : Cutting). k.messages) (command_is_cut 3 unlisting (omega arith) (lit≤ tt))) ∙ serves.unlists.says;
      is_done = serves.unlists.is_done;
      short = serves.unlists.short;
    };
  }

  closed_it : lone.IsServed plan.device time_limit modem (Closes 4) third closes_it
  closed_it = lone_clients_are_served plan.device time_limit modem (Closes 4) third closes_it (commands_it, met_second)

  -- ---- and answered ----

  abbrev proxied : Peer
  proxied = through cast

  abbrev named_done : List ℕ
  named_done = done_text (record { uuid = uuid_of naming; cid = cid_of naming; status = SUCCESS }) []

  named_short : IsShort named_done
  named_short =
      let fields : List ℕ = u32_bytes (cid_of naming) ++ u32_bytes SUCCESS ++ u32_bytes 0 in
      let body_length : length named_done ≡ length (uuid_of naming) + 12 = ap length (append-nil (uuid_of naming ++ fields)) ∙ length-append (uuid_of naming) fields in
      omega (arith, body_length, length-take 16 naming)

  names_through : reply_to proxied (commanding (configuration plan) 1 plan.timeout) nothing_said ≡ done_bytes 1 named_done ++ told_bytes []
  unfolding command_message relayed
  names_through = named.reply_is ∙ sym (append-nil (done_bytes 1 named_done))

  abbrev named_message : Placed
  named_message = done_message proxied (configuration plan) plan.timeout 1 (omega arith) nothing_said nothing_whole refl named_done named_short [] tt names_through

  abbrev named_before : List Placed
  named_before = done_before proxied (configuration plan) plan.timeout 1 (omega arith) nothing_said nothing_whole refl named_done named_short [] tt names_through

  naming_answered : IsAnsweredBy size_of proxied (commanding (configuration plan) 1 plan.timeout) nothing_said named_before named_message []
  naming_answered = command_answered proxied (configuration plan) plan.timeout 1 (omega arith) nothing_said nothing_whole refl named_done named_short [] tt names_through

  succeeds : is_success (verdict (configuration plan) 1 named_before named_message) ≡ true
  unfolding verdict
  succeeds =
      ap (λ (b : Bool). is_success (if b then error_verdict named_message.bytes else body_verdict (sent_by (configuration plan)).row.done (body_with (session.pieces 1 named_before) named_message)))
      (no_error proxied (configuration plan) plan.timeout 1 (omega arith) nothing_said nothing_whole refl named_done named_short [] tt names_through)
      ∙ ap (λ (body : List ℕ). is_success (body_verdict (sent_by (configuration plan)).row.done body)) (done_body proxied (configuration plan) plan.timeout 1 (omega arith) nothing_said nothing_whole refl named_done named_short [] tt names_through)

  abbrev start : Talk
  start = naming_answered.later

  abbrev names_text : List ℕ
  names_text = command_message (configuration plan) 1

  starts : (more : List (List ℕ)) → start.texts ++ more ≡ names_text ∷ more
  starts more = ap (λ (l : List (List ℕ)). l ++ more) naming_answered.texts

  opens_through : proxied (start.texts ++ open_request 2 4096 ∷ []) ≡ open_done 2 SUCCESS
  unfolding command_message
  opens_through = ap proxied (starts (open_request 2 4096 ∷ [])) ∙ opened_it.reply_is

  answers_through : proxied (start.texts ++ open_request 2 4096 ∷ command_message plan.request 3 ∷ []) ≡ done_bytes 3 done ++ told_bytes serves.told
  unfolding command_message commands_it
  answers_through = ap proxied (starts (open_request 2 4096 ∷ command_message plan.request 3 ∷ [])) ∙ commanded_it.reply_is

  closes_through : proxied (start.texts ++ open_request 2 4096 ∷ command_message plan.request 3 ∷ close_request 4 ∷ []) ≡ close_done 4 SUCCESS
  unfolding command_message
  closes_through = ap proxied (starts (open_request 2 4096 ∷ command_message plan.request 3 ∷ close_request 4 ∷ [])) ∙ closed_it.reply_is

  abbrev proxied_plan : MbimPlan
  proxied_plan = record plan { proxied = true }

  abbrev EndsThrough : Finish LastWord → Type 0
  EndsThrough run = Ended proxied proxied_plan 2 (omega arith) start naming_answered.whole naming_answered.left_is done serves.answers.short serves.told serves.are_told (serves.room 3) opens_through answers_through closes_through run

  open_ended : EndsThrough (open_at proxied proxied_plan 2 start)
  open_ended = ended proxied proxied_plan 2 (omega arith) start naming_answered.whole naming_answered.left_is done serves.answers.short serves.told serves.are_told (serves.room 3) opens_through answers_through closes_through

  through_ended : EndsThrough (through_run cast plan)
  unfolding session_at
  through_ended =
      subst EndsThrough
      (sym (goes_on _ _ _ _ _ _ _ naming_answered unanswered (λ before message talk. if is_success (verdict (configuration plan) 1 before message) then open_at proxied proxied_plan 2 talk else finish (OfCommand (configuration plan) 1 before message) talk)
      ∙ ap (λ (b : Bool). if b then open_at proxied proxied_plan 2 start else finish (OfCommand (configuration plan) 1 named_before named_message) start) succeeds))
      open_ended

  direct_run_ended : Ended direct direct_plan 1 (omega arith) nothing_said nothing_whole refl done serves.answers.short serves.told serves.are_told (serves.room 2) opens_direct answers_direct closes_direct (direct_run cast plan)
  unfolding session_at
  direct_run_ended = direct_ended

  -- ---- the two laws ----

  abbrev direct_last : Placed
  direct_last = last_one direct direct_plan 1 (omega arith) nothing_said nothing_whole refl done serves.answers.short serves.told serves.are_told (serves.room 2) opens_direct answers_direct closes_direct

  abbrev direct_passed : List Placed
  direct_passed = passed direct direct_plan 1 (omega arith) nothing_said nothing_whole refl done serves.answers.short serves.told serves.are_told (serves.room 2) opens_direct answers_direct closes_direct

  abbrev through_last : Placed
  through_last = last_one proxied proxied_plan 2 (omega arith) start naming_answered.whole naming_answered.left_is done serves.answers.short serves.told serves.are_told (serves.room 3) opens_through answers_through closes_through

  abbrev through_passed : List Placed
  through_passed = passed proxied proxied_plan 2 (omega arith) start naming_answered.whole naming_answered.left_is done serves.answers.short serves.told serves.are_told (serves.room 3) opens_through answers_through closes_through

  words_alike : Alike (OfCommand plan.request 2 direct_passed direct_last) (OfCommand plan.request 3 through_passed through_last)
  words_alike = (
    refl,
    no_error_is direct direct_plan 1 (omega arith) nothing_said nothing_whole refl done serves.answers.short serves.told serves.are_told (serves.room 2) opens_direct answers_direct closes_direct,
    no_error_is proxied proxied_plan 2 (omega arith) start naming_answered.whole naming_answered.left_is done serves.answers.short serves.told serves.are_told (serves.room 3) opens_through answers_through closes_through,
    body_is direct direct_plan 1 (omega arith) nothing_said nothing_whole refl done serves.answers.short serves.told serves.are_told (serves.room 2) opens_direct answers_direct closes_direct
        ∙ sym (body_is proxied proxied_plan 2 (omega arith) start naming_answered.whole naming_answered.left_is done serves.answers.short serves.told serves.are_told (serves.room 3) opens_through answers_through closes_through),
  )

  pub sessions_alike : Alike (direct_run cast plan).end (through_run cast plan).end
  sessions_alike =
      subst (λ (w : LastWord). Alike w (through_run cast plan).end) (sym direct_run_ended.end_is)
      (subst (λ (w : LastWord). Alike (OfCommand plan.request 2 direct_passed direct_last) w) (sym through_ended.end_is) words_alike)

  abbrev MayCome : List (List ℕ) → Type 0
  MayCome texts = AreSound (mbim_protocol (lone.setup plan.device time_limit modem)) (relayed cast (reverse texts)).events

  may_come : ((through_run cast plan).talk.texts ≡ start.texts ++ open_request 2 4096 ∷ command_message plan.request 3 ∷ []) ⊎ ((through_run cast plan).talk.texts ≡ start.texts ++ open_request 2 4096 ∷ command_message plan.request 3 ∷ close_request 4 ∷ []) → MayCome (through_run cast plan).talk.texts
  unfolding command_message
  may_come (inl three) = subst MayCome (sym (three ∙ starts (open_request 2 4096 ∷ command_message plan.request 3 ∷ []))) commanded_it.sound
  may_come (inr four) = subst MayCome (sym (four ∙ starts (open_request 2 4096 ∷ command_message plan.request 3 ∷ close_request 4 ∷ []))) closed_it.sound

  pub run_may_come : MayCome (through_run cast plan).talk.texts
  run_may_come = may_come through_ended.texts

pub sessions_end_alike : SessionsEndAlike
sessions_end_alike time_limit modem plan is serves = sessions_alike time_limit modem plan is serves

pub sessions_may_come : SessionsMayCome
sessions_may_come time_limit modem plan is serves = run_may_come time_limit modem plan is serves
