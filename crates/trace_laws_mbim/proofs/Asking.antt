-- What the messages of a rig's client bring where the client is alone. Lists of events and of facts have the newest first.
use Rattle.std.proofs.Common.{◌≡◌, ℕ, ◌+◌, ◌^◌, ◌<◌, ◌≤◌, inl, inr, Bool, true, false, ◌==◌, if◌then◌else◌, List, [], ◌∷◌, length, drop, Some, None, refl, ap, sym, ◌∙◌, subst, arith}
use Rattle.std.specs.List.{AllByRecursion}
use Rattle.framing.specs.Cutting.{cut}
use Rattle.mbim_frame.specs.Frame.{size_of}
use Rattle.mbim_frame.specs.Head.{number_of}
use Rattle.mbim_fragments.specs.Assembling as assembling
use Rattle.proxy_history.specs.Events.{Event, Piece}
use Rattle.proxy_history.specs.Streams.{stream}
use Rattle.proxy_history.specs.Facts.{Fact, Request, Own, Share, Forward, Waits, EventBegan, Judged, Forwarded}
use Rattle.proxy_history.specs.Decision.{Replies, Forwards, forwards_under}
use Rattle.proxy_history.specs.Connections.{is_present, message_count}
use Rattle.proxy_history.specs.Requests.{has_share, in_use, forward_count, deadline_of}
use Rattle.proxy_history.specs.Modem.{now, to_modem, modem_taken_count, modem_queue}
use Rattle.proxy_history.specs.Items.{Says}
use Rattle.proxy_history.specs.History.{add}
use Rattle.proxy_solo.specs.Part.{sent_by}
use Rattle.proxy_solo.proofs.Lists.{self}
use Rattle.mbim_proxy.specs.Setup.{the_space}
use Rattle.mbim_proxy.specs.Known.{Known}
use Rattle.mbim_proxy.specs.Step.{known_now}
use Rattle.mbim_proxy.specs.ModemStates.{IsShut, state}
use Rattle.mbim_proxy.specs.Forwarding.{own_open, wire, number_for, request_of, forward}
use Rattle.mbim_proxy.specs.Clients.{shared_decision, decision_on, decision_for, forward_for}
use Rattle.mbim_proxy.specs.History.{mbim_protocol, history}
use Rattle.mbim_proxy.proofs.Sound.{requests_are_asked}
use Rattle.mbim_solo.proofs.Numbers.{number_within, opens_under, goes_under}
use Rattle.mbim_solo.proofs.Settling.{MayQueue}
use Rattle.mbim_solo.proofs.Relation.{IsRoomy}
use Rattle.mbim_solo.proofs.Law.{served_proxies_are_roomy}
use Rattle.rig_runs.specs.Rig.{device, time_limit}
use Rattle.rig_runs.specs.Mbim.{setup}
use Rattle.rig_runs.specs.MbimExamples.{configuration, open_2}
use Rattle.rig_laws_mbim.proofs.Messages.{configuration_is, opening_is, query, cid_for, query_is, own_open_under, modem_is_opened}
use Rattle.rig_laws_mbim.proofs.Harmless.{own_decides, configuration_passes_none, opening_passes_none}
use Rattle.rig_laws_mbim.proofs.Calm.{Calm, Progress, begun}
use Rattle.rig_laws_mbim.proofs.Says.{HasNumber, has_number, by_others, opening_goes, passes_where, command_is, query_goes}
use Rattle.rig_trace.specs.declared.rows.Row.{Row}
use Rattle.rig_trace.specs.declared.rows.Key.{Key}
use Rattle.rig_trace.specs.Rows.{names, said_by, row_for}
use Rattle.rig_trace.specs.Mbim.{key_of, mbim_reading}
use Rattle.trace_laws_mbim.specs.Laws.{row_of}
use Rattle.trace_laws_mbim.proofs.Rows.{Asked}
use Rattle.trace_laws_mbim.proofs.Lone.{facts_of, ledger, Lone, Added}
use Rattle.trace_laws_mbim.proofs.Said.{decided, facts_are, replies, replies_queue, forwards}

abbrev pub room : IsRoomy setup
room = served_proxies_are_roomy device time_limit false

-- what an event brings, before its end
pub record Brings (c : ℕ) (own : List Event) (event : Event) : Type 0 where
  pub added : Added c event own
  pub queues : MayQueue setup c (history setup own) (facts_of event own)

-- a row of these numbers
abbrev row_with : (serial conn place : ℕ) → (key : Key) → (own : Bool) → (time : ℕ) → Row
row_with serial conn place key own time = record { serial = serial + 1; conn = conn; place = place; key = key; own = own; deadline = deadline_of time time_limit }

same_row : (serial serial_then place place_then time time_then conn : ℕ) (key key_then : Key) (own : Bool) → serial ≡ serial_then → place ≡ place_then → key ≡ key_then → time ≡ time_then → row_with serial conn place key own time ≡ row_with serial_then conn place_then key_then own time_then
same_row serial serial_then place place_then time time_then conn key key_then own s p k t =
    ap (λ (n : ℕ). row_with n conn place key own time) s
    ∙ ap (λ (n : ℕ). row_with serial_then conn n key own time) p
    ∙ ap (λ (l : Key). row_with serial_then conn place_then l own time) k
    ∙ ap (λ (n : ℕ). row_with serial_then conn place_then key_then own n) t

module _ (c : ℕ) (named : c < names) (own : List Event) (lone : Lone c own) (empty : modem_queue (wire setup) (history setup own) ≡ []) (there : is_present c (history setup own) ≡ true) (whole : (cut size_of (stream c own)).rest ≡ []) where
  abbrev pub facts_before : List Fact
  facts_before = EventBegan ∷ history setup own

  abbrev pub told : Known
  told = known_now setup c facts_before

  -- ---- it names the device ----

  pub configures : told.begun ≡ assembling.fresh → Brings c own (Piece c configuration)
  configures fresh =
      let so : decision_for setup told c configuration facts_before ≡ Replies Own =
      by_others c facts_before configuration (configuration_passes_none c facts_before fresh) ∙ ap (λ (b : Bool). if b then Replies Own else shared_decision setup told configuration facts_before) (own_decides told fresh) in
      record {
        added = replies c named own lone empty configuration there whole configuration_is.is_message Own so;
        queues = replies_queue c named own lone empty configuration there whole configuration_is.is_message Own so;
      }

  -- ---- it asks to open the modem ----

  pub empty_then : modem_queue (wire setup) facts_before ≡ []
  unfolding to_modem modem_taken_count
  empty_then = empty

  module _ (configured : told.configured ≡ true) (waits : told.waits ≡ None) (shut : state false (history setup own) ≡ IsShut) (none : in_use (history setup own) ≡ []) (second : message_count c (history setup own) ≡ 1) where
    pub none_then : in_use facts_before ≡ []
    unfolding in_use
    none_then = none

    shut_then : state false facts_before ≡ IsShut
    unfolding state
    shut_then = shut

    abbrev pub given : (n : ℕ) × (number_for setup (own_open setup) facts_before ≡ Some n)
    given = opens_under setup room facts_before empty_then none_then

    abbrev pub number : ℕ
    number = given.0

    abbrev pub asks : List Fact
    asks = Judged c (message_count c facts_before + 1) open_2 Waits ∷ facts_before

    abbrev pub opening_request : Request
    opening_request = request_of setup 0 (own_open setup) number asks

    open_decided : decision_for setup told c open_2 facts_before ≡ Forwards number
    open_decided = by_others c facts_before open_2 (opening_passes_none c facts_before) ∙ opening_goes c facts_before configured waits IsShut shut_then ∙ ap forwards_under given.1

    pub opening_facts : facts_of (Piece c open_2) own ≡ Forwarded opening_request ∷ asks
    opening_facts = facts_are c named own lone empty open_2 there whole opening_is.is_message ∙ decided c named own lone empty open_2 there whole opening_is.is_message (Forwards number) open_decided

    opening_below : number < 2 ^ 32
    opening_below = let within = number_within setup room (own_open setup) facts_before number given.1 in omega (arith, within)

    pub opening_is_plain : Asked opening_request
    opening_is_plain = record { below = opening_below; kind = inr (record { own = refl; opens = (modem_is_opened 0).is_own; wire_is = (modem_is_opened number).wire }) }

    opening_row : row_for mbim_reading c (1 ∷ drop 1 (own_open_under number)) (ledger own) ≡ row_of c opening_request
    unfolding forward_count now
    opening_row =
        same_row (ledger own).asked (forward_count (history setup own)) (said_by c (ledger own) + 1) 2 (ledger own).time (now (history setup own)) c (key_of (own_open_under number)) (key_of (own_open_under number)) true
        lone.mirrors.asked (ap (λ (n : ℕ). n + 1) (lone.mirrors.said ∙ second)) refl lone.mirrors.time

    pub opens : Brings c own (Piece c open_2)
    unfolding state
    opens = record {
      added = forwards c named own lone empty open_2 there whole opening_is.is_message opening_request (message_count c facts_before + 1) Waits 1 (drop 1 (own_open_under number))
          (decided c named own lone empty open_2 there whole opening_is.is_message (Forwards number) open_decided) opening_is_plain (modem_is_opened number).wire opening_row;
      queues = inr (inl (ap (state false) opening_facts));
    }

  -- ---- a query ----

  -- as many of the client's commands wait as may
  abbrev pub fills_share : Bool
  fills_share = has_share setup.limits.share c the_space facts_before

  pub is_refused : (choice own_number : ℕ) → told.begun ≡ assembling.fresh → told.opened ≡ true → fills_share ≡ true → Brings c own (Piece c (query (cid_for choice) own_number))
  is_refused choice own_number fresh opened full =
      let m : List ℕ = query (cid_for choice) own_number in
      let is = (query_is choice).is_message own_number in
      let so : decision_for setup told c m facts_before ≡ Replies Share = ap (λ (b : Bool). if b then Replies Share else decision_on setup told m facts_before) (passes_where c facts_before choice own_number fresh opened ∙ full) in
      record { added = replies c named own lone empty m there whole is Share so; queues = replies_queue c named own lone empty m there whole is Share so }

  module _ (client : (c == 0) ≡ false) (choice own_number number : ℕ) (fresh : told.begun ≡ assembling.fresh) (opened : told.opened ≡ true) (free : fills_share ≡ false) (found : number_for setup (query (cid_for choice) (number_of (query (cid_for choice) own_number))) facts_before ≡ Some number) where
    abbrev m : List ℕ
    m = query (cid_for choice) own_number

    abbrev judged_facts : List Fact
    judged_facts = Judged c (message_count c facts_before + 1) m Forward ∷ facts_before

    abbrev query_request : Request
    query_request = request_of setup c (query (cid_for choice) (number_of m)) number judged_facts

    query_decided : add (mbim_protocol setup) (Says c m) facts_before ≡ Forwarded query_request ∷ judged_facts
    query_decided =
        decided c named own lone empty m there whole ((query_is choice).is_message own_number) (Forwards number) (query_goes c facts_before choice own_number fresh opened free number found)
        ∙ ap (λ (b : Bool). forward_for b setup told c m number facts_before) ((query_is choice).no_request_to_open own_number)
        ∙ ap (λ (command : List ℕ). forward setup c command number judged_facts) (command_is c facts_before choice own_number fresh)

    query_below : number < 2 ^ 32
    query_below = let within = number_within setup room (query (cid_for choice) (number_of m)) facts_before number found in omega (arith, within)

    query_wire : wire setup query_request ≡ query (cid_for choice) number
    query_wire = (query_is choice).wire number (number_of m)

    query_is_plain : Asked query_request
    query_is_plain = record { below = query_below; kind = inl (record { choice = choice; client = client; command = (query_is choice).no_request_to_open (number_of m); wire_is = query_wire }) }

    query_row : row_for mbim_reading c (3 ∷ drop 1 (query (cid_for choice) number)) (ledger own) ≡ row_of c query_request
    unfolding forward_count now message_count
    query_row =
        same_row (ledger own).asked (forward_count (history setup own)) (said_by c (ledger own) + 1) (message_count c judged_facts) (ledger own).time (now (history setup own)) c (key_of (query (cid_for choice) number)) (key_of (wire setup query_request)) false
        lone.mirrors.asked
        (ap (λ (n : ℕ). n + 1) lone.mirrors.said ∙ sym (ap (λ (b : Bool). if b then message_count c (history setup own) + 1 else message_count c (history setup own)) (self c)))
        (ap key_of (sym query_wire)) lone.mirrors.time

    pub asks_it : Brings c own (Piece c (query (cid_for choice) own_number))
    asks_it = record {
      added = forwards c named own lone empty m there whole ((query_is choice).is_message own_number) query_request (message_count c facts_before + 1) Forward 3 (drop 1 (query (cid_for choice) number)) query_decided query_is_plain query_wire query_row;
      queues = inr (inr (record { request = query_request; place = message_count c facts_before + 1; message = m; is = facts_are c named own lone empty m there whole ((query_is choice).is_message own_number) ∙ query_decided }));
    }

  -- a number for it alone, where there is one beside the others
  module _ {w : Progress} {requests : List Request} (beside : List Event) (calm : Calm w requests [] (history setup beside)) (few : length requests ≤ 200) (same : sent_by c (in_use (history setup beside)) ≡ sent_by c (in_use (history setup own)))
      (mine : AllByRecursion (λ r. (r.conn == c) ≡ true) (in_use (history setup own))) where
    pub query_number : (choice x : ℕ) → (n : ℕ) × (number_for setup (query (cid_for choice) x) facts_before ≡ Some n)
    unfolding in_use
    query_number choice x =
        let command : List ℕ = query (cid_for choice) x in
        let q = query_is choice in
        let given : HasNumber command (history setup beside) = has_number command calm few (subst (λ (l : List ℕ). length l ≤ 200) (sym (q.wire 0 x)) (q.short 0)) in
        goes_under setup room c command (history setup beside) facts_before given.number (requests_are_asked setup beside) same mine empty_then given.found
