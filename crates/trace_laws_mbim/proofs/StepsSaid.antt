-- What a client meets alone with a message of its own. Lists of events and of facts have the newest first.
use Rattle.std.proofs.Common.{◌≡◌, ◌≢◌, ℕ, ◌+◌, ◌<◌, ◌≤◌, ◌⊎◌, ⊎_elim, Bool, true, false, ◌==◌, if◌then◌else◌, List, [], ◌∷◌, ◌++◌, length, drop, fold, Option, Some, None, refl, ap, ap₂, sym, ◌∙◌, subst, arith, lit≤, drop_of_length-le}
use Rattle.std.specs.List.{AllByRecursion}
use Rattle.std.proofs.lemmas.Bool.Decides.{nat_tests}
use Rattle.framing.specs.Framing.{IsMessage}
use Rattle.framing.specs.Cutting.{cut}
use Rattle.mbim_frame.specs.declared.kind.MessageKind.TheVariants.{Open}
use Rattle.mbim_frame.specs.declared.status.TheConstants.{SUCCESS}
use Rattle.mbim_frame.specs.Frame.{size_of}
use Rattle.mbim_frame.specs.Head.{is_kind, number_of}
use Rattle.mbim_frame.specs.Writing.{open_done}
use Rattle.mbim_fragments.specs.Assembling as assembling
use Rattle.proxy_history.specs.Events.{Event, Piece, ModemPiece}
use Rattle.proxy_history.specs.Streams.{stream, modem_stream}
use Rattle.proxy_history.specs.Coming.{AreSound, piece_limit}
use Rattle.proxy_history.specs.Facts.{Fact, Request, EventBegan, Ready, Waits, Judged, Forwarded}
use Rattle.proxy_history.specs.Decision.{Replies}
use Rattle.proxy_history.specs.Connections.{present, is_present, message_count}
use Rattle.proxy_history.specs.Requests.{has_share, in_use, pending}
use Rattle.proxy_history.specs.View.{view}
use Rattle.proxy_solo.proofs.Lists.{self}
use Rattle.mbim_proxy.specs.Setup.{the_space}
use Rattle.mbim_proxy.specs.Known.{Known}
use Rattle.mbim_proxy.specs.Step.{known_now}
use Rattle.mbim_proxy.specs.ModemStates.{ModemState, IsShut, IsOpening, IsReady, state}
use Rattle.mbim_proxy.specs.Forwarding.{own_open, number_for}
use Rattle.mbim_proxy.specs.Clients.{decision_on}
use Rattle.mbim_proxy.specs.Proxy.{proxy_of}
use Rattle.mbim_proxy.specs.History.{mbim_protocol, history}
use Rattle.mbim_solo.specs.Solo.{is_ready, answer_to, own_open_in}
use Rattle.mbim_solo.specs.Part.{part}
use Rattle.mbim_solo.specs.Openings.{WaitFor}
use Rattle.mbim_solo.proofs.Relation.{Rests, IsQuietThere, modem_bytes}
use Rattle.mbim_solo.proofs.Settling.{MetAlone, settles}
use Rattle.rig_runs.specs.Mbim.{setup}
use Rattle.rig_runs.specs.MbimExamples.{configuration, open_2}
use Rattle.rig_laws_mbim.proofs.Messages.{configuration_is, opening_is, query, cid_for, query_is, opened, modem_is_opened}
use Rattle.rig_laws_mbim.proofs.Harmless.{steady}
use Rattle.rig_laws_mbim.proofs.Calm.{Calm, Progress, queue_is}
use Rattle.rig_laws_mbim.proofs.Says.{opening_goes}
use Rattle.rig_laws_mbim.proofs.Trail.{Standing, HasItOpened, FindsItOpen, AsksModem}
use Rattle.rig_trace.specs.Rows.{names, said_by, asked_by, number_at}
use Rattle.rig_trace.specs.declared.trace.Met.{Met}
use Rattle.rig_trace.specs.declared.trace.Met.TheVariants.{Said, Heard}
use Rattle.rig_trace.specs.Trace.{heard_at_once, heard_if_unasked}
use Rattle.rig_trace.specs.Mbim.{mbim_reading, opened_at_once}
use Rattle.rig_trace.specs.Alone.{meets, meet_met, hears, IsShort}
use Rattle.rig_trace.specs.Laws.{Mirrors}
use Rattle.rig_trace.proofs.Chain.{AreSame}
use Rattle.trace_laws_mbim.specs.Laws.{row_of}
use Rattle.trace_laws_mbim.proofs.Plain.{IsSaid, IsQuery}
use Rattle.trace_laws_mbim.proofs.Content.{shut_content}
use Rattle.trace_laws_mbim.proofs.Lone.{facts_of, ledger}
use Rattle.trace_laws_mbim.proofs.Said.{was_open}
use Rattle.trace_laws_mbim.proofs.Asking.{room, Brings, configures, opening_request, opening_facts, opens, query_number, is_refused, asks_it}
use Rattle.trace_laws_mbim.proofs.Meets.{Meets, meets_by, meets_beside}
use Rattle.trace_laws_mbim.proofs.Telling.{meet, meet_event, meet_bytes, meets_piece, no_opening, shut_not_ready, says_alone, says_open}
use Rattle.trace_laws_mbim.proofs.OpensAlone.{IsOpeningAlone, own_open_is, number_of_open, opens_alone}
use Rattle.trace_laws_mbim.proofs.Along.{Along, Next, Step, meets_one, orderly_alone, known_alike, present_alike, count_alike, requests_alike, whole_alone, ready_or_shut, none_while_shut, mine_while_ready}

-- the second message asks to open
second_of : (c : ℕ) (past : List Fact) → IsSaid c open_2 past → message_count c past ≡ 1
second_of c past said =
    ⊎_elim
    (λ (first : (open_2 ≡ configuration) × (message_count c past ≡ 0)). absurd (let same : true ≡ false = ap (is_kind Open) first.0 in cc))
    (λ (other : ((open_2 ≡ open_2) × (message_count c past ≡ 1)) ⊎ (IsQuery open_2 × (2 ≤ message_count c past))). ⊎_elim
    (λ (second : (open_2 ≡ open_2) × (message_count c past ≡ 1)). second.1)
    (λ (later : IsQuery open_2 × (2 ≤ message_count c past)). absurd (let same : true ≡ false = ap (is_kind Open) later.0.is ∙ (query_is later.0.choice).no_request_to_open later.0.number in cc))
    other)
    said.message

module _ (c : ℕ) (client : c ≢ 0) (low : 1 ≤ c) (named : c < names) (before after : Standing) (events own : List Event) (L : Along c before events own) (there : is_present c (history setup events) ≡ true) where
  abbrev past : List Fact
  past = EventBegan ∷ history setup events

  abbrev own_past : List Fact
  own_past = EventBegan ∷ history setup own

  abbrev StepOf : Event → Type 0
  StepOf event = Next c before after event events own → Step c client low before events own L after event

  there_alone : is_present c (history setup own) ≡ true
  there_alone = sym (present_alike c client low before events own L) ∙ there

  told_alike : known_now setup c past ≡ known_now setup c own_past
  unfolding view
  told_alike = known_alike c client low before events own L

  fresh_beside : (known_now setup c past).begun ≡ assembling.fresh
  unfolding view
  fresh_beside = (steady c (history setup events) L.at.calm.harmless).begun

  fresh : (known_now setup c own_past).begun ≡ assembling.fresh
  fresh = ap (λ (k : Known). k.begun) (sym told_alike) ∙ fresh_beside

  whole : (cut size_of (stream c own)).rest ≡ []
  whole = whole_alone c client low before events own L

  -- ---- the modem is silent ----

  abbrev asked : List ℕ → List ℕ
  asked m = asked_by (proxy_of setup) (Piece c m) events

  abbrev place : ℕ
  place = said_by c (ledger events) + 1

  none_at_once : (m : List ℕ) → is_kind Open m ≡ false → (l : List ℕ) → heard_if_unasked l c place (opened_at_once m) ≡ []
  none_at_once m other [] = ap (λ (b : Bool). heard_at_once c place (let o : Option (List ℕ) = if b then Some (open_done 0 SUCCESS) else None in o)) other
  none_at_once m other (byte ∷ l) = refl

  silent : (m : List ℕ) → IsMessage size_of m → is_ready (decision_on setup (known_now setup c past) m past) ≡ false → heard_if_unasked (asked m) c place (opened_at_once m) ≡ []
      → Meets c client (Piece c m) own → (state false (facts_of (Piece c m) own) ≡ IsReady → c ≤ after.progress.opened) → StepOf (Piece c m)
  silent m is shut none M opened N =
      meets_one c client low before events own L after (Piece c m) N own (Piece c m) (says_alone c events L.at.streams own m is shut) M opened
      (ap (λ (l : List Met). fold (meet_met mbim_reading (proxy_of setup) c) own (Said c m ∷ l)) none ∙ ap (λ (b : Bool). if b then meets (proxy_of setup) (Piece c m) own else own) (self c))
      (subst (λ (l : List Met). AreSame mbim_reading (proxy_of setup) c own (Said c m ∷ l)) (sym none) ((λ is. N.sound.0), tt))

  -- ---- a message of another kind ----

  other_kind : (m : List ℕ) → IsMessage size_of m → is_kind Open m ≡ false → Brings c own (Piece c m) → StepOf (Piece c m)
  unfolding modem_stream
  other_kind m is other brings N =
      let shut = no_opening (known_now setup c past) m past other in
      let opened : state false (facts_of (Piece c m) own) ≡ IsReady → c ≤ after.progress.opened =
      λ e. let high = L.opened (was_open c named own L.lone L.alike.rests.queue m there_alone whole is e) in let rises = N.rises in omega (arith, high, rises) in
      let M : Meets c client (Piece c m) own =
      meets_beside c client (Piece c m) own (N.sound.0, L.alike.may) L.alike.rests brings L.alike.quiet low after (history setup (Piece c m ∷ events)) N.at.calm N.alike.orderly
      (N.alike.same ∙ ap (λ (l : List Event). part c (history setup l)) (says_alone c events L.at.streams own m is shut)) opened in
      silent m is shut (none_at_once m other (asked m)) M opened N

  pub names_device : StepOf (Piece c configuration)
  names_device = other_kind configuration configuration_is.is_message refl (configures c named own L.lone L.alike.rests.queue there_alone whole fresh)

  pub queries : (m : List ℕ) → AsksModem c m before → StepOf (Piece c m)
  unfolding view
  queries m asks =
      let ready : state false (history setup events) ≡ IsReady = L.at.calm.state_is ∙ ap (λ (w : Progress). w.modem) asks.was in
      let opened : (known_now setup c own_past).opened ≡ true =
      ap (λ (k : Known). k.opened) (sym told_alike) ∙ (L.at.calm.knows c).opened low (subst (λ (w : Progress). c ≤ w.opened) (sym asks.was) asks.high) in
      let mine : AllByRecursion (λ r. (r.conn == c) ≡ true) (in_use (history setup own)) =
      ⊎_elim
      (λ (shut : state false (history setup own) ≡ IsShut). subst (AllByRecursion (λ r. (r.conn == c) ≡ true)) (sym (none_while_shut c client low before events own L shut)) tt)
      (λ (is : state false (history setup own) ≡ IsReady). mine_while_ready c client low before events own L is)
      (ready_or_shut c client low before events own L ready) in
      let calm : Calm before.progress before.requests [] (history setup events) = subst (λ (q : List ℕ). Calm before.progress before.requests q (history setup events)) asks.queue L.at.calm in
      let given = query_number c named own L.lone L.alike.rests.queue there_alone whole events calm asks.few (requests_alike c client low before events own L) mine asks.choice (number_of (query (cid_for asks.choice) asks.number)) in
      let full : Bool = has_share setup.limits.share c the_space own_past in
      let brings : (b : Bool) → full ≡ b → Brings c own (Piece c (query (cid_for asks.choice) asks.number)) =
      λ b. elim b as (λ b. full ≡ b → Brings c own (Piece c (query (cid_for asks.choice) asks.number))) [
        | true ↦ λ is. is_refused c named own L.lone L.alike.rests.queue there_alone whole asks.choice asks.number fresh opened is
        | false ↦ λ free. asks_it c named own L.lone L.alike.rests.queue there_alone whole (grind (arith, nat_tests, low)) asks.choice asks.number given.0 fresh opened free given.1
      ]
      in
      subst (λ (x : List ℕ). StepOf (Piece c x)) (sym asks.message)
      (other_kind (query (cid_for asks.choice) asks.number) ((query_is asks.choice).is_message asks.number) ((query_is asks.choice).no_request_to_open asks.number) (brings full refl))

  -- ---- it asks to open the modem ----

  module _ (said : IsSaid c open_2 (history setup events)) (named_it : (known_now setup c past).configured ≡ true) (waits : (known_now setup c past).waits ≡ None) (shut : state false (history setup own) ≡ IsShut) where
    configured : (known_now setup c own_past).configured ≡ true
    configured = ap (λ (k : Known). k.configured) (sym told_alike) ∙ named_it

    waits_alone : (known_now setup c own_past).waits ≡ None
    waits_alone = ap (λ (k : Known). k.waits) (sym told_alike) ∙ waits

    none : in_use (history setup own) ≡ []
    none = none_while_shut c client low before events own L shut

    second : message_count c (history setup own) ≡ 1
    second = sym (count_alike c client low before events own L) ∙ second_of c (history setup events) said

    abbrev q : Request
    q = opening_request c named own L.lone L.alike.rests.queue there_alone whole configured waits_alone shut none second

    brings : Brings c own (Piece c open_2)
    brings = opens c named own L.lone L.alike.rests.queue there_alone whole configured waits_alone shut none second

    facts_are_so : facts_of (Piece c open_2) own ≡ Forwarded q ∷ Judged c (message_count c own_past + 1) open_2 Waits ∷ own_past
    facts_are_so = opening_facts c named own L.lone L.alike.rests.queue there_alone whole configured waits_alone shut none second

    opening : state false (facts_of (Piece c open_2) own) ≡ IsOpening
    unfolding state
    opening = ap (state false) facts_are_so

    never_ready : state false (facts_of (Piece c open_2) own) ≡ IsReady → ⊥
    never_ready e = let clash : IsOpening ≡ IsReady = sym opening ∙ e in cc

    module _ (short : length open_2 ≤ piece_limit) where
      sound_then : AreSound (mbim_protocol setup) (Piece c open_2 ∷ own)
      sound_then = (short, L.alike.may)

      met : Meets c client (Piece c open_2) own
      met = meets_by c client (Piece c open_2) own sound_then L.alike.rests brings (shut_content (facts_of (Piece c open_2) own) never_ready)

      abbrev first : List Event
      first = meets (proxy_of setup) (Piece c open_2) own

      settled : MetAlone setup room c client (Piece c open_2) own
      unfolding modem_stream
      settled = settles setup room c client (Piece c open_2) own sound_then L.alike.rests L.alike.quiet brings.queues

      none_waits : pending (history setup own) ≡ []
      none_waits = subst (λ (m : ModemState). WaitFor m (pending (history setup own))) shut (orderly_alone c client low before events own L).order.requests

      is_opening : IsOpeningAlone c q first
      unfolding in_use pending
      is_opening = record {
        lone = met.lone;
        rests = subst (λ (l : List Event). Rests setup c (history setup l)) met.same settled.settled.rests;
        may = subst (AreSound (mbim_protocol setup)) met.same settled.may;
        quiet = subst (λ (l : List Event). IsQuietThere setup c (modem_bytes setup c l)) met.same settled.quiet;
        opens = (modem_is_opened 0).is_own;
        uses = met.uses ∙ ap in_use facts_are_so ∙ ap (λ (l : List Request). l ++ q ∷ []) none;
        waits = met.waits ∙ ap pending facts_are_so ∙ ap (λ (l : List Request). l ++ q ∷ []) none_waits;
        modem = met.modem ∙ opening;
      }

    -- the proxy asks the modem
    asked_beside : HasItOpened c open_2 before after → Next c before after (Piece c open_2) events own → heard_if_unasked (asked open_2) c place (opened_at_once open_2) ≡ []
    asked_beside has N = ap₂ (λ (was is : List ℕ). heard_if_unasked (drop (length was) is) c place (opened_at_once open_2)) (queue_is L.at.calm ∙ has.queue) (queue_is N.at.calm ∙ has.asked)

    pub has_opened : HasItOpened c open_2 before after → StepOf (Piece c open_2)
    unfolding state
    has_opened has N =
        let beside : state false (history setup events) ≡ IsShut = L.at.calm.state_is ∙ ap (λ (w : Progress). w.modem) has.was in
        silent open_2 opening_is.is_message (ap is_ready (opening_goes c past named_it waits IsShut beside) ∙ shut_not_ready (number_for setup (own_open setup) past)) (asked_beside has N) (met N.sound.0) (λ e. absurd (never_ready e)) N

    -- or the modem is open already
    abbrev done : List ℕ
    done = open_done 0 SUCCESS

    heard_then : FindsItOpen c open_2 before after → Next c before after (Piece c open_2) events own → Mirrors (row_of 1) (history setup events) (ledger events) → heard_if_unasked (asked open_2) c place (opened_at_once open_2) ≡ Heard c 2 done ∷ []
    heard_then finds N mirrors =
        let none_asked : asked open_2 ≡ [] =
        ap₂ (λ (was is : List ℕ). drop (length was) is) (queue_is L.at.calm) (queue_is N.at.calm ∙ finds.queue) ∙ drop_of_length-le before.queue {i = length before.queue} (omega arith) in
        let place_is : place ≡ 2 = let said_one = mirrors.said c named in let counted = second_of c (history setup events) said in omega (arith, said_one, counted) in
        ap₂ (λ (l : List ℕ) (n : ℕ). heard_if_unasked l c n (Some done)) none_asked place_is

    pub finds_open : FindsItOpen c open_2 before after → Mirrors (row_of 1) (history setup events) (ledger events) → StepOf (Piece c open_2)
    unfolding state present
    finds_open finds mirrors N =
        let beside : state false (history setup events) ≡ IsReady = L.at.calm.state_is ∙ ap (λ (w : Progress). w.modem) finds.was in
        let decided : decision_on setup (known_now setup c past) open_2 past ≡ Replies Ready = opening_goes c past named_it waits IsReady beside in
        let x : List ℕ = opened q.number in
        let short = N.sound.0 in
        let begun : IsOpeningAlone c q (first short) = is_opening short in
        let number = number_of_open c client low q (first short) begun in
        let is : meet_event c events (Piece c open_2) own ≡ meet (ModemPiece x) (first short) =
        says_open c events L.at.streams own open_2 opening_is.is_message there decided
        ∙ ap (λ (l : List Event). meet_bytes (answer_to (own_open_in (history setup l)) done) l) (met short).same
        ∙ ap (λ (o : Option Request). meet_bytes (answer_to o done) (first short)) (own_open_is c client low q (first short) begun)
        ∙ meets_piece x (first short) (modem_is_opened q.number).short in
        let high : c ≤ after.progress.opened = subst (λ (w : Progress). c ≤ w.opened) (sym finds.becomes) (let last = finds.is in omega (arith, last)) in
        let M : Meets c client (ModemPiece x) (first short) =
        opens_alone c client low q (first short) begun after (history setup (Piece c open_2 ∷ events)) N.at.calm N.alike.orderly (N.alike.same ∙ ap (λ (l : List Event). part c (history setup l)) is) high in
        let rest = heard_then finds N mirrors in
        meets_one c client low before events own L after (Piece c open_2) N (first short) (ModemPiece x) is M (λ e. high)
        (ap (λ (l : List Met). fold (meet_met mbim_reading (proxy_of setup) c) own (Said c open_2 ∷ l)) rest
        ∙ ap (λ (b : Bool). fold (meet_met mbim_reading (proxy_of setup) c) (if b then first short else own) (Heard c 2 done ∷ [])) (self c)
        ∙ ap (λ (b : Bool). if b then hears mbim_reading (proxy_of setup) (number_at c 2 (ledger (first short)).rows) done (first short) else first short) (self c)
        ∙ ap (λ (o : Option ℕ). hears mbim_reading (proxy_of setup) o done (first short)) number)
        (subst (λ (l : List Met). AreSame mbim_reading (proxy_of setup) c own (Said c open_2 ∷ l)) (sym rest) (
          (λ is. short),
          subst (λ (b : Bool). AreSame mbim_reading (proxy_of setup) c (if b then first short else own) (Heard c 2 done ∷ [])) (sym (self c))
              ((λ is. subst (λ (o : Option ℕ). IsShort mbim_reading o done) (sym number) (lit≤ tt)), tt),
        ))
