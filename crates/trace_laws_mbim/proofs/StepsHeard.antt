-- What a client meets alone with a message of the modem. Lists of events and of facts have the newest first.
use Rattle.std.proofs.Common.{◌≡◌, ◌≢◌, ℕ, ◌^◌, ◌<◌, ◌≤◌, ◌⊎◌, ⊎_elim, Bool, true, false, not, ◌&&◌, ◌||◌, ◌==◌, is_some, if◌then◌else◌, List, [], ◌∷◌, length, fold, Option, Some, None, refl, ap, sym, ◌∙◌, subst, arith, lit≤, Contains}
use Rattle.std.specs.List.{AllByRecursion}
use Rattle.std.proofs.lemmas.Bool.{eq-eqb, eqb-true}
use Rattle.std.proofs.lemmas.List.Elements.{recursion_from_All, All-contains_itself}
use Rattle.mbim_frame.specs.declared.kind.MessageKind.TheVariants.{OpenDone}
use Rattle.mbim_frame.specs.Head.{is_kind, with_number}
use Rattle.proxy_history.specs.Events.{Event, ModemPiece}
use Rattle.proxy_history.specs.Items.{ModemSays}
use Rattle.proxy_history.specs.Facts.{Fact, Request, EventBegan}
use Rattle.proxy_history.specs.Connections.{contains, present, is_present}
use Rattle.proxy_history.specs.Requests.{in_use, pending, has_request, is_pending}
use Rattle.proxy_history.specs.View.{view}
use Rattle.proxy_history.proofs.Lists.{Contains-nil}
use Rattle.proxy_history.proofs.Sound.{forwarded_from_in_use}
use Rattle.proxy_solo.specs.Answers as alone
use Rattle.proxy_solo.specs.Answers.{numbered}
use Rattle.proxy_solo.proofs.Lists.{self, turned}
use Rattle.proxy_solo.proofs.Matching.{Twin, twin_of, twin_number}
use Rattle.proxy_solo.proofs.Placed.{same_place}
use Rattle.mbim_proxy.specs.Step.{blank, known_now}
use Rattle.mbim_proxy.specs.ModemStates.{ModemState, IsShut, IsOpening, IsReady, is_own_open, state}
use Rattle.mbim_proxy.specs.Lists.{waiting}
use Rattle.mbim_proxy.specs.FromModem.{Heard, IsDone, IsOpenDone, heard_as, is_answered_by, first_answered_by, respond, hear_as, hear_modem}
use Rattle.mbim_proxy.specs.Proxy.{proxy_of}
use Rattle.mbim_proxy.specs.History.{history}
use Rattle.mbim_solo.specs.Solo.{restated, failed, message_if, in_fragments, answered_by, is_waiting_open, ends_opening, heard_alone, hears_if, answer_to}
use Rattle.mbim_solo.specs.Part.{part}
use Rattle.mbim_solo.specs.Openings.{is_absent}
use Rattle.mbim_solo.proofs.Reading.{reads}
use Rattle.mbim_solo.proofs.Noted.{is_waiting, waiting-part}
use Rattle.mbim_solo.proofs.Hearing.{found_for, is_command}
use Rattle.mbim_solo.proofs.Told.{number_fits}
use Rattle.mbim_solo.proofs.Spoken.{SaysOne, plain_says_one}
use Rattle.mbim_solo.proofs.Relation.{IsOrderly, Stand, OpensOnly}
use Rattle.mbim_solo.proofs.Orderly.{begun_orderly}
use Rattle.mbim_solo.proofs.Standing.{waits-part}
use Rattle.rig_runs.specs.Mbim.{setup}
use Rattle.rig_laws_mbim.proofs.Messages.{answer, cid_for, answer_is, answer_number_is, opened, modem_is_opened, opened_number_is}
use Rattle.rig_laws_mbim.proofs.Calm.{Progress, Tells, opening}
use Rattle.rig_laws_mbim.proofs.Events.{answer_says}
use Rattle.rig_laws_mbim.proofs.Trail.{Standing}
use Rattle.rig_trace.specs.declared.rows.Row.{Row}
use Rattle.rig_trace.specs.Rows.{first_with, number_at}
use Rattle.rig_trace.specs.declared.trace.Met.{Met}
use Rattle.rig_trace.specs.declared.trace.Met.TheVariants as met
use Rattle.rig_trace.specs.Trace.{heard_by}
use Rattle.rig_trace.specs.Mbim.{key_of, mbim_reading}
use Rattle.rig_trace.specs.Alone.{meet_met, hears, IsShort}
use Rattle.rig_trace.specs.Laws.{Mirrors}
use Rattle.rig_trace.proofs.Chain.{AreSame}
use Rattle.trace_laws_mbim.specs.Laws.{row_of}
use Rattle.trace_laws_mbim.proofs.Rows.{AllAsked}
use Rattle.trace_laws_mbim.proofs.Rows.{AreCommands, answer_key, opened_key, done_is_found, open_done_is_found, numbers_at}
use Rattle.trace_laws_mbim.proofs.Content.{is_there}
use Rattle.trace_laws_mbim.proofs.Lone.{ledger}
use Rattle.trace_laws_mbim.proofs.Asking.{room, Brings}
use Rattle.trace_laws_mbim.proofs.Heard.{ComesAlone, comes_alone, heard}
use Rattle.trace_laws_mbim.proofs.Meets.{Meets, meets_beside}
use Rattle.trace_laws_mbim.proofs.Telling.{either_none, meet, meet_event, meet_bytes, meets_piece, hears_it}
use Rattle.trace_laws_mbim.proofs.OpensAlone.{IsOpeningAlone, finds_it, own_open_is, number_of_open, opens_alone}
use Rattle.trace_laws_mbim.proofs.Along.{Along, Next, mets, Step, stays, meets_one, orderly_alone, requests_alike, stands, ready_or_shut, none_while_shut, mine_while_ready, only_while_opening}

-- while the client waits for that, the modem opens alone too
opens_too : (c : ℕ) (own : ModemState) → Stand setup c true IsOpening own → own ≡ IsOpening
opens_too c IsOpening stand = refl
opens_too c _ stand = absurd stand

there_or_shut : (modem : ModemState) → (modem ≡ IsShut) ⊎ (modem ≡ IsReady) → is_absent modem ≡ false
there_or_shut modem which = ⊎_elim (λ (is : modem ≡ IsShut). ap is_absent is) (λ (is : modem ≡ IsReady). ap is_absent is) which

module _ (c : ℕ) (client : c ≢ 0) (low : 1 ≤ c) (before after : Standing) (events own : List Event) (L : Along c before events own) (mirrors : Mirrors (row_of 1) (history setup events) (ledger events)) (all : AllAsked (in_use (history setup events))) where
  abbrev past : List Fact
  past = EventBegan ∷ history setup events

  abbrev own_past : List Fact
  own_past = EventBegan ∷ history setup own

  abbrev StepOf : Event → Type 0
  StepOf event = Next c before after event events own → Step c client low before events own L after event

  orderly_past : IsOrderly setup c past
  orderly_past = begun_orderly setup c client (history setup events) L.alike.orderly

  -- what the modem says then, by whether the client waits for the opening
  abbrev told_if : List ℕ → Bool → Option (List ℕ)
  told_if x b = if b then ends_opening (ModemSays x) past else None

  abbrev said_with : List ℕ → Option (List ℕ) → List Event
  said_with x o = meet_bytes (hears_if o setup c (ModemSays x) past (history setup own)) own

  -- ---- the modem tells that it is open ----

  module _ (r : Request) (joined : ℕ) (below : r.number < 2 ^ 32) (opens : is_own_open r ≡ true) (used : before.requests ≡ r ∷ []) (was : before.progress ≡ opening joined) where
    abbrev x : List ℕ
    x = opened r.number

    says : SaysOne setup x x
    says = let m = modem_is_opened r.number in plain_says_one setup x m.is_message m.no_answer m.no_indication

    uses : in_use (history setup events) ≡ r ∷ []
    uses = L.at.calm.uses ∙ used

    waits : pending (history setup events) ≡ r ∷ []
    waits = subst (λ (w : Progress). Tells w.modem w.opened before.requests (history setup events)) was L.at.calm.tells ∙ used

    row_beside : first_with (key_of x) (ledger events).rows ≡ Some (row_of 1 r)
    row_beside =
        ap (first_with (key_of x)) mirrors.rows
        ∙ open_done_is_found 1 x r.number (opened_number_is r.number below) (in_use (history setup events)) all r (opened_key r.number below) (ap (first_answered_by IsOpenDone x) uses ∙ finds_it r below opens)

    told_so : mets c client low before events own L (ModemPiece x) ≡ met.Heard 1 2 x ∷ []
    told_so =
        ap (λ (o : Option Row). heard_by o x) row_beside
        ∙ ap (λ (b : Bool). met.Heard (if b then 1 else r.conn) (if b then 2 else r.place) x ∷ []) opens

    ends : ends_opening (ModemSays x) past ≡ Some x
    unfolding in_use pending
    ends =
        ap (λ (h : Heard). message_if (is_waiting_open (answered_by h x past) past) (if is_kind OpenDone x then x else failed)) (modem_is_opened r.number).heard
        ∙ ap (λ (l : List Request). message_if (is_waiting_open (first_answered_by IsOpenDone x l) past) x) uses
        ∙ ap (λ (o : Option Request). message_if (is_waiting_open o past) x) (finds_it r below opens)
        ∙ ap (λ (b : Bool). message_if (b && is_pending r past) x) opens
        ∙ ap (λ (l : List Request). message_if (has_request r l) x) waits
        ∙ ap (λ (b : Bool). message_if (b || false) x) (self r.serial)

    waits_by : (o : Option ℕ) → (known_now setup c past).waits ≡ o → contains c (waiting setup past) ≡ (is_present c past && is_some o)
    waits_by o is =
        waiting-part setup c past orderly_past.fit.once
        ∙ waits-part setup c client past orderly_past.fit.once
        ∙ ap (λ (o : Option ℕ). is_present c past && is_some o) is

    known_waits : (known_now setup c past).waits ≡ (if c == 1 then Some 2 else None)
    unfolding view
    known_waits = (L.at.calm.knows c).waits ∙ ap (λ (w : Progress). w.waiting c) was

    state_events : state false (history setup events) ≡ IsOpening
    state_events = L.at.calm.state_is ∙ ap (λ (w : Progress). w.modem) was

    waits_in_part : (known_now setup c past).waits ≡ Some 2 → is_present c (history setup events) ≡ true → is_waiting setup c (part c (history setup events)) ≡ true
    unfolding view
    waits_in_part asks there =
        waits-part setup c client (history setup events) L.alike.orderly.fit.once
        ∙ ap (λ (b : Bool). b && is_some (known_now setup c (history setup events)).waits) there
        ∙ ap (λ (o : Option ℕ). is_some o) asks

    -- to another client
    pub opened_for_another : (1 == c) ≡ false → StepOf (ModemPiece x)
    opened_for_another other N =
        let none : (known_now setup c past).waits ≡ None = known_waits ∙ ap (λ (b : Bool). let o : Option ℕ = if b then Some 2 else None in o) (turned c 1 ∙ other) in
        let waits_not : contains c (waiting setup past) ≡ false = waits_by None none ∙ elim (is_present c past) as (λ b. (b && false) ≡ false) [ true ↦ refl | false ↦ refl ] in
        stays c client low before events own L after (ModemPiece x) N
        (hears_it c events L.at.streams own x says
        ∙ ap (λ (b : Bool). said_with x (told_if x b)) waits_not
        ∙ ap (λ (h : Heard). meet_bytes (heard_alone h setup c x past (history setup own)) own) (modem_is_opened r.number).heard)
        (ap (λ (l : List Met). fold (meet_met mbim_reading (proxy_of setup) c) own l) told_so
        ∙ ap (λ (b : Bool). if b then hears mbim_reading (proxy_of setup) (number_at c 2 (ledger own).rows) x own else own) other)
        (subst (λ (l : List Met). AreSame mbim_reading (proxy_of setup) c own l) (sym told_so) ((λ is. absurd (let clash : true ≡ false = sym (eq-eqb 1 c is) ∙ other in cc)), tt))

    -- to the client that asked for that
    pub opened_for_it : (1 == c) ≡ true → 1 ≤ before.progress.joined → c ≤ after.progress.opened → StepOf (ModemPiece x)
    unfolding present
    opened_for_it mine some high N =
        let first : (c == 1) ≡ true = turned c 1 ∙ mine in
        let asks : (known_now setup c past).waits ≡ Some 2 = known_waits ∙ ap (λ (b : Bool). let o : Option ℕ = if b then Some 2 else None in o) first in
        let there : is_present c (history setup events) ≡ true = is_there c client low before (history setup events) (history setup own) L.at.calm L.alike.orderly (orderly_alone c client low before events own L) L.alike.same (let one = eqb-true c 1 first in omega (arith, one, some)) in
        let waits_true : contains c (waiting setup past) ≡ true = waits_by (Some 2) asks ∙ ap (λ (b : Bool). b && true) there in
        let waits_part : is_waiting setup c (part c (history setup events)) ≡ true = waits_in_part asks there in
        let modem_alone : state false (history setup own) ≡ IsOpening =
        opens_too c (state false (history setup own))
        (subst (λ (m : ModemState). Stand setup c true m (state false (history setup own))) state_events
        (subst (λ (b : Bool). Stand setup c b (state false (history setup events)) (state false (history setup own))) waits_part (stands c client low before events own L).states)) in
        let O : OpensOnly setup c (history setup events) (history setup own) = only_while_opening c client low before events own L modem_alone in
        let q : Request = O.request in
        let begun : IsOpeningAlone c q own = record { lone = L.lone; rests = L.alike.rests; may = L.alike.may; quiet = L.alike.quiet; opens = O.opens; uses = O.only; waits = O.waits; modem = modem_alone } in
        let number = number_of_open c client low q own begun in
        let is : meet_event c events (ModemPiece x) own ≡ meet (ModemPiece (opened q.number)) own =
        hears_it c events L.at.streams own x says
        ∙ ap (λ (b : Bool). said_with x (told_if x b)) waits_true
        ∙ ap (λ (o : Option (List ℕ)). said_with x o) ends
        ∙ ap (λ (o : Option Request). meet_bytes (answer_to o x) own) (own_open_is c client low q own begun)
        ∙ meets_piece (opened q.number) own (modem_is_opened q.number).short in
        let M : Meets c client (ModemPiece (opened q.number)) own =
        opens_alone c client low q own begun after (history setup (ModemPiece x ∷ events)) N.at.calm N.alike.orderly (N.alike.same ∙ ap (λ (l : List Event). part c (history setup l)) is) high in
        meets_one c client low before events own L after (ModemPiece x) N own (ModemPiece (opened q.number)) is M (λ e. high)
        (ap (λ (l : List Met). fold (meet_met mbim_reading (proxy_of setup) c) own l) told_so
        ∙ ap (λ (b : Bool). if b then hears mbim_reading (proxy_of setup) (number_at c 2 (ledger own).rows) x own else own) mine
        ∙ ap (λ (o : Option ℕ). hears mbim_reading (proxy_of setup) o x own) number)
        (subst (λ (l : List Met). AreSame mbim_reading (proxy_of setup) c own l) (sym told_so) ((λ is. subst (λ (o : Option ℕ). IsShort mbim_reading o x) (sym number) (lit≤ tt)), tt))

  -- ---- the modem answers a query ----

  module _ (r : Request) (choice : ℕ) (below : r.number < 2 ^ 32) (command : is_own_open r ≡ false) (at : Contains (in_use (history setup events)) r) (ready : state false (history setup events) ≡ IsReady) where
    abbrev y : List ℕ
    y = answer (cid_for choice) r.number

    is_done : heard_as y ≡ IsDone
    is_done = (answer_is choice).heard r.number

    answers_by : (q : Request) → q.number < 2 ^ 32 → is_own_open q ≡ false → is_answered_by IsDone (answer (cid_for choice) q.number) q ≡ true
    answers_by q low_q of_command =
        ap (λ (n : ℕ). q.number == n && not (is_own_open q)) (answer_number_is (cid_for choice) q.number low_q)
        ∙ ap (λ (b : Bool). b && not (is_own_open q)) (self q.number)
        ∙ ap not of_command

    found_beside : first_answered_by IsDone y (in_use (history setup events)) ≡ Some r
    found_beside = found_for setup room.enough c client (history setup events) L.alike.orderly.fit IsDone y r at (answers_by r below command)

    answer_row : first_with (key_of y) (ledger events).rows ≡ Some (row_of 1 r)
    answer_row =
        ap (first_with (key_of y)) mirrors.rows
        ∙ done_is_found 1 y r.number (answer_number_is (cid_for choice) r.number below) (in_use (history setup events)) all r (answer_key (cid_for choice) r.number below) found_beside

    answer_told : mets c client low before events own L (ModemPiece y) ≡ met.Heard r.conn r.place y ∷ []
    answer_told =
        ap (λ (o : Option Row). heard_by o y) answer_row
        ∙ ap (λ (b : Bool). met.Heard (if b then 1 else r.conn) (if b then 2 else r.place) y ∷ []) command

    ends_none : ends_opening (ModemSays y) past ≡ None
    unfolding in_use
    ends_none =
        ap (λ (h : Heard). message_if (is_waiting_open (answered_by h y past) past) (if is_kind OpenDone y then y else failed)) is_done
        ∙ ap (λ (o : Option Request). message_if (is_waiting_open o past) (if is_kind OpenDone y then y else failed)) found_beside
        ∙ ap (λ (b : Bool). message_if (b && is_pending r past) (if is_kind OpenDone y then y else failed)) command

    not_told : told_if y (contains c (waiting setup past)) ≡ None
    not_told = ap (λ (o : Option (List ℕ)). let p : Option (List ℕ) = if contains c (waiting setup past) then o else None in p) ends_none ∙ either_none (contains c (waiting setup past))

    abbrev answered_if : Bool → Option ℕ → List Event
    answered_if b o = meet_bytes (let p : Option (List ℕ) = if b then numbered in_fragments o y else None in p) own

    answer_heard : meet_event c events (ModemPiece y) own ≡ answered_if (r.conn == c) (alone.number_at c r.place (in_use (history setup own)))
    unfolding in_use
    answer_heard =
        hears_it c events L.at.streams own y (answer_says choice r.number below)
        ∙ ap (said_with y) not_told
        ∙ ap (λ (h : Heard). meet_bytes (heard_alone h setup c y past (history setup own)) own) is_done
        ∙ ap (λ (o : Option Request). meet_bytes (alone.answer_alone in_fragments c o y (in_use (history setup own))) own) found_beside

    -- of another client
    pub answer_for_another : (r.conn == c) ≡ false → StepOf (ModemPiece y)
    answer_for_another other N =
        stays c client low before events own L after (ModemPiece y) N
        (answer_heard ∙ ap (λ (b : Bool). answered_if b (alone.number_at c r.place (in_use (history setup own)))) other)
        (ap (λ (l : List Met). fold (meet_met mbim_reading (proxy_of setup) c) own l) answer_told
        ∙ ap (λ (b : Bool). if b then hears mbim_reading (proxy_of setup) (number_at c r.place (ledger own).rows) y own else own) other)
        (subst (λ (l : List Met). AreSame mbim_reading (proxy_of setup) c own l) (sym answer_told) ((λ is. absurd (let clash : true ≡ false = sym (eq-eqb r.conn c is) ∙ other in cc)), tt))

    -- of the client
    module _ (mine : (r.conn == c) ≡ true) where
      orderly_own : IsOrderly setup c (history setup own)
      orderly_own = orderly_alone c client low before events own L

      twin : Twin c (history setup own) r
      twin = twin_of c (history setup events) (history setup own) r (requests_alike c client low before events own L) at mine

      abbrev q : Request
      q = twin.request

      is_ready_alone : state false (history setup own) ≡ IsReady
      is_ready_alone =
          ⊎_elim
          (λ (shut : state false (history setup own) ≡ IsShut). absurd (Contains-nil q (subst (λ (l : List Request). Contains l q) (none_while_shut c client low before events own L shut) twin.at)))
          (λ (is : state false (history setup own) ≡ IsReady). is)
          (ready_or_shut c client low before events own L ready)

      q_below : q.number < 2 ^ 32
      q_below = number_fits setup room c client (history setup own) orderly_own q twin.at

      q_command : is_own_open q ≡ false
      q_command = is_command setup room.enough c client (history setup own) orderly_own.fit q (forwarded_from_in_use (history setup own) q twin.at) twin.mine

      abbrev z : List ℕ
      z = answer (cid_for choice) q.number

      found_alone : first_answered_by IsDone z (in_use (history setup own)) ≡ Some q
      found_alone = found_for setup room.enough c client (history setup own) orderly_own.fit IsDone z q twin.at (answers_by q q_below q_command)

      one : (p : Request) → Contains (in_use (history setup own)) p → (p.conn == c) ≡ true → p.place ≡ q.place → p ≡ q
      one p at_p of place = same_place setup.limits blank restated reads c (history setup own) p q orderly_own.fit.placed.placed (forwarded_from_in_use (history setup own) p at_p, of) (forwarded_from_in_use (history setup own) q twin.at, twin.mine) place

      number_alone : alone.number_at c r.place (in_use (history setup own)) ≡ Some q.number
      number_alone = twin_number c (history setup own) r twin one

      -- all that is in use alone are commands
      commands : (requests : List Request) → AllByRecursion (λ p. Contains (in_use (history setup own)) p) requests → AllByRecursion (λ p. (p.conn == c) ≡ true) requests → AreCommands requests
      commands [] all of = tt
      commands (p ∷ requests) all of = (is_command setup room.enough c client (history setup own) orderly_own.fit p (forwarded_from_in_use (history setup own) p all.0) of.0, commands requests all.1 of.1)

      all_commands : AreCommands (in_use (history setup own))
      all_commands = commands (in_use (history setup own)) (recursion_from_All (λ (p : Request). Contains (in_use (history setup own)) p) (in_use (history setup own)) (All-contains_itself (in_use (history setup own)))) (mine_while_ready c client low before events own L is_ready_alone)

      number_of_row : number_at c r.place (ledger own).rows ≡ Some q.number
      number_of_row = ap (number_at c r.place) L.lone.mirrors.rows ∙ numbers_at c c r.place (in_use (history setup own)) L.lone.plain all_commands ∙ number_alone

      comes : ComesAlone c own z
      comes = comes_alone c own z orderly_own (ap is_absent is_ready_alone) L.alike.quiet (answer_says choice q.number q_below)

      responds : hear_modem setup z own_past ≡ respond setup (Some q) z own_past
      unfolding in_use
      responds =
          ap (λ (h : Heard). hear_as setup h z own_past) ((answer_is choice).heard q.number)
          ∙ ap (λ (o : Option Request). respond setup o z own_past) found_alone

      row_alone : first_with (key_of z) (ledger own).rows ≡ Some (row_of c q)
      row_alone = ap (first_with (key_of z)) L.lone.mirrors.rows ∙ done_is_found c z q.number (answer_number_is (cid_for choice) q.number q_below) (in_use (history setup own)) L.lone.plain q (answer_key (cid_for choice) q.number q_below) found_alone

      brings : Brings c own (ModemPiece z)
      brings = heard c own L.lone L.alike.rests.queue z comes q responds row_alone

      rewritten : numbered in_fragments (Some q.number) y ≡ Some z
      rewritten = ap (λ (l : List ℕ). Some l) ((answer_is choice).split_is q.number)

      short : length z ≤ 200
      short = (answer_is choice).short q.number

      pub answer_for_it : StepOf (ModemPiece y)
      answer_for_it N =
          let is : meet_event c events (ModemPiece y) own ≡ meet (ModemPiece z) own =
          answer_heard
          ∙ ap (λ (b : Bool). answered_if b (alone.number_at c r.place (in_use (history setup own)))) mine
          ∙ ap (answered_if true) number_alone
          ∙ ap (λ (o : Option (List ℕ)). meet_bytes o own) rewritten
          ∙ meets_piece z own short in
          let high : c ≤ after.progress.opened = let was_open = L.opened is_ready_alone in let rises = N.rises in omega (arith, was_open, rises) in
          let M : Meets c client (ModemPiece z) own =
          meets_beside c client (ModemPiece z) own (omega (arith, short), L.alike.may) L.alike.rests brings comes.quiet low after (history setup (ModemPiece y ∷ events)) N.at.calm N.alike.orderly
          (N.alike.same ∙ ap (λ (l : List Event). part c (history setup l)) is) (λ e. high) in
          meets_one c client low before events own L after (ModemPiece y) N own (ModemPiece z) is M (λ e. high)
          (ap (λ (l : List Met). fold (meet_met mbim_reading (proxy_of setup) c) own l) answer_told
          ∙ ap (λ (b : Bool). if b then hears mbim_reading (proxy_of setup) (number_at c r.place (ledger own).rows) y own else own) mine
          ∙ ap (λ (o : Option ℕ). hears mbim_reading (proxy_of setup) o y own) number_of_row)
          (subst (λ (l : List Met). AreSame mbim_reading (proxy_of setup) c own l) (sym answer_told) ((λ is. subst (λ (o : Option ℕ). IsShort mbim_reading o y) (sym number_of_row) (let few : length (with_number q.number y) ≤ 200 = short in omega (arith, few))), tt))
