-- A core stands for its events: at the opening, and after each event.
use Rattle.std.proofs.Common.{◌≡◌, ℕ, ◌<◌, ◌≤◌, Bool, true, false, List, [], ◌∷◌, ◌++◌, length, map, drop, refl, ap, sym, ◌∙◌, subst, arith, Option, Some, None, is_none, max, ◌==◌, if◌then◌else◌}
use Rattle.std.specs.List.{IsDistinct}
use Rattle.std.proofs.lemmas.Bool.{eqb-true, eq-eqb}
use Rattle.framing.specs.Cutting.{Cutting, cut, cut_from}
use Rattle.framing.proofs.Cuts.{cut-append}
use Rattle.connections.specs.Table.{Table, Dropped}
use Rattle.connections.specs.Table as tables
use Rattle.proxy_history.specs.Events.{Event, Joined, Piece, Left, ModemPiece, ModemGone, ModemBack, Now, Took, ModemTook}
use Rattle.proxy_history.specs.Streams.{stream, modem_stream, is_bad, is_invalid, with_piece, come_back}
use Rattle.proxy_history.specs.Items.{Says, GoesBad, ModemSays, ModemIsLost, item_if, modem_items, is_lost_once, returns_once}
use Rattle.proxy_history.specs.Facts.{Fact, EventBegan, Ended, Taken, Leaving, ModemReturned, ModemTaken}
use Rattle.proxy_history.specs.Connections.{present, dropped}
use Rattle.proxy_history.specs.Noting as noting
use Rattle.proxy_history.specs.Unanswered as unanswered
use Rattle.proxy_history.specs.Coming.{greatest_name, MayCome}
use Rattle.proxy_history.specs.Protocol.{Protocol}
use Rattle.proxy_history.specs.History.{history, add_all}
use Rattle.proxy_history.proofs.Lists.{above_absent}
use Rattle.proxy_history.proofs.Streams.{goes_on_from_rest}
use Rattle.proxy_history.proofs.Walk.{add_all-append}
use Rattle.proxy_state.specs.State.{State, Core, Handlers, dropped_clients_in}
use Rattle.proxy_state.specs.Stands.{Kept, Streams, streams_of, rests_of, rest_in, messages_in, modem_stream_of, Stands, StandsAfter, CanStep}
use Rattle.proxy_state.specs.Step.{join, leave, take, bring, hear_all, lose_if, hear_cut, bring_modem, lose_modem, regain_modem, lose, finished, step}
use Rattle.proxy_state.specs.Faithful.{Keeps, IsFaithful}
use Rattle.proxy_state.proofs.ClientStates.{client_state_begun}
use Rattle.proxy_state.proofs.Keeping.{connections_same, fits_same}
use Rattle.proxy_state.proofs.Clients.{with_rest, piece_facts, keeps_same, keeps_elsewhere, keeps_brought, keeps_gone, keeps_took, keeps_joined}
use Rattle.proxy_state.proofs.Modem.{delivered_behind, told, keeps_heard}
use Rattle.proxy_state.proofs.Waiting.{steps_may_come}

module _ {Known T S : Type 0} (p : Protocol Known) (k : Kept Known T S) (h : Handlers T S) (Fine : List Fact → Type 0) (F : IsFaithful p k h Fine) where
  abbrev KeptAt : Streams → List Fact → State T S → Type 0
  KeptAt streams past x = Keeps p k Fine streams past x

  abbrev begun : List Event → List Fact
  begun events = EventBegan ∷ history p events

  -- ---- histories ----

  history_joined : (events : List Event) (c : ℕ) → history p (Joined c ∷ events) ≡ p.finish (noting.join p.limits c (begun events))
  unfolding history add_all
  history_joined events c = refl

  history_left : (events : List Event) (c : ℕ) → history p (Left c ∷ events) ≡ p.finish (noting.if_present c (begun events) (Ended c Leaving ∷ begun events))
  unfolding history add_all
  history_left events c = refl

  history_took : (events : List Event) (c count : ℕ) → history p (Took c count ∷ events) ≡ p.finish (noting.if_present c (begun events) (Taken c count ∷ begun events))
  unfolding history add_all
  history_took events c count = refl

  history_timed : (events : List Event) (time : ℕ) → history p (Now time ∷ events) ≡ p.finish (p.on_clock (unanswered.tick p.refuse p.order time (begun events)))
  unfolding history add_all
  history_timed events time = refl

  history_modem_took : (events : List Event) (count : ℕ) → history p (ModemTook count ∷ events) ≡ p.finish (ModemTaken count ∷ begun events)
  unfolding history add_all
  history_modem_took events count = refl

  history_brought : (events : List Event) (c : ℕ) (piece : List ℕ) → history p (Piece c piece ∷ events) ≡ p.finish (piece_facts p k h Fine F c (cut p.size (rests_of p events c ++ piece)) (begun events))
  unfolding history
  history_brought events c piece =
      let on = goes_on_from_rest p.size (stream c events) piece in
      ap (λ (messages : List (List ℕ)). p.finish (add_all p (map (λ m. Says c m) messages ++ item_if (is_bad p.size (stream c events ++ piece)) (GoesBad c)) (begun events))) on.messages
      ∙ ap (λ (b : Bool). p.finish (add_all p (map (λ m. Says c m) (cut p.size (rests_of p events c ++ piece)).messages ++ item_if b (GoesBad c)) (begun events))) on.bad

  history_piece : (events : List Event) (piece : List ℕ) (o : Option (List ℕ)) → modem_stream_of p events ≡ o → history p (ModemPiece piece ∷ events) ≡ p.finish (add_all p (modem_items p piece o) (begun events))
  unfolding history
  history_piece events piece o is = ap (λ (o : Option (List ℕ)). p.finish (add_all p (modem_items p piece o) (begun events))) is

  history_gone : (events : List Event) (o : Option (List ℕ)) → modem_stream_of p events ≡ o → history p (ModemGone ∷ events) ≡ p.finish (add_all p (is_lost_once o) (begun events))
  unfolding history
  history_gone events o is = ap (λ (o : Option (List ℕ)). p.finish (add_all p (is_lost_once o) (begun events))) is

  history_back : (events : List Event) (o : Option (List ℕ)) → modem_stream_of p events ≡ o → history p (ModemBack ∷ events) ≡ p.finish (add_all p (returns_once o) (begun events))
  unfolding history
  history_back events o is = ap (λ (o : Option (List ℕ)). p.finish (add_all p (returns_once o) (begun events))) is

  nothing_added : (past : List Fact) → add_all p [] past ≡ past
  unfolding add_all
  nothing_added past = refl

  once_lost : (past : List Fact) → add_all p (ModemIsLost ∷ []) past ≡ unanswered.lose p.refuse p.order p.close past
  unfolding add_all
  once_lost past = refl

  once_back : (past : List Fact) → add_all p (returns_once None) past ≡ ModemReturned ∷ past
  unfolding add_all
  once_back past = refl

  fresh_stream : (messages_in p.size (Some []) ≡ []) × (rest_in p.size (Some []) ≡ [])
  unfolding cut_from
  fresh_stream = (refl, refl)

  -- ---- an event begins, and ends ----

  module _ (events : List Event) (core : Core T S) (none : core.state.table.dropped ≡ []) (Sd : Stands p k events core) where
    abbrev streams : Streams
    streams = streams_of p events

    kept_begun : KeptAt streams (begun events) core.state
    unfolding present dropped
    kept_begun = record {
      holds = record {
        connections = Sd.holds.connections ∙ connections_same p k Fine streams (begun events) (history p events) (client_state_begun p k (history p events)) refl streams.rests;
        beside = Sd.holds.beside ∙ sym (F.connections.begun (history p events) streams.messages);
        greatest = Sd.holds.greatest;
        limit = Sd.holds.limit;
        room = Sd.holds.room;
        names = Sd.holds.names;
      };
      dropped_clients = ap dropped_clients_in none;
      apart = tt;
      fits = fits_same p k Fine streams (begun events) (history p events) (client_state_begun p k (history p events)) refl (F.fits events);
      fine = F.connections.fine_more EventBegan (history p events) tt tt (F.fine events Sd.sound);
    }

    none_dropped : dropped (begun events) ≡ []
    unfolding dropped
    none_dropped = refl

    -- what an event makes of it stands, once the event has ended
    ended : (event : Event) (facts : List Fact) (after : Core T S) → MayCome p event events → history p (event ∷ events) ≡ p.finish facts → after.rest ≡ rest_in p.size (modem_stream_of p (event ∷ events))
        → KeptAt (streams_of p (event ∷ events)) facts after.state → StandsAfter p k (event ∷ events) (finished h p.size after)
    ended event facts after may is rest K =
        let L : KeptAt (streams_of p (event ∷ events)) (history p (event ∷ events)) (h.finish after.state) =
        subst (λ (l : List Fact). KeptAt (streams_of p (event ∷ events)) l (h.finish after.state)) (sym is) (F.finish (streams_of p (event ∷ events)) facts after.state K)
        in
        record {
          stands = record { holds = L.holds; dropped_clients = ([], L.dropped_clients); rest = rest; sound = (may, Sd.sound) };
          all_dropped = L.dropped_clients;
        }

    abbrev Comes : Event → Core T S → Type 0
    Comes event after = MayCome p event events → StandsAfter p k (event ∷ events) (finished h p.size after)

    -- ---- clients ----

    rests_joined : (c d : ℕ) → (with_rest c [] streams).rests d ≡ rests_of p (Joined c ∷ events) d
    unfolding stream cut_from
    rests_joined c d = elim (c == d) as (λ b. (if b then [] else rests_of p events d) ≡ (cut p.size (if b then [] else stream d events)).rest) [ true ↦ refl | false ↦ refl ]

    stands_joined : (c : ℕ) → core.state.table.greatest < c → Comes (Joined c) (record core { state = join h c core.state })
    unfolding modem_stream
    stands_joined c above may =
        let newer : streams.greatest < c = subst (λ (n : ℕ). n < c) Sd.holds.greatest above in
        let fresh : (with_rest c [] streams).rests c ≡ [] = ap (λ (b : Bool). if b then [] else rests_of p events c) (eq-eqb c c refl) in
        let newest : c ≡ max c streams.greatest = omega arith in
        let rests : ℕ → List ℕ = rests_of p (Joined c ∷ events) in
        let facts : List Fact = noting.join p.limits c (begun events) in
        let K : KeptAt (record streams { greatest = c; rests = rests }) facts (join h c core.state) =
        keeps_same p k h Fine F (record (with_rest c [] streams) { greatest = c }) rests (rests_joined c) facts (join h c core.state)
        (keeps_joined p k h Fine F (with_rest c [] streams) (begun events) core.state c fresh newer none_dropped
        (keeps_elsewhere p k h Fine F streams (begun events) core.state c [] (above_absent streams.greatest c newer (present (begun events)) kept_begun.holds.names.known) kept_begun))
        in
        ended (Joined c) facts (record core { state = join h c core.state }) may (history_joined events c) Sd.rest
        (subst (λ (n : ℕ). KeptAt (record streams { greatest = n; rests = rests }) facts (join h c core.state)) newest K)

    rests_brought : (c : ℕ) (piece : List ℕ) (d : ℕ) → (with_rest c (cut p.size (rests_of p events c ++ piece)).rest streams).rests d ≡ rests_of p (Piece c piece ∷ events) d
    unfolding stream
    rests_brought c piece d =
        let Rest : Bool → Type 0 = λ (b : Bool). (if b then (cut p.size (rests_of p events c ++ piece)).rest else rests_of p events d) ≡ (cut p.size (if b then stream d events ++ piece else stream d events)).rest in
        let step : (b : Bool) → (c == d) ≡ b → Rest b =
        λ b. elim b as (λ b. (c == d) ≡ b → Rest b) [
          | true ↦ λ e. sym (goes_on_from_rest p.size (stream c events) piece).rest ∙ ap (λ (x : ℕ). (cut p.size (stream x events ++ piece)).rest) (eqb-true c d e)
          | false ↦ λ e. refl
        ]
        in step (c == d) refl

    stands_brought : (c : ℕ) (piece : List ℕ) → Comes (Piece c piece) (record core { state = bring h p.size c piece core.state })
    unfolding modem_stream
    stands_brought c piece may =
        let f : Cutting = cut p.size (rests_of p events c ++ piece) in
        let facts : List Fact = piece_facts p k h Fine F c f (begun events) in
        ended (Piece c piece) facts (record core { state = bring h p.size c piece core.state }) may (history_brought events c piece) Sd.rest
        (keeps_same p k h Fine F (with_rest c f.rest streams) (rests_of p (Piece c piece ∷ events)) (rests_brought c piece) facts (bring h p.size c piece core.state)
        (keeps_brought p k h Fine F streams (begun events) core.state c piece kept_begun))

    stands_left : (c : ℕ) → Comes (Left c) (record core { state = leave h.give_up c core.state })
    unfolding stream modem_stream
    stands_left c may = ended (Left c) _ (record core { state = leave h.give_up c core.state }) may (history_left events c) Sd.rest (keeps_gone p k h Fine F streams (begun events) core.state c kept_begun)

    stands_took : (c count : ℕ) → Comes (Took c count) (record core { state = take c count core.state })
    unfolding stream modem_stream
    stands_took c count may = ended (Took c count) _ (record core { state = take c count core.state }) may (history_took events c count) Sd.rest (keeps_took p k h Fine F streams (begun events) core.state c count kept_begun)

    -- ---- the clock, and what the modem takes ----

    stands_timed : (time : ℕ) → Comes (Now time) (record core { state = h.tick time core.state })
    unfolding stream modem_stream
    stands_timed time may = ended (Now time) _ (record core { state = h.tick time core.state }) may (history_timed events time) Sd.rest (F.tick time streams (begun events) core.state kept_begun)

    stands_modem_took : (count : ℕ) → count ≤ length (h.modem_queue core.state.beside) → Comes (ModemTook count) (record core { state = record core.state { beside = h.take_modem count core.state.beside } })
    unfolding stream modem_stream
    stands_modem_took count within may =
        ended (ModemTook count) _ (record core { state = record core.state { beside = h.take_modem count core.state.beside } }) may (history_modem_took events count) Sd.rest (F.take_modem count streams (begun events) core.state within kept_begun)

    -- ---- the modem's stream ----

    abbrev before : Option (List ℕ)
    before = modem_stream_of p events

    abbrev with_stream : Option (List ℕ) → Streams
    with_stream o = record streams { messages = messages_in p.size o }

    away_is : (o : Option (List ℕ)) → before ≡ o → h.away core.state.beside ≡ is_none o
    away_is o is = ap h.away Sd.holds.beside ∙ F.connections.away streams.messages (history p events) ∙ F.away_agrees events ∙ ap (λ (o : Option (List ℕ)). is_none o) is

    rest_is : (o : Option (List ℕ)) → before ≡ o → core.rest ≡ rest_in p.size o
    rest_is o is = Sd.rest ∙ ap (rest_in p.size) is

    kept_with : (o : Option (List ℕ)) → before ≡ o → KeptAt (with_stream o) (begun events) core.state
    kept_with o is = subst (λ (o : Option (List ℕ)). KeptAt (with_stream o) (begun events) core.state) is kept_begun

    -- an event that leaves all but the modem's stream as it is
    module _ (event : Event) (greatest : greatest_name (event ∷ events) ≡ greatest_name events) (rests : (c : ℕ) → rests_of p events c ≡ rests_of p (event ∷ events) c)
        (facts : List Fact) (after : Core T S) (o : Option (List ℕ)) (streamed : modem_stream_of p (event ∷ events) ≡ o) (is : history p (event ∷ events) ≡ p.finish facts) where
      stands_modem : after.rest ≡ rest_in p.size o → KeptAt (with_stream o) facts after.state → Comes event after
      stands_modem rest K may =
          ended event facts after may is (rest ∙ ap (rest_in p.size) (sym streamed))
          (subst (λ (o : Option (List ℕ)). KeptAt (record { greatest = greatest_name (event ∷ events); rests = rests_of p (event ∷ events); messages = messages_in p.size o }) facts after.state) (sym streamed)
          (subst (λ (n : ℕ). KeptAt (record { greatest = n; rests = rests_of p (event ∷ events); messages = messages_in p.size o }) facts after.state) (sym greatest)
          (keeps_same p k h Fine F (with_stream o) (rests_of p (event ∷ events)) rests facts after.state K)))

    -- ---- a piece ----

    brings_away : (piece : List ℕ) → h.away core.state.beside ≡ true → bring_modem h p.size piece core ≡ core
    brings_away piece away = ap (λ (b : Bool). if b then core else hear_cut h p.size (cut p.size (core.rest ++ piece)) core.state) away

    brings_there : (piece : List ℕ) (f : Cutting) → h.away core.state.beside ≡ false → cut p.size (core.rest ++ piece) ≡ f → bring_modem h p.size piece core ≡ hear_cut h p.size f core.state
    brings_there piece f away is = ap (λ (b : Bool). if b then core else hear_cut h p.size (cut p.size (core.rest ++ piece)) core.state) away ∙ ap (λ (g : Cutting). hear_cut h p.size g core.state) is

    stream_piece : (piece : List ℕ) (o : Option (List ℕ)) → before ≡ o → modem_stream_of p (ModemPiece piece ∷ events) ≡ with_piece p.size piece o
    unfolding modem_stream
    stream_piece piece o is = ap (with_piece p.size piece) is

    rests_piece : (piece : List ℕ) (c : ℕ) → rests_of p events c ≡ rests_of p (ModemPiece piece ∷ events) c
    unfolding stream
    rests_piece piece c = refl

    module _ (bytes piece : List ℕ) (is : before ≡ Some bytes) where
      abbrev f : Cutting
      f = cut p.size ((cut p.size bytes).rest ++ piece)

      abbrev messages : List (List ℕ)
      messages = (cut p.size bytes).messages

      abbrev heard : State T S
      heard = hear_all h p.size f.messages core.state

      abbrev heard_facts : List Fact
      heard_facts = add_all p (told p k h Fine F (delivered_behind p F.delivers messages f.messages)) (begun events)

      kept_heard : KeptAt (record streams { messages = messages ++ f.messages }) heard_facts heard
      kept_heard = keeps_heard p k h Fine F streams f.messages messages (begun events) core.state (kept_with (Some bytes) is)

      -- what the messages and the end of a piece add
      abbrev cut_facts : Bool → List Fact
      cut_facts bad = add_all p (told p k h Fine F (delivered_behind p F.delivers messages f.messages) ++ item_if bad ModemIsLost) (begun events)

      abbrev stream_after : Bool → Option (List ℕ)
      stream_after bad = if bad then None else Some (bytes ++ piece)

      kept_cut : (bad : Bool) → KeptAt (with_stream (stream_after bad)) (cut_facts bad) (lose_if h p.size bad f.rest heard).state
      kept_cut true =
          subst (λ (l : List Fact). KeptAt (with_stream None) l (h.lose heard)) (sym (add_all-append p (told p k h Fine F (delivered_behind p F.delivers messages f.messages)) (ModemIsLost ∷ []) (begun events) ∙ once_lost heard_facts))
          (F.lose (record streams { messages = messages ++ f.messages }) heard_facts heard kept_heard)
      kept_cut false =
          subst (λ (l : List Fact). KeptAt (with_stream (Some (bytes ++ piece))) l heard) (sym (add_all-append p (told p k h Fine F (delivered_behind p F.delivers messages f.messages)) [] (begun events) ∙ nothing_added heard_facts))
          (subst (λ (l : List (List ℕ)). KeptAt (record streams { messages = l }) heard_facts heard) (sym (ap (λ (g : Cutting). g.messages) (cut-append p.size bytes piece))) kept_heard)

      rest_after : (bad : Bool) → (lose_if h p.size bad f.rest heard).rest ≡ rest_in p.size (stream_after bad)
      rest_after true = refl
      rest_after false = sym (goes_on_from_rest p.size bytes piece).rest

      stands_there : Comes (ModemPiece piece) (bring_modem h p.size piece core)
      stands_there =
          let bad : Bool = is_invalid (p.size f.rest) in
          let on = goes_on_from_rest p.size bytes piece in
          let facts : history p (ModemPiece piece ∷ events) ≡ p.finish (cut_facts bad) =
          history_piece events piece (Some bytes) is
          ∙ ap (λ (l : List (List ℕ)). p.finish (add_all p (map (λ m. ModemSays m) (drop (length (p.deliver messages)) (p.deliver l)) ++ item_if (is_bad p.size (bytes ++ piece)) ModemIsLost) (begun events)))
          (ap (λ (g : Cutting). g.messages) (cut-append p.size bytes piece))
          ∙ ap (λ (b : Bool). p.finish (cut_facts b)) on.bad
          in
          subst (Comes (ModemPiece piece)) (sym (brings_there piece f (away_is (Some bytes) is) (ap (λ (l : List ℕ). cut p.size (l ++ piece)) (rest_is (Some bytes) is))))
          (stands_modem (ModemPiece piece) refl (rests_piece piece) (cut_facts bad) (lose_if h p.size bad f.rest heard) (stream_after bad)
          (stream_piece piece (Some bytes) is ∙ ap stream_after on.bad) facts (rest_after bad) (kept_cut bad))

    stands_piece : (piece : List ℕ) → Comes (ModemPiece piece) (bring_modem h p.size piece core)
    stands_piece piece =
        let step : (o : Option (List ℕ)) → before ≡ o → Comes (ModemPiece piece) (bring_modem h p.size piece core) =
        λ o. elim o as (λ o. before ≡ o → Comes (ModemPiece piece) (bring_modem h p.size piece core)) [
          | None ↦ λ is.
              subst (Comes (ModemPiece piece)) (sym (brings_away piece (away_is None is)))
              (stands_modem (ModemPiece piece) refl (rests_piece piece) (begun events) core None (stream_piece piece None is) (history_piece events piece None is ∙ ap p.finish (nothing_added (begun events))) (rest_is None is) (kept_with None is))
          | Some bytes ↦ λ is. stands_there bytes piece is
        ]
        in step before refl

    -- ---- it goes, and comes back ----

    stream_gone : modem_stream_of p (ModemGone ∷ events) ≡ None
    unfolding modem_stream
    stream_gone = refl

    rests_gone : (c : ℕ) → rests_of p events c ≡ rests_of p (ModemGone ∷ events) c
    unfolding stream
    rests_gone c = refl

    stands_gone : Comes ModemGone (lose_modem h p.size core)
    stands_gone =
        let step : (o : Option (List ℕ)) → before ≡ o → Comes ModemGone (lose_modem h p.size core) =
        λ o. elim o as (λ o. before ≡ o → Comes ModemGone (lose_modem h p.size core)) [
          | None ↦ λ is.
              subst (Comes ModemGone) (sym (ap (λ (b : Bool). if b then core else lose h p.size core.state) (away_is None is)))
              (stands_modem ModemGone refl rests_gone (begun events) core None stream_gone (history_gone events None is ∙ ap p.finish (nothing_added (begun events))) (rest_is None is) (kept_with None is))
          | Some bytes ↦ λ is.
              subst (Comes ModemGone) (sym (ap (λ (b : Bool). if b then core else lose h p.size core.state) (away_is (Some bytes) is)))
              (stands_modem ModemGone refl rests_gone (unanswered.lose p.refuse p.order p.close (begun events)) (lose h p.size core.state) None stream_gone
              (history_gone events (Some bytes) is ∙ ap p.finish (once_lost (begun events))) refl (F.lose (with_stream (Some bytes)) (begun events) core.state (kept_with (Some bytes) is)))
        ]
        in step before refl

    stream_back : (o : Option (List ℕ)) → before ≡ o → modem_stream_of p (ModemBack ∷ events) ≡ come_back o
    unfolding modem_stream
    stream_back o is = ap come_back is

    rests_back : (c : ℕ) → rests_of p events c ≡ rests_of p (ModemBack ∷ events) c
    unfolding stream
    rests_back c = refl

    abbrev regained : Core T S
    regained = record core { state = record core.state { beside = h.regain core.state.beside } }

    stands_back : Comes ModemBack (regain_modem h p.size core)
    stands_back =
        let step : (o : Option (List ℕ)) → before ≡ o → Comes ModemBack (regain_modem h p.size core) =
        λ o. elim o as (λ o. before ≡ o → Comes ModemBack (regain_modem h p.size core)) [
          | None ↦ λ is.
              subst (Comes ModemBack) (sym (ap (λ (b : Bool). if b then regained else core) (away_is None is)))
              (stands_modem ModemBack refl rests_back (ModemReturned ∷ begun events) regained (Some []) (stream_back None is) (history_back events None is ∙ ap p.finish (once_back (begun events)))
              (rest_is None is ∙ sym fresh_stream.1)
              (subst (λ (l : List (List ℕ)). KeptAt (record streams { messages = l }) (ModemReturned ∷ begun events) regained.state) (sym fresh_stream.0) (F.regain (with_stream None) (begun events) core.state refl (kept_with None is))))
          | Some bytes ↦ λ is.
              subst (Comes ModemBack) (sym (ap (λ (b : Bool). if b then regained else core) (away_is (Some bytes) is)))
              (stands_modem ModemBack refl rests_back (begun events) core (Some bytes) (stream_back (Some bytes) is) (history_back events (Some bytes) is ∙ ap p.finish (nothing_added (begun events))) (rest_is (Some bytes) is) (kept_with (Some bytes) is))
        ]
        in step before refl

  -- ---- each event ----

  stands_met : (event : Event) (events : List Event) (core : Core T S) → CanStep h event core → Stands p k events core → MayCome p event events → StandsAfter p k (event ∷ events) (step h p.size event core)
  stands_met (Joined c) events core can Sd may = stands_joined events core can.hung_up Sd c can.may_come may
  stands_met (Piece c piece) events core can Sd may = stands_brought events core can.hung_up Sd c piece may
  stands_met (Left c) events core can Sd may = stands_left events core can.hung_up Sd c may
  stands_met (ModemPiece piece) events core can Sd may = stands_piece events core can.hung_up Sd piece may
  stands_met ModemGone events core can Sd may = stands_gone events core can.hung_up Sd may
  stands_met ModemBack events core can Sd may = stands_back events core can.hung_up Sd may
  stands_met (Now time) events core can Sd may = stands_timed events core can.hung_up Sd time may
  stands_met (Took c count) events core can Sd may = stands_took events core can.hung_up Sd c count may
  stands_met (ModemTook count) events core can Sd may = stands_modem_took events core can.hung_up Sd count can.may_come may

  pub stands_step : (event : Event) (events : List Event) (core : Core T S) → CanStep h event core → Stands p k events core → StandsAfter p k (event ∷ events) (step h p.size event core)
  stands_step event events core can Sd = stands_met event events core can Sd (steps_may_come p k h Fine F events core Sd event can)

-- nothing has happened yet
pub stands_open : {Known T S : Type 0} (p : Protocol Known) (k : Kept Known T S) (core : Core T S)
    → core.state.table ≡ tables.opened p.limits.connections p.limits.outbox → core.state.beside ≡ k.beside [] [] → core.rest ≡ [] → Stands p k [] core
unfolding history present dropped IsDistinct modem_stream cut_from
stands_open {T = T} p k core table beside rest = record {
  holds = record {
    connections = ap (λ (t : Table T). t.present) table;
    beside = beside ∙ elim p.starts_away as (λ b. k.beside [] [] ≡ k.beside (messages_in p.size (if b then None else Some [])) []) [ true ↦ refl | false ↦ refl ];
    greatest = ap (λ (t : Table T). t.greatest) table;
    limit = ap (λ (t : Table T). t.limit) table;
    room = ap (λ (t : Table T). t.room) table;
    names = record { known = tt; distinct = tt };
  };
  dropped_clients = ([], ap (λ (t : Table T). dropped_clients_in t.dropped) table);
  rest = rest ∙ elim p.starts_away as (λ b. [] ≡ rest_in p.size (if b then None else Some [])) [ true ↦ refl | false ↦ refl ];
  sound = tt;
}
