-- What a core stands for goes on from event to event. Lists of events and of requests have the newest first.
use Rattle.std.proofs.Common.{◌≡◌, ℕ, ◌+◌, ◌<◌, ◌≤◌, ◌⊎◌, inl, inr, Bool, true, false, not, ◌&&◌, ◌||◌, ◌==◌, if◌then◌else◌, List, [], ◌∷◌, ◌++◌, append_assoc, map, refl, ap, sym, ◌∙◌, subst, arith, Option, Some, None}
use Rattle.std.proofs.lemmas.Bool.{eq-eqb}
use Rattle.std.proofs.lemmas.List.{map-append}
use Rattle.std.proofs.lemmas.Simd.{map-map}
use Rattle.std.specs.List.{AllByRecursion}
use Rattle.kit_bytes.proofs.Lists.{all_weaker, all_filter, all_push}
use Rattle.framing.specs.Framing.{is_invalid}
use Rattle.framing.specs.Cutting.{cut, cut_from}
use Rattle.proxy_history.specs.Events.{Event, Joined, Piece, Left, ModemPiece, ModemGone, ModemBack, Now, Took, ModemTook}
use Rattle.proxy_history.specs.Streams.{Framing, stream, messages_of_piece}
use Rattle.proxy_history.specs.Laws.{GoesOnFromRest}
use Rattle.proxy_history.proofs.Streams.{goes_on_from_rest}
use Rattle.proxy_history.specs.Connections.{contains, without}
use Rattle.served_sim.specs.Conduct.{Conduct, IsPrompt}
use Rattle.sim_serving.specs.Clients.{Owed, Request, Session, heeded, hangs_up, session, is_ended, present, dropped, brought, asks, requests, messages_of, ticks, joins, promised, promises, promised_by, due_at, owed, added, waiting}
use Rattle.sim_serving.specs.Core.{Client, Core, named, client_of, late_after, listed, StandsFor, StandsAfter}
use Rattle.sim_serving.specs.Hearing.{cut_of, goes_on, heeded_of, heard, changed, gone, took, ticks_on, Hears, Brings, Ticks, still_late}
use Rattle.sim_serving.specs.declared.replies.Late.{Late}
use Rattle.sim_serving.specs.Lawful.{waiting_after, waiting_joined, nothing_added}
use Rattle.sim_serving.specs.Shows.{named_is}
use Rattle.sim_serving.proofs.Asking.{asks-first}
use Rattle.sim_serving.proofs.Own.{asked_by}
use Rattle.sim_serving.proofs.Owing.{due-then, late-then, late-append, owed-same, owed-more, owed-joined, over-owed, over-late, over-due, over-next}
use Rattle.sim_serving.proofs.Names.{AreDistinct, AreOthers, others_where_absent, without_others, without_are_others, distinct_without, distinct_push, others_below, same_clients, gone_is, changed_is}

none_listed : (o : Option ℕ) → listed o ≡ [] → o ≡ None
none_listed None is = refl
none_listed (Some c) is = absurd (cc)

-- the messages of requests that were asked
pub messages_asked : (c : ℕ) (messages : List (List ℕ)) (before : List Request) → messages_of (asks (map (asked_by c) messages) before) ≡ asks messages (messages_of before)
unfolding asks
messages_asked c [] before = refl
messages_asked c (m ∷ messages) before =
    ap messages_of (asks-first (asked_by c m) (map (asked_by c) messages) before) ∙ messages_asked c messages (asked_by c m ∷ before) ∙ sym (asks-first m messages (messages_of before))

module _ {S : Type 0} (size : Framing) (keeps : ℕ → Conduct → List (List ℕ) → S → Type 0) (conduct : Conduct) (past : List Event) (old : Core S) (Sd : StandsFor size keeps conduct past old) (hung_up : listed old.dropped ≡ []) where
  abbrev names : List ℕ
  names = present size conduct past

  abbrev before : List (List ℕ)
  before = messages_of (requests size conduct past)

  abbrev now : ℕ → Client
  now = client_of size conduct past

  abbrev then_as : Event → ℕ → Client
  then_as event = client_of size conduct (event ∷ past)

  abbrev tick : ℕ
  tick = ticks size conduct past

  client : ℕ → List ℕ → List ℕ → List Late → Client
  client c stream waiting late = record { name = c; rest = (cut size stream).rest; replies = record { waiting = waiting; late = late } }

  -- what goes to a client later
  late_of : ℕ → List Event → List Late
  late_of c events = late_after (ticks size conduct events) (owed size conduct c events)

  -- a client whose stream and bytes an event leaves
  same_client : (event : Event) (c : ℕ) → stream c (event ∷ past) ≡ stream c past → waiting size conduct c (event ∷ past) ≡ waiting size conduct c past → late_of c (event ∷ past) ≡ late_of c past → now c ≡ then_as event c
  unfolding client late_of
  same_client event c streams waits lates =
      ap (λ (s : List ℕ). client c s (waiting size conduct c past) (late_of c past)) (sym streams)
      ∙ ap (λ (w : List ℕ). client c (stream c (event ∷ past)) w (late_of c past)) (sym waits)
      ∙ ap (λ (l : List Late). client c (stream c (event ∷ past)) (waiting size conduct c (event ∷ past)) l) (sym lates)

  -- an event that is no tick and promises it nothing leaves what goes to it later
  same_late : (event : Event) (c : ℕ) → ticks size conduct (event ∷ past) ≡ tick → joins c event ≡ false → promised_by size conduct c event past ≡ [] → late_of c (event ∷ past) ≡ late_of c past
  unfolding late_of
  same_late event c still other none = ap (λ (n : ℕ). late_after n (owed size conduct c (event ∷ past))) still ∙ ap (late_after tick) (owed-same size conduct c event past other none)

  -- ---- what changes nothing ----

  all_same : (event : Event) → ((c : ℕ) → now c ≡ then_as event c) → (l : List ℕ) → map now l ≡ map (then_as event) l
  all_same event same l = same_clients now (then_as event) l (everyone l)
    where
      everyone : (l : List ℕ) → AllByRecursion (λ d. now d ≡ then_as event d) l
      everyone [] = tt
      everyone (c ∷ l) = (same c, everyone l)

  -- an event by which nobody joins, sends, leaves or takes, and which is no tick
  module _ (event : Event) (on : session size conduct (event ∷ past) ≡ session size conduct past) (nobody : dropped size conduct (event ∷ past) ≡ []) (same : (c : ℕ) → now c ≡ then_as event c) where
    stay : present size conduct (event ∷ past) ≡ names
    stay = ap (λ (s : Session). s.present) on

    passed_over : StandsAfter size keeps conduct (event ∷ past) old
    passed_over =
        let Kept : Session → Type 0 = λ s. keeps s.ticks conduct (messages_of s.requests) old.sim in
        record {
          stands = record {
            modem = subst Kept (sym on) Sd.modem;
            clients = Sd.clients ∙ all_same event same names ∙ ap (map (then_as event)) (sym stay);
            distinct = subst AreDistinct (sym stay) Sd.distinct;
            known = subst (λ (l : List ℕ). AllByRecursion (λ c. c ≤ old.greatest) l) (sym stay) Sd.known;
            dropped = λ none. none_listed old.dropped hung_up;
          };
          all_dropped = hung_up ∙ sym nobody;
        }

  pub passed_modem_piece : (piece : List ℕ) → StandsAfter size keeps conduct (ModemPiece piece ∷ past) old
  unfolding session stream
  passed_modem_piece piece = passed_over (ModemPiece piece) refl refl (λ c. same_client (ModemPiece piece) c refl (nothing_added size conduct c (ModemPiece piece) past 0 refl refl refl) (same_late (ModemPiece piece) c refl refl refl))

  pub passed_modem_gone : StandsAfter size keeps conduct (ModemGone ∷ past) old
  unfolding session stream
  passed_modem_gone = passed_over ModemGone refl refl (λ c. same_client ModemGone c refl (nothing_added size conduct c ModemGone past 0 refl refl refl) (same_late ModemGone c refl refl refl))

  pub passed_modem_back : StandsAfter size keeps conduct (ModemBack ∷ past) old
  unfolding session stream
  passed_modem_back = passed_over ModemBack refl refl (λ c. same_client ModemBack c refl (nothing_added size conduct c ModemBack past 0 refl refl refl) (same_late ModemBack c refl refl refl))

  pub passed_modem_took : (count : ℕ) → StandsAfter size keeps conduct (ModemTook count ∷ past) old
  unfolding session stream
  passed_modem_took count = passed_over (ModemTook count) refl refl (λ c. same_client (ModemTook count) c refl (nothing_added size conduct c (ModemTook count) past 0 refl refl refl) (same_late (ModemTook count) c refl refl refl))

  -- ---- the clock ticks ----

  module _ (time : ℕ) where
    abbrev it_ticks : Event
    it_ticks = Now time

    abbrev told : List ℕ
    told = conduct.told (tick + 1) before

    late_now : (c : ℕ) → late_of c (it_ticks ∷ past) ≡ late_after (tick + 1) (owed size conduct c past)
    unfolding late_of session
    late_now c = ap (late_after (tick + 1)) (owed-same size conduct c it_ticks past refl refl)

    waiting_now : (c : ℕ) → waiting size conduct c (it_ticks ∷ past) ≡ waiting size conduct c past ++ (due_at (tick + 1) (owed size conduct c past) ++ told)
    waiting_now c = waiting_after size conduct c it_ticks past 0 refl refl

    -- a client that is told what the modem tells
    ticked_is : (c : ℕ) → ticks_on told (now c) ≡ then_as it_ticks c
    unfolding client late_of stream
    ticked_is c =
        let late : List Late = late_after tick (owed size conduct c past) in
        let due : List ℕ = due_at (tick + 1) (owed size conduct c past) in
        let waits : List ℕ = waiting size conduct c past in
        let make : List ℕ → List Late → Client = λ w l. client c (stream c past) w l in
        ap (λ (d : List ℕ). make ((waits ++ d) ++ told) (still_late late)) (due-then tick (owed size conduct c past))
        ∙ ap (λ (w : List ℕ). make w (still_late late)) (append_assoc waits due told ∙ sym (waiting_now c))
        ∙ ap (make (waiting size conduct c (it_ticks ∷ past))) (late-then tick (owed size conduct c past) ∙ sym (late_now c))

    -- where the clock doesn't matter
    untold_is : IsPrompt conduct → (c : ℕ) → now c ≡ then_as it_ticks c
    unfolding late_of stream
    untold_is prompt c =
        let over = over-owed size conduct prompt c past in
        let bytes : added size conduct c it_ticks past ≡ [] = ap (λ (l : List ℕ). l ++ told) (over-due tick (owed size conduct c past) over) ∙ prompt.silent (tick + 1) before in
        same_client it_ticks c refl (nothing_added size conduct c it_ticks past 0 refl refl bytes)
        (late_now c ∙ over-late (tick + 1) (owed size conduct c past) (over-next tick (owed size conduct c past) over) ∙ sym (over-late tick (owed size conduct c past) over))

    clients_now : (new : Core S) → Ticks keeps tick conduct before old new → new.clients ≡ map (then_as it_ticks) names
    clients_now new T = by T.clients
      where
        everyone : (l : List ℕ) → AllByRecursion (λ c. ticks_on told (now c) ≡ then_as it_ticks c) l
        everyone [] = tt
        everyone (c ∷ l) = (ticked_is c, everyone l)

        by : (IsPrompt conduct × (new.clients ≡ old.clients)) ⊎ (new.clients ≡ map (ticks_on told) old.clients) → new.clients ≡ map (then_as it_ticks) names
        by (inl (prompt, is)) = is ∙ Sd.clients ∙ all_same it_ticks (untold_is prompt) names
        by (inr is) = is ∙ ap (map (ticks_on told)) Sd.clients ∙ map-map (ticks_on told) now names ∙ same_clients (λ c. ticks_on told (now c)) (then_as it_ticks) names (everyone names)

    pub passed_now : (new : Core S) → Ticks keeps tick conduct before old new → StandsAfter size keeps conduct (Now time ∷ past) new
    unfolding session
    passed_now new T =
        let still : new.dropped ≡ None = T.dropped ∙ none_listed old.dropped hung_up in
        record {
          stands = record {
            modem = T.modem;
            clients = clients_now new T;
            distinct = Sd.distinct;
            known = subst (λ (g : ℕ). AllByRecursion (λ c. c ≤ g) names) (sym T.greatest) Sd.known;
            dropped = λ none. still;
          };
          all_dropped = ap listed still;
        }

  -- ---- one joins, leaves or takes ----

  module _ (c : ℕ) where
    own : (c == c) ≡ true
    own = eq-eqb c c refl

    joined_stream : (cut size (stream c (Joined c ∷ past))).rest ≡ []
    unfolding stream cut_from
    joined_stream = ap (λ (b : Bool). (cut size (if b then [] else stream c past)).rest) own

    make : List ℕ → List ℕ → List Owed → Client
    make rest waiting owed = record { name = c; rest = rest; replies = record { waiting = waiting; late = late_after tick owed } }

    joined_is : then_as (Joined c) c ≡ record { name = c; rest = []; replies = record { waiting = []; late = [] } }
    unfolding make session
    joined_is =
        ap (λ (r : List ℕ). make r (waiting size conduct c (Joined c ∷ past)) (owed size conduct c (Joined c ∷ past))) joined_stream
        ∙ ap (λ (w : List ℕ). make [] w (owed size conduct c (Joined c ∷ past))) (waiting_joined size conduct c past)
        ∙ ap (make [] []) (owed-joined size conduct c past own)

    joined_other : (d : ℕ) → (c == d) ≡ false → now d ≡ then_as (Joined c) d
    unfolding stream session
    joined_other d other = same_client (Joined c) d (ap (λ (b : Bool). if b then [] else stream d past) other) (nothing_added size conduct d (Joined c) past 0 other refl refl) (same_late (Joined c) d refl other refl)

    pub joined : old.greatest < c → StandsAfter size keeps conduct (Joined c ∷ past) (record old { clients = old.clients ++ record { name = c; rest = []; replies = record { waiting = []; late = [] } } ∷ []; greatest = c })
    unfolding session
    joined above =
        record {
          stands = record {
            modem = Sd.modem;
            clients =
                ap (λ (l : List Client). l ++ record { name = c; rest = []; replies = record { waiting = []; late = [] } } ∷ []) (Sd.clients ∙ same_clients now (then_as (Joined c)) names (all_weaker _ _ joined_other names (others_below c old.greatest names above Sd.known)))
                ∙ ap (λ (k : Client). map (then_as (Joined c)) names ++ k ∷ []) (sym joined_is)
                ∙ sym (map-append (then_as (Joined c)) names (c ∷ []));
            distinct = distinct_push c old.greatest names above Sd.known Sd.distinct;
            known = all_push (λ d. d ≤ c) names c (all_weaker _ _ (λ d below. omega (arith, below, above)) names Sd.known) (omega arith);
            dropped = λ none. none_listed old.dropped hung_up;
          };
          all_dropped = hung_up;
        }

    left_same : (d : ℕ) → now d ≡ then_as (Left c) d
    unfolding stream session
    left_same d = same_client (Left c) d refl (nothing_added size conduct d (Left c) past 0 refl refl refl) (same_late (Left c) d refl refl refl)

    pub left : StandsAfter size keeps conduct (Left c ∷ past) (record old { clients = gone c old.clients })
    unfolding session
    left =
        record {
          stands = record {
            modem = Sd.modem;
            clients = ap (gone c) Sd.clients ∙ gone_is c now (λ d. refl) names Sd.distinct ∙ all_same (Left c) left_same (without c names);
            distinct = distinct_without c names Sd.distinct;
            known = all_filter _ _ names Sd.known;
            dropped = λ none. none_listed old.dropped hung_up;
          };
          all_dropped = hung_up;
        }

    took_other : (count d : ℕ) → (c == d) ≡ false → now d ≡ then_as (Took c count) d
    unfolding stream session
    took_other count d other = same_client (Took c count) d refl (nothing_added size conduct d (Took c count) past 0 refl (ap (λ (b : Bool). if b then count else 0) other) refl) (same_late (Took c count) d refl refl refl)

    took_own : (count : ℕ) → took count (now c) ≡ then_as (Took c count) c
    unfolding stream session make
    took_own count =
        ap (λ (w : List ℕ). make (cut size (stream c past)).rest w (owed size conduct c past)) (sym (nothing_added size conduct c (Took c count) past count refl (ap (λ (b : Bool). if b then count else 0) own) refl))
        ∙ ap (make (cut size (stream c past)).rest (waiting size conduct c (Took c count ∷ past))) (sym (owed-same size conduct c (Took c count) past refl refl))

    pub taken_from : (count : ℕ) → StandsAfter size keeps conduct (Took c count ∷ past) (record old { clients = changed c (took count) old.clients })
    unfolding session
    taken_from count =
        record {
          stands = record {
            modem = Sd.modem;
            clients = ap (changed c (took count)) Sd.clients ∙ changed_is c now (λ d. refl) (then_as (Took c count)) (took count) (took_other count) (took_own count) names Sd.distinct;
            distinct = Sd.distinct;
            known = Sd.known;
            dropped = λ none. none_listed old.dropped hung_up;
          };
          all_dropped = hung_up;
        }

  -- ---- a piece comes ----

  module _ (c : ℕ) (piece : List ℕ) where
    abbrev it : Event
    it = Piece c piece

    abbrev there : Bool
    there = contains c names

    goes_on_from : GoesOnFromRest size (stream c past) piece
    goes_on_from = goes_on_from_rest size (stream c past) piece

    abbrev messages : List (List ℕ)
    messages = (cut_of size piece (now c)).messages

    -- those that the modem heeds
    abbrev asked : List (List ℕ)
    asked = heeded_of size conduct before piece (now c)

    -- others get nothing by it
    brought_other : (d : ℕ) → (c == d) ≡ false → now d ≡ then_as it d
    unfolding stream session
    brought_other d other =
        same_client it d (ap (λ (b : Bool). if b then stream d past ++ piece else stream d past) other)
        (nothing_added size conduct d it past 0 refl refl (ap (λ (b : Bool). if b then due_at tick (promises size conduct c piece past) else []) other))
        (same_late it d refl refl (ap (λ (b : Bool). if b then promises size conduct c piece past else []) other))

    all_others : (l : List ℕ) → AreOthers c l → map now l ≡ map (then_as it) l
    all_others l others = same_clients now (then_as it) l (all_weaker _ _ brought_other l others)

    -- ---- of a connection that isn't there ----

    module _ (absent : there ≡ false) where
      unbrought : brought size conduct c piece past ≡ []
      unbrought = ap (λ (b : Bool). if b then heeded conduct (messages_of_piece size (stream c past) piece) before else []) absent

      unasked : requests size conduct (it ∷ past) ≡ requests size conduct past
      unfolding session asks
      unasked = ap (λ (l : List (List ℕ)). asks (map (asked_by c) l) (requests size conduct past)) unbrought

      unchanged : present size conduct (it ∷ past) ≡ names
      unfolding session
      unchanged = either (is_ended size conduct c piece past)
        where
          either : (b : Bool) → (if b then without c names else names) ≡ names
          either true = without_others c names (others_where_absent c names absent)
          either false = refl

      undropped : dropped size conduct (it ∷ past) ≡ []
      undropped = ap (λ (b : Bool). if b && is_ended size conduct c piece past then c ∷ [] else []) absent

      kept_on : keeps tick conduct (messages_of (requests size conduct (it ∷ past))) old.sim → keeps (ticks size conduct (it ∷ past)) conduct (messages_of (requests size conduct (it ∷ past))) old.sim
      unfolding session
      kept_on kept = kept

      pub brought_to_nobody : StandsAfter size keeps conduct (it ∷ past) old
      brought_to_nobody =
          let Asked : List Request → Type 0 = λ l. keeps tick conduct (messages_of l) old.sim in
          record {
            stands = record {
              modem = kept_on (subst Asked (sym unasked) Sd.modem);
              clients = Sd.clients ∙ all_others names (others_where_absent c names absent) ∙ ap (map (then_as it)) (sym unchanged);
              distinct = subst AreDistinct (sym unchanged) Sd.distinct;
              known = subst (λ (l : List ℕ). AllByRecursion (λ c. c ≤ old.greatest) l) (sym unchanged) Sd.known;
              dropped = λ none. none_listed old.dropped hung_up;
            };
            all_dropped = hung_up ∙ sym undropped;
          }

    -- ---- of one that is there ----

    module _ (here : there ≡ true) (new : Core S) (H : Hears size keeps tick conduct before (now c) piece old new) where
      brings : brought size conduct c piece past ≡ asked
      brings = ap (λ (b : Bool). if b then heeded conduct (messages_of_piece size (stream c past) piece) before else []) here ∙ ap (λ (l : List (List ℕ)). heeded conduct l before) goes_on_from.messages

      asked_more : asks asked before ≡ messages_of (requests size conduct (it ∷ past))
      unfolding session
      asked_more = sym (messages_asked c (brought size conduct c piece past) (requests size conduct past) ∙ ap (λ (l : List (List ℕ)). asks l before) brings)

      bad_is : is_ended size conduct c piece past ≡ not (goes_on size conduct before piece (now c))
      bad_is =
          ap (λ (b : Bool). b || hangs_up conduct (messages_of_piece size (stream c past) piece) before) goes_on_from.bad
          ∙ ap (λ (l : List (List ℕ)). is_invalid (size (cut_of size piece (now c)).rest) || hangs_up conduct l before) goes_on_from.messages
          ∙ twice (is_invalid (size (cut_of size piece (now c)).rest) || hangs_up conduct messages before)
        where
          twice : (b : Bool) → b ≡ not (not b)
          twice true = refl
          twice false = refl

      -- what it is promised
      abbrev promised_now : List Owed
      promised_now = promised conduct tick asked before

      promises_is : promises size conduct c piece past ≡ promised_now
      promises_is = ap (λ (l : List (List ℕ)). promised conduct tick l before) brings

      modem_now : keeps (ticks size conduct (it ∷ past)) conduct (messages_of (requests size conduct (it ∷ past))) new.sim
      unfolding session
      modem_now = subst (λ (l : List (List ℕ)). keeps tick conduct l new.sim) asked_more H.modem

      brought_own : heard size tick conduct before piece (now c) ≡ then_as it c
      unfolding stream session client
      brought_own =
          let own : (c == c) ≡ true = eq-eqb c c refl in
          let make : List ℕ → List ℕ → List Late → Client = λ rest waiting late. let k : Client = record { name = c; rest = rest; replies = record { waiting = waiting; late = late } } in k in
          let waits : List ℕ = waiting size conduct c past in
          let late : List Late = late_after tick (owed size conduct c past) in
          let bytes : added size conduct c it past ≡ due_at tick promised_now =
          ap (λ (b : Bool). if b then due_at tick (promises size conduct c piece past) else []) own ∙ ap (due_at tick) promises_is
          in
          let owes : owed size conduct c (it ∷ past) ≡ owed size conduct c past ++ promised_now =
          owed-more size conduct c it past refl ∙ ap (λ (b : Bool). owed size conduct c past ++ (if b then promises size conduct c piece past else [])) own ∙ ap (λ (l : List Owed). owed size conduct c past ++ l) promises_is
          in
          let rest : (cut size (stream c (it ∷ past))).rest ≡ (cut_of size piece (now c)).rest =
          ap (λ (b : Bool). (cut size (if b then stream c past ++ piece else stream c past)).rest) own ∙ goes_on_from.rest
          in
          ap (λ (r : List ℕ). make r (waits ++ due_at tick promised_now) (late ++ late_after tick promised_now)) (sym rest)
          ∙ ap (λ (w : List ℕ). make (cut size (stream c (it ∷ past))).rest w (late ++ late_after tick promised_now)) (sym (waiting_after size conduct c it past 0 refl refl ∙ ap (λ (l : List ℕ). waits ++ l) bytes))
          ∙ ap (make (cut size (stream c (it ∷ past))).rest (waiting size conduct c (it ∷ past))) (sym (ap (late_after tick) owes ∙ late-append tick (owed size conduct c past) promised_now))

      -- its stream is good
      module _ (good : goes_on size conduct before piece (now c) ≡ true) where
        not_bad : is_ended size conduct c piece past ≡ false
        not_bad = bad_is ∙ ap not good

        same_names : present size conduct (it ∷ past) ≡ names
        unfolding session
        same_names = ap (λ (b : Bool). if b then without c names else names) not_bad

        none_dropped : dropped size conduct (it ∷ past) ≡ []
        none_dropped = ap (λ (b : Bool). if b && is_ended size conduct c piece past then c ∷ [] else []) here ∙ ap (λ (b : Bool). if b then c ∷ [] else []) not_bad

        still : new.dropped ≡ None
        still = H.dropped ∙ ap (λ (b : Bool). if b then old.dropped else Some c) good ∙ none_listed old.dropped hung_up

        pub brought_good : StandsAfter size keeps conduct (it ∷ past) new
        brought_good =
            record {
              stands = record {
                modem = modem_now;
                clients =
                    H.clients
                    ∙ ap (λ (b : Bool). if b then changed c (heard size tick conduct before piece) old.clients else gone c old.clients) good
                    ∙ ap (changed c (heard size tick conduct before piece)) Sd.clients
                    ∙ changed_is c now (λ d. refl) (then_as it) (heard size tick conduct before piece) brought_other brought_own names Sd.distinct
                    ∙ ap (map (then_as it)) (sym same_names);
                distinct = subst AreDistinct (sym same_names) Sd.distinct;
                known = subst (λ (g : ℕ). AllByRecursion (λ c. c ≤ g) (present size conduct (it ∷ past))) (sym H.greatest) (subst (λ (l : List ℕ). AllByRecursion (λ c. c ≤ old.greatest) l) (sym same_names) Sd.known);
                dropped = λ none. still;
              };
              all_dropped = ap listed still ∙ sym none_dropped;
            }

      -- its stream is bad
      module _ (bad : goes_on size conduct before piece (now c) ≡ false) where
        is_bad_now : is_ended size conduct c piece past ≡ true
        is_bad_now = bad_is ∙ ap not bad

        fewer_names : present size conduct (it ∷ past) ≡ without c names
        unfolding session
        fewer_names = ap (λ (b : Bool). if b then without c names else names) is_bad_now

        one_dropped : dropped size conduct (it ∷ past) ≡ c ∷ []
        one_dropped = ap (λ (b : Bool). if b && is_ended size conduct c piece past then c ∷ [] else []) here ∙ ap (λ (b : Bool). if b then c ∷ [] else []) is_bad_now

        named_now : new.dropped ≡ Some c
        named_now = H.dropped ∙ ap (λ (b : Bool). if b then old.dropped else Some c) bad

        pub brought_bad : StandsAfter size keeps conduct (it ∷ past) new
        brought_bad =
            record {
              stands = record {
                modem = modem_now;
                clients =
                    H.clients
                    ∙ ap (λ (b : Bool). if b then changed c (heard size tick conduct before piece) old.clients else gone c old.clients) bad
                    ∙ ap (gone c) Sd.clients
                    ∙ gone_is c now (λ d. refl) names Sd.distinct
                    ∙ all_others (without c names) (without_are_others c names)
                    ∙ ap (map (then_as it)) (sym fewer_names);
                distinct = subst AreDistinct (sym fewer_names) (distinct_without c names Sd.distinct);
                known = subst (λ (g : ℕ). AllByRecursion (λ c. c ≤ g) (present size conduct (it ∷ past))) (sym H.greatest) (subst (λ (l : List ℕ). AllByRecursion (λ c. c ≤ old.greatest) l) (sym fewer_names) (all_filter _ _ names Sd.known));
                dropped = λ none. let one = one_dropped in absurd (cc);
              };
              all_dropped = ap listed named_now ∙ sym one_dropped;
            }

      pub brought_here : StandsAfter size keeps conduct (it ∷ past) new
      brought_here =
          let step : (b : Bool) → goes_on size conduct before piece (now c) ≡ b → StandsAfter size keeps conduct (it ∷ past) new =
          elim [ true ↦ λ is. brought_good is | false ↦ λ is. brought_bad is ]
          in step (goes_on size conduct before piece (now c)) refl

    -- whichever
    pub brought_is : (new : Core S) → Brings size keeps tick conduct before (named c old.clients) piece old new → StandsAfter size keeps conduct (it ∷ past) new
    brought_is new B =
        let found : named c old.clients ≡ (if there then Some (now c) else None) = ap (named c) Sd.clients ∙ named_is c now (λ d. refl) names in
        let step : (b : Bool) → there ≡ b → Brings size keeps tick conduct before (if b then Some (now c) else None) piece old new → StandsAfter size keeps conduct (it ∷ past) new =
        elim [
          | true ↦ λ is H. brought_here is new H
          | false ↦ λ is same. subst (λ (core : Core S). StandsAfter size keeps conduct (it ∷ past) core) (sym same) (brought_to_nobody is)
        ]
        in step there refl (subst (λ (o : Option Client). Brings size keeps tick conduct before o piece old new) found B)
