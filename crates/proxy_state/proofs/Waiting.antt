-- What waits for a connection is what its history says, and what a core may step with may come.
use Rattle.std.proofs.Common.{◌≡◌, ℕ, ◌+◌, nat_lt, Bool, true, false, cond, ◌||◌, ◌==◌, List, [], ◌∷◌, ◌++◌, length, map, drop, refl, ap, sym, ◌∙◌, subst, arith, Option, Some, None, is_some, append_assoc, if◌then◌else◌}
use Rattle.std.specs.List.{AllByRecursion}
use Rattle.std.specs.List.{position, position_from}
use Rattle.std.proofs.lemmas.Bool.{eqb-true}
use Rattle.std.proofs.lemmas.List.{map-id, drop-map}
use Rattle.std.proofs.lemmas.Simd.{map-map}
use Rattle.std.proofs.lemmas.Iterator.Adapters.{position_from-zero}
use Rattle.connections.specs.Table.{Connection, Dropped, connection_in, left_in, left_for, waiting_or, has_waiting}
use Rattle.proxy_history.specs.Events.{Event, Joined, Piece, Left, ModemPiece, ModemGone, ModemBack, Now, Took, ModemTook}
use Rattle.proxy_history.specs.Facts.{Fact}
use Rattle.proxy_history.specs.Connections.{present, dropped, contains}
use Rattle.proxy_history.specs.Noting.{rendering}
use Rattle.proxy_history.specs.Coming.{queued_for, MayCome}
use Rattle.proxy_history.specs.Protocol.{Protocol}
use Rattle.proxy_history.specs.History.{history, text_for}
use Rattle.proxy_state.specs.State.{Core, DroppedClient, Handlers, dropped_clients_in}
use Rattle.proxy_state.specs.Stands.{Kept, connection_of, dropped_client_of, streams_of, rests_of, IsSuffix, Stands, StandsAfter, CanStep, names_of, waiting_for, is_owed}
use Rattle.proxy_state.specs.Faithful.{IsFaithful}
use Rattle.proxy_state.specs.Laws.{WaitingAreOfTheHistory, AskingKeepsStanding}
use Rattle.proxy_state.proofs.Keeping.{found}

module _ {Known : Type 0} (p : Protocol Known) (past : List Fact) where
  -- a dropped_client is that of its name
  abbrev IsLeft : DroppedClient → Type 0
  IsLeft d = d ≡ dropped_client_of p past d.name

  all_left : (names : List ℕ) → AllByRecursion IsLeft (map (dropped_client_of p past) names)
  all_left [] = tt
  all_left (c ∷ names) = (refl, all_left names)

  suffix_left : (front dropped_clients : List DroppedClient) → AllByRecursion IsLeft (front ++ dropped_clients) → AllByRecursion IsLeft dropped_clients
  suffix_left [] dropped_clients all = all
  suffix_left (d ∷ front) dropped_clients all = suffix_left front dropped_clients all.1

  left_is : (c : ℕ) (dropped_clients : List Dropped) → AllByRecursion IsLeft (dropped_clients_in dropped_clients) → contains c (map (λ d. d.name) dropped_clients) ≡ true → left_for c dropped_clients ≡ (rendering p.limits p.wording c past).waiting
  left_is c [] all there = absurd (cc)
  left_is c (d ∷ dropped_clients) all there =
      let Left : Bool → Type 0 = λ (b : Bool). (if b then left_in d.outbox else left_for c dropped_clients) ≡ (rendering p.limits p.wording c past).waiting in
      let step : (b : Bool) → (c == d.name) ≡ b → (b || contains c (map (λ (d : Dropped). d.name) dropped_clients)) ≡ true → Left b =
      λ b. elim b as (λ b. (c == d.name) ≡ b → (b || contains c (map (λ (d : Dropped). d.name) dropped_clients)) ≡ true → Left b) [
        | true ↦ λ e later. ap (λ (l : DroppedClient). l.waiting) all.0 ∙ ap (λ (x : ℕ). (rendering p.limits p.wording x past).waiting) (sym (eqb-true c d.name e))
        | false ↦ λ e later. left_is c dropped_clients all.1 later
      ]
      in step (c == d.name) refl there

module _ {Known T S : Type 0} (p : Protocol Known) (k : Kept Known T S) (events : List Event) (core : Core T S) (Sd : Stands p k events core) (c : ℕ) where
  abbrev it : Connection T
  it = connection_of p k (rests_of p events) (history p events) c

  abbrev others : List ℕ
  others = left_for c core.state.table.dropped

  abbrev here : Bool
  here = contains c (present (history p events))

  found_here : connection_in c core.state.table.present ≡ cond here (Some it) None
  found_here = found p k (streams_of p events) (history p events) core.state c Sd.holds

  pub waiting_is : is_owed c core ≡ true → waiting_for c core ≡ (text_for p c events).waiting
  unfolding connection_of
  waiting_is owed =
      let past : List Fact = history p events in
      let left : AllByRecursion (IsLeft p past) (dropped_clients_in core.state.table.dropped) =
      suffix_left p past Sd.dropped_clients.0 (dropped_clients_in core.state.table.dropped) (subst (AllByRecursion (IsLeft p past)) (sym Sd.dropped_clients.1) (all_left p past (dropped past)))
      in
      let step : (b : Bool) → connection_in c core.state.table.present ≡ cond b (Some it) None → waiting_or others (connection_in c core.state.table.present) ≡ (text_for p c events).waiting =
      λ b. elim b as (λ b. connection_in c core.state.table.present ≡ cond b (Some it) None → waiting_or others (connection_in c core.state.table.present) ≡ (text_for p c events).waiting) [
        | true ↦ λ is. ap (waiting_or others) is
        | false ↦ λ is. ap (waiting_or others) is
            ∙ left_is p past c core.state.table.dropped left (sym (ap (λ (o : Option (Connection T)). is_some o || contains c (map (λ (d : Dropped). d.name) core.state.table.dropped)) is) ∙ owed)
      ]
      in step here found_here

  -- for a connection that is there
  pub waiting_there : here ≡ true → waiting_for c core ≡ (text_for p c events).waiting
  unfolding connection_of
  waiting_there there = ap (waiting_or others) (found_here ∙ ap (λ (b : Bool). cond b (Some it) None) there)

  -- where none is to be hung up
  pub queued_is : core.state.table.dropped ≡ [] → length (waiting_for c core) ≡ queued_for p c events
  unfolding connection_of
  queued_is hung_up =
      ap (λ (o : Option (Connection T)). length (waiting_or others o)) found_here
      ∙ ap (λ (l : List Dropped). length (waiting_or (left_for c l) (cond here (Some it) None))) hung_up
      ∙ elim here as (λ b. length (waiting_or [] (cond b (Some it) None)) ≡ (if b then length (text_for p c events).waiting else 0)) [ true ↦ refl | false ↦ refl ]

pub waiting_are_of_the_history : (Known T S : Type 0) → WaitingAreOfTheHistory Known T S
waiting_are_of_the_history Known T S p k events core c Sd owed = waiting_is p k events core Sd c owed

module _ {Known T S : Type 0} (p : Protocol Known) (k : Kept Known T S) (h : Handlers T S) (Fine : List Fact → Type 0) (F : IsFaithful p k h Fine) (events : List Event) (core : Core T S) (Sd : Stands p k events core) where
  pub modem_queue_is : h.modem_queue core.state.beside ≡ h.modem_queue (k.beside (streams_of p events).messages (history p events))
  modem_queue_is = ap h.modem_queue Sd.holds.beside

  pub steps_may_come : (event : Event) → CanStep h event core → MayCome p event events
  steps_may_come (Joined c) can = omega (arith, can.may_come, Sd.holds.greatest)
  steps_may_come (Piece c bytes) can = can.may_come
  steps_may_come (Left c) can = tt
  steps_may_come (ModemPiece bytes) can = can.may_come
  steps_may_come ModemGone can = tt
  steps_may_come ModemBack can = tt
  steps_may_come (Now time) can = tt
  steps_may_come (Took c count) can = omega (arith, can.may_come, queued_is p k events core Sd c can.hung_up)
  steps_may_come (ModemTook count) can = omega (arith, can.may_come, ap length (modem_queue_is ∙ F.connections.modem_queue (streams_of p events).messages (history p events)))

  pub may_step : core.state.table.dropped ≡ [] → (event : Event) → MayCome p event events → CanStep h event core
  may_step none (Joined c) may = record { hung_up = none; may_come = omega (arith, may, Sd.holds.greatest) }
  may_step none (Piece c bytes) may = record { hung_up = none; may_come = may }
  may_step none (Left c) may = record { hung_up = none; may_come = tt }
  may_step none (ModemPiece bytes) may = record { hung_up = none; may_come = may }
  may_step none ModemGone may = record { hung_up = none; may_come = tt }
  may_step none ModemBack may = record { hung_up = none; may_come = tt }
  may_step none (Now time) may = record { hung_up = none; may_come = tt }
  may_step none (Took c count) may = record { hung_up = none; may_come = omega (arith, may, queued_is p k events core Sd c none) }
  may_step none (ModemTook count) may = record { hung_up = none; may_come = omega (arith, may, ap length (modem_queue_is ∙ F.connections.modem_queue (streams_of p events).messages (history p events))) }

-- ---- what is shown to whoever serves the clients ----

module _ {Known T S : Type 0} (p : Protocol Known) (k : Kept Known T S) (events : List Event) where
  abbrev shown : ℕ → Connection T
  shown = connection_of p k (rests_of p events) (history p events)

  waits_shown : (c : ℕ) → has_waiting (shown c) ≡ nat_lt 0 (length (text_for p c events).waiting)
  unfolding connection_of
  waits_shown c = refl

  module _ (core : Core T S) (Sd : Stands p k events core) where
    pub names_are : names_of core ≡ present (history p events)
    unfolding connection_of
    names_are = ap (map (λ (l : Connection T). l.name)) Sd.holds.connections ∙ map-map (λ (l : Connection T). l.name) shown (present (history p events)) ∙ map-id (present (history p events))

    -- where the newest event dropped nobody, nobody is left
    pub none_left : dropped (history p events) ≡ [] → map (λ d. d.name) core.state.table.dropped ≡ []
    none_left none =
        none_in core.state.table.dropped (suffix_of_none Sd.dropped_clients.0 (dropped_clients_in core.state.table.dropped) (Sd.dropped_clients.1 ∙ ap (map (dropped_client_of p (history p events))) none))
      where
        suffix_of_none : (front suffix : List DroppedClient) → front ++ suffix ≡ [] → suffix ≡ []
        suffix_of_none [] suffix is = is
        suffix_of_none (d ∷ front) suffix is = absurd (cc)

        none_in : (dropped_clients : List Dropped) → dropped_clients_in dropped_clients ≡ [] → map (λ (d : Dropped). d.name) dropped_clients ≡ []
        none_in [] is = refl
        none_in (d ∷ dropped_clients) is = absurd (cc)

    -- the place of the first from this place on for which bytes wait
    pub first_is : (from : ℕ) → position has_waiting (drop from core.state.table.present) ≡ position (λ c. nat_lt 0 (length (text_for p c events).waiting)) (drop from (present (history p events)))
    first_is from =
        let names : List ℕ = drop from (present (history p events)) in
        let waits : ℕ → Bool = λ (c : ℕ). nat_lt 0 (length (text_for p c events).waiting) in
        ap (λ (l : List (Connection T)). position has_waiting (drop from l)) Sd.holds.connections
        ∙ ap (position has_waiting) (drop-map shown from (present (history p events)))
        ∙ position_from-zero has_waiting (map shown names)
        ∙ first_of names 0
        ∙ sym (position_from-zero waits names)
      where
        first_of : (names : List ℕ) (start : ℕ) → position_from has_waiting start (map shown names) ≡ position_from (λ c. nat_lt 0 (length (text_for p c events).waiting)) start names
        first_of [] start = refl
        first_of (c ∷ names) start = let one = waits_shown c in let others = first_of names (start + 1) in rw (one, others) refl

  -- just after an event, the dropped names are all that it dropped
  pub all_named : (core : Core T S) → StandsAfter p k events core → map (λ d. d.name) core.state.table.dropped ≡ dropped (history p events)
  all_named core A =
      sym (map-map (λ (l : DroppedClient). l.name) (λ (d : Dropped). let l : DroppedClient = record { name = d.name; waiting = left_in d.outbox } in l) core.state.table.dropped)
      ∙ ap (map (λ (l : DroppedClient). l.name)) A.all_dropped
      ∙ map-map (λ (l : DroppedClient). l.name) (dropped_client_of p (history p events)) (dropped (history p events))
      ∙ map-id (dropped (history p events))

-- ---- a dropped connection is asked for ----

suffix_next : (names : List DroppedClient) (first : List Dropped) → IsSuffix (dropped_clients_in first) names → IsSuffix (dropped_clients_in (drop 1 first)) names
suffix_next names [] is = is
suffix_next names (d ∷ others) is = (is.0 ++ record { name = d.name; waiting = left_in d.outbox } ∷ [], append_assoc is.0 (record { name = d.name; waiting = left_in d.outbox } ∷ []) (dropped_clients_in others) ∙ is.1)

pub asking_keeps_standing : (Known T S : Type 0) → AskingKeepsStanding Known T S
asking_keeps_standing Known T S p k events old new result next Sd =
    subst (Stands p k events) (sym next.asked) (record {
      holds = record {
        connections = Sd.holds.connections;
        beside = Sd.holds.beside;
        greatest = Sd.holds.greatest;
        limit = Sd.holds.limit;
        room = Sd.holds.room;
        names = Sd.holds.names;
      };
      dropped_clients = suffix_next (map (dropped_client_of p (history p events)) (dropped (history p events))) old.state.table.dropped Sd.dropped_clients;
      rest = Sd.rest;
      sound = Sd.sound;
    })
