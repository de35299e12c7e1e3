-- In a rig all clients join before anything is said or the time goes on. Lists of events have the newest first.
use Rattle.std.proofs.Common.{◌≡◌, ℕ, zero, suc, ◌≤◌, Bool, true, false, ◌==◌, nat_lt, if◌then◌else◌, List, [], ◌∷◌, fold, length, reverse, refl, sym, subst, arith}
use Rattle.framing.specs.Cutting.{cut}
use Rattle.hub_io.specs.Record.{taking}
use Rattle.proxy_history.specs.Events.{Event, Joined, Piece, ModemPiece, Now, Took, ModemTook}
use Rattle.proxy_solo.specs.Solo.{pieces_of}
use Rattle.rig_runs.specs.Draws.{Turn, turns_after}
use Rattle.rig_runs.specs.Stage.{Cast, Stage, empty, queued_for, clients_take, modem_takes, ask_all, meet, hear, arrive, arrive_first, arrive_last, longest_arrives, shortest_arrives, arrive_each, all_arrive}
use Rattle.rig_runs.specs.Rig.{Script, next_number, most_held, tick, last_tick, join, say, ask, open_device, ready, pass, request_or_arrive, play, played, rig}

-- clients joined, and whoever took bytes took some
abbrev pub AreQuiet : List Event → Type 0
AreQuiet [] = Unit {0}
AreQuiet (Joined c ∷ events) = AreQuiet events
AreQuiet (Took c count ∷ events) = (1 ≤ count) × AreQuiet events
AreQuiet (ModemTook count ∷ events) = AreQuiet events
AreQuiet _ = ⊥

-- so it was when a client joined
abbrev pub AllJoinEarly : List Event → Type 0
AllJoinEarly [] = Unit {0}
AllJoinEarly (Joined c ∷ events) = AreQuiet events × AllJoinEarly events
AllJoinEarly (_ ∷ events) = AllJoinEarly events

module _ (cast : Cast) where
  asked_events : (messages : List (List ℕ)) (stage : Stage) → (ask_all cast messages stage).events ≡ stage.events
  unfolding ask_all
  asked_events [] stage = refl
  asked_events (m ∷ messages) stage = asked_events messages _

  -- ---- what each taking keeps, an event keeps that has it ----

  module _ (P : List Event → Type 0) (took : (c count : ℕ) (events : List Event) → 1 ≤ count → P events → P (Took c count ∷ events)) (modem_took : (count : ℕ) (events : List Event) → P events → P (ModemTook count ∷ events)) where
    client_takes : (c count : ℕ) (events : List Event) → P events → P (taking (λ n. Took c n) count events)
    client_takes c zero events held = held
    client_takes c (suc count) events held = took c (suc count) events (omega arith) held

    all_take : (clients : List ℕ) (events : List Event) → P events → P (clients_take cast.proxy clients events)
    unfolding clients_take
    all_take [] events held = held
    all_take (c ∷ clients) events held = all_take clients _ (client_takes c (queued_for cast.proxy c events) events held)

    modem_is_served : (count : ℕ) (events : List Event) → P events → P (taking (λ n. ModemTook n) count events)
    modem_is_served zero events held = held
    modem_is_served (suc count) events held = modem_took (suc count) events held

    pub meets : (event : Event) (stage : Stage) → P (event ∷ stage.events) → P (meet cast event stage).events
    meets event stage held =
        let after : List Event = clients_take cast.proxy cast.clients (event ∷ stage.events) in
        let settled : Stage = record { events = modem_takes cast.proxy after; asked = stage.asked; held = stage.held } in
        subst P (sym (asked_events (cut cast.size (cast.proxy.waiting_for_modem after)).messages settled))
        (modem_is_served (length (cast.proxy.waiting_for_modem after)) after (all_take cast.clients (event ∷ stage.events) held))

  -- ---- they join ----

  -- nobody has done anything else yet
  abbrev Begins : List Event → Type 0
  Begins events = AreQuiet events × AllJoinEarly events

  one_joins : (c : ℕ) (stage : Stage) → Begins stage.events → Begins (join cast stage c).events
  one_joins c stage held = meets Begins (λ d count events some held. ((some, held.0), held.1)) (λ count events held. held) (Joined c) stage (held.0, (held.0, held.1))

  all_join : (clients : List ℕ) (stage : Stage) → Begins stage.events → Begins (fold (join cast) stage clients).events
  all_join [] stage held = held
  all_join (c ∷ clients) stage held = all_join clients (join cast stage c) (one_joins c stage held)

  -- ---- and nobody joins later ----

  abbrev Early : Stage → Type 0
  Early stage = AllJoinEarly stage.events

  goes_on : (event : Event) (stage : Stage) → AllJoinEarly (event ∷ stage.events) → Early (meet cast event stage)
  goes_on event stage held = meets AllJoinEarly (λ c count events some held. held) (λ count events held. held) event stage held

  pieces_arrive : (pieces : List (List ℕ)) (stage : Stage) → Early stage → Early (fold (hear cast) stage pieces)
  pieces_arrive [] stage held = held
  pieces_arrive (piece ∷ pieces) stage held = pieces_arrive pieces (hear cast stage piece) (goes_on (ModemPiece piece) stage held)

  arrives : (m : List ℕ) (stage : Stage) → Early stage → Early (arrive cast m stage)
  arrives m stage held = pieces_arrive (pieces_of (length m) m) stage held

  longest : (stage : Stage) → Early stage → Early (longest_arrives cast stage)
  longest stage early = by stage.held
    where
      by : (held : List (List ℕ)) → Early (arrive_first cast held stage)
      by [] = early
      by (m ∷ held) = arrives m (record stage { held = held }) early

  shortest : (stage : Stage) → Early stage → Early (shortest_arrives cast stage)
  shortest stage early = by (reverse stage.held)
    where
      by : (held : List (List ℕ)) → Early (arrive_last cast held stage)
      by [] = early
      by (m ∷ held) = arrives m (record stage { held = reverse held }) early

  each_arrives : (messages : List (List ℕ)) (stage : Stage) → Early stage → Early (arrive_each cast messages stage)
  unfolding arrive_each
  each_arrives [] stage early = early
  each_arrives (m ∷ messages) stage early = each_arrives messages (longest_arrives cast stage) (longest stage early)

  says : (c : ℕ) (m : List ℕ) (stage : Stage) → Early stage → Early (say cast c stage m)
  says c m stage early = goes_on (Piece c m) stage early

  passes : (time : ℕ) (stage : Stage) → Early stage → Early (pass cast time stage)
  passes time stage early = goes_on (Now _) stage early

  module _ (script : Script) where
    asks : (c : ℕ) (messages : List (List ℕ)) (stage : Stage) → Early stage → Early (fold (ask cast c) stage messages)
    asks c [] stage early = early
    asks c (m ∷ messages) stage early = asks c messages (ask cast c stage m) (each_arrives (say cast c stage m).held (say cast c stage m) (says c m stage early))

    all_open : (clients : List ℕ) (stage : Stage) → Early stage → Early (fold (open_device cast script) stage clients)
    all_open [] stage early = early
    all_open (c ∷ clients) stage early = all_open clients (open_device cast script stage c) (asks c (script.opening c) stage early)

    is_ready : Early (ready cast script)
    is_ready = all_open cast.clients (fold (join cast) empty cast.clients) (all_join cast.clients empty (tt, tt)).1

    requests : (turn : Turn) (stage : Stage) → Early stage → Early (request_or_arrive cast script turn stage)
    requests turn stage early = by (nat_lt (length stage.held) most_held)
      where
        by : (b : Bool) → Early (if b then say cast turn.client stage (script.request turn.client turn.choice (next_number script turn.client stage.events)) else longest_arrives cast stage)
        by true = says turn.client _ stage early
        by false = longest stage early

    plays : (turn : Turn) (stage : Stage) → Early stage → Early (play cast script stage turn)
    plays turn stage early = by (nat_lt turn.choice 4) (nat_lt turn.choice 6) (turn.choice == 6)
      where
        by : (a b c : Bool) → Early (if a then request_or_arrive cast script turn stage else if b then longest_arrives cast stage else if c then shortest_arrives cast stage else pass cast tick stage)
        by true b c = requests turn stage early
        by false true c = longest stage early
        by false false true = shortest stage early
        by false false false = passes tick stage early

    all_play : (turns : List Turn) (stage : Stage) → Early stage → Early (fold (play cast script) stage turns)
    all_play [] stage early = early
    all_play (turn ∷ turns) stage early = all_play turns (play cast script stage turn) (plays turn stage early)

    pub all_join_early : (turns number : ℕ) → AllJoinEarly (rig cast script turns number)
    all_join_early turns number =
        let end : Stage = played cast script turns number in
        passes last_tick (all_arrive cast end) (each_arrives end.held end (all_play (turns_after (length cast.clients) turns number) (ready cast script) is_ready))
