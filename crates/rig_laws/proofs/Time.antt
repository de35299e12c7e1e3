-- How late it is behind so many turns of a rig. Lists of events have the newest first.
use Rattle.std.proofs.Common.{◌≡◌, ℕ, zero, suc, ◌+◌, ◌*◌, ◌≤◌, Bool, true, false, ◌==◌, nat_lt, if◌then◌else◌, List, [], ◌∷◌, length, fold, reverse, refl, ◌∙◌, arith}
use Rattle.framing.specs.Cutting.{cut}
use Rattle.hub_io.specs.Record.{taking}
use Rattle.proxy_history.specs.Events.{Event, Joined, Piece, ModemPiece, Now, Took, ModemTook}
use Rattle.proxy_history.specs.Orderly.{time_then}
use Rattle.proxy_solo.specs.Solo.{pieces_of}
use Rattle.rig_runs.specs.Draws.{Turn, next, turn_after, turns_after}
use Rattle.rig_runs.specs.Stage.{Cast, Stage, empty, queued_for, clients_take, modem_takes, ask_all, meet, hear, arrive, arrive_first, arrive_last, longest_arrives, shortest_arrives, arrive_each, all_arrive}
use Rattle.rig_runs.specs.Rig.{Script, join, say, ask, open_device, ready, pass, request_or_arrive, play, played, rig, next_number, most_held, tick, last_tick}

module _ (cast : Cast) (script : Script) (begins : cast.proxy.time [] ≡ 0) (keeps : (event : Event) (events : List Event) → cast.proxy.time (event ∷ events) ≡ time_then event (cast.proxy.time events)) where
  abbrev time : Stage → ℕ
  time stage = cast.proxy.time stage.events

  -- ---- takings take no time ----

  took_time : (c count : ℕ) (events : List Event) → cast.proxy.time (taking (λ n. Took c n) count events) ≡ cast.proxy.time events
  took_time c zero events = refl
  took_time c (suc count) events = keeps (Took c (suc count)) events

  modem_took_time : (count : ℕ) (events : List Event) → cast.proxy.time (taking (λ n. ModemTook n) count events) ≡ cast.proxy.time events
  modem_took_time zero events = refl
  modem_took_time (suc count) events = keeps (ModemTook (suc count)) events

  all_took_time : (clients : List ℕ) (events : List Event) → cast.proxy.time (clients_take cast.proxy clients events) ≡ cast.proxy.time events
  unfolding clients_take
  all_took_time [] events = refl
  all_took_time (c ∷ clients) events = all_took_time clients (taking (λ n. Took c n) (queued_for cast.proxy c events) events) ∙ took_time c (queued_for cast.proxy c events) events

  asking_meets_nothing : (messages : List (List ℕ)) (stage : Stage) → time (ask_all cast messages stage) ≡ time stage
  unfolding ask_all
  asking_meets_nothing [] stage = refl
  asking_meets_nothing (m ∷ messages) stage = asking_meets_nothing messages _

  -- ---- an event ----

  meet_time : (event : Event) (stage : Stage) → time (meet cast event stage) ≡ time_then event (time stage)
  meet_time event stage =
      let after : List Event = clients_take cast.proxy cast.clients (event ∷ stage.events) in
      asking_meets_nothing (cut cast.size (cast.proxy.waiting_for_modem after)).messages (record stage { events = modem_takes cast.proxy after })
      ∙ modem_took_time (length (cast.proxy.waiting_for_modem after)) after
      ∙ all_took_time cast.clients (event ∷ stage.events)
      ∙ keeps event stage.events

  all_heard_time : (pieces : List (List ℕ)) (stage : Stage) → time (fold (hear cast) stage pieces) ≡ time stage
  all_heard_time [] stage = refl
  all_heard_time (piece ∷ pieces) stage = all_heard_time pieces (hear cast stage piece) ∙ meet_time (ModemPiece piece) stage

  arrive_time : (m : List ℕ) (stage : Stage) → time (arrive cast m stage) ≡ time stage
  arrive_time m stage = all_heard_time (pieces_of (length m) m) stage

  first_time : (held : List (List ℕ)) (stage : Stage) → time (arrive_first cast held stage) ≡ time stage
  first_time [] stage = refl
  first_time (m ∷ held) stage = arrive_time m (record stage { held = held })

  last_time : (held : List (List ℕ)) (stage : Stage) → time (arrive_last cast held stage) ≡ time stage
  last_time [] stage = refl
  last_time (m ∷ held) stage = arrive_time m (record stage { held = reverse held })

  each_time : (messages : List (List ℕ)) (stage : Stage) → time (arrive_each cast messages stage) ≡ time stage
  unfolding arrive_each
  each_time [] stage = refl
  each_time (m ∷ messages) stage = each_time messages (longest_arrives cast stage) ∙ first_time stage.held stage

  all_time : (stage : Stage) → time (all_arrive cast stage) ≡ time stage
  all_time stage = each_time stage.held stage

  pass_time : (more : ℕ) (stage : Stage) → time (pass cast more stage) ≤ time stage + more
  pass_time more stage = let shown = meet_time (Now (time stage + more)) stage in omega (arith, shown)

  -- ---- the setup ----

  ask_time : (c : ℕ) (stage : Stage) (m : List ℕ) → time (ask cast c stage m) ≡ time stage
  ask_time c stage m = all_time (say cast c stage m) ∙ meet_time (Piece c m) stage

  all_asked_time : (c : ℕ) (messages : List (List ℕ)) (stage : Stage) → time (fold (ask cast c) stage messages) ≡ time stage
  all_asked_time c [] stage = refl
  all_asked_time c (m ∷ messages) stage = all_asked_time c messages (ask cast c stage m) ∙ ask_time c stage m

  joined_time : (clients : List ℕ) (stage : Stage) → time (fold (join cast) stage clients) ≡ time stage
  joined_time [] stage = refl
  joined_time (c ∷ clients) stage = joined_time clients (join cast stage c) ∙ meet_time (Joined c) stage

  opened_time : (clients : List ℕ) (stage : Stage) → time (fold (open_device cast script) stage clients) ≡ time stage
  opened_time [] stage = refl
  opened_time (c ∷ clients) stage = opened_time clients (open_device cast script stage c) ∙ all_asked_time c (script.opening c) stage

  ready_time : time (ready cast script) ≡ 0
  ready_time = opened_time cast.clients (fold (join cast) empty cast.clients) ∙ joined_time cast.clients empty ∙ begins

  -- ---- the turns ----

  request_time : (b : Bool) (turn : Turn) (stage : Stage)
      → time (if b then say cast turn.client stage (script.request turn.client turn.choice (next_number script turn.client stage.events)) else longest_arrives cast stage) ≡ time stage
  request_time true turn stage = meet_time (Piece turn.client (script.request turn.client turn.choice (next_number script turn.client stage.events))) stage
  request_time false turn stage = first_time stage.held stage

  turn_time : (a b c : Bool) (turn : Turn) (stage : Stage)
      → time (if a then request_or_arrive cast script turn stage else if b then longest_arrives cast stage else if c then shortest_arrives cast stage else pass cast tick stage) ≤ time stage + 1000
  turn_time true b c turn stage = let same = request_time (nat_lt (length stage.held) most_held) turn stage in omega (arith, same)
  turn_time false true c turn stage = let same = first_time stage.held stage in omega (arith, same)
  turn_time false false true turn stage = let same = last_time (reverse stage.held) stage in omega (arith, same)
  turn_time false false false turn stage = pass_time tick stage

  turns_time : (count clients x : ℕ) (stage : Stage) → time (fold (play cast script) stage (turns_after clients count x)) ≤ time stage + 1000 * count
  unfolding turns_after
  turns_time zero clients x stage = omega arith
  turns_time (suc count) clients x stage =
      let turn : Turn = turn_after clients x in
      let one = turn_time (nat_lt turn.choice 4) (nat_lt turn.choice 6) (turn.choice == 6) turn stage in
      let rest = turns_time count clients (next (next x)) (play cast script stage turn) in
      omega (arith, one, rest)

  -- ---- the whole ----

  pub rig_time : (turns number : ℕ) → cast.proxy.time (rig cast script turns number) ≤ 1000 * turns + 60000
  rig_time turns number =
      let end : Stage = played cast script turns number in
      let last = pass_time last_tick (all_arrive cast end) in
      let all = all_time end in
      let turns_take = turns_time turns (length cast.clients) number (ready cast script) in
      let start = ready_time in
      omega (arith, last, all, turns_take, start)
