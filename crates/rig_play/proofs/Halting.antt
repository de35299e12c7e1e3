-- Runs that are cut short while clients take part. Lists of runs and of events have the newest first.
use Rattle.std.proofs.Common.{◌≡◌, ℕ, zero, suc, ◌+◌, ◌<◌, ◌≤◌, Bool, true, false, nat_lt, ◌==◌, if◌then◌else◌, List, [], ◌∷◌, fold, length, slice_index, Option, sym, ap, ◌∙◌, subst, arith}
use Rattle.std.specs.List.{range_with_len}
use Rattle.std.proofs.lemmas.List.Sums.{fold-append}
use Rattle.proxy_history.specs.Events.{Event, Joined, Piece}
use Rattle.proxy_history.specs.Proxy.{Proxy}
use Rattle.proxy_history.specs.Streams.{Framing}
use Rattle.sim_modem.specs.Sim.{Answering}
use Rattle.core_bench.specs.Runs.{Run}
use Rattle.rig_runs.specs.Draws.{Turn, turn_after, turns_after, next}
use Rattle.rig_runs.specs.Rig.{Script, next_number, join, say, ask, open_device, ready, pass, request_or_arrive, play, ended}
use Rattle.rig_runs.specs.Stage.{Cast, Stage, empty, longest_arrives, shortest_arrives, all_arrive}
use Rattle.rig_stage.specs.Running.{Extends, IsCutShort}
use Rattle.rig_stage.specs.Stage.{World, Acts, Stops}
use Rattle.rig_stage.proofs.Going.{range_more}
use Rattle.rig_stage.proofs.Stopping.{OnlyExtends, more_then, meet_more, fold_more, longest_more, shortest_more, all_more, short_of_more, stops_before, stops_behind}
use Rattle.rig_play.specs.Play.{Party, Plays, Halts, script_of}
use Rattle.rig_play.proofs.Turning.{IsTurning}

-- ---- more events ----

module _ (cast : Cast) where
  pub join_more : (c : ℕ) → OnlyExtends (λ stage. join cast stage c)
  join_more c stage = meet_more cast (Joined c) stage

  pub ask_more : (c : ℕ) (message : List ℕ) → OnlyExtends (λ stage. ask cast c stage message)
  ask_more c message stage = more_then (meet_more cast (Piece c message) stage) (all_more cast (say cast c stage message))

  pub open_more : (script : Script) (c : ℕ) → OnlyExtends (λ stage. open_device cast script stage c)
  open_more script c stage = fold_more cast (ask cast c) (λ message now. ask_more c message now) (script.opening c) stage

  opens_more : (script : Script) (clients : List ℕ) → OnlyExtends (λ stage. fold (open_device cast script) stage clients)
  opens_more script clients stage = fold_more cast (open_device cast script) (λ c now. open_more script c now) clients stage

  pub joined_to_ready : (script : Script) → Extends (fold (join cast) empty cast.clients).events (ready cast script).events
  joined_to_ready script = opens_more script cast.clients (fold (join cast) empty cast.clients)

  pub none_to_ready : (script : Script) → Extends [] (ready cast script).events
  none_to_ready script = more_then (fold_more cast (join cast) (λ c now. join_more c now) cast.clients empty) (joined_to_ready script)

  either_more : (b : Bool) (stage one two : Stage) → Extends stage.events one.events → Extends stage.events two.events → Extends stage.events (if b then one else two).events
  either_more true stage one two first second = first
  either_more false stage one two first second = second

  pub request_more : (script : Script) (turn : Turn) → OnlyExtends (request_or_arrive cast script turn)
  request_more script turn stage =
      let said : Stage = say cast turn.client stage (script.request turn.client turn.choice (next_number script turn.client stage.events)) in
      either_more (nat_lt (length stage.held) 200) stage said (longest_arrives cast stage) (meet_more cast _ stage) (longest_more cast stage)

  pub play_more : (script : Script) (turn : Turn) → OnlyExtends (λ stage. play cast script stage turn)
  play_more script turn stage =
      let passed : Stage = pass cast 1000 stage in
      let last : Stage = if turn.choice == 6 then shortest_arrives cast stage else passed in
      let other : Stage = if nat_lt turn.choice 6 then longest_arrives cast stage else last in
      either_more (nat_lt turn.choice 4) stage (request_or_arrive cast script turn stage) other (request_more script turn stage)
      (either_more (nat_lt turn.choice 6) stage (longest_arrives cast stage) last (longest_more cast stage)
      (either_more (turn.choice == 6) stage (shortest_arrives cast stage) passed (shortest_more cast stage) (meet_more cast _ stage)))

  pub plays_more : (script : Script) (turns : List Turn) → OnlyExtends (λ stage. fold (play cast script) stage turns)
  plays_more script turns stage = fold_more cast (play cast script) (λ turn now. play_more script turn now) turns stage

  pub ended_more : OnlyExtends (ended cast)
  ended_more stage = more_then (all_more cast stage) (meet_more cast _ (all_arrive cast stage))

  range_within : (step : Stage → ℕ → Stage) → ((c : ℕ) → OnlyExtends (λ stage. step stage c)) → (count total first : ℕ) → count ≤ total
      → (stage : Stage) → Extends (fold step stage (range_with_len first count)).events (fold step stage (range_with_len first total)).events
  range_within step more zero total first within stage = fold_more cast step more (range_with_len first total) stage
  range_within step more (suc count) zero first within stage = absurd (omega (arith, within))
  range_within step more (suc count) (suc total) first within stage = range_within step more count total (first + 1) (omega (arith, within)) (step stage first)

-- ---- while clients join, and open the device ----

module _ {B M : Type 0} {keeps : Proxy → List Event → B → Type 0} {tells : B → Option (List Run)} {asks : Answering → List (List ℕ) → M → Type 0} {size : Framing} where
  -- one of the names from 1 on doesn't do its part
  pub acts_stop : (step : Cast → Stage → ℕ → Stage) → ((cast : Cast) (c : ℕ) → OnlyExtends (λ stage. step cast stage c)) → (count c total : ℕ) → 1 + count ≡ c → count < total
      → {old middle : World M} {before between after : B} → Acts keeps tells asks size (λ cast stage. fold (step cast) stage (range_with_len 1 count)) old before middle between
      → Stops keeps tells asks size (λ cast stage. step cast stage c) middle between after → Stops keeps tells asks size (λ cast stage. fold (step cast) stage (range_with_len 1 total)) old before after
  acts_stop step more count c total is within {after = after} one two = record {
    cut_short = λ cast opened earlier stage it.
        let names : List ℕ = range_with_len 1 count in
        let reached : fold (step cast) stage (range_with_len 1 (count + 1)) ≡ step cast (fold (step cast) stage names) c =
        ap (fold (step cast) stage) (range_more count c is) ∙ fold-append (step cast) stage names (c ∷ []) in
        short_of_more (range_within cast (step cast) (more cast) (count + 1) total 1 (omega (arith, within)) stage)
        (subst (λ now. IsCutShort opened earlier now.events (tells after)) (sym reached) (two.cut_short cast opened earlier (fold (step cast) stage names) (one.plays cast opened earlier stage it)));
  }

  module _ (conn : ℕ) where
    -- a client doesn't say this
    pub ask_unsaid : (message : List ℕ) {old : World M} {before after : B} → Stops keeps tells asks size (λ cast stage. say cast conn stage message) old before after
        → Stops keeps tells asks size (λ cast stage. ask cast conn stage message) old before after
    ask_unsaid message stops = stops_before (λ cast stage. say cast conn stage message) all_arrive (λ cast. all_more cast) stops

    -- it does, but not all that the modem says to that arrives
    pub ask_unheard : (message : List ℕ) {old mid : World M} {before between after : B} → Acts keeps tells asks size (λ cast stage. say cast conn stage message) old before mid between
        → Stops keeps tells asks size all_arrive mid between after → Stops keeps tells asks size (λ cast stage. ask cast conn stage message) old before after
    ask_unheard message says stops = stops_behind (λ cast stage. say cast conn stage message) all_arrive says stops

    module _ (opens_first opens_second : List ℕ) (asks_for : (conn choice number : ℕ) → List ℕ) (number : ℕ) where
      pub first_stops : (one : List ℕ) {old : World M} {before after : B} → one ≡ opens_first → Stops keeps tells asks size (λ cast stage. ask cast conn stage one) old before after
          → Stops keeps tells asks size (λ cast now. open_device cast (script_of opens_first opens_second asks_for number) now conn) old before after
      first_stops one {old = old} {before = before} {after = after} first_is stops =
          stops_before (λ cast stage. ask cast conn stage opens_first) (λ cast stage. ask cast conn stage opens_second) (λ cast. ask_more cast conn opens_second)
          (subst (λ m. Stops keeps tells asks size (λ cast stage. ask cast conn stage m) old before after) first_is stops)

      pub second_stops : (one two : List ℕ) {w0 w1 w2 : World M} {b0 b1 b2 b3 : B} → one ≡ opens_first → two ≡ opens_second → Acts keeps tells asks size (λ cast stage. say cast conn stage one) w0 b0 w1 b1
          → Acts keeps tells asks size all_arrive w1 b1 w2 b2 → Stops keeps tells asks size (λ cast stage. ask cast conn stage two) w2 b2 b3 → Stops keeps tells asks size (λ cast now. open_device cast (script_of opens_first opens_second asks_for number) now conn) w0 b0 b3
      second_stops one two {w0 = w0} {w2 = w2} {b0 = b0} {b2 = b2} {b3 = b3} first_is second_is says arrives stops =
          let asked : Acts keeps tells asks size (λ cast stage. ask cast conn stage one) w0 b0 w2 b2 =
          record { plays = λ cast opened earlier stage it. arrives.plays cast opened earlier (say cast conn stage one) (says.plays cast opened earlier stage it) } in
          stops_behind (λ cast stage. ask cast conn stage opens_first) (λ cast stage. ask cast conn stage opens_second)
          (subst (λ m. Acts keeps tells asks size (λ cast stage. ask cast conn stage m) w0 b0 w2 b2) first_is asked)
          (subst (λ m. Stops keeps tells asks size (λ cast stage. ask cast conn stage m) w2 b2 b3) second_is stops)

  -- ---- while they take turns ----

  module _ (script : Script) where
    -- nothing of this was done
    pub halts_here : {old : Party M} (bench : B) (goes_on : Cast → Stage → Stage) → ((cast : Cast) → OnlyExtends (goes_on cast)) → Halts keeps tells asks size script goes_on old bench bench
    halts_here bench goes_on more = record { cut_short = λ cast opened earlier stage it. record { met = stage.events; within = more cast stage; told = it.stands.runs.told } }

    -- whatever the numbers of the next requests are
    pub halts_with_stage : {goes_on : Cast → Stage → Stage} {old held : Party M} {before after : B} → held ≡ old → Stops keeps tells asks size goes_on held.world before after
        → Halts keeps tells asks size script goes_on old before after
    halts_with_stage {goes_on = goes_on} {before = before} {after = after} is stops =
        subst (λ party. Halts keeps tells asks size script goes_on party before after) is (record { cut_short = λ cast opened earlier stage it. stops.cut_short cast opened earlier stage it.stands })

    pub halts_as : {old : Party M} {before after : B} {first second : Cast → Stage → Stage} → Halts keeps tells asks size script first old before after
        → ((cast : Cast) (opened : Run) (earlier : List Run) (stage : Stage) → Plays keeps tells asks size script cast opened earlier stage old before → first cast stage ≡ second cast stage)
        → Halts keeps tells asks size script second old before after
    halts_as {after = after} one same = record {
      cut_short = λ cast opened earlier stage it. subst (λ now. IsCutShort opened earlier now.events (tells after)) (same cast opened earlier stage it) (one.cut_short cast opened earlier stage it);
    }

    -- a client doesn't send its next request
    pub sending_stops : (place choice number : ℕ) {conn : ℕ} {message : List ℕ} {old held : Party M} {before after : B} → held ≡ old
        → Stops keeps tells asks size (λ cast stage. say cast conn stage message) held.world before after → place < length held.numbers → number ≡ slice_index held.numbers place → conn ≡ place + 1
        → message ≡ script.request (place + 1) choice number
        → Halts keeps tells asks size script (λ cast stage. say cast (place + 1) stage (script.request (place + 1) choice (next_number script (place + 1) stage.events))) old before after
    sending_stops place choice number {conn = conn} {message = message} {held = held} {before = before} {after = after} is stops within number_is conn_is message_is =
        let Goes : Party M → Type 0 = λ party.
        Halts keeps tells asks size script (λ cast stage. say cast (place + 1) stage (script.request (place + 1) choice (next_number script (place + 1) stage.events))) party before after in
        subst Goes is
        (record {
          cut_short = λ cast opened earlier stage it.
              let next : number ≡ next_number script (place + 1) stage.events = number_is ∙ it.numbers.next place within in
              let says : say cast conn stage message ≡ say cast (place + 1) stage (script.request (place + 1) choice (next_number script (place + 1) stage.events)) =
              ap (λ d. say cast d stage message) conn_is ∙ ap (λ m. say cast (place + 1) stage m) (message_is ∙ ap (script.request (place + 1) choice) next) in
              subst (λ now. IsCutShort opened earlier now.events (tells after)) says (stops.cut_short cast opened earlier stage it.stands);
        })

    -- a turn isn't taken as a whole
    pub turning_stops : (cast : Cast) (opened : Run) (earlier : List Run) (all : Stage) (left later x : ℕ) {old : Party M} {before after : B} → left ≡ suc later
        → Halts keeps tells asks size script (λ cast stage. play cast script stage (turn_after (length cast.clients) x)) old before after
        → IsTurning keeps tells asks size script cast opened earlier all left x old before → IsCutShort opened earlier all.events (tells after)
    unfolding turns_after
    turning_stops cast opened earlier all left later x {after = after} more halts it =
        let clients : ℕ = length cast.clients in
        let one : Stage = play cast script it.now (turn_after clients x) in
        subst (λ stage. IsCutShort opened earlier stage.events (tells after)) (sym (ap (λ n. fold (play cast script) it.now (turns_after clients n x)) more) ∙ it.rest)
        (short_of_more (plays_more cast script (turns_after clients later (next (next x))) one) (halts.cut_short cast opened earlier it.now it.plays))
