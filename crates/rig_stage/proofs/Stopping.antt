-- Runs that are cut short. Lists of runs and of events have the newest first.
use Rattle.std.specs.Prelude.{Result, Ok, Err, OnErr}
use Rattle.std.proofs.Common.{◌≡◌, ℕ, zero, suc, List, [], ◌∷◌, ◌++◌, fold, length, reverse, Option, refl, sym, ap, ◌∙◌, subst, append_assoc}
use Rattle.std.specs.List.{range_with_len}
use Rattle.proxy_history.specs.Events.{Event, Took, ModemTook}
use Rattle.proxy_history.specs.Orderly.{time_then}
use Rattle.proxy_history.specs.Proxy.{Proxy}
use Rattle.proxy_history.specs.Streams.{Framing}
use Rattle.proxy_solo.specs.Solo.{pieces_of}
use Rattle.hub_io.specs.Record.{taking}
use Rattle.framing.specs.Cutting.{cut}
use Rattle.sim_modem.specs.Sim.{Answering}
use Rattle.core_bench.specs.Runs.{Run}
use Rattle.rig_runs.specs.Stage.{Cast, Stage, queued_for, clients_take, modem_takes, modem_served, meet, hear, arrive_first, arrive_last, longest_arrives, shortest_arrives, arrive_each, all_arrive}
use Rattle.rig_stage.specs.Running.{Moves, Extends, IsCutShort}
use Rattle.rig_stage.specs.Stage.{World, Plays, Acts, Stops}
use Rattle.rig_stage.proofs.Acting.{asked_events, is_met}

-- where a call fails, what that brings goes for what follows from it
pub on_err : {T E : Type 0} (result : Result T E) {P Q : Type 0} → (P → Q) → OnErr result P → OnErr result Q
on_err (Ok value) follows it = tt
on_err (Err error) follows it = follows it

-- what holds anyway does so where a call fails
pub also_on_err : {T E : Type 0} (result : Result T E) {P : Type 0} → P → OnErr result P
also_on_err (Ok value) it = tt
also_on_err (Err error) it = it

-- ---- more events ----

pub none_more : (past : List Event) → Extends past past
none_more past = record { more = []; is = refl }

pub one_more : (event : Event) (past : List Event) → Extends past (event ∷ past)
one_more event past = record { more = event ∷ []; is = refl }

pub more_then : {first second third : List Event} → Extends first second → Extends second third → Extends first third
more_then {first = first} one two = record { more = two.more ++ one.more; is = two.is ∙ ap (λ past. two.more ++ past) one.is ∙ sym (append_assoc two.more one.more first) }

pub taking_more : (event : ℕ → Event) (count : ℕ) (past : List Event) → Extends past (taking event count past)
taking_more event zero past = none_more past
taking_more event (suc count) past = one_more (event (suc count)) past

clients_more : (p : Proxy) (clients : List ℕ) (past : List Event) → Extends past (clients_take p clients past)
unfolding clients_take
clients_more p [] past = none_more past
clients_more p (c ∷ clients) past =
    more_then (taking_more (λ count. Took c count) (queued_for p c past) past) (clients_more p clients (taking (λ count. Took c count) (queued_for p c past) past))

-- whatever the stage, more events are met on the way to this one
abbrev pub OnlyExtends : (Stage → Stage) → Type 0
OnlyExtends goes_on = (stage : Stage) → Extends stage.events (goes_on stage).events

module _ (cast : Cast) where
  pub served_more : OnlyExtends (modem_served cast)
  served_more stage =
      let taken : Stage = record stage { events = modem_takes cast.proxy stage.events } in
      subst (λ events. Extends stage.events events) (sym (asked_events cast (cut cast.size (cast.proxy.waiting_for_modem stage.events)).messages taken)) (taking_more (λ count. ModemTook count) _ stage.events)

  pub meet_more : (event : Event) → OnlyExtends (meet cast event)
  meet_more event stage =
      more_then (more_then (one_more event stage.events) (clients_more cast.proxy cast.clients (event ∷ stage.events)))
      (served_more (record stage { events = clients_take cast.proxy cast.clients (event ∷ stage.events) }))

  pub fold_more : {X : Type 0} (step : Stage → X → Stage) → ((x : X) → OnlyExtends (λ stage. step stage x)) → (list : List X) → OnlyExtends (λ stage. fold step stage list)
  fold_more step more [] stage = none_more stage.events
  fold_more step more (x ∷ list) stage = more_then (more x stage) (fold_more step more list (step stage x))

  pub hear_more : (pieces : List (List ℕ)) → OnlyExtends (λ stage. fold (hear cast) stage pieces)
  hear_more pieces = fold_more (hear cast) (λ piece stage. meet_more _ stage) pieces

  first_more : (held : List (List ℕ)) → OnlyExtends (arrive_first cast held)
  first_more [] stage = none_more stage.events
  first_more (m ∷ held) stage = hear_more (pieces_of (length m) m) (record stage { held = held })

  last_more : (held : List (List ℕ)) → OnlyExtends (arrive_last cast held)
  last_more [] stage = none_more stage.events
  last_more (m ∷ held) stage = hear_more (pieces_of (length m) m) (record stage { held = reverse held })

  pub longest_more : OnlyExtends (longest_arrives cast)
  longest_more stage = first_more stage.held stage

  pub shortest_more : OnlyExtends (shortest_arrives cast)
  shortest_more stage = last_more (reverse stage.held) stage

  pub each_more : (messages : List (List ℕ)) → OnlyExtends (arrive_each cast messages)
  unfolding arrive_each
  each_more [] stage = none_more stage.events
  each_more (m ∷ messages) stage = more_then (longest_more stage) (each_more messages (longest_arrives cast stage))

  pub all_more : OnlyExtends (all_arrive cast)
  all_more stage = each_more stage.held stage

-- ---- a run that is cut short ----

-- and so it is on the way to a stage behind that
pub short_of_more : {opened : Run} {earlier : List Run} {some all : List Event} {now : Option (List Run)} → Extends some all → IsCutShort opened earlier some now → IsCutShort opened earlier all now
short_of_more more it = record { met = it.met; within = more_then it.within more; told = it.told }

module _ {B M : Type 0} {keeps : Proxy → List Event → B → Type 0} {tells : B → Option (List Run)} {asks : Answering → List (List ℕ) → M → Type 0} {size : Framing} where
  -- nothing of this was done
  pub stops_here : {old : World M} (bench : B) (goes_on : Cast → Stage → Stage) → ((cast : Cast) → OnlyExtends (goes_on cast)) → Stops keeps tells asks size goes_on old bench bench
  stops_here bench goes_on more = record { cut_short = λ cast opened earlier stage it. record { met = stage.events; within = more cast stage; told = it.runs.told } }

  -- the first part of this was not done
  pub stops_before : {old : World M} {before after : B} (first second : Cast → Stage → Stage) → ((cast : Cast) → OnlyExtends (second cast))
      → Stops keeps tells asks size first old before after → Stops keeps tells asks size (λ cast stage. second cast (first cast stage)) old before after
  stops_before first second more stops = record { cut_short = λ cast opened earlier stage it. short_of_more (more cast (first cast stage)) (stops.cut_short cast opened earlier stage it) }

  -- the first part was done, and the second was not
  pub stops_behind : {old mid : World M} {before between after : B} (first second : Cast → Stage → Stage) → Acts keeps tells asks size first old before mid between
      → Stops keeps tells asks size second mid between after → Stops keeps tells asks size (λ cast stage. second cast (first cast stage)) old before after
  stops_behind first second acts stops = record { cut_short = λ cast opened earlier stage it. stops.cut_short cast opened earlier (first cast stage) (acts.plays cast opened earlier stage it) }

  pub stops_as : {old : World M} {before after : B} {first : Cast → Stage → Stage} (second : Cast → Stage → Stage)
      → ((cast : Cast) (opened : Run) (earlier : List Run) (stage : Stage) → Plays keeps tells asks size cast opened earlier stage old before → first cast stage ≡ second cast stage)
      → Stops keeps tells asks size first old before after → Stops keeps tells asks size second old before after
  stops_as {after = after} second same one = record {
    cut_short = λ cast opened earlier stage it. subst (λ now. IsCutShort opened earlier now.events (tells after)) (same cast opened earlier stage it) (one.cut_short cast opened earlier stage it);
  }

  -- once an event was met, the modem wasn't served
  pub meets_some : (event : Event) {old mid : World M} {b0 b1 b2 b3 : B} (clients : ℕ) → clients ≡ old.clients → mid ≡ record old { time = time_then event old.time }
      → Moves keeps tells (λ p past. event ∷ past) b0 b1 → Moves keeps tells (λ p past. clients_take p (range_with_len 1 clients) past) b1 b2 → Stops keeps tells asks size modem_served mid b2 b3
      → Stops keeps tells asks size (λ cast stage. meet cast event stage) old b0 b3
  meets_some event {old = old} {b1 = b1} {b2 = b2} clients many is met taken stops =
      let all : Moves keeps tells (λ p past. clients_take p (range_with_len 1 old.clients) past) b1 b2 = subst (λ n. Moves keeps tells (λ p past. clients_take p (range_with_len 1 n) past) b1 b2) many taken in
      record {
        cut_short = λ cast opened earlier stage it.
            let now : Stage = record stage { events = clients_take cast.proxy cast.clients (event ∷ stage.events) } in
            stops.cut_short cast opened earlier now (subst (λ world. Plays keeps tells asks size cast opened earlier now world b2) (sym is) (is_met event {old = old} met all cast opened earlier stage it));
      }
