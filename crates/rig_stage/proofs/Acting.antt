-- What a running stage goes on to. Lists of runs, of events and of requests have the newest first.
use Rattle.std.specs.Prelude.{Result, Ok, Err, OnOk}
use Rattle.std.proofs.Common.{◌≡◌, ℕ, zero, suc, List, [], ◌∷◌, ◌++◌, Option, refl, sym, ap, ◌∙◌, subst}
use Rattle.std.specs.List.{range_with_len}
use Rattle.proxy_history.specs.Events.{Event, Took, ModemTook}
use Rattle.proxy_history.specs.Orderly.{time_then}
use Rattle.proxy_history.specs.Proxy.{Proxy}
use Rattle.proxy_history.specs.Streams.{Framing}
use Rattle.hub_io.specs.Record.{taking}
use Rattle.framing.specs.Cutting.{cut}
use Rattle.sim_modem.specs.Sim.{Answering}
use Rattle.core_bench.specs.Runs.{Run}
use Rattle.rig_runs.specs.Stage.{Cast, Stage, queued_for, clients_take, modem_takes, ask, ask_all, modem_served, meet}
use Rattle.rig_stage.specs.Running.{Runs, Moves}
use Rattle.rig_stage.specs.Stage.{World, Holds, Asks, KeepsTime, Plays, Acts}

-- where a call ends well, what it brings goes for what follows from it
pub on_ok : {T E : Type 0} (result : Result T E) {P Q : Type 0} → (P → Q) → OnOk result P → OnOk result Q
on_ok (Ok value) follows it = follows it
on_ok (Err error) follows it = tt

-- ---- the time ----

module _ (p : Proxy) (keeps_time : KeepsTime p) where
  taking_keeps : (event : ℕ → Event) (count : ℕ) (past : List Event) → ((n : ℕ) → time_then (event n) (p.time past) ≡ p.time past) → p.time (taking event count past) ≡ p.time past
  taking_keeps event zero past other = refl
  taking_keeps event (suc count) past other = keeps_time (event (suc count)) past ∙ other (suc count)

  pub clients_keep_time : (clients : List ℕ) (past : List Event) → p.time (clients_take p clients past) ≡ p.time past
  unfolding clients_take
  clients_keep_time [] past = refl
  clients_keep_time (c ∷ clients) past = clients_keep_time clients (taking (λ count. Took c count) (queued_for p c past) past) ∙ taking_keeps (λ count. Took c count) (queued_for p c past) past (λ n. refl)

  pub modem_keeps_time : (past : List Event) → p.time (modem_takes p past) ≡ p.time past
  modem_keeps_time past = taking_keeps (λ count. ModemTook count) _ past (λ n. refl)

-- ---- what the modem is asked ----

pub asked_events : (cast : Cast) (messages : List (List ℕ)) (stage : Stage) → (ask_all cast messages stage).events ≡ stage.events
unfolding ask_all
asked_events cast [] stage = refl
asked_events cast (m ∷ messages) stage = asked_events cast messages (ask cast m stage)

pub asked_first : (cast : Cast) (m : List ℕ) (messages : List (List ℕ)) (stage : Stage) → ask_all cast (m ∷ messages) stage ≡ ask_all cast messages (ask cast m stage)
unfolding ask_all
asked_first cast m messages stage = refl

pub asked_none : (cast : Cast) (stage : Stage) → ask_all cast [] stage ≡ stage
unfolding ask_all
asked_none cast stage = refl

-- of all these messages those that are left are still to be asked, behind the others
pub record IsAsking {M : Type 0} (keeps : Answering → List (List ℕ) → M → Type 0) (size : Framing) (cast : Cast) (all left : List (List ℕ)) (stage : Stage) (world : World M) : Type 0 where
  pub now : Stage
  pub holds : Holds keeps size cast now world
  pub rest : ask_all cast left now ≡ ask_all cast all stage

module _ {M : Type 0} {keeps : Answering → List (List ℕ) → M → Type 0} {size : Framing} where
  pub asked_one : {old new : World M} (modem : M) (message answer : List ℕ) → ((answers : Answering) (past : List (List ℕ)) → keeps answers past old.modem → keeps answers (message ∷ past) modem)
      → ((answers : Answering) (past : List (List ℕ)) → keeps answers past old.modem → answer ≡ answers past message)
      → new ≡ record old { modem = modem; held = old.held ++ (cut size answer).messages } → Asks keeps size (λ cast stage. ask cast message stage) old new
  asked_one {old = old} modem message answer goes_on answered is = record {
    holds = λ cast stage h. subst (λ world. Holds keeps size cast (ask cast message stage) world) (sym is) (record {
      framing = h.framing;
      kept = goes_on cast.modem stage.asked h.kept;
      held =
          ap (λ held. held ++ (cut size answer).messages) h.held
          ∙ ap (λ said. stage.held ++ (cut size said).messages) (answered cast.modem stage.asked h.kept)
          ∙ ap (λ framing. stage.held ++ (cut framing (cast.modem stage.asked message)).messages) (sym h.framing);
    });
  }

  -- all messages of the bytes were asked, as the cast cuts them
  pub asked_bytes : (bytes : List ℕ) {old new : World M} → ((cast : Cast) (stage : Stage) → Holds keeps size cast stage old → Holds keeps size cast (ask_all cast (cut size bytes).messages stage) new)
      → Asks keeps size (λ cast stage. ask_all cast (cut cast.size bytes).messages stage) old new
  asked_bytes bytes {new = new} all = record {
    holds = λ cast stage h. subst (λ framing. Holds keeps size cast (ask_all cast (cut framing bytes).messages stage) new) (sym h.framing) (all cast stage h);
  }

  pub asking_one : (cast : Cast) (all left : List (List ℕ)) (m : List ℕ) (later : List (List ℕ)) (stage : Stage) (old new : World M) → IsAsking keeps size cast all left stage old → left ≡ m ∷ later
      → Asks keeps size (λ cast stage. ask cast m stage) old new → IsAsking keeps size cast all later stage new
  asking_one cast all left m later stage old new it first asks = record {
    now = ask cast m it.now;
    holds = asks.holds cast it.now it.holds;
    rest = sym (ap (λ messages. ask_all cast messages it.now) first ∙ asked_first cast m later it.now) ∙ it.rest;
  }

  pub asking_done : (cast : Cast) (all left : List (List ℕ)) (stage : Stage) (world : World M) → IsAsking keeps size cast all left stage world → left ≡ [] → Holds keeps size cast (ask_all cast all stage) world
  asking_done cast all left stage world it none =
      subst (λ now. Holds keeps size cast now world) (sym (asked_none cast it.now) ∙ sym (ap (λ messages. ask_all cast messages it.now) none) ∙ it.rest) it.holds

  -- which events there were makes no difference to the modem
  pub holds_still : (cast : Cast) (stage : Stage) (events : List Event) (world : World M) → Holds keeps size cast stage world → Holds keeps size cast (record stage { events = events }) world
  holds_still cast stage events world h = record { framing = h.framing; kept = h.kept; held = h.held }

-- ---- the stage ----

module _ {B M : Type 0} {keeps : Proxy → List Event → B → Type 0} {tells : B → Option (List Run)} {asks : Answering → List (List ℕ) → M → Type 0} {size : Framing} where
  -- the modem takes what waits for it, and is asked that
  pub modem_is_served : {old new : World M} {before after : B} (bytes : List ℕ) → Asks asks size (λ cast stage. ask_all cast (cut cast.size bytes).messages stage) old new
      → Moves keeps tells modem_takes before after → ((p : Proxy) (past : List Event) → keeps p past before → bytes ≡ p.waiting_for_modem past) → new.clients ≡ old.clients → new.time ≡ old.time
      → Acts keeps tells asks size modem_served old before new after
  modem_is_served {old = old} {new = new} {after = after} bytes asked moves all clients time = record {
    plays = λ cast opened earlier stage it.
        let taken : Stage = record stage { events = modem_takes cast.proxy stage.events } in
        let messages : List (List ℕ) = (cut cast.size (cast.proxy.waiting_for_modem stage.events)).messages in
        let events : (ask_all cast messages taken).events ≡ modem_takes cast.proxy stage.events = asked_events cast messages taken in
        record {
          runs = subst (λ past. Runs keeps tells cast.proxy opened earlier past after) (sym events) (moves.runs cast.proxy opened earlier stage.events it.runs);
          holds =
              subst (λ queue. Holds asks size cast (ask_all cast (cut cast.size queue).messages taken) new) (all cast.proxy stage.events it.runs.kept)
              (asked.holds cast taken (holds_still cast stage (modem_takes cast.proxy stage.events) old it.holds));
          clients = it.clients ∙ ap (range_with_len 1) (sym clients);
          keeps_time = it.keeps_time;
          time = time ∙ it.time ∙ sym (ap cast.proxy.time events ∙ modem_keeps_time cast.proxy it.keeps_time stage.events);
        };
  }

  -- the proxy meets an event, and then the clients take what waits for them
  pub is_met : (event : Event) {old : World M} {before middle after : B} → Moves keeps tells (λ p past. event ∷ past) before middle → Moves keeps tells (λ p past. clients_take p (range_with_len 1 old.clients) past) middle after
      → (cast : Cast) (opened : Run) (earlier : List Run) (stage : Stage) → Plays keeps tells asks size cast opened earlier stage old before
      → Plays keeps tells asks size cast opened earlier (record stage { events = clients_take cast.proxy cast.clients (event ∷ stage.events) }) (record old { time = time_then event old.time }) after
  is_met event {old = old} {after = after} met taken cast opened earlier stage it =
      let events : List Event = clients_take cast.proxy cast.clients (event ∷ stage.events) in
      record {
        runs = subst (λ clients. Runs keeps tells cast.proxy opened earlier (clients_take cast.proxy clients (event ∷ stage.events)) after) (sym it.clients)
            (taken.runs cast.proxy opened earlier (event ∷ stage.events) (met.runs cast.proxy opened earlier stage.events it.runs));
        holds = record { framing = it.holds.framing; kept = it.holds.kept; held = it.holds.held };
        clients = it.clients;
        keeps_time = it.keeps_time;
        time = ap (time_then event) it.time ∙ sym (clients_keep_time cast.proxy it.keeps_time cast.clients (event ∷ stage.events) ∙ it.keeps_time event stage.events);
      }

  pub acts_as : {old new : World M} {before after : B} {first : Cast → Stage → Stage} (second : Cast → Stage → Stage)
      → ((cast : Cast) (opened : Run) (earlier : List Run) (stage : Stage) → Plays keeps tells asks size cast opened earlier stage old before → first cast stage ≡ second cast stage)
      → Acts keeps tells asks size first old before new after → Acts keeps tells asks size second old before new after
  acts_as {new = new} {after = after} second same one = record {
    plays = λ cast opened earlier stage it. subst (λ now. Plays keeps tells asks size cast opened earlier now new after) (same cast opened earlier stage it) (one.plays cast opened earlier stage it);
  }

  -- and then the modem does
  pub meets_all : (event : Event) {old mid new : World M} {b0 b1 b2 b3 : B} (clients : ℕ) → clients ≡ old.clients → mid ≡ record old { time = time_then event old.time }
      → Moves keeps tells (λ p past. event ∷ past) b0 b1 → Moves keeps tells (λ p past. clients_take p (range_with_len 1 clients) past) b1 b2 → Acts keeps tells asks size modem_served mid b2 new b3
      → Acts keeps tells asks size (λ cast stage. meet cast event stage) old b0 new b3
  meets_all event {old = old} {b1 = b1} {b2 = b2} clients many is met taken served =
      let all : Moves keeps tells (λ p past. clients_take p (range_with_len 1 old.clients) past) b1 b2 = subst (λ n. Moves keeps tells (λ p past. clients_take p (range_with_len 1 n) past) b1 b2) many taken in
      record {
        plays = λ cast opened earlier stage it.
            let now : Stage = record stage { events = clients_take cast.proxy cast.clients (event ∷ stage.events) } in
            served.plays cast opened earlier now (subst (λ world. Plays keeps tells asks size cast opened earlier now world b2) (sym is) (is_met event {old = old} met all cast opened earlier stage it));
      }
