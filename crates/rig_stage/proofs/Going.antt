-- What ran goes on. Lists of runs and of events have the newest first.
use Rattle.std.proofs.Common.{◌≡◌, ℕ, zero, suc, ◌+◌, ◌<◌, Bool, true, false, if◌then◌else◌, List, [], ◌∷◌, ◌++◌, length, Option, Some, None, refl, sym, ap, ◌∙◌, subst, arith}
use Rattle.std.specs.List.{range_with_len}
use Rattle.proxy_history.specs.Events.{Event, Took, ModemTook}
use Rattle.proxy_history.specs.Connections.{contains}
use Rattle.proxy_history.specs.Proxy.{Proxy}
use Rattle.hub_io.specs.Record.{taking}
use Rattle.proxy_serving.specs.Face.{Face}
use Rattle.proxy_serving.specs.Cores.{Shows}
use Rattle.core_bench.specs.Runs.{Run, AddsEvent, with_event}
use Rattle.rig_runs.specs.Stage.{clients_take, modem_takes, queued_for}
use Rattle.rig_stage.specs.Running.{AreRecorded, Runs, Moves}

told_after : (event : Event) (opened : Run) (earlier : List Run) (past : List Event) (old new : Option (List Run)) → AddsEvent old event new
    → AreRecorded old (record opened { events = past } ∷ earlier) → AreRecorded new (record opened { events = event ∷ past } ∷ earlier)
told_after event opened earlier past old None adds told = tt
told_after event opened earlier past None (Some new) adds told = absurd adds
told_after event opened earlier past (Some old) (Some new) adds told = adds ∙ ap (with_event event) told

module _ {B : Type 0} {keeps : Proxy → List Event → B → Type 0} {tells : B → Option (List Run)} where
  -- the core met an event
  pub met_one : {old new : B} (event : Event) → ((p : Proxy) (past : List Event) → keeps p past old → keeps p (event ∷ past) new) → AddsEvent (tells old) event (tells new) → Moves keeps tells (λ p past. event ∷ past) old new
  met_one event kept adds = record { runs = λ p opened earlier past r. record { kept = kept p past r.kept; told = told_after event opened earlier past _ _ adds r.told } }

  -- nothing happened that a run tells
  pub met_none : {old new : B} → ((p : Proxy) (past : List Event) → keeps p past old → keeps p past new) → tells new ≡ tells old → Moves keeps tells (λ p past. past) old new
  met_none kept same = record { runs = λ p opened earlier past r. record { kept = kept p past r.kept; told = subst (λ t. AreRecorded t (record opened { events = past } ∷ earlier)) (sym same) r.told } }

  pub stays : (bench : B) → Moves keeps tells (λ p past. past) bench bench
  stays bench = record { runs = λ p opened earlier past r. r }

  pub moved_then : {old mid new : B} {first second : Proxy → List Event → List Event} → Moves keeps tells first old mid → Moves keeps tells second mid new → Moves keeps tells (λ p past. second p (first p past)) old new
  moved_then {first = first} one two = record { runs = λ p opened earlier past r. two.runs p opened earlier (first p past) (one.runs p opened earlier past r) }

  -- the same, where what is kept says that it is
  pub moved_as : {old new : B} {first : Proxy → List Event → List Event} (second : Proxy → List Event → List Event) → ((p : Proxy) (past : List Event) → keeps p past old → first p past ≡ second p past)
      → Moves keeps tells first old new → Moves keeps tells second old new
  moved_as {new = new} second same one =
      record { runs = λ p opened earlier past r. subst (λ events. Runs keeps tells p opened earlier events new) (same p past r.kept) (one.runs p opened earlier past r) }

-- ---- what waits ----

-- as many bytes as the definitions say
pub queued_is : (p : Proxy) (past : List Event) (face : Face) (c : ℕ) → Shows p past face → (contains c face.present ≡ false → face.queue c ≡ []) → length (face.queue c) ≡ queued_for p c past
queued_is p past face c shows nobody =
    let step : (b : Bool) → contains c (p.present past) ≡ b → length (face.queue c) ≡ (if b then length (p.waiting c past) else 0) = elim [
      | true ↦ λ is. ap length (shows.queue c is)
      | false ↦ λ is. ap length (nobody (ap (contains c) shows.present ∙ is))
    ] in step (contains c (p.present past)) refl

pub taking_some : (event : ℕ → Event) (count : ℕ) (past : List Event) → 0 < count → taking event count past ≡ event count ∷ past
taking_some event zero past some = absurd (omega (arith, some))
taking_some event (suc count) past some = refl

module _ (p : Proxy) (past : List Event) (face : Face) where
  pub client_takes_none : (c : ℕ) → Shows p past face → (contains c face.present ≡ false → face.queue c ≡ []) → length (face.queue c) ≡ 0 → past ≡ taking (λ count. Took c count) (queued_for p c past) past
  client_takes_none c shows nobody none = ap (λ count. taking (λ n. Took c n) count past) (sym none ∙ queued_is p past face c shows nobody)

  pub client_takes_some : (c count : ℕ) → Shows p past face → (contains c face.present ≡ false → face.queue c ≡ []) → length (face.queue c) ≡ count → 0 < count
      → Took c count ∷ past ≡ taking (λ count. Took c count) (queued_for p c past) past
  client_takes_some c count shows nobody long some = sym (taking_some (λ n. Took c n) count past some) ∙ ap (λ count. taking (λ n. Took c n) count past) (sym long ∙ queued_is p past face c shows nobody)

  pub modem_takes_none : Shows p past face → length face.modem_queue ≡ 0 → past ≡ modem_takes p past
  modem_takes_none shows none = ap (λ count. taking (λ n. ModemTook n) count past) (sym none ∙ ap length shows.modem_queue)

  pub modem_takes_some : (count : ℕ) → Shows p past face → length face.modem_queue ≡ count → 0 < count → ModemTook count ∷ past ≡ modem_takes p past
  modem_takes_some count shows long some = sym (taking_some (λ n. ModemTook n) count past some) ∙ ap (λ count. taking (λ n. ModemTook n) count past) (sym long ∙ ap length shows.modem_queue)

-- ---- the clients, one after another ----

range_last : (first count last : ℕ) → first + count ≡ last → range_with_len first (suc count) ≡ range_with_len first count ++ last ∷ []
range_last first zero last is = ap (λ n. n ∷ []) (omega (arith, is))
range_last first (suc count) last is = ap (λ numbers. first ∷ numbers) (range_last (first + 1) count last (omega (arith, is)))

pub range_more : (count last : ℕ) → 1 + count ≡ last → range_with_len 1 (count + 1) ≡ range_with_len 1 count ++ last ∷ []
range_more count last is = let more : count + 1 ≡ suc count = omega arith in ap (range_with_len 1) more ∙ range_last 1 count last is

clients_take-last : (p : Proxy) (clients : List ℕ) (c : ℕ) (events : List Event)
    → clients_take p (clients ++ c ∷ []) events ≡ taking (λ count. Took c count) (queued_for p c (clients_take p clients events)) (clients_take p clients events)
unfolding clients_take
clients_take-last p [] c events = refl
clients_take-last p (d ∷ clients) c events = clients_take-last p clients c (taking (λ count. Took d count) (queued_for p d events) events)

pub clients_take-more : (p : Proxy) (count c : ℕ) (events : List Event) → 1 + count ≡ c
    → taking (λ taken. Took c taken) (queued_for p c (clients_take p (range_with_len 1 count) events)) (clients_take p (range_with_len 1 count) events) ≡ clients_take p (range_with_len 1 (count + 1)) events
clients_take-more p count c events is = sym (ap (λ clients. clients_take p clients events) (range_more count c is) ∙ clients_take-last p (range_with_len 1 count) c events)

pub clients_take-none : (p : Proxy) (events : List Event) → events ≡ clients_take p (range_with_len 1 0) events
unfolding clients_take
clients_take-none p events = refl
