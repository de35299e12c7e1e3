-- Once all have opened the device, their first requests come. Lists of events have the newest first.
use Rattle.std.proofs.Common.{◌≡◌, ℕ, ◌+◌, ◌-◌, ◌<◌, ◌≤◌, List, [], length, slice_index, refl, sym, ap, ◌∙◌, subst, arith, Option}
use Rattle.proxy_history.specs.Events.{Event}
use Rattle.proxy_history.specs.Proxy.{Proxy}
use Rattle.proxy_history.specs.Streams.{Framing}
use Rattle.sim_modem.specs.Sim.{Answering}
use Rattle.core_bench.specs.Runs.{Run}
use Rattle.rig_runs.specs.Rig.{Script, sent, number_after, ready}
use Rattle.rig_runs.specs.Stage.{Cast, empty}
use Rattle.rig_stage.specs.Running.{Runs}
use Rattle.rig_stage.specs.Stage as running
use Rattle.rig_stage.specs.Stage.{World, KeepsTime}
use Rattle.rig_play.specs.Play.{AreNext, cast_of, script_of}
use Rattle.rig_play.proofs.Sent.{opened_by_two}

first_number : (number : ℕ) → 0 < number → number ≤ 65535 → number ≡ number_after number 0
first_number number some most = omega (arith, some, most)

module _ (p : Proxy) (answers : Answering) (size : Framing) (clients : ℕ) (opens_first opens_second : List ℕ) (asks : (conn choice number : ℕ) → List ℕ) (number : ℕ) where
  abbrev cast : Cast
  cast = cast_of p answers size clients

  abbrev script : Script
  script = script_of opens_first opens_second asks number

  each_sent_two : (at : ℕ) → at < clients → sent (at + 1) (ready cast script).events ≡ 2
  each_sent_two at within = opened_by_two (at + 1) cast script opens_first opens_second (λ d. refl) clients empty (omega arith) (omega (arith, within))

  pub begins_with : (numbers : List ℕ) → 0 < number → number ≤ 65535 → length numbers ≡ clients → ((at : ℕ) → at < clients → slice_index numbers at ≡ number) → AreNext script (ready cast script).events numbers
  begins_with numbers some most long each = record {
    opened = λ at within. let two : sent (at + 1) (ready cast script).events ≡ 2 = each_sent_two at (omega (arith, within, long)) in omega (arith, two);
    next = λ at within.
        let inside : at < clients = omega (arith, within, long) in
        each at inside ∙ first_number number some most ∙ ap (λ n. number_after number (n - 2)) (sym (each_sent_two at inside));
  }

-- a stage that was just made stands for the empty one
pub begins_empty : {B M : Type 0} {keeps : Proxy → List Event → B → Type 0} {tells : B → Option (List Run)} {asks : Answering → List (List ℕ) → M → Type 0} (size : Framing) (p : Proxy) (answers : Answering) (clients : ℕ)
    (modem : M) (world : World M) (bench : B) (opened : Run) (earlier : List Run) → world ≡ record { modem = modem; held = []; clients = clients; time = 0 } → asks answers [] modem → KeepsTime p → p.time [] ≡ 0
    → Runs keeps tells p opened earlier [] bench → running.Plays keeps tells asks size (cast_of p answers size clients) opened earlier empty world bench
begins_empty {keeps = keeps} {tells = tells} {asks = asks} size p answers clients modem world bench opened earlier is kept keeps_time zero runs =
    subst (λ world. running.Plays keeps tells asks size (cast_of p answers size clients) opened earlier empty world bench) (sym is)
    (record { runs = runs; holds = record { framing = refl; kept = kept; held = refl }; clients = refl; keeps_time = keeps_time; time = sym zero })
