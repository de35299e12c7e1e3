-- A core that was just opened has run nothing. Lists of runs have the newest first.
use Rattle.std.proofs.Common.{◌≡◌, List, [], ◌∷◌, Option, Some, None, ap, ◌∙◌, subst}
use Rattle.kit_bytes.specs.declared.kind.Kind.{Kind}
use Rattle.proxy_history.specs.Events.{Event}
use Rattle.proxy_history.specs.Proxy.{Proxy}
use Rattle.core_bench.specs.Runs.{Run, AddsRun, proxy_for}
use Rattle.rig_runs.specs.Rig.{device, time_limit}
use Rattle.rig_stage.specs.Running.{AreRecorded, Runs}
use Rattle.rig_play.specs.Runs.{run_of}

told_opened : (run : Run) (earlier : List Run) (old new : Option (List Run)) → AddsRun old run new → AreRecorded old earlier → AreRecorded new (run ∷ earlier)
told_opened run earlier old None adds told = tt
told_opened run earlier None (Some new) adds told = absurd adds
told_opened run earlier (Some old) (Some new) adds told = adds ∙ ap (λ runs. run ∷ runs) told

abbrev proxy_of : Kind → Proxy
proxy_of kind = proxy_for kind (record { time = time_limit; release = None }) device

pub runs_opened : {B : Type 0} {keeps : Proxy → List Event → B → Type 0} {tells : B → Option (List Run)} (kind : Kind) {opened : Kind} (p : Proxy) (old new : B) → opened ≡ kind → proxy_of kind ≡ p
    → keeps (proxy_of opened) [] new → AddsRun (tells old) (run_of opened []) (tells new) → (earlier : List Run) → AreRecorded (tells old) earlier → Runs keeps tells p (run_of kind []) earlier [] new
runs_opened {keeps = keeps} {tells = tells} kind {opened = opened} p old new is opens kept adds earlier told = record {
  kept = subst (λ q. keeps q [] new) (ap proxy_of is ∙ opens) kept;
  told = subst (λ k. AreRecorded (tells new) (run_of k [] ∷ earlier)) is (told_opened (run_of opened []) earlier (tells old) (tells new) adds told);
}
