-- The laws of each rig for MBIM.
use Rattle.std.proofs.Common.{◌≡◌, ◌≢◌, ℕ, ◌≤◌, false, List, length, refl, ap, ◌∙◌, arith}
use Rattle.std.proofs.lemmas.List.Elements.{All-from_recursion}
use Rattle.proxy_history.specs.Events.{Event}
use Rattle.proxy_history.specs.View.{Entry}
use Rattle.proxy_solo.specs.Law.{tells_of_others}
use Rattle.mbim_proxy.specs.Proxy.{own_bytes, proxy_of}
use Rattle.mbim_proxy.specs.Step.{view_of}
use Rattle.mbim_proxy.specs.History.{mbim_protocol, history}
use Rattle.mbim_solo.specs.Law.{IsLetAlone}
use Rattle.mbim_solo.specs.Solo.{solo}
use Rattle.mbim_solo.proofs.Law.{alone_is_sound, served_proxies_are_roomy}
use Rattle.rig_runs.specs.Rig.{device, time_limit}
use Rattle.rig_runs.specs.Mbim.{setup, mbim_rig}
use Rattle.rig_runs.specs.MbimLines.{summary}
use Rattle.rig_laws.proofs.Lists.{length-range}
use Rattle.rig_laws_mbim.specs.Law.{IsFair}
use Rattle.rig_laws_mbim.proofs.Harmless.{undisturbed}
use Rattle.rig_laws_mbim.proofs.Playing.{rig_stands}
use Rattle.rig_laws_mbim.proofs.Law.{each_run_is_fair}
use Rattle.rig_trace.specs.Mbim.{mbim_reading}
use Rattle.rig_trace.specs.Laws.{most_turns}
use Rattle.trace_laws_mbim.proofs.Law.{requests_are_counted}
use Rattle.trace_laws_mbim.proofs.Parts.{each_meets_its_part, each_takes_the_same}
use Rattle.rig_notes.proofs.Fitting.{TakesWhatWaits}
use Rattle.rig_notes.proofs.Sound.{takes_what_waits}
use Rattle.rig.proofs.Coming.{IsLawful}

module _ (clients turns number : ℕ) (some : 1 ≤ clients) (within : clients ≤ 64) (few : turns ≤ most_turns) where
  abbrev events : List Event
  events = mbim_rig clients turns number

  fair : IsFair clients turns events
  fair = each_run_is_fair clients turns number some within

  let_alone : (c : ℕ) → IsLetAlone setup c events
  let_alone c = record {
    sound = fair.sound;
    undisturbed = All-from_recursion (λ (entry : Entry). tells_of_others entry ≡ false) (view_of c (history setup events)) (undisturbed c (history setup events) (rig_stands clients some within turns number).going.calm.harmless);
  }

  takes_its_own : (c : ℕ) → 1 ≤ c → c ≤ clients → TakesWhatWaits (proxy_of setup) (solo setup c events)
  takes_its_own c low high =
      let client : c ≢ 0 = λ is. absurd (omega (arith, low, is)) in
      takes_what_waits (mbim_protocol setup) (own_bytes setup) (solo setup c events) (alone_is_sound setup c events (served_proxies_are_roomy device time_limit false) client (let_alone c))

  pub mbim_is_lawful : IsLawful mbim_reading (proxy_of setup) (λ c. solo setup c events) clients turns events (summary setup clients turns events)
  mbim_is_lawful = record {
    meets = each_meets_its_part clients turns number some within;
    same = each_takes_the_same clients turns number some within;
    takes = takes_its_own;
    counts = requests_are_counted clients turns number some within few;
    its_clients = refl;
    its_turns = refl;
    equal = ap length fair.same ∙ length-range clients 1;
    counted = ap length fair.undisturbed ∙ length-range clients 1;
  }
