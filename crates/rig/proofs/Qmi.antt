-- The laws of each rig for QMI.
use Rattle.std.proofs.Common.{ℕ, ◌≤◌, List, length, refl, ap, ◌∙◌, arith}
use Rattle.proxy_history.specs.Events.{Event}
use Rattle.qmi_proxy.specs.Proxy.{proxy_of}
use Rattle.qmi_proxy.specs.History.{qmi_protocol}
use Rattle.qmi_solo.specs.Law.{IsLetAlone}
use Rattle.qmi_solo.specs.Solo.{solo}
use Rattle.qmi_solo.proofs.Law.{alone_is_sound}
use Rattle.rig_runs.specs.Qmi.{setup, qmi_rig}
use Rattle.rig_runs.specs.Lines.{summary}
use Rattle.rig_laws.proofs.Lists.{length-range}
use Rattle.rig_laws.proofs.Law.{each_gets_the_same, nobody_is_disturbed, each_is_let_alone}
use Rattle.rig_trace.specs.Qmi.{qmi_reading}
use Rattle.rig_trace.specs.Laws.{most_turns}
use Rattle.rig_notes.proofs.Sound.{takes_what_waits}
use Rattle.trace_laws.proofs.Law.{requests_are_counted}
use Rattle.trace_laws.proofs.Mirroring.{here}
use Rattle.trace_laws.proofs.Parts.{each_meets_its_part, each_takes_the_same}
use Rattle.rig.proofs.Coming.{IsLawful}

module _ (clients turns number : ℕ) (some : 1 ≤ clients) (within : clients ≤ 64) (few : turns ≤ most_turns) where
  abbrev events : List Event
  events = qmi_rig clients turns number

  let_alone : (c : ℕ) → IsLetAlone setup c events
  let_alone c = here (IsLetAlone setup c) events (each_is_let_alone clients turns number some within c)

  pub qmi_is_lawful : IsLawful qmi_reading (proxy_of setup) (λ c. solo setup c events) clients turns events (summary setup clients turns events)
  qmi_is_lawful = record {
    meets = each_meets_its_part clients turns number some within;
    same = each_takes_the_same clients turns number some within;
    takes = λ c low high. takes_what_waits (qmi_protocol setup) (λ past. 0) (solo setup c events) (alone_is_sound setup c events (λ e. absurd (omega (arith, low, e))) (let_alone c));
    counts = requests_are_counted clients turns number some within few;
    its_clients = refl;
    its_turns = refl;
    equal = ap length (each_gets_the_same clients turns number some within) ∙ length-range clients 1;
    counted = ap length (nobody_is_disturbed clients turns number some within) ∙ length-range clients 1;
  }
