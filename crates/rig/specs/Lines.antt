-- What the rig runs on a bench, and the lines that it writes. Lists of runs and of events have the newest first.
use Rattle.std.specs.Prelude.{ℕ, List, [], ◌∷◌, ◌++◌, map, reverse}
use Rattle.std.specs.List.{range_with_len}
use Rattle.kit_bytes.specs.declared.kind.Kind.{Kind}
use Rattle.kit_bytes.specs.declared.kind.Kind.TheVariants.{Qmi, Mbim}
use Rattle.proxy_history.specs.Events.{Event}
use Rattle.core_bench.specs.Runs.{Run}
use Rattle.qmi_solo.specs.Solo as qmi_solo
use Rattle.mbim_solo.specs.Solo as mbim_solo
use Rattle.rig_runs.specs.Counts.{Summary, lines_of}
use Rattle.rig_runs.specs.Qmi as qmi
use Rattle.rig_runs.specs.Mbim as mbim
use Rattle.rig_runs.specs.Lines as qmi_lines
use Rattle.rig_runs.specs.MbimLines as mbim_lines
use Rattle.rig_play.specs.Runs.{run_of}

-- ---- what the clients and the modem of a rig bring ----

abbrev pub events_of : Kind → (clients turns number : ℕ) → List Event
events_of Qmi = qmi.qmi_rig
events_of Mbim = mbim.mbim_rig

-- and what one of these clients meets alone
abbrev pub alone_of : Kind → (conn : ℕ) → List Event → List Event
alone_of Qmi = qmi_solo.solo qmi.setup
alone_of Mbim = mbim_solo.solo mbim.setup

-- ---- the runs ----

-- that of all clients, and behind it that of each of them alone, in order of joining
abbrev pub runs_of : Kind → (clients turns number : ℕ) → List Run
runs_of kind clients turns number =
    map (λ c. run_of kind (alone_of kind c (events_of kind clients turns number))) (reverse (range_with_len 1 clients))
    ++ run_of kind (events_of kind clients turns number) ∷ []

-- ---- the lines ----

abbrev pub summary_of : Kind → (clients turns : ℕ) → List Event → Summary
summary_of Qmi = qmi_lines.summary qmi.setup
summary_of Mbim = mbim_lines.summary mbim.setup

abbrev pub rig_lines : Kind → (clients turns number : ℕ) → List ℕ
rig_lines kind clients turns number = lines_of (summary_of kind clients turns (events_of kind clients turns number))
