-- What holds of every rig, whatever is drawn: nobody is disturbed, each client gets the bytes that it gets alone, and what is refused passes its client's share.
use Rattle.std.specs.Prelude.{◌≡◌, ℕ, ◌≤◌, List, ◌++◌, codes, decimal}
use Rattle.std.specs.List.{range_with_len}
use Rattle.proxy_history.specs.Events.{Event}
use Rattle.qmi_proxy.specs.Limits.{connection_limit}
use Rattle.qmi_proxy.specs.History.{history}
use Rattle.qmi_solo.specs.Law.{AreSound}
use Rattle.rig_runs.specs.Qmi.{setup, qmi_rig}
use Rattle.rig_runs.specs.Lines.{AreForShares, counted, equal, summary, lines_of}

-- so it is of each rig with at least one client, and no more than may be there
abbrev pub OfEachRig : (ℕ → (turns : ℕ) → List Event → Type 0) → Type 0
OfEachRig P = (clients turns number : ℕ) → 1 ≤ clients → clients ≤ connection_limit → P clients turns (qmi_rig clients turns number)

-- the events may come: a proxy can be run on them
abbrev pub EventsMayCome : Type 0
EventsMayCome = OfEachRig (λ clients turns events. AreSound setup events)

-- each client was let in, and nothing that it met tells of others
abbrev pub NobodyIsDisturbed : Type 0
NobodyIsDisturbed = OfEachRig (λ clients turns events. counted setup clients events ≡ range_with_len 1 clients)

-- each gets the bytes that it gets alone
abbrev pub EachGetsTheSame : Type 0
EachGetsTheSame = OfEachRig (λ clients turns events. equal setup clients events ≡ range_with_len 1 clients)

-- a message is answered with an error just where it passes its client's share
abbrev pub RefusalsAreForShares : Type 0
RefusalsAreForShares = OfEachRig (λ clients turns events. AreForShares setup (history setup events))

-- ---- the lines ----

abbrev pub last_line : (clients : ℕ) → List ℕ
last_line clients = codes "equal " ++ decimal clients ++ codes " of " ++ decimal clients ++ codes "\n"

-- behind these lines the last one says that all are equal
pub record EndsWithAll (clients : ℕ) (lines : List ℕ) : Type 0 where
  pub others : List ℕ
  pub whole : lines ≡ others ++ codes "\n" ++ last_line clients

abbrev pub LastLinesSayAll : Type 0
LastLinesSayAll = OfEachRig (λ clients turns events. EndsWithAll clients (lines_of (summary setup clients turns events)))
