-- A client of a small rig that asks once more than it may, and is answered nothing. Lists of events have the newest first.
use Rattle.std.specs.Prelude.{◌≡◌, ℕ, zero, suc, true, false, List, ◌∷◌, reverse}
use Rattle.proxy_history.specs.Events.{Event, Joined, Piece}
use Rattle.qmi_proxy.specs.Proxy as qmi_proxy
use Rattle.qmi_proxy.specs.History as qmi_history
use Rattle.mbim_proxy.specs.Proxy as mbim_proxy
use Rattle.mbim_proxy.specs.History as mbim_history
use Rattle.rig_runs.specs.Qmi as qmi
use Rattle.rig_runs.specs.Mbim as mbim
use Rattle.rig_runs.specs.Lines as qmi_lines
use Rattle.rig_runs.specs.MbimLines as mbim_lines
use Rattle.rig_runs.specs.Examples as qmi_examples
use Rattle.rig_runs.specs.MbimExamples as mbim_examples
use Rattle.rig_trace.specs.Rows.{none, ledger_of}
use Rattle.rig_trace.specs.Qmi.{qmi_reading}
use Rattle.rig_trace.specs.Mbim.{mbim_reading}

-- ---- QMI ----

-- it has opened the device and has its client id, and asks so many times
abbrev pub qmi_asks : ℕ → List Event
qmi_asks zero = reverse (Joined 1 ∷ qmi_examples.opens 1 qmi_examples.id_1)
qmi_asks (suc n) = Piece 1 qmi_examples.serving_system ∷ qmi_asks n

-- where 16 wait, one more passes the share, and one of the other space doesn't; the ledger counts as the facts do
pub record SharesOfQmi : Type 0 where
  pub not_yet : qmi_lines.passes_share qmi.setup 1 qmi_examples.serving_system (qmi_history.history qmi.setup (qmi_asks 15)) ≡ false
  pub passes : qmi_lines.passes_share qmi.setup 1 qmi_examples.serving_system (qmi_history.history qmi.setup (qmi_asks 16)) ≡ true
  pub other_space : qmi_lines.passes_share qmi.setup 1 qmi_examples.allocate (qmi_history.history qmi.setup (qmi_asks 16)) ≡ false
  pub none_refused : qmi_lines.refused qmi.setup (qmi_history.history qmi.setup (qmi_asks 16)) ≡ 0
  pub one_refused : qmi_lines.refused qmi.setup (qmi_history.history qmi.setup (qmi_asks 17)) ≡ 1
  pub counts : (ledger_of qmi_reading (qmi_proxy.proxy_of qmi.setup) (qmi_asks 17)).counts ≡ record none { forwarded = 17; answered = 1; refused = 1 }

-- ---- MBIM ----

-- it has the modem opened, and asks so many times
abbrev pub mbim_asks : ℕ → List Event
mbim_asks zero = reverse (Joined 1 ∷ mbim_examples.opens 1)
mbim_asks (suc n) = Piece 1 (mbim_examples.query (mbim_examples.four 3) (mbim_examples.four 9)) ∷ mbim_asks n

-- where 16 wait, one more passes the share, and a request to open doesn't
pub record SharesOfMbim : Type 0 where
  pub not_yet : mbim_lines.passes_share mbim.setup 1 (mbim_examples.query (mbim_examples.four 3) (mbim_examples.four 9)) (mbim_history.history mbim.setup (mbim_asks 15)) ≡ false
  pub passes : mbim_lines.passes_share mbim.setup 1 (mbim_examples.query (mbim_examples.four 3) (mbim_examples.four 9)) (mbim_history.history mbim.setup (mbim_asks 16)) ≡ true
  pub opening : mbim_lines.passes_share mbim.setup 1 mbim_examples.open_2 (mbim_history.history mbim.setup (mbim_asks 16)) ≡ false
  pub none_refused : mbim_lines.refused mbim.setup (mbim_history.history mbim.setup (mbim_asks 16)) ≡ 0
  pub one_refused : mbim_lines.refused mbim.setup (mbim_history.history mbim.setup (mbim_asks 17)) ≡ 1
  pub counts : (ledger_of mbim_reading (mbim_proxy.proxy_of mbim.setup) (mbim_asks 17)).counts ≡ record none { forwarded = 16; refused = 1 }
