-- The trace of two clients in a small rig for QMI, byte for byte. A trace is told in its order; lists of events have the newest first.
use Rattle.std.specs.Prelude.{◌≡◌, ℕ, List, [], ◌∷◌, codes}
use Rattle.kit_bytes.specs.Hex.{hex}
use Rattle.qmi_proxy.specs.Proxy.{proxy_of}
use Rattle.proxy_examples.specs.Story.{opened}
use Rattle.rig_runs.specs.Qmi.{setup}
use Rattle.rig_runs.specs.Examples.{open_device, allocate, id_1, id_2, home_network, serving_system, network_scan, home_network_to_1, serving_system_to, network_scan_to, number_1, number_2, number_3, two_clients, first_alone, second_alone}
use Rattle.rig_trace.specs.Rows.{none, ledger_of}
use Rattle.rig_trace.specs.declared.trace.Met.{Met}
use Rattle.rig_trace.specs.declared.trace.Met.TheVariants.{Joins, Said, Heard, Takes, ClockShows}
use Rattle.rig_trace.specs.Trace.{trace_of}
use Rattle.rig_trace.specs.Alone.{met_alone}
use Rattle.rig_trace.specs.Qmi.{qmi_reading}

-- client id 1 of NAS, with the number of the client's own request
abbrev pub id_1_to_2 : List ℕ
id_1_to_2 = hex (codes "01 17 00 80 00 00 01 02 22 00 0C 00 02 04 00 00 00 00 00 01 02 00 03 01")

-- what the modem says has its own numbers, and what a client takes those of the client
abbrev pub trace : List Met
trace =
    Joins 1 ∷ Joins 2
    ∷ Said 1 open_device ∷ Takes 1 opened ∷ Said 1 allocate ∷ Heard 1 2 id_1 ∷ Takes 1 id_1_to_2
    ∷ Said 2 open_device ∷ Takes 2 opened ∷ Said 2 allocate ∷ Heard 2 2 id_2 ∷ Takes 2 id_2
    ∷ Said 2 home_network ∷ Said 1 serving_system ∷ ClockShows 1000 ∷ Said 1 network_scan
    ∷ Heard 1 4 (network_scan_to number_3) ∷ Takes 1 (network_scan_to number_2)
    ∷ Heard 2 3 home_network_to_1 ∷ Takes 2 home_network_to_1
    ∷ Heard 1 3 (serving_system_to number_2) ∷ Takes 1 (serving_system_to number_1)
    ∷ ClockShows 61000 ∷ []

-- it is told so, and what each client meets of it is what it meets alone
pub record TwoClients : Type 0 where
  pub told : trace_of qmi_reading (proxy_of setup) two_clients ≡ trace
  pub first : met_alone qmi_reading (proxy_of setup) 1 trace ≡ first_alone
  pub second : met_alone qmi_reading (proxy_of setup) 2 trace ≡ second_alone
  pub counts : (ledger_of qmi_reading (proxy_of setup) two_clients).counts ≡ record none { forwarded = 5; answered = 5 }
  pub rows : (ledger_of qmi_reading (proxy_of setup) two_clients).rows ≡ []
