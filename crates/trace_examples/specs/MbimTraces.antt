-- The trace of two clients in a small rig for MBIM, byte for byte. A trace is told in its order; lists of events have the newest first.
use Rattle.std.specs.Prelude.{◌≡◌, ℕ, List, [], ◌∷◌, codes}
use Rattle.kit_bytes.specs.Hex.{hex}
use Rattle.mbim_proxy.specs.Proxy.{proxy_of}
use Rattle.rig_runs.specs.Mbim.{setup}
use Rattle.rig_runs.specs.MbimExamples.{configuration, open_2, opened_1, query, four, home_provider_to, register_state_to, signal_state_to, two_clients, first_alone, second_alone}
use Rattle.rig_trace.specs.Rows.{none, ledger_of}
use Rattle.rig_trace.specs.declared.trace.Met.{Met}
use Rattle.rig_trace.specs.declared.trace.Met.TheVariants.{Joins, Said, Heard, Takes, ClockShows}
use Rattle.rig_trace.specs.Trace.{trace_of}
use Rattle.rig_trace.specs.Alone.{met_alone}
use Rattle.rig_trace.specs.Mbim.{mbim_reading}

-- a client is told that the device is the named one, and that it is open
abbrev pub configured : List ℕ
configured = hex (codes "03 00 00 80 30 00 00 00 01 00 00 00 01 00 00 00 00 00 00 00 83 8C F7 FB 8D 0D 4D 7F 87 1E D7 1D BE FB B3 9B 01 00 00 00 00 00 00 00 00 00 00 00")

abbrev pub opened_2 : List ℕ
opened_2 = hex (codes "01 00 00 80 10 00 00 00 02 00 00 00 00 00 00 00")

-- what the modem would say to a client that finds it open, if that client were alone
abbrev pub opened_0 : List ℕ
opened_0 = hex (codes "01 00 00 80 10 00 00 00 00 00 00 00 00 00 00 00")

-- what the modem says has its own numbers, and what a client takes those of the client
abbrev pub trace : List Met
trace =
    Joins 1 ∷ Joins 2
    ∷ Said 1 configuration ∷ Takes 1 configured ∷ Said 1 open_2 ∷ Heard 1 2 opened_1 ∷ Takes 1 opened_2
    ∷ Said 2 configuration ∷ Takes 2 configured ∷ Said 2 open_2 ∷ Heard 2 2 opened_0 ∷ Takes 2 opened_2
    ∷ Said 2 (query (four 3) (four 11)) ∷ Said 1 (query (four 3) (four 9)) ∷ ClockShows 1000 ∷ Said 1 (query (four 4) (four 6))
    ∷ Heard 1 4 (home_provider_to 4) ∷ Takes 1 (home_provider_to 4)
    ∷ Heard 2 3 (signal_state_to 2) ∷ Takes 2 (signal_state_to 3)
    ∷ Heard 1 3 (register_state_to 3) ∷ Takes 1 (register_state_to 3)
    ∷ ClockShows 61000 ∷ []

-- it is told so, and what each client meets of it is what it meets alone
pub record TwoClients : Type 0 where
  pub told : trace_of mbim_reading (proxy_of setup) two_clients ≡ trace
  pub first : met_alone mbim_reading (proxy_of setup) 1 trace ≡ first_alone
  pub second : met_alone mbim_reading (proxy_of setup) 2 trace ≡ second_alone
  pub counts : (ledger_of mbim_reading (proxy_of setup) two_clients).counts ≡ record none { forwarded = 3; answered = 3 }
  pub rows : (ledger_of mbim_reading (proxy_of setup) two_clients).rows ≡ []
