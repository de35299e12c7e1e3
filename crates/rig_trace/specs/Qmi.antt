-- How the messages of QMI are read by whoever runs its proxy.
use Rattle.std.specs.Prelude.{ℕ, false, List, None}
use Rattle.qmux_frame.specs.Head.{service_of, cid_of, number_of}
use Rattle.qmux_frame.specs.Control.{is_proxy_open}
use Rattle.qmux_frame.specs.Reply.{with_number}
use Rattle.rig_runs.specs.Rig.{time_limit}
use Rattle.rig_trace.specs.Rows.{Key, Reading}

-- a request and its answer have their service, client id and number in common
abbrev pub key_of : List ℕ → Key
key_of m = record { kind = service_of m; cid = cid_of m; number = number_of m }

-- the proxy asks nothing by itself
abbrev pub qmi_reading : Reading
qmi_reading = record {
  of_request = key_of;
  of_answer = key_of;
  is_own = λ m. false;
  opens = is_proxy_open;
  at_once = λ m. None;
  with_number = with_number;
  time_limit = time_limit;
}
