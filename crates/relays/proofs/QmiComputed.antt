-- What the examples compute.
use Rattle.std.proofs.Common.{refl, lit≤, lit<}
use Rattle.std.specs.Char.{encode_utf8}
use Rattle.framing.specs.Cutting.{cut_from}
use Rattle.qmux_frame.specs.Writing.{head_text}
use Rattle.qmi_services.specs.Modem.{row_at}
use Rattle.link_session.specs.Marks.{marks_from, piece_marks}
use Rattle.link_session.specs.Peer.{each_seen, ending, ask}
use Rattle.device_core.specs.Requests.{message_of}
use Rattle.device_core.specs.Verdict.{reads, succeeds}
use Rattle.device_core.specs.Peer.{session_at}
use Rattle.sim_qmi.specs.State.{client_ids}
use Rattle.proxy_history.specs.Wording.{told_by}
use Rattle.proxy_history.specs.History.{add_all, history}
use Rattle.proxy_history.specs.Streams.{stream, modem_stream}
use Rattle.proxy_history.specs.Connections.{present, message_count}
use Rattle.proxy_history.specs.Requests.{in_use, pending, forward_count, last_number, free_from}
use Rattle.proxy_history.specs.ClientIds.{held}
use Rattle.proxy_history.specs.Modem.{now, is_away, to_modem, modem_taken_count}
use Rattle.proxy_history.specs.View.{view}
use Rattle.proxy_history.specs.Rendering.{render}
use Rattle.proxy_history.specs.Noting.{end_overfull}
use Rattle.lone_client.specs.Relay.{sent_for, asked_then, hear_each, relayed, asked_by}
use Rattle.modem_profile.proofs.Within.{default-within}
use Rattle.relays.specs.QmiExamples.{Relays, PremisesAreMet}

pub relays : Relays
unfolding encode_utf8 cut_from head_text row_at marks_from piece_marks each_seen ending ask message_of reads succeeds session_at client_ids told_by add_all history stream modem_stream present message_count in_use pending forward_count last_number free_from held now is_away to_modem modem_taken_count view render end_overfull sent_for asked_then hear_each relayed asked_by
relays = record { model_is_asked = refl; id_is_refused = refl }

pub premises_are_met : PremisesAreMet
unfolding encode_utf8
premises_are_met = record {
  plan = record { command = tt; inputs = lit≤ tt; device = lit≤ tt };
  profile = default-within;
  sound = record { mode = lit< tt; stored = refl };
}
