-- What the examples compute.
use Rattle.std.proofs.Common.{refl}
use Rattle.std.specs.Char.{encode_utf8}
use Rattle.framing.specs.Cutting.{cut_from}
use Rattle.qmux_frame.specs.Writing.{head_text}
use Rattle.qmi_services.specs.Modem.{row_at}
use Rattle.mbim_services.specs.Table.{layout_for}
use Rattle.link_session.specs.Marks.{marks_from, piece_marks}
use Rattle.link_session.specs.Peer.{each_seen, ending, ask}
use Rattle.device_core.specs.Requests.{message_of}
use Rattle.device_core.specs.Verdict.{reads, succeeds}
use Rattle.sim_qmi.specs.State.{client_ids}
use Rattle.lone_client.specs.Relay.{sent_for, asked_then, asked_by}
use Rattle.tunnel_session.specs.Requests.{carried_message}
use Rattle.tunnel_session.specs.Peer.{tunnel_at}
use Rattle.relays.specs.TunnelExamples.{Sessions}

pub sessions : Sessions
unfolding encode_utf8 cut_from head_text row_at layout_for marks_from piece_marks each_seen ending ask message_of reads succeeds client_ids sent_for asked_then asked_by carried_message tunnel_at
sessions = record {
  versions = record { sent_are = refl; came_are = refl };
  model = record { sent_are = refl; came_are = refl };
}
