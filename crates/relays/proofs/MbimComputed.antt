-- What the examples compute.
use Rattle.std.proofs.Common.{refl, lit≤}
use Rattle.std.specs.Char.{encode_utf8}
use Rattle.framing.specs.Cutting.{cut_from}
use Rattle.link_session.specs.Marks.{marks_from, piece_marks}
use Rattle.link_session.specs.Peer.{each_seen, ending, ask}
use Rattle.mbim_services.specs.Table.{layout_for}
use Rattle.mbim_session.specs.Requests.{command_message}
use Rattle.mbim_session.specs.Peer.{verdict, session_at}
use Rattle.mbim_proxy.specs.Delivering.{heard_from}
use Rattle.mbim_proxy.specs.ModemStates.{state}
use Rattle.mbim_proxy.specs.Lists.{askers, last_list}
use Rattle.proxy_history.specs.Wording.{told_by}
use Rattle.proxy_history.specs.History.{add_all, history}
use Rattle.proxy_history.specs.Streams.{stream, modem_stream}
use Rattle.proxy_history.specs.Connections.{present, message_count}
use Rattle.proxy_history.specs.Requests.{in_use, pending, forward_count, last_number, free_from}
use Rattle.proxy_history.specs.Modem.{now, is_away, to_modem, modem_taken_count}
use Rattle.proxy_history.specs.View.{view}
use Rattle.proxy_history.specs.Rendering.{render}
use Rattle.proxy_history.specs.Noting.{end_overfull}
use Rattle.lone_client.specs.Relay.{sent_for, asked_then, hear_each, relayed, asked_by}
use Rattle.modem_profile.proofs.Within.{default-within}
use Rattle.relays.specs.MbimExamples.{Relays, PremisesAreMet}

pub relays : Relays
unfolding encode_utf8 cut_from marks_from piece_marks each_seen ending ask layout_for command_message verdict session_at heard_from state askers last_list told_by add_all history stream modem_stream present message_count in_use pending forward_count last_number free_from now is_away to_modem modem_taken_count view render end_overfull sent_for asked_then hear_each relayed asked_by
relays = record { radio_is_asked = refl; radio_is_switched = refl; message_is_asked = refl }

pub premises_are_met : PremisesAreMet
unfolding layout_for encode_utf8
premises_are_met = record {
  plan = record { command = tt; range = tt; device = (refl, lit≤ tt) };
  profile = default-within;
}
