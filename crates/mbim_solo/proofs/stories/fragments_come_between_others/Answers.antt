use Rattle.std.proofs.Common.{refl}
use Rattle.framing.specs.Cutting.{cut_from}
use Rattle.proxy_history.specs.Streams.{stream, modem_stream}
use Rattle.proxy_history.specs.Connections.{present, dropped, message_count}
use Rattle.proxy_history.specs.Requests.{in_use, pending, forward_count, last_number, free_from}
use Rattle.proxy_history.specs.Modem.{now, is_away, to_modem, modem_taken_count}
use Rattle.proxy_history.specs.View.{view}
use Rattle.proxy_history.specs.Rendering.{render}
use Rattle.proxy_history.specs.Wording.{told_by}
use Rattle.proxy_history.specs.Noting.{end_overfull, each_pending}
use Rattle.proxy_history.specs.History.{add_all, history}
use Rattle.proxy_solo.specs.Solo.{pieces_of, meet_pieces, hear_all, meet_parts, solo}
use Rattle.mbim_proxy.specs.Delivering.{heard_from}
use Rattle.mbim_proxy.specs.ModemStates.{state}
use Rattle.mbim_proxy.specs.Lists.{askers, last_list}
use Rattle.mbim_solo.proofs.stories.fragments_come_between_others.Goals as goal

pub returns : goal.returns
unfolding cut_from stream modem_stream present dropped message_count in_use pending forward_count last_number free_from now is_away to_modem modem_taken_count view render told_by end_overfull each_pending add_all history pieces_of meet_pieces hear_all meet_parts solo heard_from state askers last_list
returns c = record {
  first = record { met = refl; beside = refl; alone = refl };
  second = record { met = refl; beside = refl; alone = refl };
}
