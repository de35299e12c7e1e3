use Rattle.std.proofs.Common.{refl}
use Rattle.framing.specs.Cutting.{cut_from}
use Rattle.proxy_history.specs.Wording.{told_by}
use Rattle.proxy_history.specs.History as proxy
use Rattle.proxy_history.specs.Streams.{stream, modem_stream}
use Rattle.proxy_history.specs.Connections.{present, dropped, message_count}
use Rattle.proxy_history.specs.Requests.{in_use, pending, forward_count, last_number, free_from}
use Rattle.proxy_history.specs.ClientIds.{held}
use Rattle.proxy_history.specs.Modem.{now, is_away, to_modem, modem_taken_count}
use Rattle.proxy_history.specs.View.{view}
use Rattle.proxy_history.specs.Rendering.{render}
use Rattle.proxy_history.specs.Noting.{end_overfull, each_pending}
use Rattle.proxy_solo.specs.Solo.{pieces_of}
use Rattle.proxy_solo.specs.Solo as alone
use Rattle.qmi_solo.proofs.premises.a_full_space_tells_of_others.Goals as goal

pub returns : goal.returns
unfolding cut_from stream modem_stream present dropped message_count in_use pending forward_count last_number free_from held now is_away to_modem modem_taken_count view render end_overfull each_pending told_by proxy.add_all proxy.history alone.pieces_of alone.meet_pieces alone.hear_all alone.meet_parts alone.solo
returns c = record { beside = refl; alone = refl }
