use Rattle.std.proofs.Common.{refl}
use Rattle.framing.specs.Cutting.{cut_from}
use Rattle.proxy_history.specs.Streams.{stream, modem_stream}
use Rattle.proxy_history.specs.Connections.{present, dropped, message_count}
use Rattle.proxy_history.specs.Requests.{in_use, pending, forward_count, last_number, free_from}
use Rattle.proxy_history.specs.ClientIds.{held}
use Rattle.proxy_history.specs.Modem.{now, is_away, to_modem, modem_taken_count}
use Rattle.proxy_history.specs.View.{view}
use Rattle.proxy_history.specs.Rendering.{render}
use Rattle.proxy_history.specs.Wording.{told_by}
use Rattle.proxy_history.specs.Noting.{end_overfull, each_pending}
use Rattle.proxy_history.specs.History.{add_all, history}
use Rattle.proxy_examples.proofs.answers.strays_change_nothing.Goals as goal

pub returns : goal.returns
unfolding cut_from stream modem_stream present dropped message_count in_use pending forward_count last_number free_from held now is_away to_modem modem_taken_count view render end_overfull each_pending told_by add_all history
returns c = record {
  first = refl;
  second = refl;
  newest_fact = refl;
}
