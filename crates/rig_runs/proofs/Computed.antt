-- What the examples compute.
use Rattle.std.specs.Prelude.{⊤}
use Rattle.std.specs.Char.{encode_utf8}
use Rattle.std.specs.Fmt.{digits}
use Rattle.framing.specs.Cutting.{cut_from}
use Rattle.qmux_frame.specs.Writing.{head_text}
use Rattle.qmi_services.specs.Modem.{row_at}
use Rattle.device_core.specs.Requests.{message_of}
use Rattle.mbim_services.specs.Table.{layout_for}
use Rattle.mbim_session.specs.Requests.{command_message}
use Rattle.mbim_proxy.specs.Delivering.{heard_from}
use Rattle.mbim_proxy.specs.ModemStates.{state}
use Rattle.mbim_proxy.specs.Lists.{askers, last_list}
use Rattle.sim_qmi.specs.State.{client_ids}
use Rattle.proxy_history.specs.Wording.{told_by}
use Rattle.proxy_history.specs.History.{add_all, history}
use Rattle.proxy_history.specs.Streams.{stream, modem_stream}
use Rattle.proxy_history.specs.Connections.{present, dropped, message_count}
use Rattle.proxy_history.specs.Requests.{in_use, pending, forward_count, last_number, free_from}
use Rattle.proxy_history.specs.ClientIds.{held}
use Rattle.proxy_history.specs.Modem.{now, is_away, to_modem, modem_taken_count}
use Rattle.proxy_history.specs.View.{view}
use Rattle.proxy_history.specs.Rendering.{render}
use Rattle.proxy_history.specs.Noting.{end_overfull, each_pending}
use Rattle.proxy_solo.specs.Solo as alone
use Rattle.rig_runs.specs.Draws.{next, turns_after}
use Rattle.rig_runs.specs.Stage.{clients_take, ask_all, arrive_each}
use Rattle.rig_runs.specs.Counts.{refused}

unfoldable pub computed : ⊤
unfolding digits encode_utf8 cut_from head_text row_at message_of layout_for command_message heard_from state askers last_list client_ids told_by add_all history stream modem_stream present dropped message_count in_use pending forward_count last_number free_from held now is_away to_modem modem_taken_count view render end_overfull each_pending alone.pieces_of alone.meet_pieces alone.hear_all alone.meet_parts alone.solo next turns_after clients_take ask_all arrive_each refused
computed = tt
