-- What a request asks, or why it is refused.
use Rattle.std.specs.Prelude.{ℕ, Bool, ◌||◌, ◌==◌, List, Option, Some, None, option_map, Result, Err, if◌then◌else◌}
use Rattle.std.specs.Option.{ok_or}
use Rattle.qmux_frame.specs.declared.head.Head.{Head}
use Rattle.qmi_services.specs.Table as table
use Rattle.qmi_services.specs.Table.{Row}
use Rattle.qmi_services.specs.Modem.{row_at, input_of}
use Rattle.sim_qmi.specs.declared.request.Request.{Request}
use Rattle.sim_qmi.specs.declared.request.Request.TheVariants.{Ctl, Wds, Dms, Nas, Wms}
use Rattle.sim_qmi.specs.Errors.{invalid_client_id, missing_argument, invalid_command}
use Rattle.sim_qmi.specs.State.{State, is_given}
use Rattle.sim_qmi.specs.Ctl.{ctl_request, ctl_row}
use Rattle.sim_qmi.specs.Wds.{wds_request, wds_row}
use Rattle.sim_qmi.specs.Dms.{dms_request, dms_row}
use Rattle.sim_qmi.specs.Nas.{nas_request, nas_row}
use Rattle.sim_qmi.specs.Wms.{wms_request, wms_row}

-- the types of the TLVs that a modem looks at: an input that each message with it needs, and the index of Delete
abbrev pub main_input : ℕ
main_input = 0x01

abbrev pub index_input : ℕ
index_input = 0x10

-- what a request of a line of the table asks with these TLVs; None where the message has the input 0x01, and it is missing or unreadable
abbrev pub request_in : Row → (tlvs : List ℕ) → Option Request
request_in row tlvs =
    if row.service == table.ctl then option_map Ctl (ctl_request row.id (input_of row main_input tlvs))
    else if row.service == table.wds then option_map Wds (wds_request row.id (input_of row main_input tlvs))
    else if row.service == table.dms then option_map Dms (dms_request row.id (input_of row main_input tlvs))
    else if row.service == table.nas then option_map Nas (nas_request row.id)
    else option_map Wms (wms_request row.id (input_of row main_input tlvs) (input_of row index_input tlvs))

-- the line of the table that a request is of
abbrev pub row_of : Request → Row
row_of (Ctl request) = ctl_row request
row_of (Wds request) = wds_row request
row_of (Dms request) = dms_row request
row_of (Nas request) = nas_row request
row_of (Wms request) = wms_row request

-- ---- refusals, the first that fits ----

-- the client id in the head is given; service 0 needs none
abbrev pub is_known : State → Head → Bool
is_known state head = head.service == table.ctl || is_given state.clients head.service head.cid

-- what a request asks, if its message is in the table, or the error that refuses it
abbrev pub asked_of : Option Row → (tlvs : List ℕ) → Result Request ℕ
asked_of None tlvs = Err invalid_command
asked_of (Some row) tlvs = ok_or (request_in row tlvs) missing_argument

abbrev pub asked : State → Head → (tlvs : List ℕ) → Result Request ℕ
asked state head tlvs = if is_known state head then asked_of (row_at head.service head.message) tlvs else Err invalid_client_id
