-- What is printed of an answer by its table.
use Rattle.std.specs.Prelude.{ℕ, ◌==◌, List, [], ◌++◌, Option, encode_utf8_all, if◌then◌else◌}
use Rattle.print_text.specs.Lines.{heading}
use Rattle.tlv_codec.specs.Tlv.{tlvs_of}
use Rattle.qmux_frame.specs.declared.kind.MessageKind.TheVariants.{Response}
use Rattle.message_tables.specs.Messages.{MessageForm}
use Rattle.message_tables.specs.View.{message_view}
use Rattle.dissect.specs.Qmi.{entry_lines}
use Rattle.qmicli_print.specs.Answer.{kept_text}
use Rattle.json_values.specs.Lines.{json_line}
use Rattle.json_values.specs.Showing.{by_qmicli}
use Rattle.table_requests.specs.Messages.{answer_json}
use Rattle.request_session.specs.declared.ends.RequestEnd.{RequestEnd}
use Rattle.request_session.specs.declared.ends.RequestEnd.TheVariants as request
use Rattle.request_session.specs.declared.ends.TlvAnswer.{TlvAnswer}
use Rattle.table_requests.specs.declared.session.TableEnd.{TableEnd}
use Rattle.table_requests.specs.declared.session.TableEnd.TheVariants.{Refused, Printed}
use Rattle.table_requests.specs.Plan.{Plan}

-- the message's name, its TLVs as a captured answer shows them, and what is kept
unfoldable pub answer_lines : MessageForm → List ℕ → Option (ℕ × ℕ) → List ℕ
answer_lines message tlvs kept = heading [] (encode_utf8_all message.name) ++ entry_lines Response message.output tlvs (tlvs_of tlvs) ++ kept_text kept

abbrev pub answer_text : Plan → TlvAnswer → Option (ℕ × ℕ) → List ℕ
answer_text plan answer kept =
    if plan.json then json_line (answer_json by_qmicli (message_view plan.message).output answer.tlvs kept answer.outcome)
    else answer_lines (message_view plan.message) answer.tlvs kept

-- a status of 0 is success
abbrev pub answered : Plan → TlvAnswer → Option (ℕ × ℕ) → TableEnd
answered plan answer kept = if answer.outcome.status == 0 then Printed (answer_text plan answer kept) else Refused answer.outcome.error

-- how a session for a request ends for one by tables
abbrev pub end_of : Plan → RequestEnd → TableEnd
end_of plan (request.NotSent error) = Refused error
end_of plan (request.Answered answer kept) = answered plan answer kept
