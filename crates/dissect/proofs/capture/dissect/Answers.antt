use Rattle.std.proofs.Common.{[], List, refl, ap, sym}
use Rattle.kit_io.proofs.Growth.{Grows-none}
use Rattle.message_tables.specs.declared.message.Message.{Message}
use Rattle.message_tables.specs.View.{messages_in}
use Rattle.stream_lines.specs.Capture.{no_room}
use Rattle.dissect.specs.Qmi.{qmi_lines}
use Rattle.dissect.specs.Mbim.{mbim_lines}
use Rattle.dissect.proofs.capture.dissect.Goals as goal

pub returns-in-Qmi-clause-shows : goal.returns-in-Qmi-clause-shows
returns-in-Qmi-clause-shows g c =
    rw c.in-Qmi.is (c.show_capture.ensures.shows (qmi_lines (messages_in c.args.tables.now)) (ap (λ (tables : List Message). qmi_lines (messages_in tables)) (sym c.new.ensures)))

pub returns-in-Ok-clause-shows : goal.returns-in-Ok-clause-shows
returns-in-Ok-clause-shows g c = rw c.in-Mbim.is (c.show_capture-in-Ok.ensures.shows mbim_lines (refl, c.in-Ok.ensures))

pub returns-in-Err-clause-shows : goal.returns-in-Err-clause-shows
returns-in-Err-clause-shows g c = record { calls = []; taken = []; holds = no_room refl refl refl; calls_grow = Grows-none _; taken_grow = Grows-none _ }
