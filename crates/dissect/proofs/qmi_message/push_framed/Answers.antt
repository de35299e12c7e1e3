use Rattle.std.proofs.Common.{sym, subst}
use Rattle.std.specs.List.{AllByRecursion}
use Rattle.message_tables.specs.Messages.{is_key}
use Rattle.message_tables.specs.View.{messages_in}
use Rattle.message_tables.specs.WellMade.{IsSoundTlv}
use Rattle.dissect.proofs.Sound.{forms_sound}
use Rattle.dissect.proofs.qmi_message.push_framed.Goals as goal

pub push_tlvs-requires : goal.push_tlvs-requires
push_tlvs-requires c =
    subst (AllByRecursion IsSoundTlv) (sym c.forms_for.ensures)
    (forms_sound (messages_in c.args.tables.now) (is_key c.args.head.service c.args.head.message c.is_indication.result) c.kind-kind.result _ c.requires c.message-form.ensures)
