-- What computes the lines of literal bytes.
use Rattle.std.specs.Prelude.{⊤}
use Rattle.std.specs.Char.{encode_utf8}
use Rattle.std.specs.Fmt.{digits}
use Rattle.std.specs.Str.{chars}
use Rattle.uuid.proofs.OnLiterals.{uuid_on_literals}
use Rattle.framing.specs.Cutting.{cut_from}
use Rattle.mbim_fragments.specs.Runs.{run_from}
use Rattle.mbim_services.specs.Table.{layout_for}
use Rattle.print_text.specs.Lines.{front, line, heading, deeper}
use Rattle.print_text.specs.Texts.{worded, ipv4_text}
use Rattle.qmicli_print.specs.Texts.{address_text}
use Rattle.mbimcli_print.specs.Texts.{uuid_text}
use Rattle.dissect.specs.Qmi as qmi
use Rattle.dissect.specs.Qmi.{named_tlv, outcome_line, unframed_line}
use Rattle.dissect.specs.Mbim as mbim
use Rattle.dissect.specs.Mbim.{body_line}

unfoldable pub computed : ⊤
unfolding digits chars encode_utf8 uuid_on_literals cut_from run_from layout_for front line heading deeper worded ipv4_text address_text uuid_text qmi.head_line named_tlv outcome_line unframed_line mbim.head_line body_line
computed = tt
