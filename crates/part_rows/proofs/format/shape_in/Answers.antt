use Rattle.std.proofs.Common.{sym, ◌∙◌, ap}
use Rattle.std.specs.Option.{option_copied}
use Rattle.message_tables.specs.View.{tlv_view}
use Rattle.message_tables.specs.WellMade.{IsSoundMessage, IsSoundTlv}
use Rattle.part_rows.proofs.First.{first-each, first-viewed}
use Rattle.part_rows.proofs.format.shape_in.Goals as goal

pub returns : goal.returns
returns c =
    let message = first-each IsSoundMessage _ _ c.requires.each c.at.ensures in
    let first = sym c.first.ensures.value ∙ ap option_copied c.in_ok-tlv.was in
    (first-viewed IsSoundTlv tlv_view _ _ _ message.output c.as_slice.ensures first).well_made
