use Rattle.std.proofs.Common.{◌∙◌, ap, map}
use Rattle.std.proofs.lemmas.List.{map_push}
use Rattle.sms_pdu.specs.Entries.{placed}
use Rattle.sms_pdu.proofs.Groups.{numbered_more}
use Rattle.sms_pdu.proofs.entries.entries_of.Goals as goal

pub loop-index-preserved : goal.loop-index-preserved
loop-index-preserved c =
    ap (map placed) c.in_ok-push.ensures.items
    ∙ map_push placed _ _
    ∙ numbered_more c.args.pdus.now c.loop-index.index c.index-pdus-index.result c.loop-index-test.true c.index-pdus-index.is (map placed c.loop-index.entries.items) c.loop-index.invariant
