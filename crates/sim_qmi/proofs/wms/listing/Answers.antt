use Rattle.std.proofs.Common.{ap, sym, ◌∙◌, ◌++◌, List}
use Rattle.std.specs.Option.{option_to_list}
use Rattle.qmi_values.specs.Value.{Value}
use Rattle.sim_qmi.specs.Wms.{listed}
use Rattle.sim_qmi.proofs.Storage.{listed_more}
use Rattle.sim_qmi.proofs.wms.listing.Goals as goal

pub loop-index-preserved : goal.loop-index-preserved
loop-index-preserved c =
    c.in_ok-push_entry.ensures
    ∙ ap (λ (values : List Value). values ++ option_to_list (listed (c.loop-index.index, c.index-messages-index.result))) c.loop-index.invariant
    ∙ sym (listed_more c.messages-messages.result.now c.loop-index.index c.index-messages-index.result c.loop-index-test.true c.index-messages-index.is)
