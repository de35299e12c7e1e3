use Rattle.std.proofs.Common.{◌≡◌, IsSome, option_map, option_and_then, refl, sym, ◌∙◌, ap, subst}
use Rattle.mbim_fields.specs.Value.{list_of}
use Rattle.mbim_fields.specs.Canon.{canon}
use Rattle.mbim_fields.specs.View.{shape_view, val_view}
use Rattle.mbim_fields.proofs.Readings.{list_of-values_of}
use Rattle.mbim_services.specs.Requests.{sent_by, buffer_sent}
use Rattle.mbim_services.proofs.Encoded.{sent-is, sent-some, sent-short}
use Rattle.mbim_services.proofs.requests.command.Goals as goal

-- what is encoded is the request's buffer
whole : (c : goal.After-values-1) → option_and_then (λ layout. canon layout (list_of (val_view c.from-values.result))) (option_map shape_view c.layout_sent.result) ≡ buffer_sent (sent_by c.args.body.now)
whole c =
    sent-is (sent_by c.args.body.now) (sent_by c.args.body.now).row c.sets-set.result (list_of (val_view c.from-values.result)) (option_map shape_view c.layout_sent.result) refl c.sets-set.ensures
    (ap list_of c.from-values.ensures ∙ list_of-values_of _ ∙ c.in_ok-values_of.ensures.values) c.layout_sent.ensures

pub encoded-requires : goal.encoded-requires
encoded-requires c = subst IsSome (sym (whole c)) (sent-some c.args.body.now c.in_ok-values_of.ensures.in_range)

pub returns-clause-buffer : goal.returns-clause-buffer
returns-clause-buffer c =
    sym
    (sent-is (sent_by c.args.body.now) (sent_by c.args.body.now).row c.sets-set.result (list_of (val_view c.from-values.result)) (option_map shape_view c.layout_sent.result) refl c.sets-set.ensures
    (ap list_of c.from-values.ensures ∙ list_of-values_of _ ∙ c.in_ok-values_of.ensures.values) c.layout_sent.ensures)
    ∙ c.in_ok-buffer.ensures

pub returns-clause-short : goal.returns-clause-short
returns-clause-short c = sent-short c.args.body.now c.in_ok-buffer.buffer c.in_ok-values_of.ensures.in_range (returns-clause-buffer c)
