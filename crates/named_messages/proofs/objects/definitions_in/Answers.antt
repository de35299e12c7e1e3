use Rattle.std.proofs.Common.{◌≡◌, List, map, fold, refl, sym, ap, ◌∙◌}
use Rattle.std.proofs.lemmas.List.{drop_all}
use Rattle.serde_json.specs.View.{view}
use Rattle.serde_json.specs.declared.value.Value.{Value}
use Rattle.message_tables.specs.Definitions.{named_by, first_definitions}
use Rattle.message_tables.proofs.Lists.{drop_item}
use Rattle.named_messages.specs.Reading.{Definitions, defined_with}
use Rattle.named_messages.proofs.objects.definitions_in.Goals as goal

pub loop-object-init : goal.loop-object-init
loop-object-init c = (first_definitions, λ i name. c.in_ok-definitions.ensures name i, refl)

pub loop-object-preserved : goal.loop-object-preserved
loop-object-preserved c =
    let earlier = c.loop-object.invariant.0 in
    let left = drop_item c.args.objects.now c.loop-object.object-index c.object-item.result c.loop-object-test.true c.object-item.is in (
      defined_with earlier (view c.object-item.result),
      c.in_ok-take_in.ensures earlier c.loop-object.invariant.1,
      c.loop-object.invariant.2 ∙ ap (λ (l : List Value). fold defined_with earlier (map view l)) left,
    )

pub returns : goal.returns
returns c =
    let left = drop_all c.loop-object.object-index c.args.objects.now c.loop-object-test.false in
    c.loop-object.invariant.1 ∙ ap named_by (sym (c.loop-object.invariant.2 ∙ ap (λ (l : List Value). fold defined_with c.loop-object.invariant.0 (map view l)) left))
