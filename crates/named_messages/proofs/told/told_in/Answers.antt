use Rattle.std.proofs.Common.{◌≡◌, List, map, fold, refl, sym, ap, ◌∙◌}
use Rattle.std.proofs.lemmas.List.{drop_all}
use Rattle.serde_json.specs.View.{view}
use Rattle.serde_json.specs.declared.value.Value.{Value}
use Rattle.message_tables.specs.Definitions.{Names, named_by}
use Rattle.message_tables.specs.Messages.{MessageForm}
use Rattle.message_tables.specs.View.{messages_in}
use Rattle.message_tables.proofs.Lists.{drop_item}
use Rattle.named_messages.specs.Told.{Told, nothing_told, told_by, told_in, told_with}
use Rattle.named_messages.proofs.told.told_in.Goals as goal

pub loop-object-init : goal.loop-object-init
loop-object-init c = (nothing_told, λ i name. c.in_ok-definitions.ensures name i, ap messages_in c.new-told.ensures.items, refl)

pub loop-object-preserved : goal.loop-object-preserved
loop-object-preserved c =
    let now = c.loop-object.invariant.0 in
    let left = drop_item c.args.objects.now c.loop-object.object-index c.object-item.result c.loop-object-test.true c.object-item.is in (
      told_with now (view c.object-item.result),
      c.in_ok-take_in.ensures now.definitions c.loop-object.invariant.1,
      c.in_ok-tell.ensures
          ∙ ap (λ (names : Names). told_by names (messages_in c.loop-object.told.items) (view c.object-item.result)) c.loop-object.invariant.1
          ∙ ap (λ (earlier : List MessageForm). told_by (named_by now.definitions) earlier (view c.object-item.result)) c.loop-object.invariant.2,
      c.loop-object.invariant.3 ∙ ap (λ (l : List Value). fold told_with now (map view l)) left,
    )

pub returns : goal.returns
unfolding told_in
returns c =
    let now = c.loop-object.invariant.0 in
    let left = drop_all c.loop-object.object-index c.args.objects.now c.loop-object-test.false in
    c.loop-object.invariant.2 ∙ ap (λ (told : Told). told.messages) (sym (c.loop-object.invariant.3 ∙ ap (λ (l : List Value). fold told_with now (map view l)) left))
