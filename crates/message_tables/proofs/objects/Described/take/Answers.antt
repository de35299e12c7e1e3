use Rattle.std.proofs.Common.{◌++◌, ◌∷◌, [], List, option_map, sym, ap, ◌∙◌}
use Rattle.std.proofs.lemmas.Bool.{or_from}
use Rattle.std.proofs.lemmas.List.{map_push}
use Rattle.message_tables.specs.Reading.{known}
use Rattle.message_tables.specs.Messages.{MessageForm, is_among}
use Rattle.message_tables.specs.Objects.{with_message}
use Rattle.message_tables.specs.View.{message_view, messages_in}
use Rattle.message_tables.proofs.Keys.{with_message-taken}
use Rattle.message_tables.proofs.objects.Described.take.Goals as goal

pub returns : goal.returns
returns c = λ so_far stands.
    let message = message_view c.in-Some.message in
    let new = ap (is_among message) (sym stands.messages) ∙ sym c.has.ensures ∙ c.if-has.false in
    let ids = sym c.has_id_twice.ensures ∙ c.if-has_id_twice.false in
    let flat = sym c.is_deep.ensures ∙ c.if-is_deep.false in (
      record so_far { messages = so_far.messages ++ message ∷ [] },
      ap (λ m. with_message so_far (known (option_map message_view m))) c.in-Some.is ∙ with_message-taken so_far message (or_from _ _ new ids) flat,
      record {
        names = stands.names;
        messages =
            ap messages_in c.in_ok-push.ensures.ok ∙ map_push message_view c.args.self.now.tables c.in-Some.message
            ∙ ap (λ (messages : List MessageForm). messages ++ message ∷ []) stands.messages;
      },
    )
