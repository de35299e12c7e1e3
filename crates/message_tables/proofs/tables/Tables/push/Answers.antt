use Rattle.std.proofs.Common.{◌≡◌, ◌∙◌, ◌∷◌, [], ◌++◌, ap, sym, subst, Bool, List}
use Rattle.std.specs.Map.{values_of}
use Rattle.indexmap.specs.IndexMap.{insert_entry}
use Rattle.message_tables.specs.declared.message.Message.{Message}
use Rattle.message_tables.specs.declared.message.MessageKey.{MessageKey}
use Rattle.message_tables.specs.Messages.{is_among}
use Rattle.message_tables.specs.Keys.{same_key, AreKeyed}
use Rattle.message_tables.specs.View.{message_view, messages_in}
use Rattle.message_tables.proofs.Keys.{same-same, AreKeyed-inserted, values-inserted}
use Rattle.message_tables.proofs.tables.Tables.push.Goals as goal

pub invariant_of-self-2 : goal.invariant_of-self-2
invariant_of-self-2 c =
    let new = ap (λ (messages : List Message). is_among (message_view c.args.message) (messages_in messages)) c.self.view_is ∙ c.requires in
    let placed : c.insert.new.self.entries ≡ insert_entry same_key c.self.inside.messages.entries c.key.result c.args.message =
    c.in_ok-insert.ensures.entries ∙ ap (λ (same : MessageKey → MessageKey → Bool). insert_entry same c.self.inside.messages.entries c.key.result c.args.message) same-same
    in subst AreKeyed (sym placed) (AreKeyed-inserted c.self.inside.messages c.key.result c.args.message c.self.invariant c.key.ensures new)

pub returns-clause-ok : goal.returns-clause-ok
returns-clause-ok c =
    let new = ap (λ (messages : List Message). is_among (message_view c.args.message) (messages_in messages)) c.self.view_is ∙ c.requires in
    ap values_of (c.in_ok-insert.ensures.entries ∙ ap (λ (same : MessageKey → MessageKey → Bool). insert_entry same c.self.inside.messages.entries c.key.result c.args.message) same-same)
    ∙ values-inserted c.self.inside.messages c.key.result c.args.message c.self.invariant c.key.ensures new
    ∙ ap (λ (messages : List Message). messages ++ c.args.message ∷ []) c.self.view_is
