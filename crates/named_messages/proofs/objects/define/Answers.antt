use Rattle.std.proofs.Common.{◌∙◌, sym, String, Global, string_bytes}
use Rattle.serde_json.specs.View.{view}
use Rattle.message_tables.specs.Reading.{known}
use Rattle.message_tables.specs.View.{names_in, definition_view}
use Rattle.message_tables.specs.declared.definitions.Definition.{Definition}
use Rattle.named_messages.proofs.Defined.{defined_as, undefined_as}
use Rattle.named_messages.proofs.objects.define.Goals as goal

pub returns-in_ok-define_flat-in-Ok : goal.returns-in_ok-define_flat-in-Ok
returns-in_ok-define_flat-in-Ok c = λ earlier are.
    defined_as (names_in c.args.definitions.now) (view c.args.object.now) earlier are (known (string_bytes c.in-Ok.reference, definition_view c.in-Ok.definition)) c.in-Ok.ensures (names_in c.define_flat.new.definitions)
    (c.in_ok-define_flat-in-Ok.ensures earlier are)

pub returns-else-is_memory : goal.returns-else-is_memory
returns-else-is_memory c = λ earlier are.
    undefined_as (names_in c.args.definitions.now) (view c.args.object.now) earlier are (λ (named : String Global × Definition). (string_bytes named.0, definition_view named.1)) c.in-Err.fault c.in-Err.ensures (sym c.is_memory.ensures ∙ c.if-is_memory.false)
