use Rattle.std.proofs.Common.{◌∙◌, sym, string_bytes}
use Rattle.message_tables.specs.View.{names_in, definition_view}
use Rattle.named_messages.proofs.Defined.{flat_as, deep_as}
use Rattle.named_messages.proofs.objects.define_flat.Goals as goal

pub returns-in_ok-define : goal.returns-in_ok-define
returns-in_ok-define c = λ earlier are.
    flat_as (names_in c.args.definitions.now) earlier are (string_bytes c.args.reference, definition_view c.args.definition) (sym c.nests_well.ensures ∙ c.if-nests_well.true) (names_in c.define.new.self)
    c.in_ok-define.ensures

pub returns-else-nests_well : goal.returns-else-nests_well
returns-else-nests_well c = λ earlier are.
    deep_as (names_in c.args.definitions.now) earlier are (string_bytes c.args.reference, definition_view c.args.definition) (sym c.nests_well.ensures ∙ c.if-nests_well.false)
