use Rattle.std.proofs.Common.{◌∷◌, Some, string_bytes, sym, ap, ◌∙◌, refl, if◌then◌else◌}
use Rattle.std.specs.Str.{bytes_eq}
use Rattle.message_tables.specs.Definitions.{Names}
use Rattle.message_tables.specs.View.{definition_view}
use Rattle.message_tables.proofs.objects.Described.define.Goals as goal

pub returns : goal.returns
returns c = λ so_far stands.
    let definition = definition_view c.args.definition in
    let flat = sym c.nests_well.ensures ∙ c.if-not-nests_well.false in (
      record so_far { definitions = (string_bytes c.args.reference, definition) ∷ so_far.definitions },
      rw flat refl,
      record {
        names = λ i name.
            (c.in_ok-define.ensures name ∙ ap (λ (names : Names). if bytes_eq (string_bytes c.args.reference) name then Some definition else names name) stands.names) i;
        messages = stands.messages;
      },
    )
