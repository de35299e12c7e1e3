use Rattle.std.proofs.Common.{◌≡◌, Option, Some, None, option_map, option_and_then, refl, ap, ◌∙◌}
use Rattle.message_tables.specs.View.{names_in, definition_view}
use Rattle.message_tables.proofs.definitions.Definitions.find.Goals as goal

mapped : {A B C : Type 0} (f : B → C) (seen : A → B) (found : Option A) → option_map (λ a. f (seen a)) found ≡ option_map f (option_map seen found)
mapped f seen None = refl
mapped f seen (Some a) = refl

pub returns : goal.returns
unfolding names_in
returns c =
    mapped definition_view (λ definition. definition.now) c.get.result
    ∙ ap (option_map definition_view) c.get.ensures.value
    ∙ ap (option_and_then (names_in c.args.self.now)) c.in_ok-as_str.ensures
