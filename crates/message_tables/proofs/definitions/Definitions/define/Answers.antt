use Rattle.std.proofs.Common.{◌≡◌, cond, Bool, true, false, Option, Some, option_map, string_bytes, refl, ap, ◌∙◌}
use Rattle.std.proofs.lemmas.Map.Text.{hash_map_updates_text}
use Rattle.message_tables.specs.View.{names_in, definition_view}
use Rattle.message_tables.proofs.definitions.Definitions.define.Goals as goal

mapped : {A B : Type 0} (f : A → B) (b : Bool) (here : A) (other : Option A) → option_map f (cond b (Some here) other) ≡ cond b (Some (f here)) (option_map f other)
mapped f true here other = refl
mapped f false here other = refl

pub returns : goal.returns
unfolding names_in
returns c = λ name.
    ap (option_map definition_view) (hash_map_updates_text (string_bytes c.args.reference) c.args.self.now.named c.insert.new.self _ c.in_ok-insert.ensures.updates name)
    ∙ mapped definition_view _ c.args.definition _
