use Rattle.std.proofs.Common.{◌∙◌, Bor, ℕ, List, sym}
use Rattle.std.specs.Str.{bytes_eq}
use Rattle.tool_words.proofs.Views.{any_of_views, none_of_views}
use Rattle.tool_words.proofs.keys.is_among.Goals as goal

pub returns-then-eq : goal.returns-then-eq
returns-then-eq c =
    any_of_views (bytes_eq c.args.text.now) (λ (name : Bor (List ℕ)). name.now) c.args.names.now c.loop-name.name-index _ c.loop-name-test.true
    (sym c.eq.ensures ∙ c.if-eq.true)

pub returns : goal.returns
returns c = none_of_views (bytes_eq c.args.text.now) (λ (name : Bor (List ℕ)). name.now) c.args.names.now _ c.loop-name-test.false c.loop-name.invariant
