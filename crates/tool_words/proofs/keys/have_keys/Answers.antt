use Rattle.std.proofs.Common.{◌∙◌, Bor, ℕ, List, is_some, map, not, ap, sym}
use Rattle.tool_words.specs.Keys.{value_in}
use Rattle.tool_words.proofs.Views.{all_of_views, is_some-view, not_all_of_views}
use Rattle.tool_words.proofs.keys.have_keys.Goals as goal

pub returns-then-is_none : goal.returns-then-is_none
returns-then-is_none c =
    not_all_of_views (λ part. is_some (value_in (map (λ name. name.now) c.args.names.now) part)) (λ (part : Bor (List ℕ)). part.now) c.args.parts.now
    c.loop-part.part-index _ c.loop-part-test.true
    (ap is_some (sym c.value_in.ensures) ∙ is_some-view (λ (value : Bor (List ℕ)). value.now) c.value_in.result ∙ c.is_none.ensures ∙ ap not c.if-is_none.true)

pub returns : goal.returns
returns c =
    all_of_views (λ part. is_some (value_in (map (λ name. name.now) c.args.names.now) part)) (λ (part : Bor (List ℕ)). part.now) c.args.parts.now
    _ c.loop-part-test.false c.loop-part.invariant
