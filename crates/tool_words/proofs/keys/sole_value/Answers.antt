use Rattle.std.proofs.Common.{◌∙◌, Bor, ℕ, List, map, take_all, ap}
use Rattle.std.specs.List.{filter_map}
use Rattle.tool_words.specs.Keys.{value_in}
use Rattle.tool_words.specs.Sole.{map_sole, sole}
use Rattle.tool_words.proofs.Choosing.{value_more}
use Rattle.tool_words.proofs.Views.{filter_map-map}
use Rattle.tool_words.proofs.keys.sole_value.Goals as goal

pub loop-part-preserved : goal.loop-part-preserved
loop-part-preserved c =
    ap (map_sole (λ (value : Bor (List ℕ)). value.now)) c.and_if-sole.ensures
    ∙ value_more (λ (part : Bor (List ℕ)). value_in (map (λ name. name.now) c.args.names.now) part.now) (λ (value : Bor (List ℕ)). value.now)
    c.loop-part.sole c.args.parts.now c.loop-part.part-index _ c.loop-part-test.true c.loop-part.invariant
    c.value_in.result c.value_in.ensures

pub returns : goal.returns
returns c =
    c.loop-part.invariant
    ∙ ap sole
    (ap (filter_map (λ (part : Bor (List ℕ)). value_in (map (λ name. name.now) c.args.names.now) part.now)) (take_all c.loop-part.part-index c.args.parts.now c.loop-part-test.false)
    ∙ filter_map-map (value_in (map (λ name. name.now) c.args.names.now)) (λ (part : Bor (List ℕ)). part.now) c.args.parts.now)
