use Rattle.std.proofs.Common.{◌∷◌, sym, ◌∙◌}
use Rattle.kit_bytes.specs.Subscriptions.{Pair}
use Rattle.subscribe_lists.proofs.Adding.{adds_from_services, adds_pair, pair_shorter, long_with, fits_length}
use Rattle.subscribe_lists.proofs.reading.add_in_turn.Goals as goal

pub pairs-init : goal.pairs-init
pairs-init c = record { adds = adds_from_services c.args.pairs c.args.into.now c.requires.services; few = c.requires.few }

pub returns-then-not-add-clause-few : goal.returns-then-not-add-clause-few
returns-then-not-add-clause-few c =
    let p : Pair = c.in-Some.pair in
    long_with 30 (p ∷ c.pairs.into) c.args.pairs (pair_shorter p c.pairs.invariant.adds c.in-Some.ensures.some) (sym c.if-not-add.true ∙ c.add.ensures.few)

pub pairs-preserved : goal.pairs-preserved
pairs-preserved c =
    let p : Pair = c.in-Some.pair in
    let new = c.add.ensures.list c.if-not-add.false in
    record { adds = adds_pair p c.pairs.invariant.adds c.in-Some.ensures.some new; few = fits_length 30 (p ∷ c.pairs.into) (sym c.if-not-add.false ∙ c.add.ensures.few) new }
