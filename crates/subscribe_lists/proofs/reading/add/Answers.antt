use Rattle.std.proofs.Common.{ℕ, nat_le, List, ◌∷◌, length, sym, ◌∙◌, ap}
use Rattle.kit_bytes.specs.Subscriptions.{Pair}
use Rattle.subscribe_lists.proofs.Adding.{less_room, was_pushed}
use Rattle.subscribe_lists.proofs.reading.add.Goals as goal

pub returns-then-not-push-clause-few : goal.returns-then-not-push-clause-few
returns-then-not-push-clause-few c = less_room ((c.args.uuid, c.args.cid) ∷ c.args.into.now) (sym c.if-not-push.true ∙ c.push.ensures.fits)

pub returns-clause-few : goal.returns-clause-few
returns-clause-few c =
    let pushed = was_pushed (c.args.uuid, c.args.cid) c.args.into.now (sym c.if-not-push.false ∙ c.push.ensures.fits) c.push.ensures.pushed in
    ap (λ (n : ℕ). nat_le n 30) (c.len.ensures.count ∙ ap (λ (l : List Pair). length l) pushed)

pub returns-clause-list : goal.returns-clause-list
returns-clause-list c = λ short. was_pushed (c.args.uuid, c.args.cid) c.args.into.now (sym c.if-not-push.false ∙ c.push.ensures.fits) c.push.ensures.pushed
