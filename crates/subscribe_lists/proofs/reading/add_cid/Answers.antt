use Rattle.std.proofs.Common.{◌≡◌, true, List, ◌∷◌, sym, subst, Some}
use Rattle.std.specs.List.{list_any}
use Rattle.kit_bytes.specs.Subscriptions.{Pair}
use Rattle.subscriptions.specs.Lists.{covers}
use Rattle.subscriptions.proofs.NormalForms.{push_covered}
use Rattle.subscribe_lists.proofs.Adding.{length_fits}
use Rattle.subscribe_lists.proofs.reading.add_cid.Goals as goal

pub returns-then-stands-clause-few : goal.returns-then-stands-clause-few
returns-then-stands-clause-few c =
    let p : Pair = (c.args.uuid, Some c.args.cid) in
    let covered : list_any (λ other. covers other p) c.args.into.now ≡ true = subst (λ (l : List Pair). list_any (λ other. covers other p) l ≡ true) c.pairs.ensures.pairs (c.stands.ensures c.if-stands.true) in
    length_fits 30 (p ∷ c.args.into.now) c.requires (sym (push_covered c.args.into.now p c.pairs.ensures.normal covered))

pub returns-then-stands-clause-list : goal.returns-then-stands-clause-list
returns-then-stands-clause-list c =
    let p : Pair = (c.args.uuid, Some c.args.cid) in
    let covered : list_any (λ other. covers other p) c.args.into.now ≡ true = subst (λ (l : List Pair). list_any (λ other. covers other p) l ≡ true) c.pairs.ensures.pairs (c.stands.ensures c.if-stands.true) in
    λ short. sym (push_covered c.args.into.now p c.pairs.ensures.normal covered)
