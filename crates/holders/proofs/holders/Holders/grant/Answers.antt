use Rattle.std.proofs.Common.{Some, ap, sym, ◌∙◌, subst}
use Rattle.proxy_history.specs.ClientIds.{holder_in}
use Rattle.holders.specs.Grants.{AreInOrder}
use Rattle.holders.specs.Kept.{Ids}
use Rattle.holders.proofs.Kept.{held_by_none, held_by_other, held_by_itself}
use Rattle.holders.proofs.Sets.{same_held_by}
use Rattle.holders.proofs.holders.Holders.grant.Goals as goal

pub returns-in_default-clause-ids : goal.returns-in_default-clause-ids
returns-in_default-clause-ids c =
    c.hold.ensures ∙ held_by_none c.args.conn c.args.service c.args.cid c.args.self.now (sym (ap (λ (ids : Ids). holder_in c.args.service c.args.cid ids.held) c.self.view_is) ∙ sym c.in_default.ensures.number)

pub returns-in_default-clause-stands : goal.returns-in_default-clause-stands
returns-in_default-clause-stands c = λ calls.
    same_held_by c.args.conn c.args.service c.args.cid _ c.args.self.now _ (returns-in_default-clause-ids c) (subst (λ (ids : Ids). AreInOrder ids.held) c.self.view_is c.number.ensures.ordered)

pub returns-then-holder-conn-clause-ids : goal.returns-then-holder-conn-clause-ids
returns-then-holder-conn-clause-ids c =
    held_by_other c.args.conn c.args.service c.args.cid c.in-Some.holder c.args.self.now (sym (ap (λ (ids : Ids). holder_in c.args.service c.args.cid ids.held) c.self.view_is) ∙ sym c.in-Some.ensures.number) c.if-holder-conn.true

pub returns-then-holder-conn-clause-stands : goal.returns-then-holder-conn-clause-stands
returns-then-holder-conn-clause-stands c = λ calls.
    same_held_by c.args.conn c.args.service c.args.cid _ c.args.self.now _ (returns-then-holder-conn-clause-ids c) (subst (λ (ids : Ids). AreInOrder ids.held) c.self.view_is c.number.ensures.ordered)

pub returns-clause-ids : goal.returns-clause-ids
returns-clause-ids c =
    c.used.ensures.ids
    ∙ held_by_itself c.args.conn c.args.service c.args.cid c.args.self.now (sym (ap (λ (ids : Ids). holder_in c.args.service c.args.cid ids.held) c.self.view_is) ∙ sym c.in-Some.ensures.number ∙ ap Some c.if-holder-conn.false)
    (subst (λ (ids : Ids). AreInOrder ids.held) c.self.view_is c.number.ensures.ordered)

pub returns-clause-stands : goal.returns-clause-stands
returns-clause-stands c = λ calls.
    same_held_by c.args.conn c.args.service c.args.cid _ c.args.self.now _ (returns-clause-ids c) (subst (λ (ids : Ids). AreInOrder ids.held) c.self.view_is c.number.ensures.ordered)
