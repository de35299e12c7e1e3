use Rattle.std.proofs.Common.{Some, ap, sym, ◌∙◌, subst, List}
use Rattle.proxy_history.specs.ClientIds.{Grant, holder_in}
use Rattle.holders.specs.Grants.{IsFoundAt}
use Rattle.holders.proofs.Places.{found_holder, absent_holder}
use Rattle.holders.proofs.by_id.ById.number.Goals as goal

pub returns-in-Ok-clause-number : goal.returns-in-Ok-clause-number
returns-in-Ok-clause-number c =
    let found : IsFoundAt c.args.service c.args.cid c.self.inside.rows.items c.in-Ok.index = subst (λ (l : List Grant). IsFoundAt c.args.service c.args.cid l c.in-Ok.index) c.deref.ensures.value c.in-Ok.ensures.found in
    ap Some c.number.ensures ∙ ap (λ (g : Grant). Some g.conn) c.index-row.ensures ∙ sym (found_holder c.args.service c.args.cid c.in-Ok.index c.self.inside.rows.items c.index-row.result.now c.self.invariant.ordered found)
    ∙ ap (holder_in c.args.service c.args.cid) c.self.view_is

pub returns-in-Err-clause-number : goal.returns-in-Err-clause-number
returns-in-Err-clause-number c =
    sym (absent_holder c.args.service c.args.cid _ c.deref.result.now c.in-Err.ensures.absent) ∙ ap (holder_in c.args.service c.args.cid) (c.deref.ensures.value ∙ c.self.view_is)
