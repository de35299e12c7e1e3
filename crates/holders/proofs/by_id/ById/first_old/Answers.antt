use Rattle.std.proofs.Common.{◌≡◌, find, position, option_map, ap, sym, ◌∙◌, Some, None}
use Rattle.kit_bytes.proofs.Lists.{find_first, find_none}
use Rattle.proxy_history.specs.ClientIds.{Grant}
use Rattle.holders.specs.Rows.{id_of, is_old}
use Rattle.holders.proofs.by_id.ById.first_old.Goals as goal

pub returns-in_err-index-clause-first : goal.returns-in_err-index-clause-first
returns-in_err-index-clause-first c =
    let none : position (is_old c.args.after c.args.time) c.args.self.now ≡ None = ap (position (is_old c.args.after c.args.time)) (sym (c.deref.ensures.value ∙ c.self.view_is)) ∙ sym c.in_err-index.ensures.place in
    c.from_residual.ensures ∙ sym (ap (option_map id_of) (find_none (is_old c.args.after c.args.time) c.args.self.now none))

pub returns-clause-first : goal.returns-clause-first
returns-clause-first c =
    let row : Grant = c.index-row.result.now in
    let at : position (is_old c.args.after c.args.time) c.self.inside.rows.items ≡ Some c.in_ok-index.index = ap (position (is_old c.args.after c.args.time)) (sym c.deref.ensures.value) ∙ sym c.in_ok-index.ensures.place in
    ap (λ n. Some (n, c.cid.result)) c.service.ensures ∙ ap (λ n. Some (row.service, n)) c.cid.ensures ∙ ap (λ (g : Grant). Some (id_of g)) c.index-row.ensures
    ∙ sym (ap (option_map id_of) (sym (ap (find (is_old c.args.after c.args.time)) c.self.view_is) ∙ find_first (is_old c.args.after c.args.time) c.self.inside.rows.items c.in_ok-index.index row at))
