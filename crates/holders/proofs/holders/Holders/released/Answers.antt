use Rattle.std.proofs.Common.{List, not, ap, sym, ◌∙◌, subst}
use Rattle.proxy_history.specs.ClientIds.{Grant}
use Rattle.holders.specs.Grants.{is_of_both, releases}
use Rattle.holders.specs.Kept.{Ids}
use Rattle.holders.specs.Calls.{TellTheSame, held_after}
use Rattle.holders.proofs.Sets.{same_filter}
use Rattle.holders.proofs.holders.Holders.released.Goals as goal

pub returns-clause-stands : goal.returns-clause-stands
returns-clause-stands c = λ calls stands.
    subst (λ (l : List Grant). TellTheSame (releases c.args.conn c.args.service c.args.cid (held_after calls)) l)
    (sym (c.forget_both.ensures ∙ ap (λ (ids : Ids). releases c.args.conn c.args.service c.args.cid ids.held) c.self.view_is))
    (same_filter (λ g. not (is_of_both c.args.conn c.args.service c.args.cid g)) (held_after calls) c.args.self.now.held stands)
