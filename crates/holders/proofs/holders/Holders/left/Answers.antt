use Rattle.std.proofs.Common.{◌==◌, not, map, filter, ap, sym, ◌∙◌, subst, List}
use Rattle.proxy_history.specs.ClientIds.{Grant, KeptId}
use Rattle.holders.specs.Grants.{leaves}
use Rattle.holders.specs.Kept.{Ids, left_at}
use Rattle.holders.specs.Rows.{kept_of}
use Rattle.holders.specs.Calls.{TellTheSame, held_after}
use Rattle.holders.proofs.Kept.{all_kept_granted}
use Rattle.holders.proofs.Sets.{same_filter}
use Rattle.holders.proofs.holders.Holders.left.Goals as goal

pub returns-clause-ids : goal.returns-clause-ids
returns-clause-ids c =
    ap (λ (l : List Grant). record { held = l; kept = map kept_of c.hand_over.new.to }) c.forget_number.ensures
    ∙ ap (λ (l : List KeptId). record { held = leaves c.args.conn c.self.inside.held; kept = l }) (ap (map kept_of) c.hand_over.ensures ∙ all_kept_granted c.args.time (filter (λ g. c.args.conn == g.conn) c.self.inside.held) c.self.inside.kept)
    ∙ ap (left_at c.args.conn c.args.time) c.self.view_is

pub returns-clause-stands : goal.returns-clause-stands
returns-clause-stands c = λ calls stands.
    subst (λ (ids : Ids). TellTheSame (leaves c.args.conn (held_after calls)) ids.held) (sym (returns-clause-ids c)) (same_filter (λ g. not (c.args.conn == g.conn)) (held_after calls) c.args.self.now.held stands)
