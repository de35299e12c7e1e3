use Rattle.std.proofs.Common.{◌≡◌, false, arith, sym, subst, Contains, map, Option, ℕ}
use Rattle.proxy_history.specs.ClientIds.{KeptId}
use Rattle.holders.specs.Kept.{Ids, FirstDue, is_due}
use Rattle.holders.specs.Rows.{kept_of}
use Rattle.holders.proofs.Kept.{none_due, first_is_due}
use Rattle.holders.proofs.holders.Holders.due.Goals as goal

pub returns-then-saturating_sub-after : goal.returns-then-saturating_sub-after
returns-then-saturating_sub-after c =
    subst (λ (ids : Ids). (k : KeptId) → Contains ids.kept k → is_due c.args.after c.args.time k ≡ false) c.self.view_is
    (none_due c.self.inside.oldest c.args.after c.args.time c.self.inside.kept c.self.invariant (omega (arith, c.if-saturating_sub-after.true, c.saturating_sub.ensures)))

pub returns : goal.returns
returns c =
    subst (λ (ids : Ids). FirstDue c.args.after c.args.time ids.kept c.first_old.result) c.self.view_is
    (subst (λ (found : Option (ℕ × ℕ)). FirstDue c.args.after c.args.time (map kept_of c.self.inside.kept) found) (sym c.first_old.ensures.first) (first_is_due c.args.after c.args.time c.self.inside.kept c.first_old.ensures.ordered))
