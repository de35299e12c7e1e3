use Rattle.std.proofs.Common.{◌∙◌, ◌++◌, ap, sym}
use Rattle.std.specs.Vec.Iter.{into_iter_items}
use Rattle.ruled_modem.specs.Keeping.{others, own, rules_for}
use Rattle.ruled_modem.proofs.Tables.{moved-other, moved-own}
use Rattle.ruled_modem.proofs.by_kind.by_kind.Goals as goal

pub loop-rule-preserved : goal.loop-rule-preserved
loop-rule-preserved g c =
    let for = g.R.ForKind.for_kind in
    let rest = into_iter_items c.next.new.self in
    let rule = c.in-Some.rule in
    let before = c.loop-rule.sorted in (
      tt,
      tt,
      λ kind.
          ap (λ l. l ++ own for kind rest) (c.in_ok-sort.ensures.table kind)
          ∙ moved-own for kind rule (rules_for kind before.table.entries) rest
          ∙ ap (λ l. rules_for kind before.table.entries ++ own for kind l) (sym c.in-Some.ensures.steps.0)
          ∙ c.loop-rule.invariant.2 kind,
      ap (λ l. l ++ others for rest) c.in_ok-sort.ensures.others
          ∙ moved-other for rule before.others.items rest
          ∙ ap (λ l. before.others.items ++ others for l) (sym c.in-Some.ensures.steps.0)
          ∙ c.loop-rule.invariant.3,
    )
