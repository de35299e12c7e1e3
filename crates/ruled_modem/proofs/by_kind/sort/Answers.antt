use Rattle.std.proofs.Common.{Bool, Option, not, is_some, if◌then◌else◌, ◌∷◌, ◌++◌, [], ◌∙◌, ap, sym}
use Rattle.modem_rules.specs.declared.kind.RequestKind.{RequestKind}
use Rattle.ruled_modem.specs.Keeping.{rules_for}
use Rattle.ruled_modem.specs.Turns.{is_own}
use Rattle.ruled_modem.proofs.Tables.{same-sym}
use Rattle.ruled_modem.proofs.by_kind.sort.Goals as goal

pub returns-clause-table : goal.returns-clause-table
returns-clause-table g c = λ other.
    let before = rules_for other c.args.sorted.now.table.entries in
    let more = before ++ c.args.rule ∷ [] in
    c.in_ok-add.ensures other
    ∙ ap (λ (same : Bool). if same then more else before) (same-sym c.in-Some.kind other)
    ∙ ap (λ (found : Option RequestKind). if is_own other found then more else before) (sym c.in-Some.is ∙ c.for_kind.ensures)

pub returns-clause-others : goal.returns-clause-others
returns-clause-others g c =
    let before = c.args.sorted.now.others.items in
    ap (λ (found : Option RequestKind). if not (is_some found) then before ++ c.args.rule ∷ [] else before) (sym c.in-Some.is ∙ c.for_kind.ensures)

pub returns-in_default-clause-table : goal.returns-in_default-clause-table
returns-in_default-clause-table g c = λ other.
    let before = rules_for other c.args.sorted.now.table.entries in
    let more = before ++ c.args.rule ∷ [] in
    ap (λ (found : Option RequestKind). if is_own other found then more else before) (sym c.in_default.is ∙ c.for_kind.ensures)

pub returns-in_default-clause-others : goal.returns-in_default-clause-others
returns-in_default-clause-others g c =
    let before = c.args.sorted.now.others.items in
    c.in_ok-push.ensures.items
    ∙ ap (λ (found : Option RequestKind). if not (is_some found) then before ++ c.args.rule ∷ [] else before) (sym c.in_default.is ∙ c.for_kind.ensures)
