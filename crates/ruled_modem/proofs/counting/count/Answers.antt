use Rattle.std.proofs.Common.{◌∙◌, ap, map, Some, None, is_some, sym}
use Rattle.ruled_modem.specs.Keeping.{failing, nearer}
use Rattle.ruled_modem.proofs.Tables.{changed-at, looked, updated}
use Rattle.ruled_modem.proofs.counting.count.Goals as goal

pub returns-in_default-clause-failing : goal.returns-in_default-clause-failing
returns-in_default-clause-failing c = ap failing (looked c.args.kind.now c.args.faults.now.entries None c.in_default.ensures.value)

pub returns-clause-failing : goal.returns-clause-failing
returns-clause-failing c =
    c.failing-failure.ensures
    ∙ ap failing (c.as_slice.ensures.value ∙ looked c.args.kind.now c.args.faults.now.entries (Some c.in-Some.faults.now) c.in-Some.ensures.value)

pub returns-clause-counts : goal.returns-clause-counts
returns-clause-counts c = λ other.
    let kind = c.args.kind.now in
    let before = c.args.faults.now.entries in
    let after = (c.get_mut.follows.lender c.bring_nearer.new.faults).entries in
    let found = c.in-Some.ensures.value in
    updated kind other before after (Some c.bring_nearer.new.faults) (((c.get_mut.follows.holds c.bring_nearer.new.faults).3 (sym (ap is_some found))).0 other)
    ∙ changed-at kind other before (map (nearer 1)) _ (c.bring_nearer.ensures ∙ ap (map (nearer 1)) (looked kind before (Some c.in-Some.faults.now) found))
