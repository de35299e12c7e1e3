use Rattle.std.proofs.Common.{◌≡◌, ◌==◌, true, false, refl, sym, ◌∙◌, arith}
use Rattle.std.proofs.lemmas.Bool.Decides.{nat_tests}
use Rattle.serde_json.specs.Events.{members_len}
use Rattle.serde_json.specs.View.{members_view}
use Rattle.json_values.specs.Texts.{hex_in}
use Rattle.json_values.proofs.Walks.{members_len-is}
use Rattle.json_values.proofs.texts.hex_in.Goals as goal

pub returns-then-len-eq1 : goal.returns-then-len-eq1
unfolding hex_in
returns-then-len-eq1 c =
    let one : (members_len (members_view c.in-Some.members.now.entries) == 1) ≡ true =
    let count = members_len-is c.in-Some.members.now.entries ∙ sym c.len.ensures.len in grind (arith, nat_tests, count, c.if-len-eq1.true) in
    rw (← c.in-Some.ensures, ← c.in-Some-get.ensures, one) c.digits_in.ensures

pub returns-else-len-eq1 : goal.returns-else-len-eq1
unfolding hex_in
returns-else-len-eq1 c =
    let several : (members_len (members_view c.in-Some.members.now.entries) == 1) ≡ false =
    let count = members_len-is c.in-Some.members.now.entries ∙ sym c.len.ensures.len in grind (arith, nat_tests, count, c.if-len-eq1.false) in
    rw (← c.in-Some.ensures, ← c.in-Some-get.ensures, several) refl
