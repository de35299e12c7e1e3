use Rattle.std.proofs.Common.{◌≡◌, ◌==◌, suc, List, [], ◌∷◌, length, String, Global, refl, sym, ap, ◌∙◌}
use Rattle.serde_json.specs.Events.{members_len}
use Rattle.serde_json.specs.View.{members_view}
use Rattle.serde_json.specs.declared.value.Value.{Value}
use Rattle.modem_rules.specs.Values.{count_of, has_members}
use Rattle.modem_rules.proofs.members.has_members.Goals as goal

pub count-is : (members : List (String Global × Value)) → members_len (members_view members) ≡ length members
count-is [] = refl
count-is (member ∷ members) = ap suc (count-is members)

pub returns-in-Some : goal.returns-in-Some
unfolding has_members
returns-in-Some c = ap (λ n. n == c.args.count) (c.len.ensures.len ∙ sym (count-is c.in-Some.members.now.entries) ∙ ap count_of c.in-Some.ensures)
