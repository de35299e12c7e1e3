use Rattle.std.proofs.Common.{ℕ, ◌+◌, List, length, drop, sym, ap, ◌∙◌, add-one, arith}
use Rattle.std.proofs.lemmas.Slice.{between_to_end}
use Rattle.std.specs.List.{position}
use Rattle.serde_json.specs.declared.value.Value.{Value}
use Rattle.named_messages.specs.Named.{is_named}
use Rattle.named_messages.proofs.Chosen.{several, alone}
use Rattle.named_messages.proofs.Firsts.{passes}
use Rattle.named_messages.proofs.named.message_at.Goals as goal

pub returns-in-Some : goal.returns-in-Some
returns-in-Some c =
    let rest = between_to_end c.args.objects.now (c.args.place + 1) (length c.args.objects.now) (omega arith) ∙ ap (λ (k : ℕ). drop k c.args.objects.now) (add-one c.args.place) in
    let second = sym c.in-Some.is ∙ c.first_named.ensures ∙ ap (λ (l : List Value). position (passes (is_named c.args.name.now)) l) rest in
    several c.args.name.now c.args.objects.now c.args.place c.requires.first c.in-Some._again second

pub returns-in-None : goal.returns-in-None
returns-in-None c =
    let rest = between_to_end c.args.objects.now (c.args.place + 1) (length c.args.objects.now) (omega arith) ∙ ap (λ (k : ℕ). drop k c.args.objects.now) (add-one c.args.place) in
    let none = sym c.in-None.is ∙ c.first_named.ensures ∙ ap (λ (l : List Value). position (passes (is_named c.args.name.now)) l) rest in
    let is = alone c.args.name.now c.args.objects.now c.args.place c.requires.first c.index-objects-place.result c.index-objects-place.is none in
    rw is c.message_behind.ensures
