-- Tables of rules by the kind of request.
use Rattle.std.proofs.Common.{◌≡◌, ℕ, Bool, true, false, not, is_some, if◌then◌else◌, cond, ◌&&◌, ◌==◌, bytes_eq, List, [], ◌∷◌, ◌++◌, filter, find, slice_get, Option, Some, Vec, Global, refl, sym, ap, ◌∙◌, append_assoc, subst, true≢false}
use Rattle.std.specs.Map.{lookup}
use Rattle.std.proofs.lemmas.Bool.{eq-eqb, eqb-true}
use Rattle.std.proofs.lemmas.Slice.Eq.{bytes_eq-Decides}
use Rattle.modem_rules.specs.declared.kind.RequestKind.{RequestKind}
use Rattle.modem_rules.specs.declared.kind.RequestKind.TheVariants.{Message, Command}
use Rattle.modem_rules.specs.Kinds.{is_same}
use Rattle.modem_rules.specs.contracts.kind.RequestKindPartialEq.TheImpl.{eq-value}
use Rattle.modem_rules.proofs.Same.{same-same}
use Rattle.ruled_modem.specs.Keeping.{ByKind, items_in, others, own, rules_for}
use Rattle.ruled_modem.specs.Turns.{is_own}

-- ---- kinds are the same either way ----

alike : (a b : Bool) → (a ≡ true → b ≡ true) → (b ≡ true → a ≡ true) → a ≡ b
alike true true to from = refl
alike false false to from = refl
alike true false to from = absurd (true≢false (sym (to refl)))
alike false true to from = absurd (true≢false (sym (from refl)))

numbers : (a b : ℕ) → (a == b) ≡ (b == a)
numbers a b = alike (a == b) (b == a) (λ is. eq-eqb b a (sym (eqb-true a b is))) (λ is. eq-eqb a b (sym (eqb-true b a is)))

texts : (a b : List ℕ) → bytes_eq a b ≡ bytes_eq b a
texts a b =
    alike (bytes_eq a b) (bytes_eq b a) (λ is. (bytes_eq-Decides b a).1 (sym ((bytes_eq-Decides a b).0 is))) (λ is. (bytes_eq-Decides a b).1 (sym ((bytes_eq-Decides b a).0 is)))

pub same-sym : (kind other : RequestKind) → is_same kind other ≡ is_same other kind
same-sym (Message service message) (Message other_service other_message) =
    ap (λ b. b && service == other_service) (numbers message other_message) ∙ ap (λ b. other_message == message && b) (numbers service other_service)
same-sym (Command service command) (Command other_service other_command) =
    ap (λ b. b && bytes_eq service other_service) (numbers command other_command) ∙ ap (λ b. other_command == command && b) (texts service other_service)
same-sym (Message service message) (Command other_service other_command) = refl
same-sym (Command service command) (Message other_service other_message) = refl

-- and then they are one
left : (a b : Bool) → (a && b) ≡ true → a ≡ true
left true b is = refl
left false b is = absurd (true≢false (sym is))

right : (a b : Bool) → (a && b) ≡ true → b ≡ true
right true b is = is
right false b is = absurd (true≢false (sym is))

pub same-is : (kind other : RequestKind) → is_same kind other ≡ true → kind ≡ other
same-is (Message service message) (Message other_service other_message) is = λ i.
    Message (eqb-true service other_service (right (message == other_message) (service == other_service) is) i) (eqb-true message other_message (left (message == other_message) (service == other_service) is) i)
same-is (Command service command) (Command other_service other_command) is = λ i.
    Command ((bytes_eq-Decides service other_service).0 (right (command == other_command) (bytes_eq service other_service) is) i) (eqb-true command other_command (left (command == other_command) (bytes_eq service other_service) is) i)
same-is (Message service message) (Command other_service other_command) is = absurd (true≢false (sym is))
same-is (Command service command) (Message other_service other_message) is = absurd (true≢false (sym is))

-- ---- a rule more ----

-- what a list has behind a rule that was moved to the table
moved : {R : Type 0} (same : Bool) (rule : R) (rules rest : List R) → (if same then rules ++ rule ∷ [] else rules) ++ rest ≡ rules ++ (if same then rule ∷ rest else rest)
moved true rule rules rest = append_assoc rules (rule ∷ []) rest
moved false rule rules rest = refl

-- those of a kind
pub moved-own : {R : Type 0} (for : R → Option RequestKind) (kind : RequestKind) (rule : R) (rules rest : List R)
    → (if is_own kind (for rule) then rules ++ rule ∷ [] else rules) ++ own for kind rest ≡ rules ++ own for kind (rule ∷ rest)
moved-own for kind rule rules rest = moved (is_own kind (for rule)) rule rules (own for kind rest)

-- and those of none
pub moved-other : {R : Type 0} (for : R → Option RequestKind) (rule : R) (rules rest : List R)
    → (if not (is_some (for rule)) then rules ++ rule ∷ [] else rules) ++ others for rest ≡ rules ++ others for (rule ∷ rest)
moved-other for rule rules rest = moved (not (is_some (for rule))) rule rules (others for rest)

-- ---- rules that were put in or taken out ----

pub items-if : {R : Type 0} (same : Bool) (rules : Option (Vec R Global)) (others : Option (Vec R Global)) → items_in (cond same rules others) ≡ (if same then items_in rules else items_in others)
items-if true rules others = refl
items-if false rules others = refl

-- taken out, and put in again with one more
pub again : {R : Type 0} (same : Bool) (changed others : List R) → (if same then changed else (if same then [] else others)) ≡ (if same then changed else others)
again true changed others = refl
again false changed others = refl

-- what was changed at a kind is what any kind has that is the same
pub changed-at : {R : Type 0} (kind other : RequestKind) (table : ByKind R) (change : List R → List R) (changed : List R) → changed ≡ change (rules_for kind table)
    → (if is_same kind other then changed else rules_for other table) ≡ (if is_same kind other then change (rules_for other table) else rules_for other table)
changed-at {R} kind other table change changed is = by (is_same kind other) refl
  where
    by : (same : Bool) → is_same kind other ≡ same → (if same then changed else rules_for other table) ≡ (if same then change (rules_for other table) else rules_for other table)
    by true same = is ∙ ap (λ (k : RequestKind). change (rules_for k table)) (same-is kind other same)
    by false same = refl

-- where a kind has none
pub none-at : {R : Type 0} (kind other : RequestKind) (table : ByKind R) → rules_for kind table ≡ [] → rules_for other table ≡ (if is_same kind other then [] else rules_for other table)
none-at {R} kind other table none = by (is_same kind other) refl
  where
    by : (same : Bool) → is_same kind other ≡ same → rules_for other table ≡ (if same then [] else rules_for other table)
    by true same = ap (λ (k : RequestKind). rules_for k table) (sym (same-is kind other same)) ∙ none
    by false same = refl

-- ---- the table itself, whose keys are kinds ----

-- a look by the keys' own comparison
pub looked : {R : Type 0} (kind : RequestKind) (table : ByKind R) (found : Option (Vec R Global)) → found ≡ lookup (eq-value.it kind) table → items_in found ≡ rules_for kind table
looked kind table found is = ap items_in (is ∙ ap (λ (same : RequestKind → RequestKind → Bool). lookup (same kind) table) same-same)

-- and a change
pub updated : {R : Type 0} (kind other : RequestKind) (before after : ByKind R) (value : Option (Vec R Global))
    → lookup (eq-value.it other) after ≡ cond (eq-value.it kind other) value (lookup (eq-value.it other) before)
    → rules_for other after ≡ (if is_same kind other then items_in value else rules_for other before)
updated kind other before after value is =
    let Updates : (RequestKind → RequestKind → Bool) → Type 0 = λ same. lookup (same other) after ≡ cond (same kind other) value (lookup (same other) before) in
    ap items_in (subst Updates same-same is) ∙ items-if (is_same kind other) value (lookup (is_same other) before)

-- ---- the first ----

first-if : {R : Type 0} (same : Bool) (rule : R) (rules : List R) → slice_get (if same then rule ∷ rules else rules) 0 ≡ cond same (Some rule) (slice_get rules 0)
first-if true rule rules = refl
first-if false rule rules = refl

pub first-own : {R : Type 0} (test : R → Bool) (rules : List R) → slice_get (filter test rules) 0 ≡ find test rules
first-own test [] = refl
first-own test (rule ∷ rules) = first-if (test rule) rule (filter test rules) ∙ ap (λ rest. cond (test rule) (Some rule) rest) (first-own test rules)

-- ---- those that are picked are among those that were ----

picked-if : {R : Type 0} (p : R → Bool) (kept : Bool) (x : R) (front all : List R) → (kept ≡ false → p x ≡ false) → filter p front ≡ all → filter p (if kept then x ∷ front else front) ≡ (if p x then x ∷ all else all)
picked-if p true x front all none is = ap (λ l. if p x then x ∷ l else l) is
picked-if p false x front all none is = is ∙ sym (ap (λ (b : Bool). if b then x ∷ all else all) (none refl))

pub picked-among : {R : Type 0} (p q : R → Bool) → ((x : R) → q x ≡ false → p x ≡ false) → (xs : List R) → filter p (filter q xs) ≡ filter p xs
picked-among p q none [] = refl
picked-among p q none (x ∷ xs) = picked-if p (q x) x (filter q xs) (filter p xs) (none x) (picked-among p q none xs)
