-- What is left once each child was stopped.
use Rattle.std.proofs.Common.{◌≡◌, ⊎_elim, ℕ, zero, Option, Result, Ok, Err, Bool, true, false, not, ◌||◌, ◌&&◌, List, [], ◌∷◌, ◌++◌, map, All, Contains, refl, ap, sym, ◌∙◌, arith, subst}
use Rattle.std.proofs.Math.Bool.{not-not, and-true}
use Rattle.std.proofs.lemmas.Bool.Decides.{Decides-eqb}
use Rattle.std.proofs.lemmas.List.{append-nil, map_push}
use Rattle.std.proofs.lemmas.List.Elements.{All-from_recursion, All-contains}
use Rattle.std.proofs.lemmas.List.Folds.{list_all-append}
use Rattle.std.specs.List.{AllByRecursion, list_any, list_all}
use Rattle.std.specs.Result.{result_and, is_ok}
use Rattle.kit_io.specs.Causes.{HasCause}
use Rattle.kit_io.specs.Growth.{Grows}
use Rattle.kit_io.proofs.Growth.{Grows-none, Grows-append}
use Rattle.kit_bytes.proofs.Lists.{all_weaker, all_passing}
use Rattle.kit_bytes.proofs.Members.{Contains-cons, Contains-cons_cases, Contains-nil}
use Rattle.child_io.specs.Calls.{Call, Stopped}
use Rattle.child_io.specs.Alive.{sees_end_of, left_after, alive}
use Rattle.child_io.specs.Kids.{Try, stops, LeavesFailedAlone, StopsEach}
use Rattle.child_io.proofs.Alive.{alive-append, right_false}

-- a try of this child that failed
abbrev failed_try : ℕ → Try
failed_try child = record { child = child; ok = false }

just_tried : (child after : ℕ) (ok : Bool) (later : List Call) (tries : List Try) → list_any (sees_end_of child) (Stopped child ok after ∷ later) ≡ false
    → Contains (record { child = child; ok = ok } ∷ tries) (failed_try child)
just_tried child after true later tries is =
    let itself = (Decides-eqb child child).1 refl in
    let seen = ap (λ b. b || list_any (sees_end_of child) later) itself in absurd (cc)
just_tried child after false later tries is = (zero, omega arith, refl)

each_was_tried : (after : ℕ) (tries : List Try) → AllByRecursion (λ child. list_any (sees_end_of child) (stops after tries) ≡ false → Contains tries (failed_try child)) (map (λ try. try.child) tries)
each_was_tried after [] = tt
each_was_tried after (try ∷ tries) =
    let call = Stopped try.child try.ok after in (
      just_tried try.child after try.ok (stops after tries) tries,
      all_weaker (λ child. list_any (sees_end_of child) (stops after tries) ≡ false → Contains tries (failed_try child))
          (λ child. list_any (sees_end_of child) (call ∷ stops after tries) ≡ false → Contains (try ∷ tries) (failed_try child))
          (λ child tried is. Contains-cons (failed_try child) try tries (tried (right_false (sees_end_of child call) (list_any (sees_end_of child) (stops after tries)) is)))
          (map (λ try. try.child) tries) (each_was_tried after tries),
    )

-- a stop names no new child
alive-stops : (after : ℕ) (tries : List Try) → alive (stops after tries) ≡ []
alive-stops after [] = refl
alive-stops after (try ∷ tries) = alive-stops after tries

left_true : (a b : Bool) → (a && b) ≡ true → a ≡ true
left_true true b is = refl
left_true false b is = absurd (cc)

right_true : (a b : Bool) → (a && b) ≡ true → b ≡ true
right_true true b is = is
right_true false b is = absurd (cc)

none_failed : (tries : List Try) (child : ℕ) → list_all (λ try. try.ok) tries ≡ true → Contains tries (failed_try child) → ⊥
none_failed [] child all at = Contains-nil (failed_try child) at
none_failed (try ∷ tries) child all at =
    let first = left_true try.ok (list_all (λ try. try.ok) tries) all in
    let later = right_true try.ok (list_all (λ try. try.ok) tries) all in
    ⊎_elim (λ (is : try ≡ failed_try child). let failed : try.ok ≡ false = ap (λ (t : Try). t.ok) is in (cc)) (λ (rest : Contains tries (failed_try child)). none_failed tries child later rest)
    (Contains-cons_cases (failed_try child) try tries at)

nothing_is_in : (left : List ℕ) → ((child : ℕ) → Contains left child → ⊥) → left ≡ []
nothing_is_in [] none = refl
nothing_is_in (child ∷ left) none = absurd (none child (zero, omega arith, refl))

pub leaves_failed_alone : (calls : List Call) (after : ℕ) (tries : List Try) → map (λ try. try.child) tries ≡ alive calls → LeavesFailedAlone tries (alive (calls ++ stops after tries))
leaves_failed_alone calls after tries each =
    let children = map (λ (try : Try). try.child) tries in
    let left = left_after (stops after tries) children in
    let Failed : ℕ → Type 0 = λ child. Contains tries (failed_try child) in
    let is : alive (calls ++ stops after tries) ≡ left =
    alive-append calls (stops after tries)
    ∙ ap (λ l. left_after (stops after tries) (alive calls) ++ l) (alive-stops after tries)
    ∙ append-nil (left_after (stops after tries) (alive calls))
    ∙ ap (left_after (stops after tries)) (sym each) in
    let failed : All Failed left =
    All-from_recursion Failed left
    (all_passing (λ child. not (list_any (sees_end_of child) (stops after tries))) (λ child. list_any (sees_end_of child) (stops after tries) ≡ false → Failed child) Failed
    (λ child keeps tried. tried (sym (not-not (list_any (sees_end_of child) (stops after tries))) ∙ ap not keeps)) children (each_was_tried after tries)) in
    record {
      failed = subst (All Failed) (sym is) failed;
      none = λ all. is ∙ nothing_is_in left (λ child at. none_failed tries child all (All-contains Failed left child failed at));
    }

-- ---- one stop after another ----

-- these children were tried so far, each once
pub record Tried {T E : Type 0} (children : List ℕ) (after : ℕ) (old : Option (List Call)) (result : Result T E) (now : Option (List Call)) : Type 0 where
  pub tries : List Try
  pub each : map (λ try. try.child) tries ≡ children
  pub all : is_ok result ≡ list_all (λ try. try.ok) tries
  pub grows : Grows old (stops after tries) now

pub Tried-none : {E : Type 0} (after : ℕ) (old : Option (List Call)) → Tried {T = Unit {0}} {E = E} [] after old (Ok tt) old
Tried-none after old = record { tries = []; each = refl; all = refl; grows = Grows-none old }

is_ok-and : {T E : Type 0} (first : Result T E) (second : Result T E) → is_ok (result_and first second) ≡ (is_ok first && is_ok second)
is_ok-and (Ok t) second = refl
is_ok-and (Err e) second = refl

module _ {T E : Type 0} {children : List ℕ} {after : ℕ} {old mid new : Option (List Call)} {result : Result T E} (so_far : Tried children after old result mid) where
  pub Tried-more : (child : ℕ) (answer : Result T E) → Grows mid (Stopped child (is_ok answer) after ∷ []) new → Tried (children ++ child ∷ []) after old (result_and result answer) new
  Tried-more child answer grows =
      let last : Try = record { child = child; ok = is_ok answer } in
      record {
        tries = so_far.tries ++ last ∷ [];
        each = map_push (λ (try : Try). try.child) so_far.tries last ∙ ap (λ (l : List ℕ). l ++ child ∷ []) so_far.each;
        all =
            is_ok-and result answer
            ∙ ap (λ (b : Bool). b && is_ok answer) so_far.all
            ∙ ap (λ (b : Bool). list_all (λ (try : Try). try.ok) so_far.tries && b) (sym (and-true (is_ok answer)))
            ∙ sym (list_all-append (λ (try : Try). try.ok) so_far.tries (last ∷ []));
        grows = rw (map_push (λ (try : Try). Stopped try.child try.ok after) so_far.tries last) (Grows-append so_far.grows grows);
      }

-- each was tried
pub Tried-all : {T E : Type 0} {children all : List ℕ} {after : ℕ} {old new : Option (List Call)} {result : Result T E} → Tried children after old result new → children ≡ all → StopsEach all after old result new
Tried-all {after = after} tried are = record {
  tries = tried.tries;
  each = tried.each ∙ are;
  all = tried.all;
  grows = tried.grows;
  leaves = λ calls stands. leaves_failed_alone calls after tried.tries (tried.each ∙ are ∙ stands);
}

-- one answer after another, each with its cause
pub HasCause-and : {T E : Type 0} {before mid after : ℕ} (first : Result T E) (second : Result T E) → HasCause before mid first → HasCause mid after second → HasCause before after (result_and first second)
HasCause-and (Ok t) (Ok u) early late = record { later = omega (arith, early.later, late.later); failed = tt }
HasCause-and (Ok t) (Err e) early late = record { later = omega (arith, early.later, late.later); failed = omega (arith, early.later, late.failed) }
HasCause-and (Err e) second early late = record { later = omega (arith, early.later, late.later); failed = omega (arith, early.failed, late.later) }
