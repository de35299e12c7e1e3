-- What is known of a record goes on from call to call.
use Rattle.std.proofs.Common.{◌≡◌, List, [], ◌∷◌, ◌++◌, Option, Some, None, refl, sym, ◌∙◌, subst, append_assoc}
use Rattle.std.proofs.lemmas.List.{append_cancel_right, append-nil}
use Rattle.hub_io.specs.Record.{Since, Records}
use Rattle.hub_io.proofs.Record.{since-starts, since-grows, since-joins}
use Rattle.many_io.specs.Record.{ManyCall}
use Rattle.serving_loop.specs.Carrying.{Carries}

-- no call was made
pub Carries-none : (Before After : List ManyCall → Type 0) (now : Option (List ManyCall)) → ((calls : List ManyCall) → Before calls → After calls) → Carries now Before now After
Carries-none Before After now follows = record { since = since-starts now (λ later. (earlier : List ManyCall) → Before earlier → After (later ++ earlier)) follows }

-- one call was made
pub Carries-call : (Before After : List ManyCall → Type 0) (old new : Option (List ManyCall)) (call : ManyCall) → Records old call new → ((calls : List ManyCall) → Before calls → After (call ∷ calls)) → Carries old Before new After
Carries-call Before After old new call records follows = record {
  since =
      since-grows old old new call (λ later. later ≡ []) (λ later. (earlier : List ManyCall) → Before earlier → After (later ++ earlier))
      (λ later none earlier before. let P : List ManyCall → Type 0 = λ l. After (call ∷ (l ++ earlier)) in subst P (sym none) (follows earlier before))
      (since-starts old (λ later. later ≡ []) refl)
      records;
}

-- one after another
pub Carries-then : {A B C : List ManyCall → Type 0} {old mid new : Option (List ManyCall)} → Carries old A mid B → Carries mid B new C → Carries old A new C
Carries-then {A = A} {B = B} {C = C} {old = old} {mid = mid} {new = new} first second = record {
  since =
      since-joins old mid new (λ later. (earlier : List ManyCall) → A earlier → B (later ++ earlier)) (λ later. (earlier : List ManyCall) → B earlier → C (later ++ earlier)) (λ later. (earlier : List ManyCall) → A earlier → C (later ++ earlier))
      (λ front back p q earlier before. let P : List ManyCall → Type 0 = C in subst P (sym (append_assoc back front earlier)) (q (front ++ earlier) (p earlier before)))
      first.since second.since;
}

-- what is known of the newer calls by themselves is known besides
pub Carries-with : {A B : List ManyCall → Type 0} (P : List ManyCall → Type 0) (old new : Option (List ManyCall)) → Since old new P → Carries old A new B
    → Carries old A new (λ calls. (earlier : List ManyCall) × (later : List ManyCall) × (calls ≡ later ++ earlier) × P later × A earlier × B calls)
Carries-with P old None known carries = record { since = tt }
Carries-with P None (Some new) known carries = absurd known
Carries-with P (Some old) (Some new) known carries =
    let is : carries.since.0 ≡ known.0 = append_cancel_right carries.since.0 known.0 old (sym carries.since.1 ∙ known.1) in
    record { since = (carries.since.0, carries.since.1, λ earlier before. (earlier, carries.since.0, refl, subst P (sym is) known.2, before, carries.since.2 earlier before)) }

-- what is carried from no calls holds of those since then
pub since-carried : {A B : List ManyCall → Type 0} (old new : Option (List ManyCall)) → A [] → Carries old A new B → Since old new B
since-carried old None start carries = tt
since-carried None (Some new) start carries = absurd carries.since
since-carried {B = B} (Some old) (Some new) start carries =
    (carries.since.0, carries.since.1, subst B (append-nil carries.since.0) (carries.since.2 [] start))
