-- What is left of a run goes on as the run itself.
use Rattle.std.proofs.Common.{◌≡◌, ℕ, ◌+◌, ◌==◌, Bool, true, false, List, [], ◌∷◌, ◌++◌, length, refl, sym, ◌∙◌, ap}
use Rattle.std.specs.Prelude.{not, ◌&&◌, nat_lt, if◌then◌else◌, Some}
use Rattle.std.proofs.lemmas.Bool.{and_parts, eqb-true}
use Rattle.mbim_frame.specs.Head.{number_of}
use Rattle.mbim_frame.specs.Fragment.{total_of, current_of, body_of}
use Rattle.mbim_fragments.specs.Runs.{Joining, More, Whole, OutOfSequence, TooLong, joined, is_due, joining, joining_due, run_with}
use Rattle.mbim_fragments.specs.Assembling.{Assembled, AssembliesStandForRuns, assembled_of, is_due_behind, joining_behind, left_by}
use Rattle.mbim_fragments.proofs.Joining.{joined-push}
use Rattle.std.proofs.lemmas.List.{length_push}

due_same : (run : List (List ℕ)) (fragment : List ℕ) → is_due_behind (assembled_of run).progress fragment ≡ is_due run fragment
due_same [] fragment = refl
due_same (first ∷ run) fragment = refl

body_same : (run : List (List ℕ)) → (assembled_of run).body ≡ joined run
body_same [] = refl
body_same (first ∷ run) = refl

-- the place of the fragment that is due is the length of the run
place_is : (run : List (List ℕ)) (fragment : List ℕ) → is_due run fragment ≡ true → current_of fragment ≡ length run
place_is [] fragment due = eqb-true (current_of fragment) 0 (and_parts (current_of fragment == 0) (nat_lt 0 (total_of fragment)) due).0
place_is (first ∷ run) fragment due =
    eqb-true (current_of fragment) (length (first ∷ run)) (and_parts (number_of fragment == number_of first && (total_of fragment == total_of first)) (current_of fragment == length (first ∷ run)) due).1

-- so the run with it is the one that it says
left_same : (run : List (List ℕ)) (fragment : List ℕ) → is_due run fragment ≡ true → left_by More (assembled_of run) fragment ≡ assembled_of (run ++ fragment ∷ [])
left_same [] fragment due =
    ap (λ (count : ℕ). let a : Assembled = record { progress = Some (record { number = number_of fragment; total = total_of fragment; count = count + 1 }); body = body_of fragment } in a) (place_is [] fragment due)
    ∙ ap (λ (body : List ℕ). let a : Assembled = record { progress = Some (record { number = number_of fragment; total = total_of fragment; count = 1 }); body = body } in a) (sym (joined-push [] fragment))
left_same (first ∷ run) fragment due =
    let parts = and_parts (number_of fragment == number_of first && (total_of fragment == total_of first)) (current_of fragment == length (first ∷ run)) due in
    let same = and_parts (number_of fragment == number_of first) (total_of fragment == total_of first) parts.0 in
    let number = eqb-true (number_of fragment) (number_of first) same.0 in
    let total = eqb-true (total_of fragment) (total_of first) same.1 in
    let count : current_of fragment + 1 ≡ length (first ∷ run ++ fragment ∷ []) = ap (λ (n : ℕ). n + 1) (place_is (first ∷ run) fragment due) ∙ sym (length_push (first ∷ run) fragment) in
    rw (number, total, count, joined-push (first ∷ run) fragment) refl

module _ (longest : ℕ) (run : List (List ℕ)) (fragment : List ℕ) where
  abbrev joining_if : (due : Bool) → (count : ℕ) → (body : List ℕ) → Joining
  joining_if due count body =
      if not due then OutOfSequence
      else if nat_lt longest (length body) then TooLong
      else if count == total_of fragment then Whole body
      else More

  due_or_not : (b : Bool) → is_due run fragment ≡ b → joining_if b (current_of fragment + 1) (joined run ++ body_of fragment) ≡ (if b then joining_due longest (run ++ fragment ∷ []) (total_of fragment) else OutOfSequence)
  due_or_not false out = refl
  due_or_not true due =
      ap (λ (count : ℕ). joining_if true count (joined run ++ body_of fragment)) (ap (λ (n : ℕ). n + 1) (place_is run fragment due) ∙ sym (length_push run fragment))
      ∙ ap (joining_if true (length (run ++ fragment ∷ []))) (sym (joined-push run fragment))

  joins_as_run : joining_behind longest (assembled_of run) fragment ≡ joining longest run fragment
  joins_as_run =
      ap (λ (b : Bool). joining_if b (current_of fragment + 1) ((assembled_of run).body ++ body_of fragment)) (due_same run fragment)
      ∙ ap (λ (body : List ℕ). joining_if (is_due run fragment) (current_of fragment + 1) (body ++ body_of fragment)) (body_same run)
      ∙ due_or_not (is_due run fragment) refl

  -- only where more is to follow something is left, and then the fragment was due
  left_by_it : (due : Bool) → is_due run fragment ≡ due → (j : Joining) → joining longest run fragment ≡ j → left_by j (assembled_of run) fragment ≡ assembled_of (run_with run fragment j)
  left_by_it true due More is = left_same run fragment due
  left_by_it false out More is = absurd (let clash : OutOfSequence ≡ More = sym (ap (λ (b : Bool). if b then joining_due longest (run ++ fragment ∷ []) (total_of fragment) else OutOfSequence) out) ∙ is in cc)
  left_by_it due at (Whole body) is = refl
  left_by_it due at OutOfSequence is = refl
  left_by_it due at TooLong is = refl

pub assemblies_stand_for_runs : AssembliesStandForRuns
assemblies_stand_for_runs longest run fragment = record {
  joining_is = joins_as_run longest run fragment;
  left =
      ap (λ (j : Joining). left_by j (assembled_of run) fragment) (joins_as_run longest run fragment)
      ∙ left_by_it longest run fragment (is_due run fragment) refl (joining longest run fragment) refl;
}
