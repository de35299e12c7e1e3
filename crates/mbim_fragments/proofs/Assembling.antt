-- The last fragment of a message.
use Rattle.std.proofs.Common.{◌≡◌, ℕ, ◌+◌, ◌≤◌, ◌==◌, Bool, true, false, List, ◌++◌, length, Some, None, refl, ◌∙◌, ap, arith, length-append}
use Rattle.std.specs.Prelude.{not, nat_lt, if◌then◌else◌}
use Rattle.std.proofs.lemmas.Bool.{le-ltb, eq-eqb}
use Rattle.mbim_frame.specs.Fragment.{total_of, current_of, body_of}
use Rattle.mbim_fragments.specs.declared.assembly.Progress.{Progress}
use Rattle.mbim_fragments.specs.Runs.{Joining, More, Whole, OutOfSequence, TooLong}
use Rattle.mbim_fragments.specs.Assembling.{Assembled, is_due_behind, progress_with, progress_behind, joining_behind}

-- the fragment is due, and this is the progress with it
record IsProgress (a : Assembled) (fragment : List ℕ) (progress : Progress) : Type 0 where
  due : is_due_behind a.progress fragment ≡ true
  same : progress ≡ progress_with fragment

module _ (longest : ℕ) (a : Assembled) (fragment : List ℕ) (progress : Progress) (is : Some progress ≡ progress_behind a.progress fragment) where
  progress_is : IsProgress a fragment progress
  progress_is = by (is_due_behind a.progress fragment) refl is
    where
      by : (due : Bool) → is_due_behind a.progress fragment ≡ due → Some progress ≡ (if due then Some (progress_with fragment) else None) → IsProgress a fragment progress
      by true due is = record { due = due; same = cc }
      by false out is = absurd (cc)

  abbrev joining_if : (due long last : Bool) → Joining
  joining_if due long last = if not due then OutOfSequence else if long then TooLong else if last then Whole (a.body ++ body_of fragment) else More

  pub joins-whole : length a.body + length (body_of fragment) ≤ longest → progress.count ≤ progress.total → progress.total ≤ progress.count → joining_behind longest a fragment ≡ Whole (a.body ++ body_of fragment)
  joins-whole short least most =
      let body = a.body ++ body_of fragment in
      let within : nat_lt longest (length body) ≡ false = le-ltb longest (length body) (omega (arith, short, length-append a.body (body_of fragment))) in
      let last : current_of fragment + 1 ≡ total_of fragment = omega (arith, least, most, ap (λ (p : Progress). p.count) progress_is.same, ap (λ (p : Progress). p.total) progress_is.same) in
      ap (λ (b : Bool). joining_if b (nat_lt longest (length body)) (current_of fragment + 1 == total_of fragment)) progress_is.due
      ∙ ap (λ (b : Bool). joining_if true b (current_of fragment + 1 == total_of fragment)) within
      ∙ ap (λ (b : Bool). joining_if true false b) (eq-eqb (current_of fragment + 1) (total_of fragment) last)
