-- The bytes taken and those that wait are all the bytes, and no more wait than there is room for.
use Rattle.std.proofs.Common.{◌≡◌, ℕ, ◌+◌, ◌≤◌, Bool, true, false, ◌||◌, nat_lt, if◌then◌else◌, List, [], ◌∷◌, ◌++◌, length, take, drop, refl, ap, sym, ◌∙◌, arith, append_assoc, take-append-drop, length-append, length-take-le, length-drop}
use Rattle.std.proofs.Math.Seq.{drop-append_seam, take-append_seam}
use Rattle.std.proofs.lemmas.Bool.Decides.{nat_tests}
use Rattle.proxy_history.specs.View.{Entry, Said, Response, Refused, Indication, OpenedWith, Shut, Taking, End}
use Rattle.proxy_history.specs.Rendering.{Rendering, EntryText, render, put, put_unless}
use Rattle.proxy_history.specs.Laws.{taken_bytes, taken_count, TakesWhatWaits, IsSplitByCount}

put_unless-split : (over : Bool) (new front : List ℕ) (r : Rendering) → r.bytes ≡ front ++ r.waiting → (put_unless over new r).bytes ≡ front ++ (put_unless over new r).waiting
put_unless-split true new front r split = split
put_unless-split false new front r split = ap (λ (l : List ℕ). l ++ new) split ∙ append_assoc front r.waiting new

put-split : (room : ℕ) (new front : List ℕ) (r : Rendering) → r.bytes ≡ front ++ r.waiting → (put room new r).bytes ≡ front ++ (put room new r).waiting
put-split room new front r split = put_unless-split (r.is_over || nat_lt room (length r.waiting + length new)) new front r split

module _ (room : ℕ) (text : EntryText) where
  pub taken_and_waiting : (entries : List Entry) → (render room text entries).bytes ≡ taken_bytes room text entries ++ (render room text entries).waiting
  unfolding render taken_bytes
  taken_and_waiting [] = refl
  taken_and_waiting (Taking count ∷ entries) =
      taken_and_waiting entries
      ∙ ap (λ (l : List ℕ). taken_bytes room text entries ++ l) (sym (take-append-drop count (render room text entries).waiting))
      ∙ sym (append_assoc (taken_bytes room text entries) (take count (render room text entries).waiting) (drop count (render room text entries).waiting))
  taken_and_waiting (Said message verdict ∷ entries) = put-split room (text entries (Said message verdict)) (taken_bytes room text entries) (render room text entries) (taken_and_waiting entries)
  taken_and_waiting (Response place message ∷ entries) = put-split room (text entries (Response place message)) (taken_bytes room text entries) (render room text entries) (taken_and_waiting entries)
  taken_and_waiting (Refused place cause ∷ entries) = put-split room (text entries (Refused place cause)) (taken_bytes room text entries) (render room text entries) (taken_and_waiting entries)
  taken_and_waiting (Indication message ∷ entries) = put-split room (text entries (Indication message)) (taken_bytes room text entries) (render room text entries) (taken_and_waiting entries)
  taken_and_waiting (OpenedWith status ∷ entries) = put-split room (text entries (OpenedWith status)) (taken_bytes room text entries) (render room text entries) (taken_and_waiting entries)
  taken_and_waiting (Shut ∷ entries) = taken_and_waiting entries
  taken_and_waiting (End why ∷ entries) = taken_and_waiting entries

  length-taken_bytes : (entries : List Entry) → TakesWhatWaits room text entries → length (taken_bytes room text entries) ≡ taken_count entries
  unfolding taken_bytes taken_count
  length-taken_bytes [] c = refl
  length-taken_bytes (Taking count ∷ entries) c =
      length-append (taken_bytes room text entries) (take count (render room text entries).waiting)
      ∙ ap (λ (n : ℕ). n + length (take count (render room text entries).waiting)) (length-taken_bytes entries c.1)
      ∙ ap (λ (n : ℕ). taken_count entries + n) (length-take-le count (render room text entries).waiting c.0)
  length-taken_bytes (Said message verdict ∷ entries) c = length-taken_bytes entries c
  length-taken_bytes (Response place message ∷ entries) c = length-taken_bytes entries c
  length-taken_bytes (Refused place cause ∷ entries) c = length-taken_bytes entries c
  length-taken_bytes (Indication message ∷ entries) c = length-taken_bytes entries c
  length-taken_bytes (OpenedWith status ∷ entries) c = length-taken_bytes entries c
  length-taken_bytes (Shut ∷ entries) c = length-taken_bytes entries c
  length-taken_bytes (End why ∷ entries) c = length-taken_bytes entries c

  pub split_by_count : (entries : List Entry) → TakesWhatWaits room text entries → IsSplitByCount room text entries
  split_by_count entries c = record {
    taken_bytes = sym (ap (λ (l : List ℕ). take (taken_count entries) l) (taken_and_waiting entries)
        ∙ ap (λ (n : ℕ). take n (taken_bytes room text entries ++ (render room text entries).waiting)) (sym (length-taken_bytes entries c))
        ∙ take-append_seam (taken_bytes room text entries) (render room text entries).waiting);
    waiting = sym (ap (λ (l : List ℕ). drop (taken_count entries) l) (taken_and_waiting entries)
        ∙ ap (λ (n : ℕ). drop n (taken_bytes room text entries ++ (render room text entries).waiting)) (sym (length-taken_bytes entries c))
        ∙ drop-append_seam (taken_bytes room text entries) (render room text entries).waiting);
  }

-- ---- no more waits than there is room for ----

put_within : (room : ℕ) (new : List ℕ) (r : Rendering) → length r.waiting ≤ room → length (put room new r).waiting ≤ room
put_within room new r within =
    let step : (over full : Bool) → nat_lt room (length r.waiting + length new) ≡ full → length (if over || full then r.waiting else r.waiting ++ new) ≤ room =
    λ over full. elim over as (λ over. nat_lt room (length r.waiting + length new) ≡ full → length (if over || full then r.waiting else r.waiting ++ new) ≤ room) [
      | true ↦ λ e. within
      | false ↦ λ e. elim full as (λ full. nat_lt room (length r.waiting + length new) ≡ full → length (if full then r.waiting else r.waiting ++ new) ≤ room) [
        | true ↦ λ e. within
        | false ↦ λ e. let both = length-append r.waiting new in grind (arith, nat_tests, e, both)
      ] e
    ]
    in step r.is_over (nat_lt room (length r.waiting + length new)) refl

module _ (room : ℕ) (text : EntryText) where
  pub waiting_within : (entries : List Entry) → length (render room text entries).waiting ≤ room
  unfolding render
  waiting_within [] = omega arith
  waiting_within (Taking count ∷ entries) = let before = waiting_within entries in let left = length-drop count (render room text entries).waiting in omega arith
  waiting_within (Said m verdict ∷ entries) = put_within room (text entries (Said m verdict)) (render room text entries) (waiting_within entries)
  waiting_within (Response place m ∷ entries) = put_within room (text entries (Response place m)) (render room text entries) (waiting_within entries)
  waiting_within (Refused place cause ∷ entries) = put_within room (text entries (Refused place cause)) (render room text entries) (waiting_within entries)
  waiting_within (Indication m ∷ entries) = put_within room (text entries (Indication m)) (render room text entries) (waiting_within entries)
  waiting_within (OpenedWith status ∷ entries) = put_within room (text entries (OpenedWith status)) (render room text entries) (waiting_within entries)
  waiting_within (Shut ∷ entries) = waiting_within entries
  waiting_within (End why ∷ entries) = waiting_within entries
