-- The messages of a piece are shown one at a time.
use Rattle.std.proofs.Common.{◌≡◌, ℕ, ◌+◌, ◌-◌, ◌^◌, ◌<◌, min, List, [], ◌∷◌, ◌++◌, length, append_assoc, length-append, refl, ap, sym, ◌∙◌, subst, arith}
use Rattle.std.proofs.lemmas.List.{append-nil}
use Rattle.std.specs.List.{concat}
use Rattle.kit_bytes.proofs.Lists.{concat-push}
use Rattle.stream_lines.specs.Lines.{Showing, lines_behind, place_behind}
use Rattle.stream_lines.specs.Pieces.{ShowsAll}

-- the lines of messages and of others behind them
pub lines-append : (shown : Showing) (before messages more : List (List ℕ)) → lines_behind shown before (messages ++ more) ≡ lines_behind shown before messages ++ lines_behind shown (before ++ messages) more
lines-append shown before [] more = ap (λ (l : List (List ℕ)). lines_behind shown l more) (sym (append-nil before))
lines-append shown before (m ∷ messages) more =
    ap (λ (l : List ℕ). shown before m ++ l) (lines-append shown (before ++ m ∷ []) messages more
    ∙ ap (λ (l : List (List ℕ)). lines_behind shown (before ++ m ∷ []) messages ++ lines_behind shown l more) (append_assoc before (m ∷ []) messages))
    ∙ sym (append_assoc (shown before m) (lines_behind shown (before ++ m ∷ []) messages) (lines_behind shown (before ++ m ∷ messages) more))

-- of all these messages those that are left are still to be shown, behind the others; so many bytes are left with them
pub record IsShowing {S : Type 0} (shows : Showing → List (List ℕ) → S → Type 0) (shown : Showing) (before all : List (List ℕ)) (old : List ℕ) (left : List (List ℕ)) (room : ℕ) (state : S) (place : ℕ) (lines : List ℕ) : Type 0 where
  pub done : List (List ℕ)
  pub kept : shows shown done state
  pub placed : place ≡ place_behind done
  pub short : place_behind done + room < 2 ^ 64
  pub others : done ++ left ≡ before ++ all
  pub said : lines ++ lines_behind shown done left ≡ old ++ lines_behind shown before all

module _ {S : Type 0} (shows : Showing → List (List ℕ) → S → Type 0) (shown : Showing) (before all : List (List ℕ)) (old : List ℕ) where
  -- nothing is shown yet
  pub shows_first : (state : S) (room place : ℕ) → shows shown before state → place ≡ place_behind before → place_behind before + room < 2 ^ 64 → IsShowing shows shown before all old all room state place old
  shows_first state room place kept is short = record { done = before; kept = kept; placed = is; short = short; others = refl; said = refl }

  -- the first of those that are left is shown
  pub shows_one : (left later : List (List ℕ)) (m : List ℕ) (state next : S) (room after place further : ℕ) (lines more : List ℕ) → IsShowing shows shown before all old left room state place lines → left ≡ m ∷ later
      → ((done : List (List ℕ)) → shows shown done state → shows shown (done ++ m ∷ []) next) → ((done : List (List ℕ)) → shows shown done state → place ≡ place_behind done → more ≡ lines ++ shown done m)
      → room ≡ length m + after → further ≡ min (place + length m) (2 ^ 64 - 1) → IsShowing shows shown before all old later after next further more
  shows_one left later m state next room after place further lines more it first keeps_on is room_is further_is =
      let pushed : place_behind (it.done ++ m ∷ []) ≡ place_behind it.done + length m = ap length (concat-push it.done m) ∙ length-append (concat it.done) m in
      record {
        done = it.done ++ m ∷ [];
        kept = keeps_on it.done it.kept;
        placed = omega (arith, pushed, further_is, room_is, it.placed, it.short);
        short = omega (arith, pushed, room_is, it.short);
        others = append_assoc it.done (m ∷ []) later ∙ sym (ap (λ (l : List (List ℕ)). it.done ++ l) first) ∙ it.others;
        said =
            ap (λ (l : List ℕ). l ++ lines_behind shown (it.done ++ m ∷ []) later) (is it.done it.kept it.placed)
            ∙ append_assoc lines (shown it.done m) (lines_behind shown (it.done ++ m ∷ []) later)
            ∙ sym (ap (λ (l : List (List ℕ)). lines ++ lines_behind shown it.done l) first)
            ∙ it.said;
      }

  -- none is left
  pub shows_last : (left : List (List ℕ)) (room place : ℕ) (state : S) (lines : List ℕ) → IsShowing shows shown before all old left room state place lines → left ≡ [] → ShowsAll shows shown before all state place old lines
  shows_last left room place state lines it none =
      let done_is : it.done ≡ before ++ all = sym (append-nil it.done) ∙ sym (ap (λ (l : List (List ℕ)). it.done ++ l) none) ∙ it.others in
      let Kept : List (List ℕ) → Type 0 = λ l. shows shown l state in
      record {
        kept = subst Kept done_is it.kept;
        placed = it.placed ∙ ap place_behind done_is;
        said = sym (append-nil lines) ∙ sym (ap (λ (l : List (List ℕ)). lines ++ lines_behind shown it.done l) none) ∙ it.said;
      }
