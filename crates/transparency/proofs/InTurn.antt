-- Requests in turn, and one more behind them.
use Rattle.std.proofs.Common.{◌≡◌, ℕ, List, [], ◌∷◌, ◌++◌, Option, refl, sym, ◌∙◌, ap, subst, append_assoc, map, reverse}
use Rattle.std.proofs.lemmas.List.{append-nil, map-append, reverse-append}
use Rattle.core_bench.specs.Runs.{Run}
use Rattle.rig_stage.specs.Running.{AreRecorded}
use Rattle.transparency.specs.Trial.{Trial}
use Rattle.transparency.specs.Lines.{Adds, AreLines, IsLine, Named, Shown, runs_for}

one_more : {R : Type 0} (Is : Named R → List ℕ → Type 0) (requests : List (Named R)) (named : Named R) (lines line : List ℕ) → AreLines Is requests lines → Is named line
    → AreLines Is (requests ++ named ∷ []) (lines ++ line)
one_more Is [] named lines line none is = record { line = line; more = []; first = is; rest = refl; lines_are = ap (λ (l : List ℕ). l ++ line) none ∙ sym (append-nil line) }
one_more Is (first ∷ requests) named lines line each is = record {
  line = each.line;
  more = each.more ++ line;
  first = each.first;
  rest = one_more Is requests named each.more line each.rest is;
  lines_are = ap (λ (l : List ℕ). l ++ line) each.lines_are ∙ append_assoc each.line each.more line;
}

run_last : {R : Type 0} (trial : Trial R) (requests : List (Named R)) (named : Named R) → runs_for trial (requests ++ named ∷ []) ≡ trial.run_of named.asked ∷ runs_for trial requests
run_last {R = R} trial requests named =
    let run : Named R → Run = λ named. trial.run_of named.asked in
    ap reverse (map-append run requests (named ∷ [])) ∙ reverse-append (map run requests) (run named ∷ [])

pub none_shown : {R : Type 0} (trial : Trial R) (runs : Option (List Run)) → Shown trial [] [] runs runs
none_shown trial runs = record { lines_are = refl; ran = λ earlier told. told }

pub goes_on : {R : Type 0} (trial : Trial R) (requests : List (Named R)) (named : Named R) (lines more : List ℕ) (old mid new : Option (List Run)) → Shown trial requests lines old mid
    → Adds trial named lines more mid new → Shown trial (requests ++ named ∷ []) more old new
goes_on trial requests named lines more old mid new shown one =
    subst (λ (l : List ℕ). Shown trial (requests ++ named ∷ []) l old new) (sym one.lines_are) (record {
      lines_are = one_more (IsLine trial) requests named lines one.line shown.lines_are one.is_line;
      ran = λ earlier told. subst (λ (l : List Run). AreRecorded new (l ++ earlier)) (sym (run_last trial requests named)) (one.ran (runs_for trial requests ++ earlier) (shown.ran earlier told));
    })
