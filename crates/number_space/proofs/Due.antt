-- The numbers whose time has come are taken one after another.
use Rattle.std.proofs.Common.{◌≡◌, ℕ, zero, suc, ◌<◌, ◌≤◌, Bool, true, false, not, cond, ◌&&◌, ◌==◌, nat_le, List, [], ◌∷◌, length, map, filter, refl, ap, sym, ◌∙◌, arith, Option, Some, None, option_map}
use Rattle.std.proofs.lemmas.Bool.{eq-eqb, eqb-true}
use Rattle.number_space.specs.declared.space.Row.{Row}
use Rattle.number_space.specs.Table.{Table, row_of, settled_where, settles_number, first_due, expires, expires_row}

-- ---- how many of the rows somebody waits for ----

pub waiting_count : {N : Type 0} → List (Row N) → ℕ
waiting_count {N} rows = length (filter (λ (row : Row N). row.pending) rows)

count_is : {N : Type 0} (row : Row N) (rows : List (Row N)) → waiting_count (row ∷ rows) ≡ cond row.pending (suc (waiting_count rows)) (waiting_count rows)
unfolding waiting_count
count_is {N} row rows = elim row.pending as (λ b. length (cond b (row ∷ filter (λ (r : Row N). r.pending) rows) (filter (λ (r : Row N). r.pending) rows)) ≡ cond b (suc (length (filter (λ (r : Row N). r.pending) rows))) (length (filter (λ (r : Row N). r.pending) rows))) [ true ↦ refl | false ↦ refl ]

count_none : (N : Type 0) → waiting_count {N = N} [] ≡ 0
unfolding waiting_count
count_none N = refl

pub count_within : {N : Type 0} (rows : List (Row N)) → waiting_count rows ≤ length rows
count_within {N} [] = let none = count_none N in omega arith
count_within {N} (row ∷ rows) =
    let rest = count_within rows in
    let is = count_is row rows in
    elim row.pending as (λ b. waiting_count (row ∷ rows) ≡ cond b (suc (waiting_count rows)) (waiting_count rows) → waiting_count (row ∷ rows) ≤ length (row ∷ rows)) [ true ↦ λ is. omega arith | false ↦ λ is. omega arith ] is

-- where nobody waits any more for some rows, no more are waited for
pub count_settled : {N : Type 0} (test : Row N → Bool) (rows : List (Row N)) → waiting_count (map (settled_where test) rows) ≤ waiting_count rows
count_settled {N} test [] = let none = count_none N in omega arith
count_settled {N} test (row ∷ rows) =
    by (test row) row.pending (count_settled test rows) (count_is row rows) (count_is (settled_where test row) (map (settled_where test) rows))
  where
    by : (t b : Bool) → waiting_count (map (settled_where test) rows) ≤ waiting_count rows → waiting_count (row ∷ rows) ≡ cond b (suc (waiting_count rows)) (waiting_count rows)
        → waiting_count (settled_where test row ∷ map (settled_where test) rows) ≡ cond (not t && b) (suc (waiting_count (map (settled_where test) rows))) (waiting_count (map (settled_where test) rows)) → waiting_count (settled_where test row ∷ map (settled_where test) rows) ≤ waiting_count (row ∷ rows)
    by true true rest was now = omega arith
    by true false rest was now = omega arith
    by false true rest was now = omega arith
    by false false rest was now = omega arith

-- one that was due is waited for no more
pub count_expired : {N : Type 0} (time : ℕ) (rows : List (Row N)) (row : Row N) → first_due time rows ≡ Some row → waiting_count (settles_number row.number rows) < waiting_count rows
count_expired {N} time [] row e = absurd (cc)
count_expired {N} time (r ∷ rows) row e = step (λ found. count_expired time rows row found) r.pending (nat_le r.deadline time) refl refl e
  where
    was : waiting_count (r ∷ rows) ≡ cond r.pending (suc (waiting_count rows)) (waiting_count rows)
    was = count_is r rows

    now : waiting_count (settles_number row.number (r ∷ rows)) ≡ cond (not (row.number == r.number) && r.pending) (suc (waiting_count (settles_number row.number rows))) (waiting_count (settles_number row.number rows))
    now = count_is (settled_where (λ (q : Row N). row.number == q.number) r) (settles_number row.number rows)

    later : waiting_count (settles_number row.number rows) < waiting_count rows → (t b : Bool)
        → waiting_count (settles_number row.number (r ∷ rows)) ≡ cond (not t && b) (suc (waiting_count (settles_number row.number rows))) (waiting_count (settles_number row.number rows))
        → waiting_count (r ∷ rows) ≡ cond b (suc (waiting_count rows)) (waiting_count rows) → waiting_count (settles_number row.number (r ∷ rows)) < waiting_count (r ∷ rows)
    later less true true now was = omega arith
    later less true false now was = omega arith
    later less false true now was = omega arith
    later less false false now was = omega arith

    here : r.pending ≡ true → r ≡ row → waiting_count (settles_number row.number (r ∷ rows)) < waiting_count (r ∷ rows)
    here ew same =
        let numbers : (row.number == r.number) ≡ true = eq-eqb row.number r.number (ap (λ (q : Row N). q.number) (sym same)) in
        let before : waiting_count (r ∷ rows) ≡ suc (waiting_count rows) = was ∙ ap (λ (b : Bool). cond b (suc (waiting_count rows)) (waiting_count rows)) ew in
        let after : waiting_count (settles_number row.number (r ∷ rows)) ≡ waiting_count (settles_number row.number rows) =
        now ∙ ap (λ (b : Bool). cond (not b && r.pending) (suc (waiting_count (settles_number row.number rows))) (waiting_count (settles_number row.number rows))) numbers in
        let rest = count_settled (λ (q : Row N). row.number == q.number) rows in
        omega arith

    step : (first_due time rows ≡ Some row → waiting_count (settles_number row.number rows) < waiting_count rows) → (w d : Bool) → r.pending ≡ w → nat_le r.deadline time ≡ d → cond (w && d) (Some r) (first_due time rows) ≡ Some row → waiting_count (settles_number row.number (r ∷ rows)) < waiting_count (r ∷ rows)
    step rest true true ew ed found = let same : r ≡ row = cc in here ew same
    step rest true false ew ed found = later (rest found) (row.number == r.number) r.pending now was
    step rest false d ew ed found = later (rest found) (row.number == r.number) r.pending now was

-- ---- what taking them makes of the numbers ----

pub silenced_is : {N : Type 0} (time : ℕ) (numbers : Table N) (row : Row N) → first_due time numbers.rows ≡ Some row → expires time numbers ≡ record numbers { rows = settles_number row.number numbers.rows }
silenced_is time numbers row due = ap (λ o. expires_row o numbers) due

pub unchanged_is : {N : Type 0} (time : ℕ) (numbers : Table N) → first_due time numbers.rows ≡ None → expires time numbers ≡ numbers
unchanged_is time numbers none = ap (λ o. expires_row o numbers) none

-- ---- enough turns: `run` has at most so many, and each takes the first that is due ----

module _ {N X : Type 0} (time : ℕ) (rows : X → List (Row N)) (after : Row N → X → X) (run : ℕ → X → X)
    (zero_is : (x : X) → run zero x ≡ x)
    (suc_is : (count : ℕ) (x : X) → run (suc count) x ≡ elim (first_due time (rows x)) [ None ↦ x | Some row ↦ run count (after row x) ])
    (less : (row : Row N) (x : X) → first_due time (rows x) ≡ Some row → (waiting_count (rows (after row x)) < waiting_count (rows x)) × (length (rows (after row x)) ≡ length (rows x))) where
  turn_none : (count : ℕ) (x : X) → first_due time (rows x) ≡ None → run count x ≡ x
  turn_none zero x none = zero_is x
  turn_none (suc count) x none = suc_is count x ∙ ap (λ (o : Option (Row N)). elim o [ None ↦ x | Some row ↦ run count (after row x) ]) none

  turn_some : (count : ℕ) (x : X) (row : Row N) → first_due time (rows x) ≡ Some row → run (suc count) x ≡ run count (after row x)
  turn_some count x row some = suc_is count x ∙ ap (λ (o : Option (Row N)). elim o [ None ↦ x | Some row ↦ run count (after row x) ]) some

  one_more : (count : ℕ) (x : X) → waiting_count (rows x) ≤ count → run count x ≡ run (suc count) x
  one_more zero x enough = by (first_due time (rows x)) refl
    where
      by : (o : Option (Row N)) → first_due time (rows x) ≡ o → run zero x ≡ run (suc zero) x
      by None none = turn_none zero x none ∙ sym (turn_none (suc zero) x none)
      by (Some row) some = let fewer = (less row x some).0 in absurd (omega arith)
  one_more (suc count) x enough = by (λ y fewer. one_more count y fewer) (first_due time (rows x)) refl
    where
      by : ((y : X) → waiting_count (rows y) ≤ count → run count y ≡ run (suc count) y) → (o : Option (Row N)) → first_due time (rows x) ≡ o → run (suc count) x ≡ run (suc (suc count)) x
      by more None none = turn_none (suc count) x none ∙ sym (turn_none (suc (suc count)) x none)
      by more (Some row) some =
          let fewer = (less row x some).0 in
          turn_some count x row some ∙ more (after row x) (omega arith) ∙ sym (turn_some (suc count) x row some)

  abbrev run_all : X → X
  run_all x = run (length (rows x)) x

  pub all_done : (x : X) → first_due time (rows x) ≡ None → run_all x ≡ x
  all_done x none = turn_none (length (rows x)) x none

  pub all_turn : (x : X) (row : Row N) → first_due time (rows x) ≡ Some row → run_all (after row x) ≡ run_all x
  all_turn x row some = let both = less row x some in by_length (length (rows x)) refl (count_within (rows x)) both.0 both.1
    where
      by_length : (count : ℕ) → length (rows x) ≡ count → waiting_count (rows x) ≤ length (rows x) → waiting_count (rows (after row x)) < waiting_count (rows x) → length (rows (after row x)) ≡ length (rows x) → run_all (after row x) ≡ run_all x
      by_length zero is within fewer same = absurd (omega arith)
      by_length (suc count) is within fewer same =
          ap (λ (n : ℕ). run n (after row x)) (same ∙ is) ∙ sym (one_more count (after row x) (omega arith)) ∙ sym (turn_some count x row some) ∙ ap (λ (n : ℕ). run n x) (sym is)

-- ---- a row, from what the code sees of it ----

abbrev noted : {N : Type 0} → Row N → ℕ × N
noted row = (row.conn, row.note)

abbrev seen : {N : Type 0} → ℕ → N → ℕ × N
seen name note = (name, note)

pub record DueRow {N : Type 0} (time name : ℕ) (note : N) (rows : List (Row N)) : Type 0 where
  pub row : Row N
  pub due : first_due time rows ≡ Some row
  pub conn : row.conn ≡ name
  pub asked : row.note ≡ note

pub due_row : {N : Type 0} (time name : ℕ) (note : N) (rows : List (Row N)) → Some (seen name note) ≡ option_map noted (first_due time rows) → DueRow time name note rows
due_row {N} time name note rows e = by_row (first_due time rows) refl e
  where
    by_row : (o : Option (Row N)) → first_due time rows ≡ o → Some (seen name note) ≡ option_map noted o → DueRow time name note rows
    by_row None is e = absurd (cc)
    by_row (Some row) is e =
        let pair : seen name note ≡ noted row = cc in
        record { row = row; due = is; conn = sym (ap (λ (p : ℕ × N). p.0) pair); asked = sym (ap (λ (p : ℕ × N). p.1) pair) }

abbrev nobody : {N : Type 0} → Option (ℕ × N)
nobody = None

pub none_due : {N : Type 0} (time : ℕ) (rows : List (Row N)) → nobody ≡ option_map noted (first_due time rows) → first_due time rows ≡ None
none_due {N} time rows e = by_row (first_due time rows) e
  where
    by_row : (o : Option (Row N)) → nobody ≡ option_map noted o → o ≡ None
    by_row None e = refl
    by_row (Some row) e = absurd (cc)

-- ---- the row of an answer's number ----

abbrev pub looked : {N : Type 0} → Row N → ℕ × N × Bool
looked row = (row.conn, row.note, row.pending)

abbrev found : {N : Type 0} → ℕ → N → Bool → ℕ × N × Bool
found name note waits = (name, note, waits)

pub record FoundRow {N : Type 0} (number name : ℕ) (note : N) (waits : Bool) (rows : List (Row N)) : Type 0 where
  pub row : Row N
  pub at : row_of number rows ≡ Some row
  pub conn : row.conn ≡ name
  pub asked : row.note ≡ note
  pub pending : row.pending ≡ waits
  pub same_number : number ≡ row.number

named : {N : Type 0} (number : ℕ) (rows : List (Row N)) (row : Row N) → row_of number rows ≡ Some row → number ≡ row.number
named {N} number [] row e = absurd (cc)
named {N} number (r ∷ rows) row e = step (λ found. named number rows row found) (number == r.number) refl e
  where
    step : (row_of number rows ≡ Some row → number ≡ row.number) → (b : Bool) → (number == r.number) ≡ b → cond b (Some r) (row_of number rows) ≡ Some row → number ≡ row.number
    step rest true is e = let same : r ≡ row = cc in eqb-true number r.number is ∙ ap (λ (q : Row N). q.number) same
    step rest false is e = rest e

pub found_row : {N : Type 0} (number name : ℕ) (note : N) (waits : Bool) (rows : List (Row N)) → Some (found name note waits) ≡ option_map looked (row_of number rows) → FoundRow number name note waits rows
found_row {N} number name note waits rows e = by_row (row_of number rows) refl e
  where
    by_row : (o : Option (Row N)) → row_of number rows ≡ o → Some (found name note waits) ≡ option_map looked o → FoundRow number name note waits rows
    by_row None is e = absurd (cc)
    by_row (Some row) is e =
        let whole : found name note waits ≡ looked row = cc in
        record {
          row = row;
          at = is;
          conn = sym (ap (λ (p : ℕ × N × Bool). p.0) whole);
          asked = sym (ap (λ (p : ℕ × N × Bool). p.1) whole);
          pending = sym (ap (λ (p : ℕ × N × Bool). p.2) whole);
          same_number = named number rows row is;
        }
