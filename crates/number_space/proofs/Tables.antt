-- What each call makes of a table, by the place that the code found.
use Rattle.std.proofs.Common.{◌≡◌, ℕ, suc, ◌<◌, ◌≤◌, Bool, true, false, not, cond, List, [], ◌∷◌, ◌++◌, length, map, filter, get_or, set, subst, ap, sym, ◌∙◌, arith, Option, Some, None, ◌==◌, nat_lt, IsSomeAnd, length-append}
use Rattle.std.specs.List.{position, remove, IsDistinct}
use Rattle.std.proofs.lemmas.Bool.Decides.{nat_tests}
use Rattle.std.proofs.lemmas.Bool.{eq-eqb}
use Rattle.std.proofs.lemmas.List.{length-map, get_or_default}
use Rattle.std.proofs.lemmas.List.Elements.{All-filter, All-nil}
use Rattle.std.proofs.lemmas.List.Quantifiers.{position-Some}
use Rattle.proxy_history.specs.Connections.{contains}
use Rattle.proxy_history.specs.Requests.{following, free_from, number_after}
use Rattle.proxy_history.specs.Laws.{IsFirstFree}
use Rattle.proxy_history.proofs.Numbers.{number_after-free}
use Rattle.number_space.specs.declared.space.Row.{Row}
use Rattle.number_space.specs.Table.{Table, row_of, next_number, gives_number, gives, numbers, without, answers, settled_where, settles_number, is_due, first_due, expires_row, expires, IsSound, NoneIsDueBefore, StandsAt}
use Rattle.kit_bytes.proofs.Lists.{find_first}
use Rattle.number_space.proofs.InUse.{AreDistinct, kept_whole, is_at, without_at, settles_at, distinct_filter, distinct_push, numbers_settled, none_due_settled}

module _ {T : Type 0} where
  abbrev pub with_rows : Table T → List (Row T) → Table T
  with_rows table rows = record table { rows = rows }

  length-filter : (p : Row T → Bool) (rows : List (Row T)) → length (filter p rows) ≤ length rows
  length-filter p [] = omega arith
  length-filter p (row ∷ rows) = elim (p row) as (λ b. length (cond b (row ∷ filter p rows) (filter p rows)) ≤ suc (length rows)) [ true ↦ omega (arith, length-filter p rows) | false ↦ omega (arith, length-filter p rows) ]

  -- ---- soundness ----

  pub sound_with : (table : Table T) (rows : List (Row T)) → IsSound table → AreDistinct rows → length rows ≤ length table.rows → IsSound (with_rows table rows)
  sound_with table rows sound distinct fewer = record {
    distinct = distinct;
    few = omega (arith, sound.few);
    last = sound.last;
    limit = sound.limit;
    some = sound.some;
  }

  without_is : (number i : ℕ) (table : Table T) (d : Row T) → IsSound table → position (λ r. number == r.number) table.rows ≡ Some i → without number table.rows ≡ remove table.rows i
  without_is number i table d sound at = without_at number table.rows i sound.distinct (is_at number table.rows i at d)

  pub sound_remove : (number i : ℕ) (table : Table T) (d : Row T) (rows : List (Row T)) → IsSound table → position (λ r. number == r.number) table.rows ≡ Some i → rows ≡ remove table.rows i → IsSound (with_rows table rows)
  sound_remove number i table d rows sound at is =
      let kept : without number table.rows ≡ rows = without_is number i table d sound at ∙ sym is in
      sound_with table rows sound (subst (λ (l : List (Row T)). AreDistinct l) kept (distinct_filter (λ r. not (number == r.number)) table.rows sound.distinct)) (omega (arith, ap length kept, length-filter (λ r. not (number == r.number)) table.rows))

  pub none_due_remove : (number i : ℕ) (table : Table T) (d : Row T) (rows : List (Row T)) (time : ℕ) → IsSound table → position (λ r. number == r.number) table.rows ≡ Some i → rows ≡ remove table.rows i → NoneIsDueBefore time table.rows → NoneIsDueBefore time rows
  none_due_remove number i table d rows time sound at is none =
      let kept : without number table.rows ≡ rows = without_is number i table d sound at ∙ sym is in
      subst (λ (l : List (Row T)). NoneIsDueBefore time l) kept (All-filter (λ (r : Row T). not (number == r.number)) (λ (r : Row T). r.pending ≡ true → time ≤ r.deadline) table.rows none)

  pub sound_settled : (test : Row T → Bool) (table : Table T) (rows : List (Row T)) → IsSound table → rows ≡ map (settled_where test) table.rows → IsSound (with_rows table rows)
  sound_settled test table rows sound is =
      sound_with table rows sound (subst (λ (l : List ℕ). IsDistinct (λ m n. m == n) l) (sym (ap numbers is ∙ numbers_settled test table.rows)) sound.distinct)
      (omega (arith, ap length is, length-map table.rows (settled_where test)))

  pub sound_none : (table : Table T) (rows : List (Row T)) → IsSound table → rows ≡ [] → IsSound (with_rows table rows)
  unfolding IsDistinct
  sound_none table rows sound none = sound_with table rows sound (subst (λ (l : List (Row T)). AreDistinct l) (sym none) tt) (omega (arith, ap length none))

  pub sound_opened : (limit top : ℕ) (rows : List (Row T)) → 1 ≤ limit → limit ≤ top → rows ≡ [] → IsSound (record { rows = rows; last = 0; limit = limit; top = top })
  unfolding IsDistinct
  sound_opened limit top rows some within none = record {
    distinct = subst (λ (l : List (Row T)). AreDistinct l) (sym none) tt;
    few = omega (arith, ap length none);
    last = omega arith;
    limit = within;
    some = some;
  }

  pub none_due_none : (time : ℕ) (rows : List (Row T)) → rows ≡ [] → NoneIsDueBefore time rows
  none_due_none time rows none = subst (λ (l : List (Row T)). NoneIsDueBefore time l) (sym none) (All-nil (λ (r : Row T). r.pending ≡ true → time ≤ r.deadline))

  -- ---- giving ----

  number_is : (table : Table T) → length table.rows < table.limit → number_after table.limit table.top table.last (numbers table.rows) ≡ Some (free_from (length table.rows) table.top (numbers table.rows) (following table.top table.last))
  number_is table few =
      let count : length (numbers table.rows) ≡ length table.rows = length-map table.rows (λ r. r.number) in
      let less : length (numbers table.rows) < table.limit = omega arith in
      let test : nat_lt (length (numbers table.rows)) table.limit ≡ true = grind (arith, nat_tests, less) in
      rw test (ap (λ (k : ℕ). Some (free_from k table.top (numbers table.rows) (following table.top table.last))) count)

  pub given_is_first_free : (table : Table T) → IsSound table → length table.rows < table.limit →
      IsFirstFree table.top (following table.top table.last) (numbers table.rows) (free_from (length table.rows) table.top (numbers table.rows) (following table.top table.last))
  given_is_first_free table sound few =
      let less : length (numbers table.rows) < table.limit = omega (arith, length-map table.rows (λ r. r.number)) in
      let free = number_after-free table.limit table.top table.last (numbers table.rows) sound.limit sound.last less in
      subst (λ (given : Option ℕ). IsSomeAnd given (IsFirstFree table.top (following table.top table.last) (numbers table.rows))) (number_is table few) free

  pub next_given : (table : Table T) (number : ℕ) → length table.rows < table.limit → number ≡ free_from (length table.rows) table.top (numbers table.rows) (following table.top table.last) → Some number ≡ next_number table
  next_given table number few is = ap Some is ∙ sym (number_is table few)

  pub gives_is : (table : Table T) (number conn : ℕ) (note : T) (deadline : ℕ) (rows : List (Row T)) → Some number ≡ next_number table
      → rows ≡ table.rows ++ record { number = number; conn = conn; note = note; deadline = deadline; pending = true } ∷ [] → record table { rows = rows; last = number } ≡ gives conn note deadline table
  gives_is table number conn note deadline rows next is =
      ap (λ (l : List (Row T)). record table { rows = l; last = number }) is ∙ ap (λ (o : Option ℕ). gives_number o conn note deadline table) next

  pub sound_push : (table : Table T) (row : Row T) (rows : List (Row T)) → IsSound table → length table.rows < table.limit → row.number ≤ table.top → contains row.number (numbers table.rows) ≡ false → rows ≡ table.rows ++ row ∷ [] →
      IsSound (record table { rows = rows; last = row.number })
  sound_push table row rows sound few within free is = record {
    distinct = subst (λ (l : List (Row T)). AreDistinct l) (sym is) (distinct_push table.rows row free sound.distinct);
    few = omega (arith, ap length is, length-append table.rows (row ∷ []));
    last = within;
    limit = sound.limit;
    some = sound.some;
  }

  -- ---- answers ----

  pub answers_none : (number : ℕ) (table : Table T) → row_of number table.rows ≡ None → table ≡ answers number table
  answers_none number table none = ap (with_rows table) (sym (kept_whole (λ r. number == r.number) table.rows none))

  pub answers_at : (number i : ℕ) (table : Table T) (d : Row T) (rows : List (Row T)) → IsSound table → position (λ r. number == r.number) table.rows ≡ Some i → rows ≡ remove table.rows i → with_rows table rows ≡ answers number table
  answers_at number i table d rows sound at is = ap (with_rows table) (is ∙ sym (without_is number i table d sound at))

  -- ---- expiry ----

  pub expires_none : (now : ℕ) (table : Table T) → first_due now table.rows ≡ None → table ≡ expires now table
  expires_none now table none = ap (λ due. expires_row due table) (sym none)

  named_at : (row : Row T) (rows : List (Row T)) (i : ℕ) → i < length rows → row ≡ get_or rows i row → StandsAt row.number rows i
  named_at row rows i within is = record {
    within = within;
    named = λ d. eq-eqb row.number (get_or rows i d).number (ap (λ (r : Row T). r.number) (is ∙ get_or_default rows i row d within));
  }

  pub due_at : (now i : ℕ) (rows : List (Row T)) (row : Row T) → position (is_due now) rows ≡ Some i → row ≡ get_or rows i row → first_due now rows ≡ Some row
  due_at now i rows row at is = find_first (is_due now) rows i row at ∙ ap Some (sym is)

  settled_is : (now i : ℕ) (table : Table T) (row : Row T) → IsSound table → position (is_due now) table.rows ≡ Some i → row ≡ get_or table.rows i row →
      set table.rows i (record row { pending = false }) ≡ settles_number row.number table.rows
  settled_is now i table row sound at is =
      ap (λ (r : Row T). set table.rows i (record r { pending = false })) is
      ∙ sym (settles_at row.number table.rows i row sound.distinct (named_at row table.rows i (position-Some (is_due now) table.rows i row at).0 is))

  pub expires_at : (now i : ℕ) (table : Table T) (row : Row T) → IsSound table → position (is_due now) table.rows ≡ Some i → row ≡ get_or table.rows i row →
      with_rows table (set table.rows i (record row { pending = false })) ≡ expires now table
  expires_at now i table row sound at is =
      ap (with_rows table) (settled_is now i table row sound at is) ∙ ap (λ due. expires_row due table) (sym (due_at now i table.rows row at is))

  pub sound_expires : (now i : ℕ) (table : Table T) (row : Row T) → IsSound table → position (is_due now) table.rows ≡ Some i → row ≡ get_or table.rows i row →
      IsSound (with_rows table (set table.rows i (record row { pending = false })))
  sound_expires now i table row sound at is = sound_settled (λ r. row.number == r.number) table _ sound (settled_is now i table row sound at is)

  pub none_due_expires : (now i time : ℕ) (table : Table T) (row : Row T) → IsSound table → position (is_due now) table.rows ≡ Some i → row ≡ get_or table.rows i row → NoneIsDueBefore time table.rows →
      NoneIsDueBefore time (set table.rows i (record row { pending = false }))
  none_due_expires now i time table row sound at is none =
      subst (λ (l : List (Row T)). NoneIsDueBefore time l) (sym (settled_is now i table row sound at is)) (none_due_settled (λ r. row.number == r.number) time table.rows none)
