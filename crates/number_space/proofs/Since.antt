-- The numbers in use after a list of calls.
use Rattle.std.proofs.Common.{◌≡◌, ◌↔◌, ℕ, Bool, true, false, not, cond, List, [], ◌∷◌, ◌++◌, refl, ap, sym, ◌∙◌, arith, Option, Some, None, ⊎_elim, subst, All, Contains, ◌==◌}
use Rattle.std.proofs.lemmas.List.Elements.{All-nil, All-cons, All-head, All-tail, Contains-append_left, Contains-append_cases, Contains-push}
use Rattle.std.proofs.lemmas.Bool.Decides.{nat_tests}
use Rattle.std.proofs.lemmas.Bool.{eqb-true, eq-eqb, true≢false}
use Rattle.proxy_history.proofs.Lists.{Contains-nil, Contains-cons, Contains-cons_cases}
use Rattle.number_space.specs.declared.space.Row.{Row}
use Rattle.number_space.specs.Table.{Table, numbers, IsRisingListOf, without, next_number, gives_number, expires_row, first_due}
use Rattle.number_space.specs.Calls.{Call, Give, Answer, Expire, Orphan, Reset, after}
use Rattle.number_space.specs.Laws.{frees, IsGivenAndNotFreed}
use Rattle.number_space.proofs.InUse.{numbers_settled}

module _ {T : Type 0} where
  -- ---- what each call does to the numbers ----

  numbers_push : (rows : List (Row T)) (row : Row T) → numbers (rows ++ row ∷ []) ≡ numbers rows ++ row.number ∷ []
  numbers_push [] row = refl
  numbers_push (first ∷ rows) row = ap (λ t. first.number ∷ t) (numbers_push rows row)

  numbers_expired : (due : Option (Row T)) (table : Table T) → numbers (expires_row due table).rows ≡ numbers table.rows
  numbers_expired None table = refl
  numbers_expired (Some row) table = numbers_settled (λ r. row.number == r.number) table.rows

  still_without : (answered number : ℕ) (rows : List (Row T)) → (number == answered) ≡ false → Contains (numbers rows) number → Contains (numbers (without answered rows)) number
  still_without answered number [] other at = at
  still_without answered number (row ∷ rows) other at =
      let step : (b : Bool) → (answered == row.number) ≡ b → Contains (numbers (cond (not b) (row ∷ without answered rows) (without answered rows))) number =
      λ b. elim b as (λ b. (answered == row.number) ≡ b → Contains (numbers (cond (not b) (row ∷ without answered rows) (without answered rows))) number) [
        | true ↦ λ e. ⊎_elim
            (λ (is : row.number ≡ number). absurd (clash answered number row.number other e is))
            (λ (rest : Contains (numbers rows) number). still_without answered number rows other rest)
            (Contains-cons_cases number row.number (numbers rows) at)
        | false ↦ λ e. ⊎_elim
            (λ (is : row.number ≡ number). (0, omega arith, is))
            (λ (rest : Contains (numbers rows) number). Contains-cons number row.number (numbers (without answered rows)) (still_without answered number rows other rest))
            (Contains-cons_cases number row.number (numbers rows) at)
      ]
      in step (answered == row.number) refl
    where
      clash : (a n m : ℕ) → (n == a) ≡ false → (a == m) ≡ true → m ≡ n → ⊥
      clash a n m other same is = let e : a ≡ m = eqb-true a m same in let f : n ≡ a = sym (e ∙ is) in true≢false (sym (eq-eqb n a f) ∙ other)

  was_there : (answered number : ℕ) (rows : List (Row T)) → Contains (numbers (without answered rows)) number → Contains (numbers rows) number × ((number == answered) ≡ false)
  was_there answered number [] at = absurd (Contains-nil number at)
  was_there answered number (row ∷ rows) at =
      let further : Contains (numbers (without answered rows)) number → Contains (numbers (row ∷ rows)) number × ((number == answered) ≡ false) =
      λ rest. let before = was_there answered number rows rest in (Contains-cons number row.number (numbers rows) before.0, before.1)
      in
      let step : (b : Bool) → (answered == row.number) ≡ b → Contains (numbers (cond (not b) (row ∷ without answered rows) (without answered rows))) number → Contains (numbers (row ∷ rows)) number × ((number == answered) ≡ false) =
      λ b. elim b as (λ b. (answered == row.number) ≡ b → Contains (numbers (cond (not b) (row ∷ without answered rows) (without answered rows))) number → Contains (numbers (row ∷ rows)) number × ((number == answered) ≡ false)) [
        | true ↦ λ e at. further at
        | false ↦ λ e at. ⊎_elim
            (λ (is : row.number ≡ number). ((0, omega arith, is), flipped answered row.number number e is))
            (λ (rest : Contains (numbers (without answered rows)) number). further rest)
            (Contains-cons_cases number row.number (numbers (without answered rows)) at)
      ]
      in step (answered == row.number) refl at
    where
      flipped : (a m n : ℕ) → (a == m) ≡ false → m ≡ n → (n == a) ≡ false
      flipped a m n other is = grind (arith, nat_tests, other, is)

  -- ---- a number in use was given, and wasn't freed since ----

  since_more : (limit top number : ℕ) (call : Call T) (past : List (Call T)) → frees number call ≡ false → IsGivenAndNotFreed limit top number past → IsGivenAndNotFreed limit top number (call ∷ past)
  since_more limit top number call past keeps since = record {
    later = call ∷ since.later;
    earlier = since.earlier;
    conn = since.conn;
    note = since.note;
    deadline = since.deadline;
    whole = ap (λ (l : List (Call T)). call ∷ l) since.whole;
    given = since.given;
    none = All-cons (λ c. frees number c ≡ false) call since.later keeps since.none;
  }

  newest_since : (limit top number conn : ℕ) (note : T) (deadline : ℕ) (past : List (Call T)) → next_number (after limit top past) ≡ Some number → IsGivenAndNotFreed limit top number (Give conn note deadline ∷ past)
  newest_since limit top number conn note deadline past given = record {
    later = [];
    earlier = past;
    conn = conn;
    note = note;
    deadline = deadline;
    whole = refl;
    given = given;
    none = All-nil (λ (c : Call T). frees number c ≡ false);
  }

  given_since : (limit top number conn : ℕ) (note : T) (deadline : ℕ) (past : List (Call T)) → (Contains (numbers (after limit top past).rows) number → IsGivenAndNotFreed limit top number past) → (next : Option ℕ) → next_number (after limit top past) ≡ next
      → Contains (numbers (gives_number next conn note deadline (after limit top past)).rows) number → IsGivenAndNotFreed limit top number (Give conn note deadline ∷ past)
  given_since limit top number conn note deadline past since None is at = since_more limit top number (Give conn note deadline) past refl (since at)
  given_since limit top number conn note deadline past since (Some given) is at =
      ⊎_elim
      (λ (old : Contains (numbers (after limit top past).rows) number). since_more limit top number (Give conn note deadline) past refl (since old))
      (λ (new : Contains (given ∷ []) number).
      ⊎_elim
      (λ (same : given ≡ number). newest_since limit top number conn note deadline past (is ∙ ap Some same))
      (λ (none : Contains [] number). absurd (Contains-nil number none))
      (Contains-cons_cases number given [] new))
      (Contains-append_cases (numbers (after limit top past).rows) (given ∷ []) number
      (subst (λ (l : List ℕ). Contains l number) (numbers_push (after limit top past).rows (record { number = given; conn = conn; note = note; deadline = deadline; pending = true })) at))

  in_use_since : (limit top : ℕ) (calls : List (Call T)) (number : ℕ) → Contains (numbers (after limit top calls).rows) number → IsGivenAndNotFreed limit top number calls
  in_use_since limit top [] number at = absurd (Contains-nil number at)
  in_use_since limit top (Give conn note deadline ∷ past) number at =
      given_since limit top number conn note deadline past (in_use_since limit top past number) (next_number (after limit top past)) refl at
  in_use_since limit top (Answer answered ∷ past) number at =
      let before = was_there answered number (after limit top past).rows at in
      since_more limit top number (Answer answered) past before.1 (in_use_since limit top past number before.0)
  in_use_since limit top (Expire now ∷ past) number at =
      since_more limit top number (Expire now) past refl
      (in_use_since limit top past number (subst (λ (l : List ℕ). Contains l number) (numbers_expired (first_due now (after limit top past).rows) (after limit top past)) at))
  in_use_since limit top (Orphan conn ∷ past) number at =
      since_more limit top number (Orphan conn) past refl
      (in_use_since limit top past number (subst (λ (l : List ℕ). Contains l number) (numbers_settled (λ (r : Row T). conn == r.conn) (after limit top past).rows) at))
  in_use_since limit top (Reset ∷ past) number at = absurd (Contains-nil number at)

  -- ---- and the other way round ----

  keeps_given : (number conn : ℕ) (note : T) (deadline : ℕ) (table : Table T) → Contains (numbers table.rows) number → (next : Option ℕ) → Contains (numbers (gives_number next conn note deadline table).rows) number
  keeps_given number conn note deadline table at None = at
  keeps_given number conn note deadline table at (Some given) =
      subst (λ (l : List ℕ). Contains l number) (sym (numbers_push table.rows (record { number = given; conn = conn; note = note; deadline = deadline; pending = true }))) (Contains-append_left (numbers table.rows) (given ∷ []) number at)

  keeps_in_use : (limit top number : ℕ) (call : Call T) (past : List (Call T)) → frees number call ≡ false → Contains (numbers (after limit top past).rows) number → Contains (numbers (after limit top (call ∷ past)).rows) number
  keeps_in_use limit top number (Give conn note deadline) past keeps at = keeps_given number conn note deadline (after limit top past) at (next_number (after limit top past))
  keeps_in_use limit top number (Answer answered) past keeps at = still_without answered number (after limit top past).rows keeps at
  keeps_in_use limit top number (Expire now) past keeps at =
      subst (λ (l : List ℕ). Contains l number) (sym (numbers_expired (first_due now (after limit top past).rows) (after limit top past))) at
  keeps_in_use limit top number (Orphan conn) past keeps at =
      subst (λ (l : List ℕ). Contains l number) (sym (numbers_settled (λ (r : Row T). conn == r.conn) (after limit top past).rows)) at
  keeps_in_use limit top number Reset past keeps at = absurd (cc)

  since_in_use : (limit top number : ℕ) (later earlier : List (Call T)) (conn : ℕ) (note : T) (deadline : ℕ) → next_number (after limit top earlier) ≡ Some number → All (λ call. frees number call ≡ false) later
      → Contains (numbers (after limit top (later ++ Give conn note deadline ∷ earlier)).rows) number
  since_in_use limit top number [] earlier conn note deadline given none =
      subst (λ (next : Option ℕ). Contains (numbers (gives_number next conn note deadline (after limit top earlier)).rows) number) (sym given)
      (subst (λ (l : List ℕ). Contains l number) (sym (numbers_push (after limit top earlier).rows (record { number = number; conn = conn; note = note; deadline = deadline; pending = true })))
      (Contains-push (numbers (after limit top earlier).rows) number))
  since_in_use limit top number (call ∷ later) earlier conn note deadline given none =
      keeps_in_use limit top number call (later ++ Give conn note deadline ∷ earlier) (All-head (λ c. frees number c ≡ false) call later none)
      (since_in_use limit top number later earlier conn note deadline given (All-tail (λ c. frees number c ≡ false) call later none))

  pub in_use_exactly : (limit top : ℕ) (calls : List (Call T)) (number : ℕ) → Contains (numbers (after limit top calls).rows) number ↔ IsGivenAndNotFreed limit top number calls
  in_use_exactly limit top calls number = (
    in_use_since limit top calls number,
    λ since. subst (λ (l : List (Call T)). Contains (numbers (after limit top l).rows) number) (sym since.whole) (since_in_use limit top number since.later since.earlier since.conn since.note since.deadline since.given since.none),
  )

  pub listed_since : (limit top : ℕ) (calls : List (Call T)) (table : Table T) (listed : List ℕ) → table ≡ after limit top calls → IsRisingListOf (Contains (numbers table.rows)) listed → IsRisingListOf (λ number. IsGivenAndNotFreed limit top number calls) listed
  listed_since limit top calls table listed stands is = record {
    rising = is.rising;
    same = λ number.
        let whole : Contains (numbers table.rows) number ↔ IsGivenAndNotFreed limit top number calls = subst (λ (t : Table T). Contains (numbers t.rows) number ↔ IsGivenAndNotFreed limit top number calls) (sym stands) (in_use_exactly limit top calls number) in
        (λ at. whole.0 ((is.same number).0 at), λ given. (is.same number).1 (whole.1 given));
  }
