-- The numbers that are waited for after a list of calls.
use Rattle.std.proofs.Common.{◌≡◌, ◌↔◌, ℕ, Bool, true, false, not, ◌&&◌, List, [], ◌∷◌, ◌++◌, map, refl, ap, sym, ◌∙◌, arith, Option, Some, None, ⊎_elim, subst, Contains, ◌==◌}
use Rattle.std.proofs.lemmas.List.Elements.{Contains-append_left, Contains-append_cases, Contains-push}
use Rattle.std.proofs.lemmas.Bool.{not-true}
use Rattle.std.proofs.lemmas.Bool.Decides.{nat_tests}
use Rattle.proxy_history.proofs.Lists.{Contains-nil, Contains-cons, Contains-cons_cases, Contains-filter, Contains-filter_from, Contains-filter_passes}
use Rattle.number_space.specs.declared.space.Row.{Row}
use Rattle.number_space.specs.Table.{Table, settled_where, next_number, gives_number, expires_row, first_due}
use Rattle.number_space.specs.Calls.{Call, Give, Answer, Expire, Orphan, Reset, after}
use Rattle.number_space.specs.Laws.{has_number, ends_waiting, pending_row, IsGivenAndNotEnded}

flipped : (a b : ℕ) → (a == b) ≡ false → (b == a) ≡ false
flipped a b other = grind (arith, nat_tests, other)

module _ {T : Type 0} where
  -- ---- rows of which some are settled ----

  settled_by : Bool → Row T → Row T
  settled_by settles row = record row { pending = not settles && row.pending }

  -- a row that is pending wasn't settled
  was_kept : (settles : Bool) (old row : Row T) → row.pending ≡ true → settled_by settles old ≡ row → (old ≡ row) × (settles ≡ false)
  unfolding settled_by
  was_kept true old row waits is = let over : false ≡ true = ap (λ (r : Row T). r.pending) is ∙ waits in absurd (cc)
  was_kept false old row waits is = (is, refl)

  was_settled : (test : Row T → Bool) (rows : List (Row T)) (row : Row T) → row.pending ≡ true → Contains (map (settled_where test) rows) row → Contains rows row × (test row ≡ false)
  unfolding settled_by
  was_settled test [] row waits at = absurd (Contains-nil row at)
  was_settled test (first ∷ rows) row waits at =
      ⊎_elim
      (λ (is : settled_where test first ≡ row). let kept = was_kept (test first) first row waits is in ((0, omega arith, kept.0), sym (ap test kept.0) ∙ kept.1))
      (λ (rest : Contains (map (settled_where test) rows) row). let before = was_settled test rows row waits rest in (Contains-cons row first rows before.0, before.1))
      (Contains-cons_cases row (settled_where test first) (map (settled_where test) rows) at)

  still_there : (test : Row T → Bool) (rows : List (Row T)) (row : Row T) → test row ≡ false → Contains rows row → Contains (map (settled_where test) rows) row
  unfolding settled_by
  still_there test [] row other at = absurd (Contains-nil row at)
  still_there test (first ∷ rows) row other at =
      ⊎_elim
      (λ (is : first ≡ row). (0, omega arith, ap (settled_where test) is ∙ ap (λ (b : Bool). settled_by b row) other))
      (λ (rest : Contains rows row). Contains-cons row (settled_where test first) (map (settled_where test) rows) (still_there test rows row other rest))
      (Contains-cons_cases row first rows at)

  module _ (limit top number conn : ℕ) (note : T) (deadline : ℕ) where
    abbrev row : Row T
    row = pending_row number conn note deadline

    abbrev Waits : List (Call T) → Type 0
    Waits calls = Contains (after limit top calls).rows row

    abbrev Since : List (Call T) → Type 0
    Since calls = IsGivenAndNotEnded limit top number conn note deadline calls

    -- ---- a number that is pending was given, and that wasn't ended since ----

    since_more : (call : Call T) (past : List (Call T)) → ends_waiting limit top number conn call past ≡ false → Since past → Since (call ∷ past)
    since_more call past keeps since = record {
      later = call ∷ since.later;
      earlier = since.earlier;
      whole = ap (λ (l : List (Call T)). call ∷ l) since.whole;
      given = since.given;
      none = none;
    }
      where
        none : (newer older : List (Call T)) (other : Call T) → call ∷ since.later ≡ newer ++ other ∷ older → ends_waiting limit top number conn other (older ++ Give conn note deadline ∷ since.earlier) ≡ false
        none [] older other is =
            let same : call ≡ other = cc in
            let behind : since.later ≡ older = cc in
            sym (ap (λ (c : Call T). ends_waiting limit top number conn c (older ++ Give conn note deadline ∷ since.earlier)) same)
            ∙ ap (λ (l : List (Call T)). ends_waiting limit top number conn call l) (sym (since.whole ∙ ap (λ (l : List (Call T)). l ++ Give conn note deadline ∷ since.earlier) behind))
            ∙ keeps
        none (first ∷ newer) older other is = let behind : since.later ≡ newer ++ other ∷ older = cc in since.none newer older other behind

    newest_since : (past : List (Call T)) → next_number (after limit top past) ≡ Some number → Since (Give conn note deadline ∷ past)
    newest_since past given = record { later = []; earlier = past; whole = refl; given = given; none = λ newer older call is. absurd (not_empty newer older call is) }
      where
        not_empty : (newer older : List (Call T)) (call : Call T) → [] ≡ newer ++ call ∷ older → ⊥
        not_empty [] older call is = cc
        not_empty (first ∷ newer) older call is = cc

    given_since : (given_to : ℕ) (told : T) (until : ℕ) (past : List (Call T)) → (Waits past → Since past) → (next : Option ℕ) → next_number (after limit top past) ≡ next
        → Contains (gives_number next given_to told until (after limit top past)).rows row → Since (Give given_to told until ∷ past)
    given_since given_to told until past since None is at = since_more (Give given_to told until) past refl (since at)
    given_since given_to told until past since (Some given) is at =
        ⊎_elim
        (λ (old : Waits past). since_more (Give given_to told until) past refl (since old))
        (λ (new : Contains (pending_row given given_to told until ∷ []) row).
        ⊎_elim
        (λ (same : pending_row given given_to told until ≡ row).
        let as_given : Give given_to told until ≡ Give conn note deadline = ap (λ (r : Row T). Give r.conn r.note r.deadline) same in
        subst (λ (call : Call T). Since (call ∷ past)) (sym as_given) (newest_since past (is ∙ ap (λ (r : Row T). Some r.number) same)))
        (λ (none : Contains [] row). absurd (Contains-nil row none))
        (Contains-cons_cases row (pending_row given given_to told until) [] new))
        (Contains-append_cases (after limit top past).rows (pending_row given given_to told until ∷ []) row at)

    expired_since : (now : ℕ) (past : List (Call T)) → (Waits past → Since past) → (due : Option (Row T)) → first_due now (after limit top past).rows ≡ due
        → Contains (expires_row due (after limit top past)).rows row → Since (Expire now ∷ past)
    expired_since now past since None is at = since_more (Expire now) past (ap (has_number number) is) (since at)
    expired_since now past since (Some due) is at =
        let before = was_settled (λ r. due.number == r.number) (after limit top past).rows row refl at in
        since_more (Expire now) past (ap (has_number number) is ∙ before.1) (since before.0)

    pending_since : (calls : List (Call T)) → Waits calls → Since calls
    pending_since [] at = absurd (Contains-nil row at)
    pending_since (Give given_to told until ∷ past) at = given_since given_to told until past (pending_since past) (next_number (after limit top past)) refl at
    pending_since (Answer answered ∷ past) at =
        since_more (Answer answered) past
        (flipped answered number (not-true (answered == number) (Contains-filter_passes (λ (r : Row T). not (answered == r.number)) (after limit top past).rows row at)))
        (pending_since past (Contains-filter_from (λ (r : Row T). not (answered == r.number)) (after limit top past).rows row at))
    pending_since (Expire now ∷ past) at = expired_since now past (pending_since past) (first_due now (after limit top past).rows) refl at
    pending_since (Orphan left ∷ past) at =
        let before = was_settled (λ r. left == r.conn) (after limit top past).rows row refl at in
        since_more (Orphan left) past before.1 (pending_since past before.0)
    pending_since (Reset ∷ past) at = absurd (Contains-nil row at)

    -- ---- and the other way round ----

    keeps_given : (given_to : ℕ) (told : T) (until : ℕ) (table : Table T) → Contains table.rows row → (next : Option ℕ) → Contains (gives_number next given_to told until table).rows row
    keeps_given given_to told until table at None = at
    keeps_given given_to told until table at (Some given) = Contains-append_left table.rows (pending_row given given_to told until ∷ []) row at

    keeps_expired : (table : Table T) (due : Option (Row T)) → has_number number due ≡ false → Contains table.rows row → Contains (expires_row due table).rows row
    keeps_expired table None keeps at = at
    keeps_expired table (Some due) keeps at = still_there (λ r. due.number == r.number) table.rows row keeps at

    keeps_waiting : (call : Call T) (past : List (Call T)) → ends_waiting limit top number conn call past ≡ false → Waits past → Waits (call ∷ past)
    keeps_waiting (Give given_to told until) past keeps at = keeps_given given_to told until (after limit top past) at (next_number (after limit top past))
    keeps_waiting (Answer answered) past keeps at =
        Contains-filter (λ (r : Row T). not (answered == r.number)) (after limit top past).rows row at (ap not (flipped number answered keeps))
    keeps_waiting (Expire now) past keeps at = keeps_expired (after limit top past) (first_due now (after limit top past).rows) keeps at
    keeps_waiting (Orphan left) past keeps at = still_there (λ r. left == r.conn) (after limit top past).rows row keeps at
    keeps_waiting Reset past keeps at = absurd (cc)

    given_waits : (earlier : List (Call T)) (next : Option ℕ) → next ≡ Some number → Contains (gives_number next conn note deadline (after limit top earlier)).rows row
    given_waits earlier None is = absurd (cc)
    given_waits earlier (Some given) is =
        let same : given ≡ number = cc in
        subst (λ (n : ℕ). Contains ((after limit top earlier).rows ++ pending_row n conn note deadline ∷ []) row) (sym same) (Contains-push (after limit top earlier).rows row)

    since_waits : (earlier later : List (Call T)) → next_number (after limit top earlier) ≡ Some number
        → ((newer older : List (Call T)) (call : Call T) → later ≡ newer ++ call ∷ older → ends_waiting limit top number conn call (older ++ Give conn note deadline ∷ earlier) ≡ false)
        → Waits (later ++ Give conn note deadline ∷ earlier)
    since_waits earlier [] given none = given_waits earlier (next_number (after limit top earlier)) given
    since_waits earlier (call ∷ later) given none =
        keeps_waiting call (later ++ Give conn note deadline ∷ earlier) (none [] later call refl)
        (since_waits earlier later given (λ newer older other is. none (call ∷ newer) older other (ap (λ (l : List (Call T)). call ∷ l) is)))

  pub pending_exactly : (limit top : ℕ) (calls : List (Call T)) (number conn : ℕ) (note : T) (deadline : ℕ)
      → Contains (after limit top calls).rows (pending_row number conn note deadline) ↔ IsGivenAndNotEnded limit top number conn note deadline calls
  pending_exactly limit top calls number conn note deadline = (
    pending_since limit top number conn note deadline calls,
    λ since. subst (λ (l : List (Call T)). Contains (after limit top l).rows (pending_row number conn note deadline)) (sym since.whole)
        (since_waits limit top number conn note deadline since.earlier since.later since.given since.none),
  )
