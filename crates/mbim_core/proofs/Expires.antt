-- The requests whose time has come are refused one after another.
use Rattle.std.proofs.Common.{◌≡◌, ℕ, zero, suc, ◌<◌, ◌==◌, length, refl, ap, sym, ◌∙◌, arith, Some, None}
use Rattle.std.proofs.lemmas.List.{length-map}
use Rattle.number_space.specs.declared.space.Row.{Row}
use Rattle.number_space.specs.Table.{settled_where, first_due, expires}
use Rattle.number_space.proofs.Due.{waiting_count, count_expired, silenced_is, unchanged_is, DueRow}
use Rattle.number_space.proofs.Due as rows
use Rattle.mbim_proxy.specs.Setup.{Setup}
use Rattle.mbim_state.specs.declared.asked.Asked.{Asked}
use Rattle.mbim_state.specs.Core.{Numbers, ModemSide, MbimState, setup_of}
use Rattle.mbim_state.specs.Transitions.{with_side, with_numbers, refuse_as, refuse, expire_in, expire}
use Rattle.mbim_core.specs.Kept.{silenced, refused_keeps, refused}
use Rattle.mbim_core.specs.Told.{rows_at}

pub refused_less : (s : Setup) (time : ℕ) (row : Row Asked) (x : MbimState) → first_due time (rows_at x) ≡ Some row
    → (waiting_count (rows_at (refuse s row x)) < waiting_count (rows_at x)) × (length (rows_at (refuse s row x)) ≡ length (rows_at x))
refused_less s time row x due =
    let K = refused_keeps s row.note row.conn (silenced row.number x) in
    let kept = K.count in
    let less = count_expired time (rows_at x) row due in
    (omega arith, K.long ∙ length-map (rows_at x) (settled_where (λ (r : Row Asked). row.number == r.number)))

-- ---- enough turns ----

module _ (s : Setup) (time : ℕ) where
  abbrev run : ℕ → MbimState → MbimState
  run count x = expire_in count s time x

  zero_is : (x : MbimState) → run zero x ≡ x
  unfolding expire_in
  zero_is x = refl

  suc_is : (count : ℕ) (x : MbimState) → run (suc count) x ≡ elim (first_due time (rows_at x)) [ None ↦ x | Some row ↦ run count (refuse s row x) ]
  unfolding expire_in
  suc_is count x = refl

  pub expired_all : (x : MbimState) → first_due time (rows_at x) ≡ None → expire s time x ≡ x
  expired_all x none = rows.all_done time rows_at (refuse s) run zero_is suc_is (λ row y due. refused_less s time row y due) x none

  pub expired_one : (x : MbimState) (row : Row Asked) → first_due time (rows_at x) ≡ Some row → expire s time (refuse s row x) ≡ expire s time x
  expired_one x row some = rows.all_turn time rows_at (refuse s) run zero_is suc_is (λ row y due. refused_less s time row y due) x row some

-- ---- a turn of the loop, and its end; `was` is the state before the request is taken ----

abbrev pub expire_now : ℕ → MbimState → MbimState
expire_now time x = expire (setup_of x.beside) time x

module _ (time : ℕ) (was : MbimState) (side : ModemSide) (made : side ≡ record was.beside { numbers = expires time was.beside.numbers }) where
  -- nothing is due any more
  pub turns_end : first_due time (rows_at was) ≡ None → with_side side was ≡ expire_now time was
  turns_end none =
      ap (λ (b : ModemSide). with_side b was) made
      ∙ ap (λ (n : Numbers). with_numbers n was) (unchanged_is time was.beside.numbers none)
      ∙ sym (expired_all (setup_of was.beside) time was none)

  module _ (name : ℕ) (note : Asked) (D : DueRow time name note (rows_at was)) (later : MbimState) (told : later ≡ refuse_as (setup_of side) note name (with_side side was)) where
    refused_is : later ≡ refuse (setup_of was.beside) D.row was
    refused_is =
        told
        ∙ ap (λ (b : ModemSide). refuse_as (setup_of b) note name (with_side b was)) made
        ∙ ap (λ (n : Numbers). refuse_as (setup_of was.beside) note name (with_numbers n was)) (silenced_is time was.beside.numbers D.row D.due)
        ∙ ap (λ (a : Asked). refuse_as (setup_of was.beside) a name (silenced D.row.number was)) (sym D.asked)
        ∙ ap (λ (n : ℕ). refuse_as (setup_of was.beside) D.row.note n (silenced D.row.number was)) (sym D.conn)

    pub turn_same : expire_now time later ≡ expire_now time was
    turn_same =
        ap (expire_now time) refused_is
        ∙ ap (λ (s : Setup). expire s time (refuse (setup_of was.beside) D.row was)) (refused (setup_of was.beside) D.row was)
        ∙ expired_one (setup_of was.beside) time was D.row D.due

    pub turn_less : waiting_count (rows_at later) < waiting_count (rows_at was)
    turn_less = let less = (refused_less (setup_of was.beside) time D.row was D.due).0 in let same = ap (λ (v : MbimState). waiting_count (rows_at v)) refused_is in omega arith
