-- A turn of the loop that refuses what is due, and its end.
use Rattle.std.proofs.Common.{◌≡◌, ℕ, ◌<◌, Bool, true, false, ◌==◌, refl, ap, sym, ◌∙◌, subst, None}
use Rattle.number_space.specs.Table.{first_due, expires}
use Rattle.number_space.proofs.Due.{waiting_count, DueRow, silenced_is, unchanged_is}
use Rattle.qmi_state.specs.declared.asked.Asked.{Asked}
use Rattle.qmi_state.specs.Traffic.{Numbers, Traffic, of_control, with_numbers, silences}
use Rattle.qmi_state.specs.Core.{QmiState}
use Rattle.qmi_state.specs.Transitions.{with_traffic, refuses_sender, refuses, expires_space}
use Rattle.qmi_core.specs.State.{refuses_from}
use Rattle.qmi_core.proofs.Expires.{rows_at, space_done, space_turn, refused_less}

with_same : (control : Bool) (traffic : Traffic) → with_numbers control (of_control control traffic) traffic ≡ traffic
with_same true traffic = refl
with_same false traffic = refl

module _ (control : Bool) (time : ℕ) (was : QmiState) (traffic_after : Traffic) (made : traffic_after ≡ with_numbers control (expires time (of_control control was.beside.traffic)) was.beside.traffic) where
  -- nothing is due any more
  pub turns_end : first_due time (rows_at control was) ≡ None → with_traffic traffic_after was ≡ expires_space control time was
  turns_end none =
      ap (λ (d : Traffic). with_traffic d was) (made ∙ ap (λ (n : Numbers). with_numbers control n was.beside.traffic) (unchanged_is time (of_control control was.beside.traffic) none) ∙ with_same control was.beside.traffic)
      ∙ sym (space_done control time was none)

  module _ (name : ℕ) (note : Asked) (D : DueRow time name note (rows_at control was)) (refused : QmiState) (told : refused ≡ refuses_from (name == 0) name note (with_traffic traffic_after was)) where
    by_sender : (own : Bool) (x : QmiState) → refuses_from own D.row.conn D.row.note x ≡ refuses_sender own D.row x
    by_sender true x = refl
    by_sender false x = refl

    refused_is : refused ≡ refuses control D.row was
    refused_is =
        let silent : QmiState = with_traffic (with_numbers control (silences D.row.number (of_control control was.beside.traffic)) was.beside.traffic) was in
        told
        ∙ ap (λ (d : Traffic). refuses_from (name == 0) name note (with_traffic d was)) (made ∙ ap (λ (n : Numbers). with_numbers control n was.beside.traffic) (silenced_is time (of_control control was.beside.traffic) D.row D.due))
        ∙ ap (λ (a : Asked). refuses_from (name == 0) name a silent) (sym D.asked)
        ∙ ap (λ (n : ℕ). refuses_from (n == 0) n D.row.note silent) (sym D.conn)
        ∙ by_sender (D.row.conn == 0) silent

    pub turn_same : expires_space control time refused ≡ expires_space control time was
    turn_same = ap (expires_space control time) refused_is ∙ space_turn control time was D.row D.due

    pub turn_less : waiting_count (rows_at control refused) < waiting_count (rows_at control was)
    turn_less = subst (λ (v : QmiState). waiting_count (rows_at control v) < waiting_count (rows_at control was)) (sym refused_is) (refused_less control time D.row was D.due).0
