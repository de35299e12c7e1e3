-- The requests whose time has come are refused one after another.
use Rattle.std.proofs.Common.{◌≡◌, ℕ, zero, suc, ◌<◌, ◌≤◌, Bool, true, false, ◌==◌, List, length, map, refl, ap, sym, ◌∙◌, subst, arith, Some, None}
use Rattle.std.proofs.lemmas.List.{length-map}
use Rattle.qmux_frame.specs.Reply.{result_reply}
use Rattle.qmi_proxy.specs.Errors.{aborted}
use Rattle.number_space.specs.Table.{settled_where, settles_number, first_due}
use Rattle.number_space.proofs.Due.{waiting_count, count_settled, count_expired}
use Rattle.number_space.proofs.Due as rows
use Rattle.qmi_state.specs.Traffic.{Row, Numbers, Traffic, of_control, with_numbers, silences, frees_id, gives_up}
use Rattle.connections.specs.Table.{connection_in, finds_room}
use Rattle.proxy_state.specs.Step.{given_up_unless}
use Rattle.proxy_state.proofs.Telling.{tell_is}
use Rattle.qmi_state.specs.Core.{ModemSide, QmiState}
use Rattle.qmi_state.specs.Transitions.{with_traffic, give_up, tell, refuses_sender, refuses, expires_in, expires_space}

abbrev pub rows_at : Bool → QmiState → List Row
rows_at control x = (of_control control x.beside.traffic).rows

-- ---- the traffic after a refusal ----

of_silenced : (control : Bool) (numbers : Numbers) (traffic : Traffic) → of_control control (with_numbers control numbers traffic) ≡ numbers
of_silenced true numbers traffic = refl
of_silenced false numbers traffic = refl

of_given_up : (control : Bool) (c time : ℕ) (traffic : Traffic) → (of_control control (gives_up c time traffic)).rows ≡ map (settled_where (λ (row : Row). c == row.conn)) (of_control control traffic).rows
of_given_up true c time traffic = refl
of_given_up false c time traffic = refl

of_freed : (control : Bool) (c service cid : ℕ) (traffic : Traffic) → (of_control control (frees_id c service cid traffic)).rows ≡ (of_control control traffic).rows
of_freed true c service cid traffic = refl
of_freed false c service cid traffic = refl

-- what is told adds no row that is waited for, and takes none away
record TellsKeep (control : Bool) (c : ℕ) (bytes : List ℕ) (x : QmiState) : Type 0 where
  count : waiting_count (rows_at control (tell c bytes x)) ≤ waiting_count (rows_at control x)
  rows : length (rows_at control (tell c bytes x)) ≡ length (rows_at control x)

tells_keep : (control : Bool) (c : ℕ) (bytes : List ℕ) (x : QmiState) → TellsKeep control c bytes x
tells_keep control c bytes x =
    let side = ap (λ (y : QmiState). y.beside) (tell_is give_up (λ client. bytes) c bytes x (λ k at. refl)) in
    let all = by_room (finds_room bytes (connection_in c x.table.present)) in record {
      count = subst (λ (b : ModemSide). waiting_count (of_control control b.traffic).rows ≤ waiting_count (rows_at control x)) (sym side) all.0;
      rows = ap (λ (b : ModemSide). length (of_control control b.traffic).rows) side ∙ all.1;
    }
  where
    by_room : (fits : Bool) → (waiting_count (of_control control (given_up_unless give_up fits c x.beside).traffic).rows ≤ waiting_count (rows_at control x)) × (length (of_control control (given_up_unless give_up fits c x.beside).traffic).rows ≡ length (rows_at control x))
    by_room true = (omega arith, refl)
    by_room false = (
      subst (λ (l : List Row). waiting_count l ≤ waiting_count (rows_at control x)) (sym (of_given_up control c x.beside.time x.beside.traffic)) (count_settled (λ (row : Row). c == row.conn) (rows_at control x)),
      ap length (of_given_up control c x.beside.time x.beside.traffic) ∙ length-map (rows_at control x) (settled_where (λ (row : Row). c == row.conn)),
    )

pub refused_less : (control : Bool) (time : ℕ) (row : Row) (x : QmiState) → first_due time (rows_at control x) ≡ Some row
    → (waiting_count (rows_at control (refuses control row x)) < waiting_count (rows_at control x)) × (length (rows_at control (refuses control row x)) ≡ length (rows_at control x))
refused_less control time row x due =
    let y : QmiState = with_traffic (with_numbers control (silences row.number (of_control control x.beside.traffic)) x.beside.traffic) x in
    let silent : rows_at control y ≡ settles_number row.number (rows_at control x) = ap (λ (n : Numbers). n.rows) (of_silenced control (silences row.number (of_control control x.beside.traffic)) x.beside.traffic) in
    let less = count_expired time (rows_at control x) row due in
    let same = ap waiting_count silent in
    let long = ap length silent ∙ length-map (rows_at control x) (settled_where (λ (q : Row). row.number == q.number)) in
    let keep = sender_keeps (row.conn == 0) y in
    let kept = keep.0 in
    (omega arith, keep.1 ∙ long)
  where
    sender_keeps : (own : Bool) (y : QmiState) → (waiting_count (rows_at control (refuses_sender own row y)) ≤ waiting_count (rows_at control y)) × (length (rows_at control (refuses_sender own row y)) ≡ length (rows_at control y))
    sender_keeps true y =
        let same : rows_at control (refuses_sender true row y) ≡ rows_at control y = of_freed control 0 row.note.service row.note.cid y.beside.traffic in
        let count : waiting_count (rows_at control (refuses_sender true row y)) ≡ waiting_count (rows_at control y) = ap waiting_count same in
        (omega (arith, count), ap length same)
    sender_keeps false y = let keep = tells_keep control row.conn (result_reply row.note.head aborted) y in (keep.count, keep.rows)

-- ---- enough turns ----

module _ (control : Bool) (time : ℕ) where
  abbrev run : ℕ → QmiState → QmiState
  run count x = expires_in count control time x

  zero_is : (x : QmiState) → run zero x ≡ x
  unfolding expires_in
  zero_is x = refl

  suc_is : (count : ℕ) (x : QmiState) → run (suc count) x ≡ elim (first_due time (rows_at control x)) [ None ↦ x | Some row ↦ run count (refuses control row x) ]
  unfolding expires_in
  suc_is count x = refl

  pub space_done : (x : QmiState) → first_due time (rows_at control x) ≡ None → expires_space control time x ≡ x
  space_done x none = rows.all_done time (rows_at control) (refuses control) run zero_is suc_is (λ row y due. refused_less control time row y due) x none

  pub space_turn : (x : QmiState) (row : Row) → first_due time (rows_at control x) ≡ Some row → expires_space control time (refuses control row x) ≡ expires_space control time x
  space_turn x row some = rows.all_turn time (rows_at control) (refuses control) run zero_is suc_is (λ row y due. refused_less control time row y due) x row some
