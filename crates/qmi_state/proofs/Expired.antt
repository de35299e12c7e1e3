-- A core refuses the requests that its history refuses.
use Rattle.std.proofs.Common.{◌≡◌, ℕ, zero, suc, ◌-◌, ◌^◌, ◌==◌, nat_le, Bool, true, false, cond, List, [], ◌∷◌, map, filter, refl, ap, sym, ◌∙◌, subst, ⊎_elim, arith, Contains, Some, None, if◌then◌else◌}
use Rattle.std.specs.List.{AllByRecursion}
use Rattle.std.proofs.lemmas.Bool.Decides.{nat_tests}
use Rattle.std.proofs.lemmas.Bool.{eqb-true, eq-eqb}
use Rattle.qmux_frame.specs.Head.{is_control}
use Rattle.qmux_frame.specs.Reply.{result_reply}
use Rattle.proxy_history.specs.Facts.{Fact, Request, Expired, Aborted}
use Rattle.proxy_history.specs.Connections.{present, dropped}
use Rattle.proxy_history.specs.Requests.{pending, last_number}
use Rattle.proxy_history.specs.Modem.{now, is_away, to_modem, modem_taken_count, modem_queue}
use Rattle.proxy_history.specs.Noting.{end_overfull, each_pending}
use Rattle.proxy_history.specs.Unanswered.{due}
use Rattle.proxy_history.proofs.Lists.{Contains-cons_cases, Contains-nil}
use Rattle.qmi_proxy.specs.Setup.{Setup}
use Rattle.qmi_proxy.specs.Spaces.{control_space, service_space, space_of}
use Rattle.qmi_proxy.specs.Errors.{aborted}
use Rattle.qmi_proxy.specs.FromModem.{in_expiry_order}
use Rattle.number_space.specs.Table.{first_due}
use Rattle.qmi_state.specs.Asked.{asked_of}
use Rattle.qmi_proxy.specs.Text.{note}
use Rattle.qmi_proxy.specs.Clients.{wire}
use Rattle.qmi_proxy.specs.Releases.{freed_if}
use Rattle.qmi_proxy.specs.Regular.{IsPlaced, IsSent, IsAsked}
use Rattle.proxy_state.specs.Requests.{RequestInUse, requests_in_use, silenced_if}
use Rattle.qmi_state.specs.Traffic.{Row, Traffic, row_of, rows_of, traffic_of, of_control, with_numbers, silences, ids, kept_ids}
use Rattle.proxy_state.specs.Stands.{Streams}
use Rattle.qmi_state.specs.Core.{QmiState}
use Rattle.qmi_state.specs.Transitions.{with_traffic, tell, frees_own, refuses_sender, refuses, expires_in, expires_space, expires}
use Rattle.proxy_state.proofs.InUse.{request_in, request_in_use, waits_in, pending_is}
use Rattle.qmi_state.proofs.Apart.{all_apart}
use Rattle.proxy_state.proofs.InUse.{waiting}
use Rattle.qmi_state.proofs.Matching.{are_different, all_placed}
use Rattle.qmi_state.proofs.Heads.{reply_kept}
use Rattle.qmi_state.proofs.ClientStates.{expired_own, expired_other, aborted_own, aborted_other}
use Rattle.qmi_state.proofs.TrafficSteps.{traffic_silenced}
use Rattle.qmi_proxy.proofs.Regulars.{regular_more, asked_of_pending}
use Rattle.qmi_state.proofs.Keeping as keeping
use Rattle.qmi_state.proofs.Keeping.{traffic_is, keeps_told, end_if}
use Rattle.qmi_state.proofs.Answering.{ask_waits}
use Rattle.qmi_state.proofs.OwnRequests.{kept_own_ended}
use Rattle.proxy_state.proofs.Refusing.{refusal}
use Rattle.proxy_state.proofs.Expiring.{due_in, due_later, each_shrinks, each_waiting, each_append}
use Rattle.proxy_state.proofs.Expired.{Refuses, kept_expired}
use Rattle.qmi_state.proofs.Expiring.{pending_distinct, act, shrinks_act, gone}

abbrev pub space_if : Bool → ℕ
space_if control = if control then control_space else service_space

rows_in : (traffic : Traffic) (past : List Fact) (control : Bool) → traffic ≡ traffic_of past → (of_control control traffic).rows ≡ rows_of (space_if control) (requests_in_use past)
rows_in traffic past true is = ap (λ (d : Traffic). d.control.rows) is
rows_in traffic past false is = ap (λ (d : Traffic). d.services.rows) is

placed_at : (list : List RequestInUse) (a : RequestInUse) → Contains list a → AllByRecursion (λ (b : RequestInUse). IsPlaced b.request) list → IsPlaced a.request
placed_at [] a at all = absurd (Contains-nil a at)
placed_at (b ∷ list) a at all = ⊎_elim (λ (is : b ≡ a). subst (λ (x : RequestInUse). IsPlaced x.request) is all.0) (λ (later : Contains list a). placed_at list a later all.1) (Contains-cons_cases a b list at)

-- where a request is in the space, its message says so
control_of : (m : List ℕ) (control : Bool) → space_of m ≡ space_if control → is_control m ≡ control
control_of m control =
    let step : (b : Bool) → (if b then control_space else service_space) ≡ space_if control → b ≡ control =
    λ b. elim b as (λ b. (if b then control_space else service_space) ≡ space_if control → b ≡ control) [
      | true ↦ elim control as (λ control. 0 ≡ space_if control → true ≡ control) [ true ↦ λ e. refl | false ↦ λ e. absurd (omega arith) ]
      | false ↦ elim control as (λ control. 1 ≡ space_if control → false ≡ control) [ true ↦ λ e. absurd (omega arith) | false ↦ λ e. refl ]
    ]
    in step (is_control m)

module _ (s : Setup) (streams : Streams) where
  abbrev Kept : List Fact → QmiState → Type 0
  Kept past x = keeping.Kept s streams past x

  abbrev silenced_traffic : Bool → ℕ → Traffic → Traffic
  silenced_traffic control number traffic = with_numbers control (silences number (of_control control traffic)) traffic

  module _ (past : List Fact) (x : QmiState) (a : RequestInUse) (at : Contains (requests_in_use past) a) (waits : a.waits ≡ true) (K : Kept past x) where
    abbrev r : Request
    r = a.request

    is_at : Contains (pending past) r
    is_at = ask_waits past a K.fine at waits

    asked : IsAsked past r
    asked = asked_of_pending past r K.fine is_at

    abbrev silenced : Traffic
    silenced = silenced_traffic (is_control r.message) r.number x.beside.traffic

    placed : r.space ≡ space_of r.message
    placed = (placed_at (requests_in_use past) a at (all_placed past K.fine)).0

    replied : result_reply (row_of a).note.head aborted ≡ result_reply r.message aborted
    unfolding asked_of
    replied = reply_kept r.message aborted

    silenced_is : (fact : Fact) → requests_in_use (fact ∷ past) ≡ map (λ a. silenced_if (r.serial == a.request.serial) a) (requests_in_use past) → ((space : ℕ) → last_number space (fact ∷ past) ≡ last_number space past)
        → ids (fact ∷ past) ≡ ids past → kept_ids (fact ∷ past) ≡ kept_ids past → modem_queue wire (fact ∷ past) ≡ modem_queue wire past → silenced ≡ traffic_of (fact ∷ past)
    silenced_is fact over last held kept queue =
        ap (silenced_traffic (is_control r.message) r.number) (traffic_is s streams past x K) ∙ sym (traffic_silenced r placed (fact ∷ past) past (all_apart past r K.fine.sound (request_in_use past a at)) last held kept queue over)

    told_expired : IsSent past r → Kept (end_if s streams r.conn (Expired r ∷ past)) (tell r.conn (result_reply r.message aborted) (with_traffic (silenced_traffic (is_control r.message) r.number x.beside.traffic) x))
    unfolding requests_in_use now is_away present dropped last_number ids kept_ids to_modem modem_taken_count
    told_expired sent =
        keeps_told s streams (Expired r ∷ past) past x r.conn (result_reply r.message aborted) silenced
        (expired_own s.device past r sent) (λ d differs. expired_other s.device past r d differs) refl refl refl refl
        (silenced_is (Expired r) refl (λ space. refl) refl refl refl) (regular_more (Expired r) past is_at tt tt K.fine) sent.0 K

    told_aborted : IsSent past r → Kept (end_if s streams r.conn (Aborted r ∷ past)) (tell r.conn (result_reply r.message aborted) (with_traffic (silenced_traffic (is_control r.message) r.number x.beside.traffic) x))
    unfolding requests_in_use now is_away present dropped last_number ids kept_ids to_modem modem_taken_count
    told_aborted sent =
        keeps_told s streams (Aborted r ∷ past) past x r.conn (result_reply r.message aborted) silenced
        (aborted_own s.device past r sent) (λ d differs. aborted_other s.device past r d differs) refl refl refl refl
        (silenced_is (Aborted r) refl (λ space. refl) refl refl refl) (regular_more (Aborted r) past is_at tt tt K.fine) sent.0 K

    told_either : (flag : Bool) → IsSent past r → Kept (note s.device (refusal flag r) past) (tell r.conn (result_reply r.message aborted) (with_traffic silenced x))
    unfolding end_overfull
    told_either true sent = told_expired sent
    told_either false sent = told_aborted sent

    own_either : (flag : Bool) → r.conn ≡ 0 → Kept (freed_if true r (note s.device (refusal flag r) past)) (frees_own (row_of a) (with_traffic silenced x))
    unfolding requests_in_use now is_away present dropped last_number ids kept_ids to_modem modem_taken_count
    own_either true own =
        kept_own_ended s streams past x r own (Expired r) silenced refl (λ d differs. expired_other s.device past r d differs) refl refl refl refl
        (silenced_is (Expired r) refl (λ space. refl) refl refl refl) (regular_more (Expired r) past is_at tt tt K.fine) K a.waits
    own_either false own =
        kept_own_ended s streams past x r own (Aborted r) silenced refl (λ d differs. aborted_other s.device past r d differs) refl refl refl refl
        (silenced_is (Aborted r) refl (λ space. refl) refl refl refl) (regular_more (Aborted r) past is_at tt tt K.fine) K a.waits

    -- whoever asked
    refused_by : (flag own : Bool) → (r.conn == 0) ≡ own → Kept (freed_if own r (note s.device (refusal flag r) past)) (refuses_sender own (row_of a) (with_traffic silenced x))
    refused_by flag true is = own_either flag (eqb-true r.conn 0 is)
    refused_by flag false is =
        let sent : IsSent past r = ⊎_elim (λ (sent : IsSent past r). sent) (λ (own : r.conn ≡ 0). absurd (let clash : (r.conn == 0) ≡ true = eq-eqb r.conn 0 own in cc)) asked in
        subst (λ (l : List ℕ). Kept (note s.device (refusal flag r) past) (tell r.conn l (with_traffic silenced x))) (sym replied) (told_either flag sent)

    pub kept_refused : (flag control : Bool) → r.space ≡ space_if control → Kept (act s.device flag r past) (refuses control (row_of a) x)
    kept_refused flag control space =
        subst (λ (b : Bool). Kept (act s.device flag r past) (refuses_sender (r.conn == 0) (row_of a) (with_traffic (silenced_traffic b r.number x.beside.traffic) x))) (control_of r.message control (sym placed ∙ space))
        (refused_by flag (r.conn == 0) refl)

  -- ---- a space ----

  module _ (flag control : Bool) (time : ℕ) where
    stops : (count : ℕ) (x : QmiState) → first_due time (of_control control x.beside.traffic).rows ≡ None → expires_in count control time x ≡ x
    unfolding expires_in
    stops zero x none = refl
    stops (suc count) x none = ap (λ o. elim o [ None ↦ x | Some row ↦ expires_in count control time (refuses control row x) ]) none

    goes_on : (count : ℕ) (x : QmiState) (row : Row) → first_due time (of_control control x.beside.traffic).rows ≡ Some row → expires_in (suc count) control time x ≡ expires_in count control time (refuses control row x)
    unfolding expires_in
    goes_on count x row some = ap (λ o. elim o [ None ↦ x | Some row ↦ expires_in count control time (refuses control row x) ]) some

    refuses_all : Refuses asked_of (space_if control) time (act s.device flag) (shrinks_act s.device flag) (gone s.device flag) Kept (λ x. (of_control control x.beside.traffic).rows) (refuses control) (λ count x. expires_in count control time x)
    refuses_all = record {
      rows_are = λ past x K. rows_in x.beside.traffic past control (traffic_is s streams past x K);
      different = λ past x K. are_different past K.fine;
      refused = λ past x a at waits placed K. kept_refused past x a at waits K flag control placed;
      stops = stops;
      goes_on = goes_on;
    }

    pub kept_whole_space : (past : List Fact) (x : QmiState) → Kept past x → Kept (each_pending (act s.device flag) (due_in (space_if control) time (pending past)) past) (expires_space control time x)
    kept_whole_space past x K =
        kept_expired asked_of (space_if control) time (act s.device flag) (shrinks_act s.device flag) (gone s.device flag) Kept (λ x. (of_control control x.beside.traffic).rows) (refuses control) (λ count x. expires_in count control time x) refuses_all past x K

  -- ---- both spaces ----

  module _ (flag : Bool) (time : ℕ) (past : List Fact) (x : QmiState) (K : Kept past x) where
    abbrev first_due_ones : List Request
    first_due_ones = due_in control_space time (pending past)

    abbrev middle : List Fact
    middle = each_pending (act s.device flag) first_due_ones past

    second_is : each_pending (act s.device flag) (due_in service_space time (pending middle)) middle ≡ each_pending (act s.device flag) (in_expiry_order (due time (pending past))) past
    second_is =
        ap (λ (l : List Request). each_pending (act s.device flag) l middle) (due_later service_space time past middle (pending_distinct past K.fine) (each_shrinks (act s.device flag) (shrinks_act s.device flag) first_due_ones past))
        ∙ sym (each_waiting (act s.device flag) (shrinks_act s.device flag) (due_in service_space time (pending past)) middle)
        ∙ sym (each_append (act s.device flag) (shrinks_act s.device flag) first_due_ones (due_in service_space time (pending past)) past)

    pub kept_expires : Kept (each_pending (act s.device flag) (in_expiry_order (due time (pending past))) past) (expires time x)
    kept_expires =
        subst (λ (l : List Fact). Kept l (expires time x)) second_is
        (kept_whole_space flag false time middle (expires_space true time x) (kept_whole_space flag true time past x K))

  -- ---- all that wait ----

  abbrev last_time : ℕ
  last_time = 2 ^ 64 - 1

  all_due : (list : List RequestInUse) → AllByRecursion (λ (a : RequestInUse). IsPlaced a.request) list → due last_time (waiting list) ≡ waiting list
  all_due [] all = refl
  all_due (a ∷ list) all =
      let rest = all_due list all.1 in
      elim a.waits as (λ w. due last_time (map request_in (cond w (a ∷ filter waits_in list) (filter waits_in list))) ≡ map request_in (cond w (a ∷ filter waits_in list) (filter waits_in list))) [
        | true ↦
            let comes : nat_le a.request.deadline last_time ≡ true = grind (arith, nat_tests, all.0.1) in
            ap (λ (b : Bool). cond b (a.request ∷ due last_time (waiting list)) (due last_time (waiting list))) comes ∙ ap (λ (l : List Request). a.request ∷ l) rest
        | false ↦ rest
      ]

  pub kept_aborts : (past : List Fact) (x : QmiState) → Kept past x → Kept (each_pending (act s.device false) (in_expiry_order (pending past)) past) (expires last_time x)
  kept_aborts past x K =
      let every : due last_time (pending past) ≡ pending past = ap (due last_time) (pending_is past) ∙ all_due (requests_in_use past) (all_placed past K.fine) ∙ sym (pending_is past) in
      subst (λ (l : List Request). Kept (each_pending (act s.device false) (in_expiry_order l) past) (expires last_time x)) every (kept_expires false last_time past x K)
