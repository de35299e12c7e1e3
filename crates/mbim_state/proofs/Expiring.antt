-- A core refuses the requests that its history refuses: those whose time has come, and all at a loss.
use Rattle.std.proofs.Common.{◌≡◌, ℕ, zero, suc, ◌-◌, ◌^◌, ◌≤◌, nat_le, Bool, true, false, ◌==◌, List, [], ◌∷◌, refl, ap, sym, ◌∙◌, subst, arith, Contains, Some, None, if◌then◌else◌}
use Rattle.std.proofs.lemmas.Bool.{eq-eqb}
use Rattle.std.proofs.lemmas.Bool.Decides.{nat_tests}
use Rattle.kit_bytes.proofs.Lists.{all_filter}
use Rattle.mbim_frame.specs.declared.status.TheConstants.{FAILURE}
use Rattle.number_space.specs.declared.space.Row.{Row}
use Rattle.number_space.specs.Table.{first_due}
use Rattle.proxy_history.specs.Facts.{Fact, Request, OpeningEnded}
use Rattle.proxy_history.specs.Connections.{present, dropped}
use Rattle.proxy_history.specs.Requests.{pending, is_pending, of_space}
use Rattle.proxy_history.specs.Modem.{now, is_away, to_modem, modem_taken_count}
use Rattle.proxy_history.specs.View.{Refused, NoAnswer, view, entry_if}
use Rattle.proxy_history.specs.Rendering.{render}
use Rattle.proxy_history.specs.Wording.{told_by}
use Rattle.proxy_history.specs.Noting.{receivers_of, each_pending}
use Rattle.proxy_history.specs.Unanswered.{due}
use Rattle.proxy_state.specs.Requests.{RequestInUse, requests_in_use, row_of}
use Rattle.proxy_state.specs.Stands.{Streams}
use Rattle.proxy_state.proofs.Lists.{filter_passes}
use Rattle.proxy_state.proofs.InUse.{request_in_use}
use Rattle.proxy_state.proofs.Apart.{are_different, request_waits}
use Rattle.proxy_state.proofs.Expiring.{Shrinks, shrinks_more, shrinks_not}
use Rattle.proxy_state.proofs.Refusing.{refusal, still_gone, shrinks_noted, shrinks_refused, refused_gone}
use Rattle.proxy_state.proofs.Expired.{Refuses, kept_expired}
use Rattle.mbim_proxy.specs.Setup.{Setup, the_space}
use Rattle.mbim_proxy.specs.Step.{view_of, known_now}
use Rattle.mbim_proxy.specs.ModemStates.{is_own_open, state}
use Rattle.mbim_proxy.specs.Lists.{askers, last_list, waiting}
use Rattle.mbim_proxy.specs.Text.{mbim_wording, refusal_text, note}
use Rattle.mbim_proxy.specs.FromModem as history
use Rattle.mbim_state.specs.Asked.{Asked, CommandName, name_of, asked_of, ask_by}
use Rattle.mbim_state.specs.declared.asked.Asked.TheVariants.{Open, Command}
use Rattle.mbim_state.specs.Core.{Client, ModemSide, MbimState, known_by, silences, side_of, HasNumbers}
use Rattle.mbim_state.specs.Transitions.{with_numbers, ends_opening, tell_refusal, refuse_as, refuse, expire_in, expire}
use Rattle.mbim_state.proofs.Regular.{Regular, regular_more}
use Rattle.mbim_state.proofs.Numbers.{asked_pending, numbers_expired, numbers_aborted}
use Rattle.mbim_state.proofs.ClientStates.{client_state_of, put_to, client_state_from}
use Rattle.mbim_state.proofs.Texts.{refusal_same}
use Rattle.mbim_state.proofs.Commands.{ask_for, IsCommandOf, command_of}
use Rattle.mbim_state.proofs.Noted.{numbers_changed, kept_noted}
use Rattle.mbim_state.proofs.Answering.{asked_is}
use Rattle.mbim_state.proofs.Keeping as keeping
use Rattle.mbim_state.proofs.Keeping.{side_with}

-- ---- what waits no more ----

module _ (s : Setup) where
  shrinks_ending : (r : Request) (status : ℕ) (past : List Fact) → Shrinks past (history.end_opening_by s r status past)
  unfolding pending
  shrinks_ending r status past =
      elim (is_own_open r) as (λ b. Shrinks past (if b then history.end_opening s status past else past)) [
        | true ↦ shrinks_noted s.limits (mbim_wording s) (OpeningEnded status (waiting s past)) past (let same = shrinks_not past in record { passes = same.passes; left = same.left })
        | false ↦ shrinks_not past
      ]

  module _ (flag : Bool) where
    abbrev pub act : Request → List Fact → List Fact
    act r past = history.refuse s (refusal flag r) r past

    shrinks_act : (r : Request) (past : List Fact) → Shrinks past (act r past)
    shrinks_act r past = shrinks_more past (note s (refusal flag r) past) (act r past) (shrinks_refused s.limits (mbim_wording s) flag r past) (shrinks_ending r FAILURE (note s (refusal flag r) past))

    gone : (r : Request) (past : List Fact) → is_pending r (act r past) ≡ false
    gone r past = still_gone r (note s (refusal flag r) past) (act r past) (shrinks_ending r FAILURE (note s (refusal flag r) past)) (refused_gone s.limits (mbim_wording s) flag r past)

-- ---- the fact ----

receives : (flag : Bool) (r : Request) → receivers_of (refusal flag r) ≡ r.conn ∷ []
receives true r = refl
receives false r = refl

module _ (r : Request) (past : List Fact) where
  seen : (flag : Bool) (d : ℕ) → view_of d (refusal flag r ∷ past) ≡ entry_if (r.conn == d) (Refused r.place NoAnswer) (view_of d past)
  unfolding view
  seen true d = refl
  seen false d = refl

  same_present : (flag : Bool) → present (refusal flag r ∷ past) ≡ present past
  unfolding present
  same_present true = refl
  same_present false = refl

  same_dropped : (flag : Bool) → dropped (refusal flag r ∷ past) ≡ dropped past
  unfolding dropped
  same_dropped true = refl
  same_dropped false = refl

module _ (s : Setup) (within : HasNumbers s) (streams : Streams) where
  abbrev Kept : List Fact → MbimState → Type 0
  Kept past x = keeping.Kept s streams past x

  module _ (past : List Fact) (x : MbimState) (a : RequestInUse) (at : Contains (requests_in_use past) a) (waits : a.waits ≡ true) (K : Kept past x) where
    abbrev r : Request
    r = a.request

    abbrev name : CommandName
    name = name_of r.message

    abbrev silent : MbimState
    silent = with_numbers (silences r.number x.beside.numbers) x

    abbrev facts : Bool → List Fact
    facts flag = note s (refusal flag r) past

    abbrev text : Client → List ℕ
    text client = refusal_text (known_by client) (ask_by name)

    is_at : Contains (pending past) r
    is_at = request_waits past a (are_different s.limits within past K.fine.sound) at s.limits K.fine.sound waits

    side_is : (flag : Bool) → (let side : ModemSide = record x.beside { numbers = silences r.number x.beside.numbers } in side) ≡ side_of s streams.messages (refusal flag r ∷ past)
    unfolding now is_away state askers last_list to_modem modem_taken_count
    side_is true = numbers_changed s streams (silences r.number) past x K ∙ ap (side_with s streams.messages past) (sym (numbers_expired s within past r K.fine (request_in_use past a at)))
    side_is false = numbers_changed s streams (silences r.number) past x K ∙ ap (side_with s streams.messages past) (sym (numbers_aborted s within past r K.fine (request_in_use past a at)))

    regular : (flag : Bool) → Regular s (refusal flag r ∷ past)
    regular true = regular_more s (refusal true r) past is_at tt tt K.fine
    regular false = regular_more s (refusal false r) past is_at tt tt K.fine

    bytes_are : IsCommandOf s past r → client_state_from s (Refused r.place NoAnswer ∷ view_of r.conn past) ≡ put_to s (text (client_state_of s past r.conn).client) (client_state_of s past r.conn)
    unfolding render told_by
    bytes_are command =
        ap (λ (bytes : List ℕ). put_to s bytes (client_state_of s past r.conn)) (refusal_same (known_now s r.conn past) (ask_for s past r) (ask_by name) command.number command.uuid command.cid)

    noted : (flag opens : Bool) → is_own_open r ≡ opens → Kept (if opens then history.end_opening s FAILURE (facts flag) else facts flag) (if opens then ends_opening s FAILURE silent else tell_refusal name r.conn silent)
    noted flag opens is =
        kept_noted s streams past x r (refusal flag r) (Refused r.place NoAnswer) (silences r.number x.beside.numbers) (receives flag r) (seen r past flag) (same_present r past flag) (same_dropped r past flag) (side_is flag) (regular flag) K
        text (command_of s past r K.fine is_at) bytes_are FAILURE opens is

    refused_if : (flag opens : Bool) → is_own_open r ≡ opens → Kept (if opens then history.end_opening s FAILURE (facts flag) else facts flag) (refuse_as s (if opens then Open else Command name) r.conn silent)
    refused_if flag true is = noted flag true is
    refused_if flag false is = noted flag false is

    kept_refused : (flag : Bool) → Kept (act s flag r past) (refuse s (row_of asked_of a) x)
    kept_refused flag = subst (λ (kept : Asked). Kept (act s flag r past) (refuse_as s kept r.conn silent)) (sym (asked_is r)) (refused_if flag (is_own_open r) refl)

  -- ---- those whose time has come ----

  module _ (flag : Bool) (time : ℕ) where
    stops : (count : ℕ) (x : MbimState) → first_due time x.beside.numbers.rows ≡ None → expire_in count s time x ≡ x
    unfolding expire_in
    stops zero x none = refl
    stops (suc count) x none = ap (λ o. elim o [ None ↦ x | Some row ↦ expire_in count s time (refuse s row x) ]) none

    goes_on : (count : ℕ) (x : MbimState) (row : Row Asked) → first_due time x.beside.numbers.rows ≡ Some row → expire_in (suc count) s time x ≡ expire_in count s time (refuse s row x)
    unfolding expire_in
    goes_on count x row some = ap (λ o. elim o [ None ↦ x | Some row ↦ expire_in count s time (refuse s row x) ]) some

    refuses : Refuses asked_of the_space time (act s flag) (shrinks_act s flag) (gone s flag) Kept (λ x. x.beside.numbers.rows) (refuse s) (λ count x. expire_in count s time x)
    refuses = record {
      rows_are = λ past x K. ap (λ (b : ModemSide). b.numbers.rows) K.holds.beside;
      different = λ past x K. are_different s.limits within past K.fine.sound;
      refused = λ past x a at waits placed K. kept_refused past x a at waits K flag;
      stops = stops;
      goes_on = goes_on;
    }

    -- all requests are in the one space
    all_due : (past : List Fact) → Regular s past → of_space the_space (due time (pending past)) ≡ due time (pending past)
    all_due past R =
        filter_passes (λ r. r.space == the_space) (due time (pending past))
        (all_filter (λ r. (r.space == the_space) ≡ true) (λ r. nat_le r.deadline time) (pending past) (asked_pending s (λ r. (r.space == the_space) ≡ true) (λ r before is. eq-eqb r.space the_space is.space) past R.asked))

    pub kept_expires : (past : List Fact) (x : MbimState) → Kept past x → Kept (each_pending (act s flag) (due time (pending past)) past) (expire s time x)
    kept_expires past x K =
        subst (λ (l : List Request). Kept (each_pending (act s flag) l past) (expire s time x)) (all_due past K.fine)
        (kept_expired asked_of the_space time (act s flag) (shrinks_act s flag) (gone s flag) Kept (λ x. x.beside.numbers.rows) (refuse s) (λ count x. expire_in count s time x) refuses past x K)

  -- ---- all that wait ----

  abbrev last_time : ℕ
  last_time = 2 ^ 64 - 1

  every_due : (past : List Fact) → Regular s past → due last_time (pending past) ≡ pending past
  every_due past R =
      filter_passes (λ r. nat_le r.deadline last_time) (pending past)
      (asked_pending s (λ r. nat_le r.deadline last_time ≡ true) (λ r before is. let until = is.deadline in let in_time : r.deadline ≤ last_time = omega arith in grind (arith, nat_tests, in_time)) past R.asked)

  pub kept_aborts : (past : List Fact) (x : MbimState) → Kept past x → Kept (each_pending (act s false) (pending past) past) (expire s last_time x)
  kept_aborts past x K = subst (λ (l : List Request). Kept (each_pending (act s false) l past) (expire s last_time x)) (every_due past K.fine) (kept_expires false last_time past x K)
