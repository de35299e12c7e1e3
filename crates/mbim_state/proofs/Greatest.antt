-- A core of the MBIM proxy learns of a greater name only where one joins.
use Rattle.std.proofs.Common.{ℕ, zero, suc, ◌-◌, ◌^◌, max, Bool, true, false, List, [], ◌∷◌, length, refl, ◌∙◌, Option, Some, None}
use Rattle.mbim_frame.specs.Frame.{size_of}
use Rattle.mbim_frame.specs.declared.status.TheConstants.{FAILURE}
use Rattle.mbim_frame.specs.Head.{number_of}
use Rattle.mbim_frame.specs.Fragment.{body_of}
use Rattle.mbim_frame.specs.Bodies.{uuid_of, cid_of}
use Rattle.number_space.specs.declared.space.Row.{Row}
use Rattle.number_space.specs.Table.{row_of, answers, first_due}
use Rattle.proxy_history.specs.View.{Entry, Indication, OpenedWith}
use Rattle.proxy_state.proofs.Greatest.{IsAsBefore, told, told_each, KeepsGreatest}
use Rattle.mbim_proxy.specs.Setup.{Setup}
use Rattle.mbim_proxy.specs.Step.{blank}
use Rattle.mbim_proxy.specs.Text.{response_text, refusal_text}
use Rattle.mbim_proxy.specs.FromModem.{Heard, IsDone, IsOpenDone, IsError, IsIndication, IsNeither, heard_as, opening_status}
use Rattle.mbim_proxy.specs.Delivering.{heard_with, begun_after}
use Rattle.mbim_state.specs.Asked.{Asked, ask_by}
use Rattle.mbim_state.specs.declared.asked.Asked.TheVariants.{Open, Command}
use Rattle.mbim_state.specs.Core.{MbimState, known_by, silences}
use Rattle.mbim_state.specs.Transitions.{with_side, with_numbers, give_up, after, text, tell_each, opening_ended, waiting_of, ends_opening, is_for, answer_if, respond_if, respond_to, receivers_in, hear_as, hear_each, refuse_as, refuse, expire_in, expire, mbim_handlers}

module _ (s : Setup) where
  told_entry : (entry : Entry) (cs : List ℕ) (x : MbimState) → IsAsBefore x (tell_each s entry cs x)
  told_entry entry cs x = told_each give_up (text s entry) (after s entry) cs x

  ended : (status : ℕ) (x : MbimState) → IsAsBefore x (ends_opening s status x)
  ended status x = told_entry (OpenedWith status) (waiting_of x.table.present x.beside.askers) (with_side (opening_ended status x.beside) x)

  -- ---- requests that get no answer ----

  refused : (note : Asked) (c : ℕ) (x : MbimState) → IsAsBefore x (refuse_as s note c x)
  refused Open c x = ended FAILURE x
  refused (Command name) c x = told give_up (λ client. refusal_text (known_by client) (ask_by name)) (λ client. client) c x

  expired_in : (count : ℕ) (time : ℕ) (x : MbimState) → IsAsBefore x (expire_in count s time x)
  unfolding expire_in
  expired_in zero time x = refl
  expired_in (suc count) time x = by (λ y. expired_in count time y) (first_due time x.beside.numbers.rows)
    where
      by : ((y : MbimState) → IsAsBefore y (expire_in count s time y)) → (o : Option (Row Asked)) → IsAsBefore x (elim o [ None ↦ x | Some row ↦ expire_in count s time (refuse s row x) ])
      by later None = refl
      by later (Some row) = later (refuse s row x) ∙ refused row.note row.conn (with_numbers (silences row.number x.beside.numbers) x)

  expired : (time : ℕ) (x : MbimState) → IsAsBefore x (expire s time x)
  expired time x = expired_in (length x.beside.numbers.rows) time x

  -- ---- a message of the modem ----

  answered : (pending : Bool) (note : Asked) (c : ℕ) (m : List ℕ) (x : MbimState) → IsAsBefore x (answer_if pending s note c m x)
  answered true Open c m x = ended (opening_status m) x
  answered true (Command name) c m x = told give_up (λ client. response_text (known_by client) (ask_by name) m) (λ client. client) c x
  answered false note c m x = refl

  responded_if : (b : Bool) (row : Row Asked) (m : List ℕ) (x : MbimState) → IsAsBefore x (respond_if b s row m x)
  responded_if true row m x = answered row.pending row.note row.conn m (with_numbers (answers row.number x.beside.numbers) x)
  responded_if false row m x = refl

  responded : (o : Option (Row Asked)) (heard : Heard) (m : List ℕ) (x : MbimState) → IsAsBefore x (respond_to o s heard m x)
  responded None heard m x = refl
  responded (Some row) heard m x = responded_if (is_for heard row.note) row m x

  heard_one : (heard : Heard) (m : List ℕ) (x : MbimState) → IsAsBefore x (hear_as s heard m x)
  heard_one IsNeither m x = refl
  heard_one IsIndication m x = told_entry (Indication (blank m)) (receivers_in (uuid_of (body_of m)) (cid_of (body_of m)) x.table.present) x
  heard_one IsDone m x = responded (row_of (number_of m) x.beside.numbers.rows) IsDone m x
  heard_one IsOpenDone m x = responded (row_of (number_of m) x.beside.numbers.rows) IsOpenDone m x
  heard_one IsError m x = responded (row_of (number_of m) x.beside.numbers.rows) IsError m x

  heard_each : (messages : List (List ℕ)) (x : MbimState) → IsAsBefore x (hear_each s messages x)
  unfolding hear_each
  heard_each [] x = refl
  heard_each (m ∷ messages) x = heard_each messages (hear_as s (heard_as m) m x) ∙ heard_one (heard_as m) m x

  -- ---- each handler ----

  pub keeps_greatest : KeepsGreatest (mbim_handlers s) size_of
  keeps_greatest = record {
    hear_modem = λ m x. heard_each (heard_with s.longest_body x.beside.begun m) (with_side (record x.beside { begun = begun_after s.longest_body x.beside.begun m }) x);
    lose = λ x. expired (2 ^ 64 - 1) x;
    tick = λ time x. expired (max time x.beside.time) (with_side (record x.beside { time = max time x.beside.time }) x);
    finish = λ x. refl;
  }
