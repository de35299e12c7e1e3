-- A message that is heard.
use Rattle.std.proofs.Common.{◌≡◌, ℕ, Bool, true, false, if◌then◌else◌, List, ◌∷◌, Option, Some, None, refl, sym, ◌∙◌, ap, subst}
use Rattle.mbim_fragments.specs.declared.assembly.Took.{Took}
use Rattle.mbim_fragments.specs.declared.assembly.Took.TheVariants as took
use Rattle.mbim_fragments.specs.Assembling.{Assembled, body_given}
use Rattle.mbim_fragments.specs.Runs.{Joining, More, Whole, OutOfSequence, TooLong, told}
use Rattle.mbim_frame.specs.Head.{number_of}
use Rattle.sim_modem.specs.Sim.{Answering}
use Rattle.sim_modem.proofs.Meeting.{met_answer, met_more}
use Rattle.sim_mbim.specs.Answers as mbim
use Rattle.sim_qmi.specs.Modem as qmi
use Rattle.sim_tunnel.specs.Carrying.{Exchange, IsIn, Keeps, Running, State, alone, carried_at, carried_in, carried_whole, carries_to, exchange_at, exchange_of, machine, qmi_answers, state_at}

-- ---- what a fragment comes to ----

pub carried-whole : (j : Joining) (before : List ℕ) → told j ≡ took.Message → carried_whole j ≡ carried_in (body_given j before)
carried-whole More before is = absurd (cc)
carried-whole (Whole body) before is = refl
carried-whole OutOfSequence before is = absurd (cc)
carried-whole TooLong before is = absurd (cc)

pub carried-none : (j : Joining) (t : Took) → t ≡ told j → (t ≡ took.Message → ⊥) → carried_whole j ≡ None
carried-none More t is isnt = refl
carried-none (Whole body) t is isnt = absurd (isnt is)
carried-none OutOfSequence t is isnt = refl
carried-none TooLong t is isnt = refl

-- ---- what is said ----

module _ (answering : Answering) (message : List ℕ) (s : State) (old : Running) (is_in : IsIn answering s old) where
  exchange_is : {carried : Option (List ℕ)} → carried_at message old.begun (mbim.request_of message) ≡ carried → exchange_at answering message s ≡ exchange_of answering message s carried
  exchange_is is = ap (λ (b : Assembled). exchange_of answering message s (carried_at message b (mbim.request_of message))) (sym is_in.begun) ∙ ap (exchange_of answering message s) is

  -- where this is whether it was opened
  opened_as : (b : Bool) → (buffer : List ℕ) → (mbim.exchange_at message old.mbim).modem.opened ≡ b
      → exchange_of answering message s (Some buffer) ≡ (if b then carries_to answering (number_of message) (mbim.exchange_at message s.mbim).modem s.met buffer else alone message s)
  opened_as b buffer is =
      ap (λ (b : Bool). if b then carries_to answering (number_of message) (mbim.exchange_at message s.mbim).modem s.met buffer else alone message s)
      (ap (λ (m : mbim.State). (mbim.exchange_at message m).modem.opened) (sym is_in.mbim) ∙ is)

  pub heard-nothing : carried_at message old.begun (mbim.request_of message) ≡ None → exchange_at answering message s ≡ alone message s
  heard-nothing is = exchange_is is

  pub heard-closed : (buffer : List ℕ) → carried_at message old.begun (mbim.request_of message) ≡ Some buffer → (mbim.exchange_at message old.mbim).modem.opened ≡ false → exchange_at answering message s ≡ alone message s
  heard-closed buffer is closed = exchange_is is ∙ opened_as false buffer closed

  pub heard-open : (buffer : List ℕ) → carried_at message old.begun (mbim.request_of message) ≡ Some buffer → (mbim.exchange_at message old.mbim).modem.opened ≡ true
      → exchange_at answering message s ≡ carries_to answering (number_of message) (mbim.exchange_at message old.mbim).modem s.met buffer
  heard-open buffer is opens =
      exchange_is is ∙ opened_as true buffer opens
      ∙ ap (λ (m : mbim.State). carries_to answering (number_of message) (mbim.exchange_at message m).modem s.met buffer) (sym is_in.mbim)

  -- nothing is carried
  pub said-alone : exchange_at answering message s ≡ alone message s → (text : List ℕ) → text ≡ (mbim.exchange_at message old.mbim).text → text ≡ (exchange_at answering message s).text
  said-alone as_alone text is =
      is ∙ ap (λ (m : mbim.State). (mbim.exchange_at message m).text) is_in.mbim ∙ sym (ap (λ (e : Exchange). e.text) as_alone)

  -- it is in the state that the message leaves, if the QMI modem is
  pub goes_on : (e : Exchange) → exchange_at answering message s ≡ e → (new : Running) → new.begun ≡ mbim.begun_at_request message old.begun (mbim.request_of message)
      → new.mbim ≡ mbim.state_at message old.mbim → qmi.Keeps answering e.met new.qmi → IsIn answering (state_at answering message s) new
  goes_on e is new begun mbim_is keeps = record {
    begun = begun ∙ ap (λ (b : Assembled). mbim.begun_at_request message b (mbim.request_of message)) is_in.begun;
    mbim = mbim_is ∙ ap (mbim.state_at message) is_in.mbim;
    qmi = subst (λ (e : Exchange). qmi.Keeps answering e.met new.qmi) (sym is) keeps;
  }

-- ---- one message after another ----

module _ (answering : Answering) (past : List (List ℕ)) (message : List ℕ) (old : Running) (kept : Keeps answering past old) where
  pub keeps-more : (new : Running) → ((inside : Answering) (s : State) → IsIn inside s old → IsIn inside (state_at inside message s) new) → Keeps answering (message ∷ past) new
  keeps-more new goes = record {
    profile = kept.profile;
    state = state_at (qmi_answers kept.profile) message kept.state;
    has_met = met_more (machine kept.profile) answering past message kept.state kept.has_met (state_at (qmi_answers kept.profile) message kept.state) refl;
    is_in = goes (qmi_answers kept.profile) kept.state kept.is_in;
  }

  pub answers-by : (text : List ℕ) → ((inside : Answering) (s : State) → IsIn inside s old → text ≡ (exchange_at inside message s).text) → text ≡ answering past message
  answers-by text says = met_answer (machine kept.profile) answering past message kept.state kept.has_met text (says (qmi_answers kept.profile) kept.state kept.is_in)
