-- A fresh simulated modem serves every plan of a tool. Lists of messages have the newest first.
use Rattle.std.proofs.Common.{◌≡◌, ◌⊎◌, inl, inr, ℕ, ◌+◌, ◌<◌, ◌≤◌, ◌^◌, Bool, true, false, ◌&&◌, ◌==◌, if◌then◌else◌, List, [], ◌++◌, length, Option, Some, None, Ok, Err, refl, ap, sym, ◌∙◌, arith, subst, append_assoc, length-append, lit≤}
use Rattle.std.specs.List.{AllByRecursion}
use Rattle.std.proofs.lemmas.Bool.{le-leb, eq-eqb}
use Rattle.kit_bytes.specs.Indications.{wants}
use Rattle.mbim_frame.specs.declared.status.TheConstants.{SUCCESS}
use Rattle.mbim_frame.specs.declared.bodies.CommandHead.{CommandHead}
use Rattle.mbim_frame.specs.Frame.{mbim_cut}
use Rattle.mbim_frame.specs.Fragment.{body_of}
use Rattle.mbim_frame.specs.Numbers.{u32_at, u32_bytes}
use Rattle.mbim_frame.specs.Bodies.{body_head, read_command, buffer_of, is_done}
use Rattle.mbim_frame.specs.Laws.{CommandReadsBack}
use Rattle.mbim_frame.proofs.Numbers.{u32_at-bytes, u32_at-behind}
use Rattle.mbim_fragments.specs.Assembling as assembling
use Rattle.mbim_fields.specs.Layout.{Layout}
use Rattle.mbim_fields.specs.Value.{Value}
use Rattle.mbim_fields.specs.Reading.{Read, read}
use Rattle.mbim_services.specs.Table.{layout_for}
use Rattle.mbim_services.specs.declared.table.Way.TheVariants.{Set}
use Rattle.mbim_requests.specs.declared.MbimRequest.{MbimRequest}
use Rattle.mbim_requests.specs.declared.MbimRequest.TheVariants as request
use Rattle.mbim_session.specs.declared.plan.MbimPlan.{MbimPlan}
use Rattle.mbim_session.specs.Requests.{command_head, buffer_for}
use Rattle.kit_bytes.specs.declared.services.TheConstants.{BASIC_CONNECT}
use Rattle.mbim_proxy.specs.Services.{subscribe_list_cid}
use Rattle.mbim_proxy.specs.Forwarding.{own_subscribe}
use Rattle.lone_client.specs.Relay.{asked_then}
use Rattle.lone_client.specs.MbimLaw.{IsShort, IsTold}
use Rattle.twin_sessions.specs.MbimServing.{command_of, messages_of, Answers, IsServed, opened, commanded}
use Rattle.modem_profile.specs.Profile.{Profile}
use Rattle.modem_profile.specs.Limits.{IsWithin}
use Rattle.sim_mbim.specs.Modem.{Modem}
use Rattle.sim_mbim.specs.Values.{number_at}
use Rattle.sim_mbim.specs.BasicConnect.{switch_radio}
use Rattle.sim_mbim.specs.Commands.{Reply, reply_to, reply_in, reply_to_values, replied}
use Rattle.sim_mbim.specs.Writing.{is_radio_set, reply_text}
use Rattle.relays.specs.MbimRuns.{simulated_modem}
use Rattle.relays.specs.MbimLaw.{IsCommand, IsPlan}
use Rattle.relays.proofs.MbimLeaving.{opened_modem, stays_open}
use Rattle.relays.proofs.MbimFitting.{answers_fit}
use Rattle.relays.proofs.MbimHeard.{state_of, after, heard_messages, heard_state, done_of, told_if, told_of, reply_messages, reply_waits}
use Rattle.relays.proofs.MbimPlans.{IsPlain, plain, or_radio, fits, reads_back}

-- ---- what the radio's set tells ----

module _ (profile : Profile) where
  abbrev open_modem : Modem
  open_modem = opened_modem profile

  abbrev radio_head : Bool → CommandHead
  radio_head on = command_head (request.SetRadioState on)

  abbrev RadioTells : Bool → Reply → Type 0
  RadioTells on r = AllByRecursion IsTold (told_of (radio_head on) r)

  radio_switched : (on b c : Bool) → RadioTells on (replied (radio_head on) open_modem (if b then switch_radio true open_modem else if c then switch_radio false open_modem else None))
  unfolding layout_for
  radio_switched on true c = (record { indication = refl; wanted = refl; short = lit≤ tt }, tt)
  radio_switched on false true = (record { indication = refl; wanted = refl; short = lit≤ tt }, tt)
  radio_switched on false false = tt

  radio_read : (on : Bool) (found : Read (List Value)) → RadioTells on (reply_to_values (radio_head on) open_modem found)
  radio_read on (Err fault) = tt
  radio_read on (Ok values) = radio_switched on (number_at values 0 == 1) (number_at values 0 == 0)

  radio_laid : (on : Bool) (buffer : List ℕ) (found : Option Layout) → RadioTells on (reply_in (radio_head on) buffer open_modem found)
  radio_laid on buffer None = tt
  radio_laid on buffer (Some layout) = radio_read on (read layout buffer)

  radio_tells : (on : Bool) (buffer : List ℕ) → RadioTells on (reply_to (radio_head on) buffer open_modem)
  radio_tells on buffer = radio_laid on buffer (layout_for (radio_head on).uuid (radio_head on).cid Set)

  quiet_tells : (head : CommandHead) (r : Reply) → is_radio_set head ≡ false → AllByRecursion IsTold (told_of head r)
  quiet_tells head r is = subst (λ (b : Bool). AllByRecursion IsTold (told_if head r (b && (r.status == SUCCESS) && wants r.modem.subscribed head.uuid head.cid))) (sym is) tt

  tells : (q : MbimRequest) (buffer : List ℕ) → IsCommand q → AllByRecursion IsTold (told_of (command_head q) (reply_to (command_head q) buffer open_modem))
  tells q buffer is = by (or_radio q is)
    where
      by : (is_radio_set (command_head q) ≡ false) ⊎ ((on : Bool) × (q ≡ request.SetRadioState on)) → AllByRecursion IsTold (told_of (command_head q) (reply_to (command_head q) buffer open_modem))
      by (inl quiet) = quiet_tells (command_head q) (reply_to (command_head q) buffer open_modem) quiet
      by (inr (on, same)) = subst (λ (r : MbimRequest). AllByRecursion IsTold (told_of (command_head r) (reply_to (command_head r) buffer open_modem))) (sym same) (radio_tells on buffer)

-- ---- an answer that was written reads as one ----

pub is_done_text : (uuid : List ℕ) (cid field : ℕ) (buffer : List ℕ) → length uuid ≡ 16 → length buffer < 2 ^ 32 → is_done (body_head uuid cid field (length buffer) ++ buffer) ≡ true
is_done_text uuid cid field buffer long fits =
    let numbers : List ℕ = u32_bytes cid ++ u32_bytes field ++ u32_bytes (length buffer) ++ buffer in
    let whole : length (uuid ++ numbers) ≡ 28 + length buffer = omega (arith, long, length-append uuid numbers) in
    let count : u32_at (uuid ++ numbers) 24 ≡ length buffer = u32_at-behind uuid numbers 16 8 long ∙ u32_at-bytes (length buffer) buffer fits in
    rw (append_assoc uuid (u32_bytes cid ++ u32_bytes field ++ u32_bytes (length buffer)) buffer, whole, count, le-leb 28 (28 + length buffer) (omega arith), eq-eqb (28 + length buffer) (28 + length buffer) refl) refl

-- ---- a command at an open modem ----

module _ (profile : Profile) (asked : List (List ℕ)) (m : Modem) (is_open : m.opened ≡ true) (long : m.longest ≡ 4096) (there : after profile asked ≡ state_of assembling.fresh m) (number : ℕ) (number_fits : number < 2 ^ 32) (command : List ℕ) (short : IsShort command)
    (head : CommandHead) (reads : read_command command ≡ Some head) (buffer : List ℕ) (buffer_is : buffer_of command ≡ buffer) where
  abbrev pub answer : Reply
  answer = reply_to head buffer m

  pub answered : length head.uuid ≡ 16 → IsShort (done_of head answer) → 28 + length answer.buffer ≤ 65536 → AllByRecursion IsTold (told_of head answer) → Answers (simulated_modem profile) asked number command (told_of head answer)
  answered uuid done_short few are_told = record {
    done = done_of head answer;
    says =
        heard_messages profile asked m is_open there number number_fits command short head reads
        ∙ ap (λ (b : List ℕ). (mbim_cut (reply_text number (reply_to head b m).modem.longest head (reply_to head b m))).messages) buffer_is
        ∙ ap (λ (l : ℕ). (mbim_cut (reply_text number l head answer)).messages) ((stays_open m head buffer).1 ∙ long)
        ∙ reply_messages head answer number number_fits done_short are_told;
    is_done = is_done_text head.uuid head.cid answer.status answer.buffer uuid (omega (arith, few));
    short = done_short;
  }

  pub state_then : after profile (asked_then asked (messages_of number command)) ≡ state_of assembling.fresh answer.modem
  state_then =
      heard_state profile asked m is_open there number number_fits command short head reads
      ∙ ap (λ (b : List ℕ). state_of assembling.fresh (reply_to head b m).modem) buffer_is

  pub open_then : (answer.modem.opened ≡ true) × (answer.modem.longest ≡ 4096)
  open_then = let so = stays_open m head buffer in (so.0 ∙ is_open, so.1 ∙ long)

-- ---- a plan ----

module _ (profile : Profile) (plan : MbimPlan) (within : IsWithin profile) (is : IsPlan plan) where
  abbrev q : MbimRequest
  q = plan.request

  abbrev head : CommandHead
  head = command_head q

  abbrev p : IsPlain head
  p = plain q is.command

  abbrev back : CommandReadsBack head (buffer_for q)
  back = reads_back q is.range p.uuid p.cid

  command_short : IsShort (command_of q)
  command_short = (fits q is.range p.uuid p.cid).short

  opened_there : after profile opened ≡ state_of assembling.fresh (opened_modem profile)
  opened_there = refl

  abbrev planned : Reply
  planned = reply_to head (buffer_for q) (opened_modem profile)

  few : 28 + length planned.buffer ≤ 65536
  few = omega (arith, answers_fit profile within q is.command is.range)

  done_short : IsShort (done_of head planned)
  done_short =
      let numbers : List ℕ = u32_bytes head.cid ++ u32_bytes planned.status ++ u32_bytes (length planned.buffer) in
      omega (arith, few, p.uuid, length-append (head.uuid ++ numbers) planned.buffer, length-append head.uuid numbers)

  are_told : AllByRecursion IsTold (told_of head planned)
  are_told = tells profile q (buffer_for q) is.command

  then_there : after profile (commanded plan) ≡ state_of assembling.fresh planned.modem
  then_there = state_then profile opened (opened_modem profile) refl refl opened_there 2 (omega arith) (command_of q) command_short head back.head_is (buffer_for q) back.buffer_is

  then_open : (planned.modem.opened ≡ true) × (planned.modem.longest ≡ 4096)
  then_open = open_then profile opened (opened_modem profile) refl refl opened_there 2 (omega arith) (command_of q) command_short head back.head_is (buffer_for q) back.buffer_is

  -- no indications any more
  abbrev none_head : CommandHead
  none_head = record { uuid = BASIC_CONNECT; cid = subscribe_list_cid; set = true }

  unlisted : Answers (simulated_modem profile) (commanded plan) 3 (body_of (own_subscribe [])) []
  unfolding layout_for
  unlisted = answered profile (commanded plan) planned.modem then_open.0 then_open.1 then_there 3 (omega arith) (body_of (own_subscribe [])) (lit≤ tt) none_head refl (buffer_of (body_of (own_subscribe []))) refl refl (lit≤ tt) (lit≤ tt) tt

  pub is_served : IsServed (simulated_modem profile) plan
  unfolding answered
  is_served = record {
    opens = refl;
    told = told_of head planned;
    answers = answered profile opened (opened_modem profile) refl refl opened_there 2 (omega arith) (command_of q) command_short head back.head_is (buffer_for q) back.buffer_is p.uuid done_short few are_told;
    are_told = are_told;
    room = λ number. reply_waits head planned number done_short are_told;
    closes = refl;
    unlists = unlisted;
  }
