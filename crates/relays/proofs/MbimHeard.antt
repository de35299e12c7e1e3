-- What a simulated modem says to a command that comes in fragments. Lists of messages have the newest first.
use Rattle.std.proofs.Common.{◌≡◌, ℕ, ◌<◌, ◌≤◌, ◌^◌, Bool, true, false, not, ◌==◌, nat_lt, if◌then◌else◌, List, [], ◌∷◌, ◌++◌, length, Some, refl, ap, ap₂, sym, ◌∙◌, arith, append_assoc, append-nil, length-append}
use Rattle.std.specs.List.{AllByRecursion, concat}
use Rattle.std.proofs.lemmas.Bool.Decides.{nat_tests}
use Rattle.framing.specs.Framing.{IsMessage}
use Rattle.framing.specs.Cutting.{Cutting, cut_from}
use Rattle.framing.proofs.Cuts.{cut-given}
use Rattle.mbim_frame.specs.declared.kind.MessageKind.TheVariants as kind
use Rattle.mbim_frame.specs.declared.bodies.CommandHead.{CommandHead}
use Rattle.mbim_frame.specs.declared.error.TheConstants.{NOT_OPENED}
use Rattle.mbim_frame.specs.Numbers.{u32_at}
use Rattle.mbim_frame.specs.Frame.{size_of, mbim_cut}
use Rattle.mbim_frame.specs.Framing.{size_of-kept, size_of-positive}
use Rattle.mbim_frame.specs.Kinds.{kind_number}
use Rattle.mbim_frame.specs.Bodies.{read_command, buffer_of, done_text}
use Rattle.mbim_fragments.specs.Runs.{Joining, More, Whole, joining, run_with}
use Rattle.mbim_fragments.specs.Assembling as assembling
use Rattle.mbim_fragments.specs.Assembling.{Assembled, assembled_of}
use Rattle.mbim_fragments.proofs.Sizes.{length-split, split_fits}
use Rattle.mbim_fragments.proofs.Standing.{assemblies_stand_for_runs}
use Rattle.lone_client.specs.Relay.{Answering, sent_for, asked_then}
use Rattle.lone_client.specs.MbimLaw.{IsShort, IsTold, done_bytes, done_messages, told_bytes, told_messages}
use Rattle.lone_client.proofs.Fragments.{Reads, Split, is_split}
use Rattle.twin_sessions.proofs.Asking.{all_by}
use Rattle.twin_sessions.specs.MbimServing.{messages_of}
use Rattle.twin_sessions.proofs.MbimAnswers.{AreOpen, all_are_open}
use Rattle.twin_sessions.proofs.MbimSteps.{all_append, bytes_are, done_each, told_each}
use Rattle.modem_profile.specs.Profile.{Profile}
use Rattle.sim_modem.specs.Sim.{state_after}
use Rattle.sim_mbim.specs.declared.request.Request.{Request}
use Rattle.sim_mbim.specs.declared.request.Request.TheVariants.{Open, Close, Command, Wrong, Other}
use Rattle.sim_mbim.specs.Modem.{Modem}
use Rattle.sim_mbim.specs.Commands.{Reply, reply_to}
use Rattle.sim_mbim.specs.Writing.{reply_text, indication, is_indicated, indication_text}
use Rattle.sim_mbim.specs.Answers.{Exchange, says, errs, request_of, exchange_at_request, exchange_at_joining, exchange_at_reply, exchange_at_command, exchange_at, begun_at_request, State, state_at, machine}
use Rattle.relays.specs.MbimRuns.{simulated_modem}

-- ---- one fragment ----

is_command : (number : ℕ) (f : List ℕ) → Reads (kind_number kind.Command) number f → request_of f ≡ Command
is_command number f reads =
    let long : nat_lt (length f) 20 ≡ false = (let n = reads.long in grind (arith, nat_tests, n)) in
    ap (λ (k : ℕ). if k == kind_number kind.Open then (if length f == 16 then Open (u32_at f 12) else Wrong) else if k == kind_number kind.Close then (if length f == 12 then Close else Wrong) else if not (k == kind_number kind.Command) then Other else if nat_lt (length f) 20 then Wrong else Command)
    reads.kind_is
    ∙ ap (λ (b : Bool). if b then Wrong else Command) long

abbrev pub state_of : Assembled → Modem → State
state_of begun m = record { begun = begun; modem = m }

module _ (m : Modem) (number : ℕ) (run : List (List ℕ)) (f : List ℕ) (reads : Reads (kind_number kind.Command) number f) (j : Joining) (is : joining 65536 run f ≡ j) where
  exchanged : exchange_at f (state_of (assembled_of run) m) ≡ exchange_at_joining number m j
  exchanged =
      ap (exchange_at_request f (state_of (assembled_of run) m)) (is_command number f reads)
      ∙ ap₂ (λ (n : ℕ) (k : Joining). exchange_at_joining n m k) reads.number_is ((assemblies_stand_for_runs 65536 run f).joining_is ∙ is)

  left : state_at f (state_of (assembled_of run) m) ≡ state_of (assembled_of (run_with run f j)) (exchange_at_joining number m j).modem
  left =
      ap₂ (λ (r : Request) (e : Exchange). state_of (begun_at_request f (assembled_of run) r) e.modem) (is_command number f reads) exchanged
      ∙ ap (λ (b : Assembled). state_of b (exchange_at_joining number m j).modem) ((assemblies_stand_for_runs 65536 run f).left ∙ ap (λ (k : Joining). assembled_of (run_with run f k)) is)

module _ (profile : Profile) where
  abbrev modem : Answering
  modem = simulated_modem profile

  abbrev pub after : List (List ℕ) → State
  after asked = state_after (machine profile) asked

  -- ---- those before the last ----

  record IsSilent (m : Modem) (asked run fs : List (List ℕ)) : Type 0 where
    said : (more : List (List ℕ)) → sent_for size_of modem asked (fs ++ more) ≡ sent_for size_of modem (asked_then asked fs) more
    then_asked : (more : List (List ℕ)) → asked_then asked (fs ++ more) ≡ asked_then (asked_then asked fs) more
    state : after (asked_then asked fs) ≡ state_of (assembled_of (run ++ fs)) m

  silent : (m : Modem) (number : ℕ) (fs asked run : List (List ℕ)) → AllByRecursion (Reads (kind_number kind.Command) number) fs → AreOpen run fs → after asked ≡ state_of (assembled_of run) m → IsSilent m asked run fs
  unfolding sent_for asked_then cut_from
  silent m number [] asked run reads opens there = record { said = λ more. refl; then_asked = λ more. refl; state = there ∙ ap (λ (r : List (List ℕ)). state_of (assembled_of r) m) (sym (append-nil run)) }
  silent m number (f ∷ fs) asked run reads opens there =
      let nothing : modem asked f ≡ [] = ap (λ (s : State). (exchange_at f s).text) there ∙ ap (λ (e : Exchange). e.text) (exchanged m number run f reads.0 More opens.0) in
      let then_there : after (f ∷ asked) ≡ state_of (assembled_of (run ++ f ∷ [])) m = ap (λ (s : State). state_at f s) there ∙ left m number run f reads.0 More opens.0 in
      let rest = silent m number fs (f ∷ asked) (run ++ f ∷ []) reads.1 opens.1 then_there in
      record {
        said = λ more. ap (λ (l : List ℕ). (mbim_cut l).messages ++ sent_for size_of modem (f ∷ asked) (fs ++ more)) nothing ∙ rest.said more;
        then_asked = rest.then_asked;
        state = rest.state ∙ ap (λ (r : List (List ℕ)). state_of (assembled_of r) m) (append_assoc run (f ∷ []) fs);
      }

  -- ---- all of a command ----

  module _ (asked : List (List ℕ)) (m : Modem) (is_open : m.opened ≡ true) (there : after asked ≡ state_of assembling.fresh m) (number : ℕ) (number_fits : number < 2 ^ 32) (command : List ℕ) (short : IsShort command) (head : CommandHead)
      (reads : read_command command ≡ Some head) where
    abbrev pub reply : Reply
    reply = reply_to head (buffer_of command) m

    abbrev parts : Split (kind_number kind.Command) number command (omega arith) number_fits short
    parts = is_split (kind_number kind.Command) number command (omega arith) number_fits short

    abbrev opens : AreOpen [] parts.front × (joining 65536 parts.front parts.last ≡ Whole command)
    opens = all_are_open parts.front [] parts.last command parts.joins

    quiet : IsSilent m asked [] parts.front
    quiet = silent m number parts.front asked [] parts.reads_front opens.0 there

    replied : exchange_at_joining number m (Whole command) ≡ says reply.modem (reply_text number reply.modem.longest head reply)
    replied =
        ap (exchange_at_command number command m) reads
        ∙ ap (λ (b : Bool). if b then exchange_at_reply number head reply else errs number NOT_OPENED m) is_open

    last_text : modem (asked_then asked parts.front) parts.last ≡ reply_text number reply.modem.longest head reply
    last_text = ap (λ (s : State). (exchange_at parts.last s).text) quiet.state ∙ ap (λ (e : Exchange). e.text) (exchanged m number parts.front parts.last parts.reads_last (Whole command) opens.1 ∙ replied)

    pub heard_messages : sent_for size_of modem asked (messages_of number command) ≡ (mbim_cut (reply_text number reply.modem.longest head reply)).messages
    unfolding sent_for
    heard_messages =
        ap (sent_for size_of modem asked) parts.is ∙ quiet.said (parts.last ∷ [])
        ∙ append-nil (mbim_cut (modem (asked_then asked parts.front) parts.last)).messages
        ∙ ap (λ (l : List ℕ). (mbim_cut l).messages) last_text

    pub heard_state : after (asked_then asked (messages_of number command)) ≡ state_of assembling.fresh reply.modem
    unfolding asked_then
    heard_state =
        ap (λ (l : List (List ℕ)). after (asked_then asked l)) parts.is
        ∙ ap after (quiet.then_asked (parts.last ∷ []))
        ∙ ap (λ (s : State). state_at parts.last s) quiet.state
        ∙ left m number parts.front parts.last parts.reads_last (Whole command) opens.1
        ∙ ap (λ (e : Exchange). state_of assembling.fresh e.modem) replied

-- ---- a reply, as the bodies of an answer and of indications ----

module _ (head : CommandHead) (reply : Reply) where
  abbrev pub done_of : List ℕ
  done_of = done_text (record { uuid = head.uuid; cid = head.cid; status = reply.status }) reply.buffer

  abbrev pub told_if : Bool → List (List ℕ)
  told_if is_told = if is_told then indication_text head.uuid head.cid reply.buffer ∷ [] else []

  abbrev pub told_of : List (List ℕ)
  told_of = told_if (is_indicated head reply.status reply.modem)

  text_is : (number : ℕ) (is_told : Bool) → done_bytes number done_of ++ (if is_told then indication 4096 head reply.buffer else []) ≡ done_bytes number done_of ++ told_bytes (told_if is_told)
  text_is number true = ap (λ (l : List ℕ). done_bytes number done_of ++ l) (sym (append-nil (indication 4096 head reply.buffer)))
  text_is number false = refl

  pub reply_messages : (number : ℕ) → number < 2 ^ 32 → IsShort done_of → AllByRecursion IsTold told_of → (mbim_cut (reply_text number 4096 head reply)).messages ≡ done_messages number done_of ++ told_messages told_of
  unfolding cut_from
  reply_messages number fits short are_told =
      let all : List (List ℕ) = done_messages number done_of ++ told_messages told_of in
      let each : AllByRecursion (IsMessage size_of) all = all_append (IsMessage size_of) (done_messages number done_of) (told_messages told_of) (done_each number done_of fits short) (told_each told_of are_told) in
      ap (λ (l : List ℕ). (mbim_cut l).messages) (text_is number (is_indicated head reply.status reply.modem) ∙ sym (bytes_are number done_of told_of) ∙ sym (append-nil (concat all)))
      ∙ ap (λ (k : Cutting). k.messages) (cut-given size_of size_of-kept size_of-positive all [] (all_by (IsMessage size_of) all each))
      ∙ append-nil all

  told_length : (is_told : Bool) → AllByRecursion IsTold (told_if is_told) → length (told_bytes (told_if is_told)) ≤ 95336
  told_length true are_told =
      let body : List ℕ = indication_text head.uuid head.cid reply.buffer in
      omega (arith, length-append (indication 4096 head reply.buffer) [], length-split (kind_number kind.IndicateStatus) 0 4096 body (omega arith), split_fits 4096 (length body) (omega arith) are_told.0.short)
  told_length false are_told = omega arith

  -- all of it may wait for a client
  pub reply_waits : (number : ℕ) → IsShort done_of → AllByRecursion IsTold told_of → length (done_bytes number done_of ++ told_bytes told_of) ≤ 262144
  reply_waits number short are_told =
      omega (
        arith,
        length-append (done_bytes number done_of) (told_bytes told_of),
        length-split (kind_number kind.CommandDone) number 4096 done_of (omega arith),
        split_fits 4096 (length done_of) (omega arith) short,
        told_length (is_indicated head reply.status reply.modem) are_told,
      )
