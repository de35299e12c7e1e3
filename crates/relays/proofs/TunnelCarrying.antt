-- What a simulated modem says to a command that carries a message. Lists of messages have the newest first.
use Rattle.std.proofs.Common.{◌≡◌, ℕ, ◌<◌, ◌≤◌, ◌^◌, Bool, true, false, not, ◌==◌, nat_lt, if◌then◌else◌, List, [], ◌∷◌, ◌++◌, length, Some, None, refl, ap, ap₂, sym, ◌∙◌, arith, append_assoc, append-nil}
use Rattle.std.specs.List.{AllByRecursion}
use Rattle.std.proofs.lemmas.Bool.Decides.{nat_tests}
use Rattle.kit_bytes.specs.Indications.{wants}
use Rattle.framing.specs.declared.framing.Size.{Size}
use Rattle.framing.specs.Framing.{IsMessage, is_message, is_whole}
use Rattle.framing.specs.Cutting.{Cutting, cut_from}
use Rattle.qmux_frame.specs.Frame as qmux
use Rattle.qmux_frame.specs.Frame.{qmux_cut}
use Rattle.mbim_frame.specs.declared.kind.MessageKind.TheVariants as kind
use Rattle.mbim_frame.specs.declared.status.TheConstants.{SUCCESS}
use Rattle.mbim_frame.specs.Numbers.{u32_at}
use Rattle.mbim_frame.specs.Frame.{size_of, mbim_cut}
use Rattle.mbim_frame.specs.Kinds.{kind_number}
use Rattle.mbim_frame.specs.Bodies.{command_text, done_text}
use Rattle.mbim_frame.specs.Laws.{CommandReadsBack}
use Rattle.mbim_frame.proofs.ReadBack.{command_is_read}
use Rattle.mbim_fragments.specs.Runs.{Joining, More, Whole, joining, run_with}
use Rattle.mbim_fragments.specs.Assembling.{Assembled, assembled_of}
use Rattle.mbim_fragments.proofs.Standing.{assemblies_stand_for_runs}
use Rattle.mbim_services.specs.Table.{layout_for}
use Rattle.qmi_tunnel.specs.declared.service.TheConstants.{QMI_SERVICE, QMI_MESSAGE}
use Rattle.lone_client.specs.Relay.{Answering, sent_for, asked_then}
use Rattle.lone_client.proofs.Rounds.{one_message}
use Rattle.lone_client.specs.MbimLaw.{IsShort, done_bytes, done_messages}
use Rattle.lone_client.proofs.Fragments.{Reads, Split, is_split}
use Rattle.twin_sessions.specs.MbimServing.{messages_of}
use Rattle.twin_sessions.proofs.MbimAnswers.{AreOpen, all_are_open}
use Rattle.twin_sessions.proofs.MbimSteps.{done_is_cut}
use Rattle.modem_profile.specs.Profile.{Profile}
use Rattle.sim_modem.specs.Sim.{state_after}
use Rattle.sim_mbim.specs.declared.request.Request.{Request}
use Rattle.sim_mbim.specs.declared.request.Request.TheVariants.{Open, Close, Command, Wrong, Other}
use Rattle.sim_mbim.specs.Modem.{Modem, started}
use Rattle.sim_mbim.specs.Answers as mbim
use Rattle.sim_mbim.specs.Answers.{request_of, exchange_at_request, exchange_at_joining, begun_at_request}
use Rattle.sim_tunnel.specs.Carrying.{State, Exchange, answer, carried_at, carried_by, carried_whole, carrier, carries_to, exchange_at, exchange_of, indications, machine, qmi_answers, state_at}
use Rattle.relays.specs.TunnelRuns.{carrying_modem}

-- the body of an answer that carries this response
abbrev pub done_of : List ℕ → List ℕ
done_of response = done_text (record { uuid = QMI_SERVICE; cid = QMI_MESSAGE; status = SUCCESS }) response

pub is_one : (x : List ℕ) → IsMessage qmux.size_of x → is_message qmux.size_of x ≡ true
is_one x is = ap (λ (s : Size). is_whole s (length x)) is ∙ grind (arith, nat_tests)

module _ (profile : Profile) where
  abbrev pub modem : Answering
  modem = carrying_modem profile

  abbrev pub after : List (List ℕ) → State
  after asked = state_after (machine profile) asked

  abbrev pub inside : Answering
  inside = qmi_answers profile

  abbrev m : Modem
  m = mbim.opened 4096 (started profile)

  abbrev alone_in : List (List ℕ) → mbim.State
  alone_in run = record { begun = assembled_of run; modem = m }

  -- it is open, has these fragments of a command, and has carried these messages
  abbrev pub state_of : (run met : List (List ℕ)) → State
  state_of run met = record { mbim = alone_in run; met = met }

  -- ---- one fragment ----

  module _ (number : ℕ) (run met : List (List ℕ)) (f : List ℕ) (reads : Reads (kind_number kind.Command) number f) (j : Joining) (is : joining 65536 run f ≡ j) where
    asks : request_of f ≡ Command
    asks =
        let long : nat_lt (length f) 20 ≡ false = (let n = reads.long in grind (arith, nat_tests, n)) in
        ap (λ (k : ℕ). if k == kind_number kind.Open then (if length f == 16 then Open (u32_at f 12) else Wrong) else if k == kind_number kind.Close then (if length f == 12 then Close else Wrong) else if not (k == kind_number kind.Command) then Other else if nat_lt (length f) 20 then Wrong else Command)
        reads.kind_is
        ∙ ap (λ (b : Bool). if b then Wrong else Command) long

    carried_is : carried_at f (assembled_of run) (request_of f) ≡ carried_whole j
    carried_is = ap (carried_at f (assembled_of run)) asks ∙ ap carried_whole ((assemblies_stand_for_runs 65536 run f).joining_is ∙ is)

    abbrev alone_then : mbim.Exchange
    alone_then = exchange_at_joining number m j

    alone_says : mbim.exchange_at f (alone_in run) ≡ alone_then
    alone_says =
        ap (exchange_at_request f (alone_in run)) asks
        ∙ ap₂ (λ (n : ℕ) (k : Joining). exchange_at_joining n m k) reads.number_is ((assemblies_stand_for_runs 65536 run f).joining_is ∙ is)

    alone_left : mbim.state_at f (alone_in run) ≡ record { begun = assembled_of (run_with run f j); modem = alone_then.modem }
    alone_left =
        ap₂ (λ (r : Request) (e : mbim.Exchange). let s : mbim.State = record { begun = begun_at_request f (assembled_of run) r; modem = e.modem } in s) asks alone_says
        ∙ ap (λ (b : Assembled). let s : mbim.State = record { begun = b; modem = alone_then.modem } in s) ((assemblies_stand_for_runs 65536 run f).left ∙ ap (λ (k : Joining). assembled_of (run_with run f k)) is)

    abbrev here : State
    here = state_of run met

    -- it carries nothing
    says_alone : carried_whole j ≡ None → exchange_at inside f here ≡ record { text = alone_then.text; met = met }
    says_alone none = ap (exchange_of inside f here) (carried_is ∙ none) ∙ ap (λ (e : mbim.Exchange). let x : Exchange = record { text = e.text; met = met } in x) alone_says

    -- it carries this message
    says_carried : (buffer : List ℕ) → carried_whole j ≡ Some buffer → alone_then.modem ≡ m → exchange_at inside f here ≡ carries_to inside number m met buffer
    says_carried buffer some open_still =
        ap (exchange_of inside f here) (carried_is ∙ some)
        ∙ ap₂ (λ (n : ℕ) (e : mbim.Exchange). if e.modem.opened then carries_to inside n e.modem met buffer else record { text = e.text; met = met }) reads.number_is alone_says
        ∙ ap (λ (now : Modem). if now.opened then carries_to inside number now met buffer else record { text = alone_then.text; met = met }) open_still

    left_then : (e : Exchange) → exchange_at inside f here ≡ e → state_at inside f here ≡ record { mbim = record { begun = assembled_of (run_with run f j); modem = alone_then.modem }; met = e.met }
    left_then e e_is = ap₂ (λ (s : mbim.State) (x : Exchange). let t : State = record { mbim = s; met = x.met } in t) alone_left e_is

  -- ---- those before the last ----

  record IsSilent (asked run met fs : List (List ℕ)) : Type 0 where
    said : (more : List (List ℕ)) → sent_for size_of modem asked (fs ++ more) ≡ sent_for size_of modem (asked_then asked fs) more
    then_asked : (more : List (List ℕ)) → asked_then asked (fs ++ more) ≡ asked_then (asked_then asked fs) more
    state : after (asked_then asked fs) ≡ state_of (run ++ fs) met

  silent : (number : ℕ) (fs asked run met : List (List ℕ)) → AllByRecursion (Reads (kind_number kind.Command) number) fs → AreOpen run fs → after asked ≡ state_of run met → IsSilent asked run met fs
  unfolding sent_for asked_then cut_from
  silent number [] asked run met reads opens there = record { said = λ more. refl; then_asked = λ more. refl; state = there ∙ ap (λ (r : List (List ℕ)). state_of r met) (sym (append-nil run)) }
  silent number (f ∷ fs) asked run met reads opens there =
      let says = says_alone number run met f reads.0 More opens.0 refl in
      let nothing : modem asked f ≡ [] = ap (λ (s : State). (exchange_at inside f s).text) there ∙ ap (λ (e : Exchange). e.text) says in
      let then_there : after (f ∷ asked) ≡ state_of (run ++ f ∷ []) met = ap (λ (s : State). state_at inside f s) there ∙ left_then number run met f reads.0 More opens.0 (record { text = []; met = met }) says in
      let rest = silent number fs (f ∷ asked) (run ++ f ∷ []) met reads.1 opens.1 then_there in
      record {
        said = λ more. ap (λ (l : List ℕ). (mbim_cut l).messages ++ sent_for size_of modem (f ∷ asked) (fs ++ more)) nothing ∙ rest.said more;
        then_asked = rest.then_asked;
        state = rest.state ∙ ap (λ (r : List (List ℕ)). state_of r met) (append_assoc run (f ∷ []) fs);
      }

  -- ---- a whole command ----

  -- the message is carried, and what the modem inside says for it is this one message
  module _ (asked met : List (List ℕ)) (there : after asked ≡ state_of [] met) (number : ℕ) (number_fits : number < 2 ^ 32) (message : List ℕ) (message_is : IsMessage qmux.size_of message) (short : length message ≤ 65508)
      (response : List ℕ) (response_is : IsMessage qmux.size_of response) (replies : inside met message ≡ response) (done_short : IsShort (done_of response)) where
    abbrev command : List ℕ
    command = command_text carrier message

    back : CommandReadsBack carrier message
    back = command_is_read carrier message refl (omega arith) (omega (arith, short))

    command_short : IsShort command
    command_short = omega (arith, short)

    abbrev parts : Split (kind_number kind.Command) number command (omega arith) number_fits command_short
    parts = is_split (kind_number kind.Command) number command (omega arith) number_fits command_short

    abbrev opens : AreOpen [] parts.front × (joining 65536 parts.front parts.last ≡ Whole command)
    opens = all_are_open parts.front [] parts.last command parts.joins

    quiet : IsSilent asked [] met parts.front
    quiet = silent number parts.front asked [] met parts.reads_front opens.0 there

    carries_it : carried_whole (Whole command) ≡ Some message
    carries_it = ap (carried_by command) back.head_is ∙ ap Some back.buffer_is

    stays : (exchange_at_joining number m (Whole command)).modem ≡ m
    unfolding layout_for
    stays = ap (λ o. (mbim.exchange_at_command number command m o).modem) back.head_is

    abbrev carried_so : Exchange
    carried_so = carries_to inside number m met message

    says : exchange_at inside parts.last (state_of parts.front met) ≡ carried_so
    says = says_carried number parts.front met parts.last parts.reads_last (Whole command) opens.1 message carries_it stays

    none_told : (heard : Bool) → (if heard then indications 4096 [] else []) ≡ []
    none_told true = refl
    none_told false = refl

    text_is : carried_so.text ≡ done_bytes number (done_of response)
    text_is =
        ap (λ (b : Bool). answer number m (qmux_cut (if b then inside met message else [])).messages) (is_one message message_is)
        ∙ ap (λ (l : List ℕ). answer number m (qmux_cut l).messages) replies
        ∙ ap (answer number m) (one_message response response_is)
        ∙ ap (λ (l : List ℕ). done_bytes number (done_of response) ++ l) (none_told (wants m.subscribed QMI_SERVICE QMI_MESSAGE))
        ∙ append-nil (done_bytes number (done_of response))

    met_is : carried_so.met ≡ message ∷ met
    met_is = ap (λ (b : Bool). if b then message ∷ met else met) (is_one message message_is)

    last_text : modem (asked_then asked parts.front) parts.last ≡ done_bytes number (done_of response)
    last_text = ap (λ (s : State). (exchange_at inside parts.last s).text) quiet.state ∙ ap (λ (e : Exchange). e.text) says ∙ text_is

    pub heard_messages : sent_for size_of modem asked (messages_of number command) ≡ done_messages number (done_of response)
    unfolding sent_for
    heard_messages =
        ap (sent_for size_of modem asked) parts.is ∙ quiet.said (parts.last ∷ [])
        ∙ append-nil (mbim_cut (modem (asked_then asked parts.front) parts.last)).messages
        ∙ ap (λ (l : List ℕ). (mbim_cut l).messages) last_text
        ∙ ap (λ (c : Cutting). c.messages) (done_is_cut number (done_of response) number_fits done_short)

    pub heard_state : after (asked_then asked (messages_of number command)) ≡ state_of [] (message ∷ met)
    unfolding asked_then
    heard_state =
        ap (λ (l : List (List ℕ)). after (asked_then asked l)) parts.is
        ∙ ap after (quiet.then_asked (parts.last ∷ []))
        ∙ ap (λ (s : State). state_at inside parts.last s) quiet.state
        ∙ left_then number parts.front met parts.last parts.reads_last (Whole command) opens.1 carried_so says
        ∙ ap₂ (λ (now : Modem) (l : List (List ℕ)). let s : State = record { mbim = record { begun = assembled_of []; modem = now }; met = l } in s) stays met_is
