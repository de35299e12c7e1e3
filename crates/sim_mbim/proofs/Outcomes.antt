-- What commands come to, and what is said to them.
use Rattle.std.proofs.Common.{◌≡◌, ℕ, Bool, true, false, List, [], ◌∷◌, Option, Some, None, Ok, Err, if◌then◌else◌, refl, sym, ap, ap₂, ◌∙◌}
use Rattle.mbim_frame.specs.declared.bodies.CommandHead.{CommandHead}
use Rattle.mbim_frame.specs.Bodies.{read_command, buffer_of}
use Rattle.mbim_fragments.specs.declared.assembly.Took.TheVariants as took
use Rattle.mbim_fragments.specs.Runs.{Joining, More, Whole, OutOfSequence, TooLong, told}
use Rattle.mbim_fragments.specs.Assembling.{body_given}
use Rattle.sim_modem.specs.Sim.{Answering}
use Rattle.mbim_fields.specs.Layout.{Layout}
use Rattle.mbim_fields.specs.Value.{Value}
use Rattle.mbim_fields.specs.Reading.{read}
use Rattle.mbim_fields.specs.Fields.{Fields}
use Rattle.mbim_fields.specs.declared.fault.FieldFault.{FieldFault}
use Rattle.mbim_fields.proofs.Agreement.{stand-read}
use Rattle.sim_mbim.specs.Modem.{Modem, Outcome, unchanged, values_told, modem_left}
use Rattle.sim_mbim.specs.Commands.{Reply, encoded, replied, refused, reply_in, reply_to_values, reply_to, outcome}
use Rattle.sim_mbim.specs.Writing.{reply_text}
use Rattle.sim_mbim.specs.declared.request.Request.{Request}
use Rattle.sim_mbim.specs.Answers.{Exchange, says, errs, request_of, exchange_at_reply, exchange_at_command, exchange_at_joining, exchange_at_request, exchange_at, begun_at_request, State, state_at, machine, Keeps}
use Rattle.sim_modem.proofs.Meeting.{met_more, met_answer}

-- ---- outcomes ----

pub unchanged-told : (m : Modem) (told : Option (List Value)) → values_told (unchanged m told) ≡ told
unchanged-told m None = refl
unchanged-told m (Some values) = refl

pub unchanged-left : (m : Modem) (told : Option (List Value)) → modem_left m (unchanged m told) ≡ m
unchanged-left m None = refl
unchanged-left m (Some values) = refl

pub ruleset unchanged_outcomes = (unchanged-told, unchanged-left)

-- ---- replies ----

pub replied-none : (head : CommandHead) (m : Modem) (o : Option Outcome) (left : Modem) → None ≡ values_told o → left ≡ modem_left m o → replied head m o ≡ record { status = 21; buffer = []; modem = left }
replied-none head m None left none is = ap (refused 21) (sym is)
replied-none head m (Some outcome) left none is = absurd (cc)

pub replied-some : (head : CommandHead) (m : Modem) (o : Option Outcome) (left : Modem) (values : List Value) (buffer : List ℕ) → Some values ≡ values_told o → left ≡ modem_left m o → buffer ≡ encoded head values
    → replied head m o ≡ record { status = 0; buffer = buffer; modem = left }
replied-some head m None left values buffer some is lays = absurd (cc)
replied-some head m (Some outcome) left values buffer some is lays =
    let same : values ≡ outcome.values = cc in
    rw (is, lays, same) refl

pub reply-read : (head : CommandHead) (buffer : List ℕ) (m : Modem) (found : Option Layout) (layout : Layout) (values : List Value) (r : Reply) → found ≡ Some layout → Fields layout values buffer
    → replied head m (outcome head values m) ≡ r → reply_in head buffer m found ≡ r
reply-read head buffer m found layout values r is fields replies = rw (is, stand-read layout values buffer fields) replies

pub reply-unread : (head : CommandHead) (buffer : List ℕ) (m : Modem) (found : Option Layout) (layout : Layout) (fault : FieldFault) → found ≡ Some layout → read layout buffer ≡ Err fault → reply_in head buffer m found ≡ refused 21 m
reply-unread head buffer m found layout fault is unread = rw (is, unread) refl

pub turn-replied : (number : ℕ) (head : CommandHead) (reply : Reply) (now : Reply) (text : List ℕ) → reply ≡ now → text ≡ reply_text number now.modem.longest head now → exchange_at_reply number head reply ≡ says now.modem text
turn-replied number head reply now text is said = ap (exchange_at_reply number head) is ∙ ap (says now.modem) (sym said)

-- ---- a command that is heard ----

pub command-heard : (number : ℕ) (body slice : List ℕ) (m : Modem) (head : CommandHead) (opened : Bool) (now : Reply) (text : List ℕ) → read_command body ≡ Some head → opened ≡ m.opened → opened ≡ true
    → slice ≡ buffer_of body → reply_to head slice m ≡ now → text ≡ reply_text number now.modem.longest head now → exchange_at_command number body m (read_command body) ≡ says now.modem text
command-heard number body slice m head opened now text reads is opens slice_is replies said =
    ap (exchange_at_command number body m) reads
    ∙ ap (λ (b : Bool). if b then exchange_at_reply number head (reply_to head (buffer_of body) m) else errs number 5 m) (sym is ∙ opens)
    ∙ turn-replied number head (reply_to head (buffer_of body) m) now text (ap (λ (b : List ℕ). reply_to head b m) (sym slice_is) ∙ replies) said

-- ---- a fragment that is heard ----

-- only the last of a message tells that it is one
pub is_whole : (j : Joining) (before : List ℕ) → told j ≡ took.Message → j ≡ Whole (body_given j before)
is_whole More before is = absurd (cc)
is_whole (Whole body) before is = refl
is_whole OutOfSequence before is = absurd (cc)
is_whole TooLong before is = absurd (cc)

pub whole-heard : (number : ℕ) (m before now : Modem) (j : Joining) (body slice text : List ℕ) → j ≡ Whole body → slice ≡ body → before ≡ m → exchange_at_command number slice before (read_command slice) ≡ says now text
    → exchange_at_joining number m j ≡ says now text
whole-heard number m before now j body slice text whole slice_is same heard =
    ap (exchange_at_joining number m) whole ∙ ap₂ (λ (b : List ℕ) (m : Modem). exchange_at_command number b m (read_command b)) (sym slice_is) (sym same) ∙ heard

-- ---- a message that is heard ----

abbrev pub state_by : (message : List ℕ) → State → Request → State
state_by m s request = record { begun = begun_at_request m s.begun request; modem = (exchange_at_request m s request).modem }

pub text-by : (m : List ℕ) (s : State) (request : Request) (text : List ℕ) → request ≡ request_of m → text ≡ (exchange_at_request m s request).text → text ≡ (exchange_at m s).text
text-by m s request text is said = said ∙ ap (λ (r : Request). (exchange_at_request m s r).text) is

pub state-by : (m : List ℕ) (s now : State) (request : Request) → request ≡ request_of m → now ≡ state_by m s request → now ≡ state_at m s
state-by m s now request is after = after ∙ ap (state_by m s) is

-- ---- messages one after another ----

pub keeps-more : (answering : Answering) (past : List (List ℕ)) (message : List ℕ) (s now : State) → now ≡ state_at message s → Keeps answering past s → Keeps answering (message ∷ past) now
keeps-more answering past message s now is kept = record { profile = kept.profile; has_met = met_more (machine kept.profile) answering past message s kept.has_met now is }

pub answers-by : (answering : Answering) (past : List (List ℕ)) (message text : List ℕ) (s : State) → text ≡ (exchange_at message s).text → Keeps answering past s → text ≡ answering past message
answers-by answering past message text s is kept = met_answer (machine kept.profile) answering past message s kept.has_met text is
