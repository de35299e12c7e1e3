-- What lasts over each event: the setup.
use Rattle.std.proofs.Common.{◌≡◌, ℕ, zero, suc, Bool, true, false, List, [], ◌∷◌, ◌++◌, length, refl, ap, ◌∙◌, Option, Some, None}
use Rattle.framing.specs.Cutting.{cut}
use Rattle.outbox.specs.Queue.{Queue}
use Rattle.connections.specs.Table.{Connection, Table}
use Rattle.connections.specs.Hearing.{Hearing, hears_all, brings_if, brings_to, hearing_of, goes_on}
use Rattle.number_space.specs.declared.space.Row.{Row}
use Rattle.number_space.specs.Table.{row_of, answers, first_due}
use Rattle.kit_bytes.specs.Subscriptions.{Pair}
use Rattle.mbim_frame.specs.declared.kind.MessageKind.TheVariants as kind
use Rattle.mbim_frame.specs.Frame.{size_of}
use Rattle.mbim_frame.specs.declared.status.TheConstants.{FAILURE}
use Rattle.mbim_frame.specs.Head.{is_kind, number_of}
use Rattle.mbim_frame.specs.Fragment.{body_of}
use Rattle.mbim_frame.specs.Bodies.{uuid_of, cid_of}
use Rattle.proxy_history.specs.Decision.{Decision, Replies, Forwards}
use Rattle.proxy_history.specs.View.{Indication}
use Rattle.mbim_proxy.specs.Setup.{Setup}
use Rattle.mbim_proxy.specs.Step as view
use Rattle.mbim_proxy.specs.Text.{response_text, refusal_text}
use Rattle.mbim_proxy.specs.FromModem.{Heard, IsDone, IsOpenDone, IsError, IsIndication, IsNeither, heard_as, opening_status}
use Rattle.mbim_proxy.specs.Delivering.{heard_with, begun_after}
use Rattle.mbim_state.specs.Asked.{ask_by}
use Rattle.mbim_state.specs.declared.asked.Asked.{Asked}
use Rattle.mbim_state.specs.declared.asked.Asked.TheVariants as asked
use Rattle.mbim_state.specs.Core.{Client, known_by, ModemSide, MbimState, setup_of, silences}
use Rattle.mbim_state.specs.Transitions.{with_side, with_numbers, decision_for, asks_modem, act_on, hear_client, after, text, answer, answer_if, is_for, respond_if, respond_to, receivers_in, hear_as, hear_each, hear_modem, refuse_as, refuse, expire_in, expire, lose, send_under}
use Rattle.mbim_core.specs.Told.{KeepsRequests, leaves_keeps, told_leaves, told_each_leaves, ended_keeps}

abbrev pub setup_at : MbimState → Setup
setup_at x = setup_of x.beside

-- ---- requests that get no answer ----

pub refused_keeps : (s : Setup) (note : Asked) (c : ℕ) (x : MbimState) → KeepsRequests x (refuse_as s note c x)
refused_keeps s asked.Open c x = ended_keeps s FAILURE x
refused_keeps s (asked.Command name) c x = leaves_keeps x _ (told_leaves (λ client. refusal_text (known_by client) (ask_by name)) (λ client. client) c x)

abbrev pub silenced : ℕ → MbimState → MbimState
silenced number x = with_numbers (silences number x.beside.numbers) x

pub refused : (s : Setup) (row : Row Asked) (x : MbimState) → setup_of (refuse s row x).beside ≡ setup_of x.beside
refused s row x = (refused_keeps s row.note row.conn (silenced row.number x)).setup

expired_in : (count : ℕ) (s : Setup) (time : ℕ) (x : MbimState) → setup_at (expire_in count s time x) ≡ setup_at x
unfolding expire_in
expired_in zero s time x = refl
expired_in (suc count) s time x = by (λ y. expired_in count s time y) (first_due time x.beside.numbers.rows)
  where
    by : ((y : MbimState) → setup_at (expire_in count s time y) ≡ setup_at y) → (o : Option (Row Asked)) → setup_at (elim o [ None ↦ x | Some row ↦ expire_in count s time (refuse s row x) ]) ≡ setup_at x
    by later None = refl
    by later (Some row) = later (refuse s row x) ∙ refused s row x

pub expired : (s : Setup) (time : ℕ) (x : MbimState) → setup_at (expire s time x) ≡ setup_at x
expired s time x = expired_in (length x.beside.numbers.rows) s time x

pub lost : (s : Setup) (x : MbimState) → setup_at (lose s x) ≡ setup_at x
lost s x = expired s _ x

-- ---- a message of the modem ----

answered : (s : Setup) (note : Asked) (c : ℕ) (m : List ℕ) (x : MbimState) → setup_at (answer s note c m x) ≡ setup_at x
answered s asked.Open c m x = (ended_keeps s (opening_status m) x).setup
answered s (asked.Command name) c m x = ap setup_of (told_leaves (λ client. response_text (known_by client) (ask_by name) m) (λ client. client) c x).beside

answered_if : (pending : Bool) (s : Setup) (note : Asked) (c : ℕ) (m : List ℕ) (x : MbimState) → setup_at (answer_if pending s note c m x) ≡ setup_at x
answered_if true s note c m x = answered s note c m x
answered_if false s note c m x = refl

responded_if : (b : Bool) (s : Setup) (row : Row Asked) (m : List ℕ) (x : MbimState) → setup_at (respond_if b s row m x) ≡ setup_at x
responded_if true s row m x = answered_if row.pending s row.note row.conn m (with_numbers (answers row.number x.beside.numbers) x)
responded_if false s row m x = refl

responded : (o : Option (Row Asked)) (s : Setup) (heard : Heard) (m : List ℕ) (x : MbimState) → setup_at (respond_to o s heard m x) ≡ setup_at x
responded None s heard m x = refl
responded (Some row) s heard m x = responded_if (is_for heard row.note) s row m x

heard_one : (s : Setup) (heard : Heard) (m : List ℕ) (x : MbimState) → setup_at (hear_as s heard m x) ≡ setup_at x
heard_one s IsNeither m x = refl
heard_one s IsIndication m x =
    ap setup_of (told_each_leaves (text s (Indication (view.blank m))) (after s (Indication (view.blank m))) (receivers_in (uuid_of (body_of m)) (cid_of (body_of m)) x.table.present) x).beside
heard_one s IsDone m x = responded (row_of (number_of m) x.beside.numbers.rows) s IsDone m x
heard_one s IsOpenDone m x = responded (row_of (number_of m) x.beside.numbers.rows) s IsOpenDone m x
heard_one s IsError m x = responded (row_of (number_of m) x.beside.numbers.rows) s IsError m x

heard_each : (s : Setup) (messages : List (List ℕ)) (x : MbimState) → setup_at (hear_each s messages x) ≡ setup_at x
unfolding hear_each
heard_each s [] x = refl
heard_each s (m ∷ messages) x = heard_each s messages (hear_as s (heard_as m) m x) ∙ heard_one s (heard_as m) m x

pub heard : (s : Setup) (m : List ℕ) (x : MbimState) → setup_at (hear_modem s m x) ≡ setup_at x
heard s m x = heard_each s (heard_with s.longest_body x.beside.begun m) (with_side (record x.beside { begun = begun_after s.longest_body x.beside.begun m }) x)

-- ---- a message of a client ----

-- what no message of a client changes: the setup, and the list that the modem was last asked for
abbrev pub lasting : ModemSide → Setup × List Pair
lasting side = (setup_of side, side.last_list)

acted : (opens : Bool) (s : Setup) (c : ℕ) (m : List ℕ) (number : ℕ) (client : Client) (outbox : Queue) (side : ModemSide) → lasting (asks_modem opens s c m number client outbox side).beside ≡ lasting side
acted true s c m number client outbox side = refl
acted false s c m number client outbox side = refl

decided : (s : Setup) (c : ℕ) (m : List ℕ) (decision : Decision) (client : Client) (outbox : Queue) (side : ModemSide) → lasting (act_on s c m decision client outbox side).beside ≡ lasting side
decided s c m (Replies verdict) client outbox side = refl
decided s c m (Forwards number) client outbox side = acted (is_kind kind.Open m) s c m number client outbox side

pub heard_client : (s : Setup) (c : ℕ) (m : List ℕ) (client : Client) (outbox : Queue) (side : ModemSide) → lasting (hear_client s c m client outbox side).beside ≡ lasting side
heard_client s c m client outbox side = decided s c m (decision_for s c client m side) client outbox side

heard_clients : (s : Setup) (c : ℕ) (messages : List (List ℕ)) (client : Client) (outbox : Queue) (side : ModemSide) → lasting (hears_all (hear_client s) c messages client outbox side).beside ≡ lasting side
unfolding hears_all
heard_clients s c [] client outbox side = refl
heard_clients s c (m ∷ messages) client outbox side =
    let one : Hearing Client ModemSide = hear_client s c m client outbox side in
    by one (heard_client s c m client outbox side) one.has_room (heard_clients s c messages one.client one.outbox one.beside)
  where
    by : (one : Hearing Client ModemSide) → lasting one.beside ≡ lasting side → (room : Bool) → lasting (hears_all (hear_client s) c messages one.client one.outbox one.beside).beside ≡ lasting one.beside
        → (let both : Hearing Client ModemSide = elim room [ true ↦ hears_all (hear_client s) c messages one.client one.outbox one.beside | false ↦ one ] in lasting both.beside ≡ lasting side)
    by one first true rest = rest ∙ first
    by one first false rest = first

pub brought : (s : Setup) (o : Option (Connection Client)) (c : ℕ) (piece : List ℕ) (t : Table Client) (side : ModemSide) → lasting (brings_to size_of (hear_client s) o c piece t side).beside ≡ lasting side
brought s None c piece t side = refl
brought s (Some k) c piece t side =
    let h : Hearing Client ModemSide = hearing_of size_of (hear_client s) piece k side in
    by h (goes_on size_of h piece k) (heard_clients s k.name (cut size_of (k.rest ++ piece)).messages k.client k.outbox side)
  where
    by : (h : Hearing Client ModemSide) (b : Bool) → lasting h.beside ≡ lasting side → lasting (brings_if size_of b c h piece t).beside ≡ lasting side
    by h true kept = kept
    by h false kept = kept

-- ---- the end of an event ----

pub sent : (s : Setup) (list : List Pair) (number : Option ℕ) (side : ModemSide) → setup_of (send_under s list number side) ≡ setup_of side
sent s list None side = refl
sent s list (Some number) side = refl
