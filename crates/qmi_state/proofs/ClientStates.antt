-- What each fact makes of a client's client_state.
use Rattle.std.proofs.Common.{◌≡◌, ℕ, ◌+◌, ◌≤◌, Bool, true, false, ◌||◌, List, [], ◌∷◌, ◌++◌, length, refl, ap, ◌∙◌, arith, nat_lt, ◌==◌, if◌then◌else◌, append-nil}
use Rattle.std.proofs.lemmas.Bool.Decides.{nat_tests}
use Rattle.std.proofs.lemmas.Bool.{eq-eqb}
use Rattle.qmux_frame.specs.Head.{number_of}
use Rattle.qmux_frame.specs.Reply.{result_reply, with_number}
use Rattle.proxy_history.specs.Wording.{told_by}
use Rattle.proxy_history.specs.Facts.{Fact, Request, Judged, Answered, IdHeld, Expired, Aborted, Indicated, Verdict, Own, Share, Foreign, Away, Full, Forward, Ready, Waits}
use Rattle.proxy_history.specs.Connections.{contains}
use Rattle.proxy_history.specs.View.{Entry, Said, Response, Refused, Indication, HeldId, NoAnswer, view, entry_if, said_at}
use Rattle.proxy_history.specs.Rendering.{render}
use Rattle.proxy_history.proofs.Rendering.{waiting_within}
use Rattle.qmi_proxy.specs.Limits.{outbox_limit}
use Rattle.qmi_proxy.specs.Errors.{aborted, client_ids_exhausted}
use Rattle.qmi_proxy.specs.OwnReplies.{is_open, step}
use Rattle.qmi_proxy.specs.Text.{text, view_of, rendering, blank}
use Rattle.qmi_proxy.specs.Regular.{IsSent}
use Rattle.proxy_state.specs.Stands as proxy
use Rattle.proxy_state.proofs.ClientStates as client_states
use Rattle.qmi_state.specs.declared.client.Client.{Client}
use Rattle.qmi_state.specs.Transitions.{reply_as}
use Rattle.qmux_frame.proofs.Framed.{number_last}

-- ---- what entries make of an client_state ----

abbrev pub ClientState : Type 0
ClientState = proxy.ClientState Client

-- bytes lack room, and come where they find it
abbrev pub lacks_room : List ℕ → ClientState → Bool
lacks_room bytes a = client_states.lacks_room outbox_limit bytes a

abbrev pub put_to : List ℕ → ClientState → ClientState
put_to bytes a = client_states.put_to outbox_limit bytes a

-- a message with its reply
abbrev pub judged : List ℕ → List ℕ → Verdict → ClientState → ClientState
judged device m verdict a = record (put_to (reply_as device a.client.opened m verdict) a) { client = record { opened = step device a.client.opened (Said m verdict) } }

abbrev pub client_state_of : List ℕ → List Fact → ℕ → ClientState
client_state_of device past c = record {
  client = record { opened = is_open device (view_of c past) };
  waiting = (rendering device c past).waiting;
  is_over = (rendering device c past).is_over;
}

module _ (device : List ℕ) where
  abbrev client_state_from : List Entry → ClientState
  client_state_from entries = record { client = record { opened = is_open device entries }; waiting = (render outbox_limit (text device) entries).waiting; is_over = (render outbox_limit (text device) entries).is_over }

  sent_as : (m : List ℕ) (verdict : Verdict) (entries : List Entry) → client_state_from (Said m verdict ∷ entries) ≡ record (put_to (text device entries (Said m verdict)) (client_state_from entries)) { client = record { opened = step device (is_open device entries) (Said m verdict) } }
  unfolding render told_by
  sent_as m verdict entries = refl

  sent : (m : List ℕ) (verdict : Verdict) (entries : List Entry) → client_state_from (Said m verdict ∷ entries) ≡ judged device m verdict (client_state_from entries)
  sent m Own entries = sent_as m Own entries
  sent m Share entries = sent_as m Share entries
  sent m Foreign entries = sent_as m Foreign entries
  sent m Away entries = sent_as m Away entries
  sent m Full entries = sent_as m Full entries
  sent m Forward entries = sent_as m Forward entries
  sent m Ready entries = sent_as m Ready entries
  sent m Waits entries = sent_as m Waits entries

  responded : (place : ℕ) (m : List ℕ) (entries : List Entry) → client_state_from (Response place m ∷ entries) ≡ put_to (with_number (number_of (said_at place entries)) m) (client_state_from entries)
  unfolding render told_by
  responded place m entries = refl

  refused_held : (place : ℕ) (entries : List Entry) → client_state_from (Refused place HeldId ∷ entries) ≡ put_to (result_reply (said_at place entries) client_ids_exhausted) (client_state_from entries)
  unfolding render told_by
  refused_held place entries = refl

  refused_unanswered : (place : ℕ) (entries : List Entry) → client_state_from (Refused place NoAnswer ∷ entries) ≡ put_to (result_reply (said_at place entries) aborted) (client_state_from entries)
  unfolding render told_by
  refused_unanswered place entries = refl

  indicated : (m : List ℕ) (entries : List Entry) → client_state_from (Indication m ∷ entries) ≡ put_to m (client_state_from entries)
  unfolding render told_by
  indicated m entries = refl

  -- a message that is forwarded changes nothing
  pub forwarded_same : (past : List Fact) (c : ℕ) (m : List ℕ) → judged device m Forward (client_state_of device past c) ≡ client_state_of device past c
  forwarded_same past c m =
      let a : ClientState = client_state_of device past c in
      let within : length a.waiting ≤ outbox_limit = waiting_within outbox_limit (text device) (view_of c past) in
      let room : nat_lt outbox_limit (length a.waiting + 0) ≡ false = grind (arith, nat_tests, within) in
      ap (λ (b : Bool). let after : ClientState = record { client = a.client; waiting = if a.is_over || b then a.waiting else a.waiting ++ []; is_over = a.is_over || b } in after) room
      ∙ elim a.is_over as (λ b. (let after : ClientState = record { client = a.client; waiting = if b || false then a.waiting else a.waiting ++ []; is_over = b || false } in after) ≡ record { client = a.client; waiting = a.waiting; is_over = b }) [
        | true ↦ refl
        | false ↦ ap (λ (l : List ℕ). let after : ClientState = record { client = a.client; waiting = l; is_over = false } in after) (append-nil a.waiting)
      ]

  -- ---- facts with an entry for one client ----

  pub judged_own : (past : List Fact) (c place : ℕ) (m : List ℕ) (verdict : Verdict) → client_state_of device (Judged c place m verdict ∷ past) c ≡ judged device m verdict (client_state_of device past c)
  unfolding view
  judged_own past c place m verdict = ap (λ (b : Bool). client_state_from (entry_if b (Said m verdict) (view_of c past))) (eq-eqb c c refl) ∙ sent m verdict (view_of c past)

  pub judged_other : (past : List Fact) (c place d : ℕ) (m : List ℕ) (verdict : Verdict) → (c == d) ≡ false → client_state_of device (Judged c place m verdict ∷ past) d ≡ client_state_of device past d
  unfolding view
  judged_other past c place d m verdict other = ap (λ (b : Bool). client_state_from (entry_if b (Said m verdict) (view_of d past))) other

  pub answered_own : (past : List Fact) (r : Request) (m : List ℕ) → 12 ≤ length m → IsSent past r → client_state_of device (Answered r m ∷ past) r.conn ≡ put_to (with_number (number_of r.message) m) (client_state_of device past r.conn)
  unfolding view
  answered_own past r m long asked =
      ap (λ (b : Bool). client_state_from (entry_if b (Response r.place (blank m)) (view_of r.conn past))) (eq-eqb r.conn r.conn refl)
      ∙ responded r.place (blank m) (view_of r.conn past)
      ∙ ap (λ (l : List ℕ). put_to (with_number (number_of l) (blank m)) (client_state_of device past r.conn)) asked.2
      ∙ ap (λ (l : List ℕ). put_to l (client_state_of device past r.conn)) (number_last (number_of r.message) m long)

  pub answered_other : (past : List Fact) (r : Request) (m : List ℕ) (d : ℕ) → (r.conn == d) ≡ false → client_state_of device (Answered r m ∷ past) d ≡ client_state_of device past d
  unfolding view
  answered_other past r m d other = ap (λ (b : Bool). client_state_from (entry_if b (Response r.place (blank m)) (view_of d past))) other

  pub held_own : (past : List Fact) (r : Request) → IsSent past r → client_state_of device (IdHeld r ∷ past) r.conn ≡ put_to (result_reply r.message client_ids_exhausted) (client_state_of device past r.conn)
  unfolding view
  held_own past r asked =
      ap (λ (b : Bool). client_state_from (entry_if b (Refused r.place HeldId) (view_of r.conn past))) (eq-eqb r.conn r.conn refl)
      ∙ refused_held r.place (view_of r.conn past)
      ∙ ap (λ (l : List ℕ). put_to (result_reply l client_ids_exhausted) (client_state_of device past r.conn)) asked.2

  pub held_other : (past : List Fact) (r : Request) (d : ℕ) → (r.conn == d) ≡ false → client_state_of device (IdHeld r ∷ past) d ≡ client_state_of device past d
  unfolding view
  held_other past r d other = ap (λ (b : Bool). client_state_from (entry_if b (Refused r.place HeldId) (view_of d past))) other

  unanswered : (past : List Fact) (r : Request) → IsSent past r → client_state_from (entry_if (r.conn == r.conn) (Refused r.place NoAnswer) (view_of r.conn past)) ≡ put_to (result_reply r.message aborted) (client_state_of device past r.conn)
  unanswered past r asked =
      ap (λ (b : Bool). client_state_from (entry_if b (Refused r.place NoAnswer) (view_of r.conn past))) (eq-eqb r.conn r.conn refl)
      ∙ refused_unanswered r.place (view_of r.conn past)
      ∙ ap (λ (l : List ℕ). put_to (result_reply l aborted) (client_state_of device past r.conn)) asked.2

  pub expired_own : (past : List Fact) (r : Request) → IsSent past r → client_state_of device (Expired r ∷ past) r.conn ≡ put_to (result_reply r.message aborted) (client_state_of device past r.conn)
  unfolding view
  expired_own past r asked = unanswered past r asked

  pub expired_other : (past : List Fact) (r : Request) (d : ℕ) → (r.conn == d) ≡ false → client_state_of device (Expired r ∷ past) d ≡ client_state_of device past d
  unfolding view
  expired_other past r d other = ap (λ (b : Bool). client_state_from (entry_if b (Refused r.place NoAnswer) (view_of d past))) other

  pub aborted_own : (past : List Fact) (r : Request) → IsSent past r → client_state_of device (Aborted r ∷ past) r.conn ≡ put_to (result_reply r.message aborted) (client_state_of device past r.conn)
  unfolding view
  aborted_own past r asked = unanswered past r asked

  pub aborted_other : (past : List Fact) (r : Request) (d : ℕ) → (r.conn == d) ≡ false → client_state_of device (Aborted r ∷ past) d ≡ client_state_of device past d
  unfolding view
  aborted_other past r d other = ap (λ (b : Bool). client_state_from (entry_if b (Refused r.place NoAnswer) (view_of d past))) other

  -- ---- an indication ----

  pub indicated_is : (past : List Fact) (m : List ℕ) (receivers : List ℕ) (d : ℕ) (told : Bool) → contains d receivers ≡ told → client_state_of device (Indicated m receivers ∷ past) d ≡ (if told then put_to m (client_state_of device past d) else client_state_of device past d)
  unfolding view
  indicated_is past m receivers d true is = ap (λ (b : Bool). client_state_from (entry_if b (Indication m) (view_of d past))) is ∙ indicated m (view_of d past)
  indicated_is past m receivers d false is = ap (λ (b : Bool). client_state_from (entry_if b (Indication m) (view_of d past))) is
