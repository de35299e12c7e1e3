-- What is noted of an event more, and of what waits when it comes. Lists of events have the newest first.
use Rattle.std.proofs.Common.{◌≡◌, ℕ, zero, suc, ◌≤◌, Bool, true, false, List, [], ◌∷◌, ◌++◌, length, take, drop, Option, Some, refl, sym, ap, ◌∙◌, arith}
use Rattle.proxy_history.specs.Events.{Event, Took}
use Rattle.proxy_history.specs.Connections.{contains}
use Rattle.proxy_history.specs.Proxy.{Proxy}
use Rattle.hub_io.specs.Events.{event_of}
use Rattle.hub_io.specs.declared.Event.TheVariants as hub
use Rattle.hub_io.specs.declared.Event.{Event as HubEvent}
use Rattle.proxy_serving.specs.Face.{Face}
use Rattle.proxy_serving.specs.Cores.{Shows}
use Rattle.rig_trace.specs.declared.Row.{Row}
use Rattle.rig_trace.specs.declared.Counts.{Counts}
use Rattle.rig_trace.specs.Rows.{Reading, Ledger, without_row, one_answered, has_answered, follow, asked_by, ledger_of}
use Rattle.rig_trace.specs.Trace.{met_by, taken_by, trace_of}
use Rattle.rig_trace.specs.declared.Met.TheVariants.{Takes}
use Rattle.rig_notes.specs.Notes.{Noted, nothing, NotesEvent, AreNoted}

-- ---- the ledger ----

-- a request was answered
pub is_answered : (old : Ledger) (row : Row) (found : Option Row) (rows : List Row) (counts : Counts) → found ≡ Some row → rows ≡ without_row row old.rows → counts ≡ one_answered row old.time old.counts
    → record { rows = rows; asked = old.asked; time = old.time; said = old.said; counts = counts } ≡ has_answered found old
is_answered old row found rows counts is fewer counted =
    let with_rows : List Row → Ledger = λ left. record { rows = left; asked = old.asked; time = old.time; said = old.said; counts = counts } in
    let with_counts : Counts → Ledger = λ now. record { rows = without_row row old.rows; asked = old.asked; time = old.time; said = old.said; counts = now } in
    ap with_rows fewer ∙ ap with_counts counted ∙ sym (ap (λ f. has_answered f old) is)

-- ---- an event more ----

pub nothing_noted : (reading : Reading) (p : Proxy) (noted : Noted) → noted ≡ nothing → AreNoted reading p [] noted
unfolding ledger_of trace_of
nothing_noted reading p noted none = record { ledger = λ ok. ap (λ (n : Noted). n.ledger) none; trace = λ ok. ap (λ (n : Noted). n.trace) none }

module _ (reading : Reading) (p : Proxy) (past : List Event) {old new : Noted} (noted : AreNoted reading p past old) where
  pub notes_event : (event : Event) (asked taken : List ℕ) → NotesEvent reading event asked taken old new → asked ≡ asked_by p event past → taken ≡ taken_by p event past → AreNoted reading p (event ∷ past) new
  unfolding ledger_of trace_of
  notes_event event asked taken notes new_bytes taken_bytes = record {
    ledger = λ ok.
        ap (λ (n : Noted). n.ledger) (notes ok) ∙ ap (follow reading event asked) (noted.ledger (sym (ap (λ (n : Noted). n.failed) (notes ok)) ∙ ok))
        ∙ ap (λ bytes. follow reading event bytes (ledger_of reading p past)) new_bytes;
    trace = λ ok.
        let before : old.failed ≡ false = sym (ap (λ (n : Noted). n.failed) (notes ok)) ∙ ok in
        ap (λ (n : Noted). n.trace) (notes ok) ∙ ap (λ trace. trace ++ met_by reading event asked taken old.ledger) (noted.trace before)
        ∙ ap (λ ledger. trace_of reading p past ++ met_by reading event asked taken ledger) (noted.ledger before)
        ∙ ap (λ bytes. trace_of reading p past ++ met_by reading event bytes taken (ledger_of reading p past)) new_bytes
        ∙ ap (λ bytes. trace_of reading p past ++ met_by reading event (asked_by p event past) bytes (ledger_of reading p past)) taken_bytes;
  }

  -- a client's taking; what is new for the modem then makes no difference
  pub notes_taking : (c count : ℕ) (asked taken : List ℕ) → NotesEvent reading (Took c count) asked taken old new → taken ≡ take count (p.waiting c past) → AreNoted reading p (Took c count ∷ past) new
  unfolding ledger_of trace_of
  notes_taking c count asked taken notes bytes = record {
    ledger = λ ok. ap (λ (n : Noted). n.ledger) (notes ok) ∙ noted.ledger (sym (ap (λ (n : Noted). n.failed) (notes ok)) ∙ ok);
    trace = λ ok.
        ap (λ (n : Noted). n.trace) (notes ok) ∙ ap (λ trace. trace ++ Takes c taken ∷ []) (noted.trace (sym (ap (λ (n : Noted). n.failed) (notes ok)) ∙ ok))
        ∙ ap (λ (b : List ℕ). trace_of reading p past ++ Takes c b ∷ []) bytes;
  }

-- ---- what waits when it comes ----

pub asked_is : (p : Proxy) (event : Event) (past : List Event) (before after : Face) (count : ℕ) → Shows p past before → Shows p (event ∷ past) after → count ≡ length before.modem_queue
    → drop count after.modem_queue ≡ asked_by p event past
asked_is p event past before after count first then is =
    ap (λ n. drop n after.modem_queue) (is ∙ ap length first.modem_queue) ∙ ap (drop (length (p.waiting_for_modem past))) then.modem_queue

none_taken : (count : ℕ) (queue waiting : List ℕ) → queue ≡ [] → count ≤ length queue → take count queue ≡ take count waiting
none_taken zero queue waiting none within = refl
none_taken (suc count) queue waiting none within = absurd (let few : length queue ≡ 0 = ap length none in omega (arith, few, within))

-- for a client that isn't there nothing waits
pub taken_is : (p : Proxy) (past : List Event) (face : Face) (c count : ℕ) → Shows p past face → (contains c face.present ≡ false → face.queue c ≡ []) → count ≤ length (face.queue c) → take count (face.queue c) ≡ take count (p.waiting c past)
taken_is p past face c count shows nobody within =
    let step : (b : Bool) → contains c (p.present past) ≡ b → take count (face.queue c) ≡ take count (p.waiting c past) = elim [
      | true ↦ λ is. ap (take count) (shows.queue c is)
      | false ↦ λ is. none_taken count (face.queue c) (p.waiting c past) (nobody (ap (contains c) shows.present ∙ is)) within
    ] in step (contains c (p.present past)) refl

-- no bytes are taken by it
pub nothing_taken_by : (p : Proxy) (past : List Event) (event : HubEvent) → ((c count : ℕ) → event ≡ hub.Took c count → ⊥) → [] ≡ taken_by p (event_of event) past
nothing_taken_by p past (hub.Joined c) other = refl
nothing_taken_by p past (hub.Piece c bytes) other = refl
nothing_taken_by p past (hub.Left c) other = refl
nothing_taken_by p past (hub.ModemPiece bytes) other = refl
nothing_taken_by p past hub.ModemGone other = refl
nothing_taken_by p past hub.ModemBack other = refl
nothing_taken_by p past (hub.Now time) other = refl
nothing_taken_by p past (hub.Took c count) other = absurd (other c count refl)
nothing_taken_by p past (hub.ModemTook count) other = refl
