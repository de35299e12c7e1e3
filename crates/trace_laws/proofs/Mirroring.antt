-- A ledger that is fed with plain events mirrors their history. Lists of events and of facts have the newest first.
use Rattle.std.proofs.Common.{◌≡◌, ℕ, ◌≤◌, max, Bool, true, false, ◌==◌, if◌then◌else◌, List, [], ◌∷◌, length, map, refl, ap, sym, ◌∙◌, subst, arith, Option, None}
use Rattle.std.specs.List.{AllByRecursion}
use Rattle.std.proofs.lemmas.Bool.Decides.{nat_tests}
use Rattle.std.proofs.lemmas.List.{length-replicate, get_or-replicate}
use Rattle.framing.specs.Framing.{IsMessage}
use Rattle.qmux_frame.specs.Frame.{size_of}
use Rattle.qmux_frame.specs.declared.kind.MessageKind.{MessageKind}
use Rattle.proxy_history.specs.Events.{Event, Joined, Piece, Left, ModemPiece, ModemGone, ModemBack, Now, Took, ModemTook}
use Rattle.proxy_history.specs.Items.{Joins, Says, ModemSays, ClockShows, Takes, ModemTakes}
use Rattle.proxy_history.specs.Facts.{Fact, Request, NotAdmitted, EventBegan, Admitted, Ended, Taken, ModemTaken, Expired, TimeIs}
use Rattle.proxy_history.specs.Decision.{Decision}
use Rattle.proxy_history.specs.Connections.{present, message_count}
use Rattle.proxy_history.specs.Requests.{in_use, forward_count}
use Rattle.proxy_history.specs.Modem.{now, to_modem, modem_taken_count}
use Rattle.proxy_history.specs.Noting.{each_pending}
use Rattle.proxy_history.proofs.Noted.{kept_by_each}
use Rattle.proxy_history.specs.History as proxy
use Rattle.proxy_history.specs.History.{known_of}
use Rattle.proxy_solo.proofs.Lists.{every}
use Rattle.qmi_proxy.specs.Setup.{Setup}
use Rattle.qmi_proxy.specs.Text.{note}
use Rattle.qmi_proxy.specs.Releases.{release_due}
use Rattle.qmi_proxy.specs.FromModem.{first_answered_by, hear_as, respond, refuse, tick}
use Rattle.qmi_proxy.specs.Clients.{wire, decision_as, judge}
use Rattle.qmi_proxy.specs.Proxy.{proxy_of}
use Rattle.qmi_proxy.specs.History.{qmi_protocol, history}
use Rattle.rig_runs.specs.Rig.{time_limit}
use Rattle.rig_laws.proofs.Plain.{ArePlain, IsSaid, IsResponse, AtEach}
use Rattle.rig_trace.specs.Rows.{Ledger, has_passed, follow, asked_by, ledger_of}
use Rattle.rig_trace.specs.Qmi.{qmi_reading}
use Rattle.rig_trace.specs.Laws.{AllMirror}
use Rattle.rig_trace.proofs.Numbers.{no_more_said}
use Rattle.trace_laws.specs.Laws.{row_of}
use Rattle.trace_laws.proofs.Streams.{says_one, hears_one, adds_one}
use Rattle.trace_laws.proofs.Saying.{Mirrored, Brings, asked_on, brings, new_bytes}
use Rattle.trace_laws.proofs.Answering.{Has, noted_has, freed_has, answer_mirrored}

pub begun : (past : List Fact) (ledger : Ledger) → Mirrored past ledger → Mirrored (EventBegan ∷ past) ledger
unfolding in_use forward_count now message_count
begun past ledger all = record {
  mirrors = record { rows = all.mirrors.rows; asked = all.mirrors.asked; time = all.mirrors.time; names_are = all.mirrors.names_are; said = all.mirrors.said };
  long = all.long;
}

mirrored_by : (past after : List Fact) (ledger : Ledger) → Has (in_use past) (forward_count past) (now past) (λ c. message_count c past) after → Mirrored past ledger → Mirrored after ledger
mirrored_by past after ledger H all = record {
  mirrors = record {
    rows = all.mirrors.rows ∙ ap (map row_of) (sym H.in_use);
    asked = all.mirrors.asked ∙ sym H.count;
    time = all.mirrors.time ∙ sym H.time;
    names_are = all.mirrors.names_are;
    said = λ c below. all.mirrors.said c below ∙ sym (H.said c);
  };
  long = subst (λ (l : List Request). AllByRecursion (λ r. 12 ≤ length r.message) l) (sym H.in_use) all.long;
}

-- the modem took no more than was there
abbrev pub IsWithin : Setup → List Event → Type 0
IsWithin s events = modem_taken_count (history s events) ≤ length (to_modem wire (history s events))

pub here : (P : List Event → Type 0) (events : List Event) → AtEach P events → P events
here P [] all = all
here P (event ∷ events) all = all.0

module _ (s : Setup) (there : s.starts_away ≡ false) where
  -- ---- a client says something ----

  pub long_enough : (m : List ℕ) → IsMessage size_of m → 12 ≤ length m
  long_enough m is = grind (arith, nat_tests)

  abbrev pub began : List Event → List Fact
  began events = EventBegan ∷ history s events

  abbrev pub decision : ℕ → List ℕ → List Event → Decision
  decision c m events = decision_as s (known_of (qmi_protocol s) c (began events)) c m (began events)

  pub piece_is : (c : ℕ) (m : List ℕ) (events : List Event) → ArePlain s events → IsSaid c m (history s events) → history s (Piece c m ∷ events) ≡ judge s c m (decision c m events) (began events)
  unfolding present
  piece_is c m events plain said =
      adds_one s there (Piece c m) events (Says c m) (says_one s there c m events plain said.whole) ∙ ap (λ (b : Bool). if b then judge s c m (decision c m events) (began events) else began events) said.there

  module _ (limit : s.time_limit ≡ time_limit) where
    -- what it brings
    brought : (c : ℕ) (m : List ℕ) (events : List Event) → IsSaid c m (history s events) → Brings c m (asked_on s c m (decision c m events) (began events)) (began events) (judge s c m (decision c m events) (began events))
    brought c m events said = brings s limit c (omega (arith, said.high)) m (long_enough m said.whole) (began events) (decision c m events)

    pub piece_asks : (c : ℕ) (m : List ℕ) (events : List Event) → IsWithin s events → ArePlain s events → IsSaid c m (history s events)
        → asked_by (proxy_of s) (Piece c m) events ≡ asked_on s c m (decision c m events) (began events)
    unfolding to_modem modem_taken_count
    piece_asks c m events within plain said =
        let is = piece_is c m events plain said in
        let B = brought c m events said in
        new_bytes (history s events) (history s (Piece c m ∷ events)) (asked_on s c m (decision c m events) (began events)) (ap (to_modem wire) is ∙ B.bytes) (ap modem_taken_count is ∙ B.was_taken) within

    said_event : (c : ℕ) (m : List ℕ) (events : List Event) → IsWithin s events → ArePlain s events → IsSaid c m (history s events) → (ledger : Ledger) → Mirrored (history s events) ledger
        → Mirrored (history s (Piece c m ∷ events)) (follow qmi_reading (Piece c m) (asked_by (proxy_of s) (Piece c m) events) ledger)
    said_event c m events within plain said ledger all =
        subst (λ (asked : List ℕ). Mirrored (history s (Piece c m ∷ events)) (follow qmi_reading (Piece c m) asked ledger)) (sym (piece_asks c m events within plain said))
        (subst (λ (after : List Fact). Mirrored after (follow qmi_reading (Piece c m) (asked_on s c m (decision c m events) (began events)) ledger)) (sym (piece_is c m events plain said))
        ((brought c m events said).mirrored ledger (begun (history s events) ledger all)))

  -- ---- the modem answers ----

  pub answer_is : (m : List ℕ) (events : List Event) → ArePlain s events → IsResponse m → history s (ModemPiece m ∷ events) ≡ respond s.device (first_answered_by m (in_use (began events))) m (began events)
  answer_is m events plain response =
      adds_one s there (ModemPiece m) events (ModemSays m) (hears_one s there m events plain response.whole) ∙ ap (λ (kind : Option MessageKind). hear_as kind s.device m (began events)) response.kind

  answer_event : (m : List ℕ) (events : List Event) → ArePlain s events → IsResponse m → (asked : List ℕ) (ledger : Ledger) → Mirrored (history s events) ledger
      → Mirrored (history s (ModemPiece m ∷ events)) (follow qmi_reading (ModemPiece m) asked ledger)
  answer_event m events plain response asked ledger all =
      subst (λ (after : List Fact). Mirrored after (follow qmi_reading (ModemPiece m) asked ledger)) (sym (answer_is m events plain response))
      (answer_mirrored s m (began events) ledger (begun (history s events) ledger all))

  -- ---- the others ----

  joined_has : (c : ℕ) (past : List Fact) (room : Bool) → message_count c past ≡ 0
      → Has (in_use past) (forward_count past) (now past) (λ d. message_count d past) (if room then Admitted c ∷ EventBegan ∷ past else Ended c NotAdmitted ∷ EventBegan ∷ past)
  unfolding in_use forward_count now message_count
  joined_has c past true none = record { in_use = refl; count = refl; time = refl; said = λ d. no_more_said c d (λ e. message_count e past) none }
  joined_has c past false none = record { in_use = refl; count = refl; time = refl; said = λ d. refl }

  taken_has : (c count : ℕ) (past : List Fact) (is : Bool) → Has (in_use past) (forward_count past) (now past) (λ d. message_count d past) (if is then Taken c count ∷ EventBegan ∷ past else EventBegan ∷ past)
  unfolding in_use forward_count now message_count
  taken_has c count past true = record { in_use = refl; count = refl; time = refl; said = λ d. refl }
  taken_has c count past false = record { in_use = refl; count = refl; time = refl; said = λ d. refl }

  modem_taken_has : (count : ℕ) (past : List Fact) → Has (in_use past) (forward_count past) (now past) (λ d. message_count d past) (ModemTaken count ∷ EventBegan ∷ past)
  unfolding in_use forward_count now message_count
  modem_taken_has count past = record { in_use = refl; count = refl; time = refl; said = λ d. refl }

  expired_has : (requests : List Request) (count time : ℕ) (said : ℕ → ℕ) (due : List Request) (past : List Fact) → Has requests count time said past
      → Has requests count time said (each_pending (λ r before. refuse s.device (Expired r) r before) due past)
  unfolding in_use forward_count now message_count
  expired_has requests count time said due past H =
      kept_by_each (Has requests count time said) (λ r. Unit {0}) (λ r before. refuse s.device (Expired r) r before)
      (λ r before u H. freed_has requests count time said (r.conn == 0) r (note s.device (Expired r) before) (noted_has requests count time said s (Expired r) before (record { in_use = H.in_use; count = H.count; time = H.time; said = H.said }))) due past (every (λ (r : Request). Unit {0}) (λ r. tt) due) H

  timed_has : (shown : ℕ) (past : List Fact) → Has (in_use past) (forward_count past) shown (λ d. message_count d past) (TimeIs shown ∷ EventBegan ∷ past)
  unfolding in_use forward_count now message_count
  timed_has shown past = record { in_use = refl; count = refl; time = refl; said = λ d. refl }

  -- a ledger whose clock goes on
  passed_mirrored : (time : ℕ) (past after : List Fact) (ledger : Ledger) → Has (in_use past) (forward_count past) (max time (now past)) (λ d. message_count d past) after → Mirrored past ledger → Mirrored after (has_passed time ledger)
  passed_mirrored time past after ledger H all = record {
    mirrors = record {
      rows = all.mirrors.rows ∙ ap (map row_of) (sym H.in_use);
      asked = all.mirrors.asked ∙ sym H.count;
      time = ap (max time) all.mirrors.time ∙ sym H.time;
      names_are = all.mirrors.names_are;
      said = λ c below. all.mirrors.said c below ∙ sym (H.said c);
    };
    long = subst (λ (l : List Request). AllByRecursion (λ r. 12 ≤ length r.message) l) (sym H.in_use) all.long;
  }

  -- no id is ever released
  pub clock_is : s.release ≡ None → (time : ℕ) (events : List Event) → history s (Now time ∷ events) ≡ tick s.device time (began events)
  clock_is never time events = adds_one s there (Now time) events (ClockShows time) refl ∙ ap (λ (after : Option ℕ). release_due s after (tick s.device time (began events))) never

  time_event : s.release ≡ None → (time : ℕ) (events : List Event) (asked : List ℕ) (ledger : Ledger) → Mirrored (history s events) ledger → Mirrored (history s (Now time ∷ events)) (follow qmi_reading (Now time) asked ledger)
  unfolding now
  time_event never time events asked ledger all =
      let past : List Fact = history s events in
      subst (λ (after : List Fact). Mirrored after (has_passed time ledger)) (sym (clock_is never time events))
      (passed_mirrored time past _ ledger (expired_has (in_use past) (forward_count past) (max time (now past)) (λ d. message_count d past) _ _ (timed_has (max time (now past)) past)) all)

  -- ---- every event ----

  still : (after : List Fact) {added : List Fact} (ledger : Ledger) → added ≡ after → Mirrored after ledger → Mirrored added ledger
  still after ledger same all = subst (λ (facts : List Fact). Mirrored facts ledger) (sym same) all

  module _ (limit : s.time_limit ≡ time_limit) (never : s.release ≡ None) where
    mirrored_event : (event : Event) (events : List Event) → IsWithin s events → ArePlain s (event ∷ events) → (ledger : Ledger) → Mirrored (history s events) ledger
        → Mirrored (history s (event ∷ events)) (follow qmi_reading event (asked_by (proxy_of s) event events) ledger)
    mirrored_event (Piece c m) events within plain ledger all = said_event limit c m events within plain.1 plain.0 ledger all
    mirrored_event (ModemPiece m) events within plain ledger all = answer_event m events plain.1 plain.0 (asked_by (proxy_of s) (ModemPiece m) events) ledger all
    mirrored_event (Joined c) events within plain ledger all =
        let past : List Fact = history s events in still _ ledger (adds_one s there (Joined c) events (Joins c) refl) (mirrored_by past _ ledger (joined_has c past _ plain.0) all)
    mirrored_event (Took c count) events within plain ledger all =
        let past : List Fact = history s events in still _ ledger (adds_one s there (Took c count) events (Takes c count) refl) (mirrored_by past _ ledger (taken_has c count past _) all)
    mirrored_event (ModemTook count) events within plain ledger all =
        let past : List Fact = history s events in still _ ledger (adds_one s there (ModemTook count) events (ModemTakes count) refl) (mirrored_by past _ ledger (modem_taken_has count past) all)
    mirrored_event (Now time) events within plain ledger all = time_event never time events (asked_by (proxy_of s) (Now time) events) ledger all
    mirrored_event (Left c) events within plain ledger all = absurd plain.0
    mirrored_event ModemGone events within plain ledger all = absurd plain.0
    mirrored_event ModemBack events within plain ledger all = absurd plain.0

    abbrev ledger_behind : List Event → Ledger
    ledger_behind events = ledger_of qmi_reading (proxy_of s) events

    pub is_mirrored : (events : List Event) → AtEach (IsWithin s) events → ArePlain s events → Mirrored (history s events) (ledger_behind events)
    unfolding ledger_of proxy.history in_use forward_count now message_count
    is_mirrored [] within plain = record {
      mirrors = record { rows = refl; asked = refl; time = refl; names_are = length-replicate {A = ℕ} 65 0; said = λ c below. get_or-replicate {A = ℕ} 65 c 0 0 below };
      long = tt;
    }
    is_mirrored (event ∷ events) within plain = mirrored_event event events (here (IsWithin s) events within.1) plain (ledger_behind events) (is_mirrored events within.1 plain.1)

    pub all_mirror : (events : List Event) → AtEach (IsWithin s) events → ArePlain s events → AllMirror row_of qmi_reading (proxy_of s) (history s) events
    all_mirror [] within plain = (is_mirrored [] within plain).mirrors
    all_mirror (event ∷ events) within plain = ((is_mirrored (event ∷ events) within plain).mirrors, all_mirror events within.1 plain.1)
