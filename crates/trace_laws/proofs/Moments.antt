-- At every moment of a rig its ledger counts what the facts say. Lists of events and of facts have the newest first.
use Rattle.std.proofs.Common.{◌≡◌, ℕ, ◌-◌, ◌^◌, ◌<◌, ◌≤◌, false, List, [], ◌∷◌, refl, sym, subst, arith, Option, None, AllPairs}
use Rattle.proxy_history.specs.Events.{Event, Joined, Piece, Left, ModemPiece, ModemGone, ModemBack, Now, Took, ModemTook}
use Rattle.proxy_history.specs.Items.{Joins, ClockShows, Takes, ModemTakes}
use Rattle.proxy_history.specs.Facts.{Fact, Request}
use Rattle.proxy_history.specs.Orderly.{time_then}
use Rattle.proxy_history.specs.Requests.{in_use, pending}
use Rattle.proxy_history.specs.Modem.{now}
use Rattle.proxy_history.specs.Sound.{Differ}
use Rattle.proxy_history.specs.History as proxy
use Rattle.proxy_history.proofs.Folds.{time_agrees}
use Rattle.proxy_history.proofs.SoundLaws.{in_use_differ}
use Rattle.qmi_proxy.specs.Setup.{Setup}
use Rattle.qmi_proxy.specs.Limits.{qmi_limits}
use Rattle.qmi_proxy.specs.FromModem.{first_answered_by, respond}
use Rattle.qmi_proxy.specs.Proxy.{proxy_of}
use Rattle.qmi_proxy.specs.History.{qmi_protocol, history}
use Rattle.qmi_proxy.proofs.Apart.{within}
use Rattle.qmi_proxy.proofs.Walk.{Asks, orderly}
use Rattle.qmi_proxy.proofs.Sound.{begun_is_sound}
use Rattle.qmi_proxy.proofs.Verdicts.{no_reply_is_forwarded}
use Rattle.rig_runs.specs.Rig.{time_limit}
use Rattle.rig_laws.proofs.Harmless.{AreHarmless}
use Rattle.rig_laws.proofs.Plain.{AtEach, IsHarmlessNow, IsPlain, ArePlain, IsSaid, IsResponse}
use Rattle.rig_laws.proofs.Events.{placed}
use Rattle.rig_trace.specs.declared.rows.Row.{Row}
use Rattle.rig_trace.specs.Rows.{Ledger, has_answered, follow, asked_by, ledger_of}
use Rattle.rig_trace.specs.Qmi.{qmi_reading}
use Rattle.trace_laws.proofs.Streams.{adds_one}
use Rattle.trace_laws.proofs.Saying.{Mirrored, asked_on}
use Rattle.trace_laws.proofs.Answering.{row_found}
use Rattle.trace_laws.proofs.Mirroring.{IsWithin, here, long_enough, began, begun, decision, piece_is, piece_asks, answer_is, clock_is, is_mirrored}
use Rattle.trace_laws.proofs.Counting.{Tells, tells_same, tells_begun, joined_same, taken_same, modem_taken_same, said_tells, responded_tells, time_tells}

pub all_within : (s : Setup) (events : List Event) → AtEach (IsHarmlessNow s) events → AtEach (IsWithin s) events
all_within s [] moments = moments.within
all_within s (event ∷ events) moments = (moments.0.within, all_within s events moments.1)

-- ---- time ----

time_stands : (event : Event) (time : ℕ) → time ≤ time_then event time
time_stands (Now shown) time = omega arith
time_stands _ time = omega arith

module _ (s : Setup) (there : s.starts_away ≡ false) (limit : s.time_limit ≡ time_limit) (never : s.release ≡ None) where
  no_later : (event : Event) (events : List Event) → now (history s events) ≤ now (history s (event ∷ events))
  no_later event events = let agrees = time_agrees (qmi_protocol s) (Asks s) (orderly s) event events in let stands = time_stands event (now (history s events)) in omega (arith, agrees, stands)

  abbrev ledger_behind : List Event → Ledger
  ledger_behind events = ledger_of qmi_reading (proxy_of s) events

  -- ---- one event ----

  module _ (events : List Event) (plain : ArePlain s events) (space : IsWithin s events) (early : now (history s events) < 2 ^ 64 - 1) (ledger : Ledger) (all : Mirrored (history s events) ledger) (T : Tells (history s events) ledger.counts) where
    behind : Mirrored (began s there events) ledger
    behind = begun (history s events) ledger all

    tells_behind : Tells (began s there events) ledger.counts
    tells_behind = tells_begun (history s events) ledger.counts T

    differ : AllPairs Differ (in_use (began s there events))
    differ = in_use_differ qmi_limits within (began s there events) (begun_is_sound s events)

    piece_tells : (c : ℕ) (m : List ℕ) → IsSaid c m (history s events) → AreHarmless s (history s (Piece c m ∷ events)) → Tells (history s (Piece c m ∷ events)) (follow qmi_reading (Piece c m) (asked_by (proxy_of s) (Piece c m) events) ledger).counts
    unfolding now
    piece_tells c m said harmless =
        let is = piece_is s there c m events plain said in
        subst (λ (asked : List ℕ). Tells (history s (Piece c m ∷ events)) (follow qmi_reading (Piece c m) asked ledger).counts) (sym (piece_asks s there limit c m events space plain said))
        (subst (λ (after : List Fact). Tells after (follow qmi_reading (Piece c m) (asked_on s c m (decision s there c m events) (began s there events)) ledger).counts) (sym is)
        (said_tells s limit c said.low m (began s there events) early (decision s there c m events) ledger (no_reply_is_forwarded s c m (began s there events)) (long_enough s there m said.whole) (subst (AreHarmless s) is harmless) tells_behind))

    answer_tells : (m : List ℕ) → IsResponse m → AreHarmless s (history s (ModemPiece m ∷ events)) → (asked : List ℕ) → Tells (history s (ModemPiece m ∷ events)) (follow qmi_reading (ModemPiece m) asked ledger).counts
    answer_tells m response harmless asked =
        let past : List Fact = began s there events in
        let found : Option Request = first_answered_by m (in_use past) in
        let is = answer_is s there m events plain response in
        subst (λ (after : List Fact). Tells after (follow qmi_reading (ModemPiece m) asked ledger).counts) (sym is)
        (subst (λ (o : Option Row). Tells (respond s.device found m past) (has_answered o ledger).counts) (sym (row_found s m past ledger behind))
        (responded_tells s m past differ ledger behind.mirrors.time tells_behind found refl (subst (AreHarmless s) is harmless)))

    joins_tells : (c : ℕ) → AreHarmless s (history s (Joined c ∷ events)) → Tells (history s (Joined c ∷ events)) ledger.counts
    joins_tells c harmless =
        let is = adds_one s there (Joined c) events (Joins c) refl in
        subst (λ (after : List Fact). Tells after ledger.counts) (sym is) (tells_same (began s there events) _ ledger.counts (joined_same s c (began s there events) _ (subst (AreHarmless s) is harmless)) tells_behind)

    takes_tells : (c count : ℕ) → Tells (history s (Took c count ∷ events)) ledger.counts
    takes_tells c count =
        subst (λ (after : List Fact). Tells after ledger.counts) (sym (adds_one s there (Took c count) events (Takes c count) refl)) (tells_same (began s there events) _ ledger.counts (taken_same s c count (began s there events) _) tells_behind)

    modem_takes_tells : (count : ℕ) → Tells (history s (ModemTook count ∷ events)) ledger.counts
    modem_takes_tells count =
        subst (λ (after : List Fact). Tells after ledger.counts) (sym (adds_one s there (ModemTook count) events (ModemTakes count) refl)) (tells_same (began s there events) _ ledger.counts (modem_taken_same s count (began s there events)) tells_behind)

    clock_tells : (time : ℕ) → AreHarmless s (history s (Now time ∷ events)) → (asked : List ℕ) → Tells (history s (Now time ∷ events)) (follow qmi_reading (Now time) asked ledger).counts
    clock_tells time harmless asked =
        let is = clock_is s there never time events in
        subst (λ (after : List Fact). Tells after (follow qmi_reading (Now time) asked ledger).counts) (sym is)
        (time_tells s time (began s there events) differ (placed s events) ledger behind.mirrors.time behind.mirrors.rows tells_behind (subst (AreHarmless s) is harmless))

    event_tells : (event : Event) → IsPlain event (history s events) → AreHarmless s (history s (event ∷ events)) → Tells (history s (event ∷ events)) (follow qmi_reading event (asked_by (proxy_of s) event events) ledger).counts
    event_tells (Piece c m) is harmless = piece_tells c m is harmless
    event_tells (ModemPiece m) is harmless = answer_tells m (record { whole = is.whole; short = is.short; kind = is.kind }) harmless (asked_by (proxy_of s) (ModemPiece m) events)
    event_tells (Joined c) is harmless = joins_tells c harmless
    event_tells (Took c count) is harmless = takes_tells c count
    event_tells (ModemTook count) is harmless = modem_takes_tells count
    event_tells (Now time) is harmless = clock_tells time harmless (asked_by (proxy_of s) (Now time) events)
    event_tells (Left c) is harmless = absurd is
    event_tells ModemGone is harmless = absurd is
    event_tells ModemBack is harmless = absurd is

  -- ---- every moment ----

  pub tells : (events : List Event) → ArePlain s events → AtEach (IsHarmlessNow s) events → now (history s events) < 2 ^ 64 - 1 → Tells (history s events) (ledger_behind events).counts
  unfolding ledger_of proxy.history in_use pending now
  tells [] plain moments early = record { counts_are = refl; waits = refl; clients = tt }
  tells (event ∷ events) plain moments early =
      let before : now (history s events) < 2 ^ 64 - 1 = (let later = no_later event events in omega (arith, later, early)) in
      let others : ArePlain s events = plain.1 in
      let space : AtEach (IsWithin s) events = all_within s events moments.1 in
      event_tells events others (here (IsWithin s) events space) before (ledger_behind events) (is_mirrored s there limit never events space others) (tells events plain.1 moments.1 before) event plain.0 moments.0.harmless
