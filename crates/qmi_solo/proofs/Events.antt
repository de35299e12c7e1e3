-- Event by event: a history of all stays fit, and is fair before an event where it is behind it.
use Rattle.std.proofs.Common.{◌≡◌, ℕ, Bool, true, false, ◌==◌, nat_lt, if◌then◌else◌, List, [], ◌∷◌, ◌++◌, length, map, refl, ap, sym, ◌∙◌, subst, Option, Some, None}
use Rattle.std.proofs.lemmas.Bool.{eqb-true}
use Rattle.qmux_frame.specs.Frame.{size_of}
use Rattle.proxy_history.specs.History as proxy
use Rattle.proxy_history.specs.Events.{Event, Joined, Piece, Left, ModemPiece, ModemGone, ModemBack, Now, Took, ModemTook}
use Rattle.proxy_history.specs.Streams.{stream, modem_stream, messages_of_piece, is_bad}
use Rattle.proxy_history.specs.Items.{Joins, Says, GoesBad, Leaves, ModemSays, ModemIsLost, ModemReturns, ClockShows, Takes, ModemTakes, item_if, client_items, modem_items, is_lost_once, returns_once}
use Rattle.proxy_history.specs.Facts.{Fact, EventBegan, Admitted, Ended, NotAdmitted, BadStream, Leaving, Taken, ModemReturned}
use Rattle.proxy_history.specs.Connections.{present, is_present}
use Rattle.proxy_history.specs.Modem.{to_modem, modem_taken_count}
use Rattle.proxy_solo.specs.Part as alone_part
use Rattle.qmi_proxy.specs.Limits.{connection_limit}
use Rattle.qmi_proxy.specs.Setup.{Setup}
use Rattle.qmi_proxy.specs.Clients.{hear_client}
use Rattle.qmi_proxy.specs.History.{add, add_all, history, qmi_protocol}
use Rattle.proxy_solo.specs.Part.{concerns}
use Rattle.qmi_solo.proofs.Meets.{as_known, fact_if}
use Rattle.qmi_solo.specs.Part.{part}
use Rattle.qmi_solo.specs.Law.{MayCome}
use Rattle.proxy_solo.proofs.Reading.{AreGeneral}
use Rattle.qmi_solo.proofs.Fit.{Fit}
use Rattle.qmi_solo.proofs.Releasing.{clock-part}
use Rattle.qmi_solo.proofs.Fair.{AreFair, fair_each}
use Rattle.qmi_solo.proofs.Fits.{fit_add}
use Rattle.qmi_solo.proofs.Items.{joins_elsewhere, leaves_elsewhere, takes_elsewhere, piece_elsewhere, piece_fits, fair_piece}
use Rattle.qmi_solo.proofs.General.{absent, general_ticks, general_loses}
use Rattle.qmi_solo.proofs.Modem.{modem_brings, fair_modem, piece_general}

module _ (s : Setup) (c : ℕ) where
  abbrev pub begun : List Event → List Fact
  begun events = EventBegan ∷ history s events

  pub begun_fit : (alone : Bool) (past : List Fact) → Fit alone c past → Fit alone c (EventBegan ∷ past)
  begun_fit alone past F = record { client = F.client; sound = (tt, F.sound); fits = (tt, F.fits) }

  abbrev pub bytes_of : List Event → Option (List ℕ)
  bytes_of events = modem_stream size_of s.starts_away events

  -- ---- a history of all stays fit ----

  modem_fits : (messages : List (List ℕ)) (bad : Bool) (past : List Fact) → Fit false c past → Fit false c (add_all s (modem_brings s c messages bad) past)
  unfolding proxy.add_all
  modem_fits [] true past F = fit_add false c s ModemIsLost past F tt
  modem_fits [] false past F = F
  modem_fits (m ∷ messages) bad past F = modem_fits messages bad (add s (ModemSays m) past) (fit_add false c s (ModemSays m) past F tt)

  pub fit_event : (event : Event) (events : List Event) → MayCome s event events → (event ≡ Joined c → AreGeneral (part c (history s events))) → Fit false c (history s events) → Fit false c (history s (event ∷ events))
  unfolding proxy.history proxy.add_all alone_part.part to_modem modem_taken_count
  fit_event (Joined d) events may new F = fit_add false c s (Joins d) (begun events) (begun_fit false (history s events) F) (tt, λ e. new (ap (λ (x : ℕ). Joined x) (eqb-true d c e)))
  fit_event (Piece d bytes) events may new F = piece_fits s c false d tt (messages_of_piece size_of (stream d events) bytes) (is_bad size_of (stream d events ++ bytes)) (begun events) (begun_fit false (history s events) F)
  fit_event (Left d) events may new F = fit_add false c s (Leaves d) (begun events) (begun_fit false (history s events) F) tt
  fit_event (ModemPiece bytes) events may new F =
      elim (bytes_of events) as (λ o. Fit false c (add_all s (modem_items (qmi_protocol s) bytes o) (begun events))) [
        | None ↦ begun_fit false (history s events) F
        | Some before ↦ modem_fits (messages_of_piece size_of before bytes) (is_bad size_of (before ++ bytes)) (begun events) (begun_fit false (history s events) F)
      ]
  fit_event ModemGone events may new F =
      elim (bytes_of events) as (λ o. Fit false c (add_all s (is_lost_once o) (begun events))) [
        | None ↦ begun_fit false (history s events) F
        | Some before ↦ fit_add false c s ModemIsLost (begun events) (begun_fit false (history s events) F) tt
      ]
  fit_event ModemBack events may new F =
      elim (bytes_of events) as (λ o. Fit false c (add_all s (returns_once o) (begun events))) [
        | None ↦ fit_add false c s ModemReturns (begun events) (begun_fit false (history s events) F) tt
        | Some before ↦ begun_fit false (history s events) F
      ]
  fit_event (Now time) events may new F = fit_add false c s (ClockShows time) (begun events) (begun_fit false (history s events) F) tt
  fit_event (Took d count) events may new F = fit_add false c s (Takes d count) (begun events) (begun_fit false (history s events) F) tt
  fit_event (ModemTook count) events may new F = fit_add false c s (ModemTakes count) (begun events) (begun_fit false (history s events) F) may

  -- ---- who hasn't joined isn't heard of ----

  absent_piece : (messages : List (List ℕ)) (bad : Bool) (past : List Fact) → is_present c past ≡ false → add_all s (map (λ m. Says c m) messages ++ item_if bad (GoesBad c)) past ≡ past
  unfolding proxy.add_all
  absent_piece [] true past gone = ap (λ (b : Bool). if b then Ended c BadStream ∷ past else past) gone
  absent_piece [] false past gone = refl
  absent_piece (m ∷ messages) bad past gone = ap (λ (b : Bool). add_all s (map (λ m. Says c m) messages ++ item_if bad (GoesBad c)) (if b then hear_client s c m past else past)) gone ∙ absent_piece messages bad past gone

  pub own_or_other : (d : ℕ) (P : Bool → Type 0) → ((d == c) ≡ true → P true) → ((d == c) ≡ false → P false) → P (d == c)
  own_or_other d P own other =
      let step : (b : Bool) → (d == c) ≡ b → P b = λ b. elim b as (λ b. (d == c) ≡ b → P b) [ true ↦ own | false ↦ other ] in
      step (d == c) refl

  AreNow : List Fact → Type 0
  AreNow past = AreGeneral (part c past)

  pub general_event : (event : Event) (events : List Event) → (event ≡ Joined c → ⊥) → Fit false c (history s events) → AreGeneral (part c (history s events)) → AreGeneral (part c (history s (event ∷ events)))
  unfolding proxy.history proxy.add_all alone_part.part present
  general_event (Joined d) events new F general =
      own_or_other d (λ b. AreGeneral (part c (add s (Joins d) (begun events)))) (λ e. absurd (new (ap (λ (x : ℕ). Joined x) (eqb-true d c e)))) (λ e. subst AreGeneral (sym (joins_elsewhere s c d e (begun events))) general)
  general_event (Piece d bytes) events new F general =
      let messages : ℕ → List (List ℕ) = λ x. messages_of_piece size_of (stream x events) bytes in
      let bad : ℕ → Bool = λ x. is_bad size_of (stream x events ++ bytes) in
      own_or_other d (λ b. AreGeneral (part c (add_all s (client_items size_of d (stream d events) bytes) (begun events))))
      (λ e. subst (λ (x : ℕ). AreGeneral (part c (add_all s (client_items size_of x (stream x events) bytes) (begun events)))) (sym (eqb-true d c e)) (subst (λ (l : List Fact). AreGeneral (part c l)) (sym (absent_piece (messages c) (bad c) (begun events) (absent s c (history s events) general))) general))
      (λ e. subst AreGeneral (sym (piece_elsewhere s c d e (messages d) (bad d) (begun events))) general)
  general_event (Left d) events new F general =
      own_or_other d (λ b. AreGeneral (part c (add s (Leaves d) (begun events))))
      (λ e. subst (λ (x : ℕ). AreGeneral (part c (add s (Leaves x) (begun events)))) (sym (eqb-true d c e)) (subst (λ (b : Bool). AreGeneral (part c (if b then Ended c Leaving ∷ begun events else begun events))) (sym (absent s c (history s events) general)) general))
      (λ e. subst AreGeneral (sym (leaves_elsewhere s c d e (begun events))) general)
  general_event (ModemPiece bytes) events new F general =
      elim (bytes_of events) as (λ o. AreGeneral (part c (add_all s (modem_items (qmi_protocol s) bytes o) (begun events)))) [
        | None ↦ general
        | Some before ↦ piece_general s c (messages_of_piece size_of before bytes) (is_bad size_of (before ++ bytes)) (begun events) (begun_fit false (history s events) F) general
      ]
  general_event ModemGone events new F general =
      elim (bytes_of events) as (λ o. AreGeneral (part c (add_all s (is_lost_once o) (begun events)))) [ None ↦ general | Some before ↦ general_loses s c (begun events) (begun_fit false (history s events) F) general ]
  general_event ModemBack events new F general = elim (bytes_of events) as (λ o. AreGeneral (part c (add_all s (returns_once o) (begun events)))) [ None ↦ (refl, general) | Some before ↦ general ]
  general_event (Now time) events new F general = general_ticks s c time (begun events) (begun_fit false (history s events) F) general
  general_event (Took d count) events new F general =
      own_or_other d (λ b. AreGeneral (part c (add s (Takes d count) (begun events))))
      (λ e. subst (λ (x : ℕ). AreGeneral (part c (add s (Takes x count) (begun events)))) (sym (eqb-true d c e)) (subst (λ (b : Bool). AreGeneral (part c (if b then Taken c count ∷ begun events else begun events))) (sym (absent s c (history s events) general)) general))
      (λ e. subst AreGeneral (sym (takes_elsewhere s c d e count (begun events))) general)
  general_event (ModemTook count) events new F general = general

  -- ---- what was fair behind an event was so before it ----

  fair_cons : (fact : Fact) (past : List Fact) → AreFair (part c (fact ∷ past)) → AreFair (part c past)
  unfolding alone_part.part
  fair_cons fact past fair = elim (concerns c fact) as (λ b. AreFair (fact_if b (as_known c fact) (part c past)) → AreFair (part c past)) [ true ↦ λ f. f.1 | false ↦ λ f. f ] fair

  fair_if : (b : Bool) (one other past : List Fact) → (AreFair (part c one) → AreFair (part c past)) → (AreFair (part c other) → AreFair (part c past)) → AreFair (part c (if b then one else other)) → AreFair (part c past)
  fair_if true one other past x y fair = x fair
  fair_if false one other past x y fair = y fair

  pub fair_event : (event : Event) (events : List Event) → Fit false c (history s events) → AreFair (part c (history s (event ∷ events))) → AreFair (part c (history s events))
  unfolding proxy.history proxy.add_all alone_part.part
  fair_event (Joined d) events F fair = fair_if (nat_lt (length (present (begun events))) connection_limit) (Admitted d ∷ begun events) (Ended d NotAdmitted ∷ begun events) (begun events) (fair_cons (Admitted d) (begun events)) (fair_cons (Ended d NotAdmitted) (begun events)) fair
  fair_event (Piece d bytes) events F fair =
      own_or_other d (λ b. AreFair (part c (add_all s (client_items size_of d (stream d events) bytes) (begun events))) → AreFair (part c (begun events)))
      (λ e. subst (λ (x : ℕ). AreFair (part c (add_all s (client_items size_of x (stream x events) bytes) (begun events))) → AreFair (part c (begun events))) (sym (eqb-true d c e)) (fair_piece s c (messages_of_piece size_of (stream c events) bytes) (is_bad size_of (stream c events ++ bytes)) (begun events)))
      (λ e. subst AreFair (piece_elsewhere s c d e (messages_of_piece size_of (stream d events) bytes) (is_bad size_of (stream d events ++ bytes)) (begun events))) fair
  fair_event (Left d) events F fair = fair_if (is_present d (begun events)) (Ended d Leaving ∷ begun events) (begun events) (begun events) (fair_cons (Ended d Leaving) (begun events)) (λ f. f) fair
  fair_event (ModemPiece bytes) events F fair =
      elim (bytes_of events) as (λ o. AreFair (part c (add_all s (modem_items (qmi_protocol s) bytes o) (begun events))) → AreFair (part c (begun events))) [
        | None ↦ λ f. f
        | Some before ↦ fair_modem s c (messages_of_piece size_of before bytes) (is_bad size_of (before ++ bytes)) (begun events) (begun_fit false (history s events) F)
      ] fair
  fair_event ModemGone events F fair =
      elim (bytes_of events) as (λ o. AreFair (part c (add_all s (is_lost_once o) (begun events))) → AreFair (part c (begun events))) [
        | None ↦ λ f. f
        | Some before ↦ fair_modem s c [] true (begun events) (begun_fit false (history s events) F)
      ] fair
  fair_event ModemBack events F fair =
      elim (bytes_of events) as (λ o. AreFair (part c (add_all s (returns_once o) (begun events))) → AreFair (part c (begun events))) [ None ↦ fair_cons ModemReturned (begun events) | Some before ↦ λ f. f ] fair
  fair_event (Now time) events F fair = fair_each s.device c true _ _ (subst AreFair (clock-part s c time (begun events) (begun_fit false (history s events) F)).same fair)
  fair_event (Took d count) events F fair = fair_if (is_present d (begun events)) (Taken d count ∷ begun events) (begun events) (begun events) (fair_cons (Taken d count) (begun events)) (λ f. f) fair
  fair_event (ModemTook count) events F fair = fair
