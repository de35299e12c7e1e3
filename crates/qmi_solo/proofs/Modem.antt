-- What the modem does, piece by piece, in a history of all and where the client is alone.
use Rattle.std.proofs.Common.{◌≡◌, ℕ, Bool, true, false, List, [], ◌∷◌, ◌++◌, map, refl, ap, sym, ◌∙◌, subst, Option, Some, None, is_none}
use Rattle.std.specs.List.{AllByRecursion}
use Rattle.framing.specs.Framing.{IsMessage}
use Rattle.qmux_frame.specs.Frame.{size_of}
use Rattle.qmux_frame.specs.Kind.{framed_kind}
use Rattle.proxy_history.specs.History as proxy
use Rattle.proxy_history.specs.Events.{Event, ModemGone}
use Rattle.proxy_history.specs.Streams.{stream, modem_stream}
use Rattle.proxy_history.specs.Items.{Item, ModemSays, ModemIsLost, item_if, is_lost_once}
use Rattle.proxy_history.specs.Facts.{Fact, EventBegan, ModemLost}
use Rattle.proxy_history.specs.Modem.{is_away}
use Rattle.proxy_solo.specs.Part as alone_part
use Rattle.proxy_solo.specs.Solo as alone
use Rattle.qmi_proxy.specs.Setup.{Setup}
use Rattle.qmi_proxy.specs.FromModem.{hear_modem, lose}
use Rattle.qmi_proxy.specs.History.{add_all, history}
use Rattle.qmi_proxy.proofs.Away.{away_agrees, same_heard}
use Rattle.qmi_solo.proofs.Meets.{meet, meet_message, meet_items}
use Rattle.qmi_solo.specs.Solo.{heard_alone}
use Rattle.qmi_solo.specs.Part.{part}
use Rattle.proxy_solo.proofs.Reading.{AreGeneral}
use Rattle.qmi_solo.proofs.Fit.{Fit}
use Rattle.qmi_solo.proofs.Queries.{away-part}
use Rattle.qmi_solo.proofs.Actions.{loses-part, known_aborts}
use Rattle.qmi_solo.proofs.Fair.{AreFair, fair_each}
use Rattle.qmi_solo.proofs.Fits.{fit_add}
use Rattle.qmi_solo.proofs.Hearing.{HeardAlike, heard_alike, fair_heard}
use Rattle.qmi_solo.proofs.Meeting.{modem_bytes, Alike, met, whole_message}
use Rattle.qmi_solo.proofs.Items.{heard_by}
use Rattle.qmi_solo.proofs.General.{general_heard, general_loses}

some_if : (o : Option (List ℕ)) → is_none o ≡ false → (bytes : List ℕ) × (o ≡ Some bytes)
some_if None e = absurd (cc)
some_if (Some bytes) e = (bytes, refl)

module _ (s : Setup) (c : ℕ) where
  -- the modem is away in both or in neither
  pub away_alike : (past : List Fact) (solo : List Event) (bytes : List ℕ) → Alike s c past solo bytes → is_none (modem_bytes s c solo) ≡ is_away s.starts_away past
  away_alike past solo bytes A = sym (away_agrees s solo) ∙ sym (away-part c s.starts_away (history s solo)) ∙ ap (is_away s.starts_away) (sym A.same) ∙ away-part c s.starts_away past

  pub fails_alike : (past : List Fact) (solo : List Event) (bytes : List ℕ) → Alike s c past solo bytes → is_away s.starts_away past ≡ false → Alike s c (lose s.device past) (meet s ModemGone solo) bytes
  unfolding proxy.history proxy.add_all alone_part.part stream modem_stream
  fails_alike past solo bytes A there =
      let some = some_if (modem_bytes s c solo) (away_alike past solo bytes A ∙ there) in
      let own : List Fact = EventBegan ∷ history s solo in
      let G : Fit true c own = record { client = A.alone.client; sound = (tt, A.alone.sound); fits = (tt, A.alone.fits) } in
      let is : history s (ModemGone ∷ solo) ≡ lose s.device own = ap (λ (o : Option (List ℕ)). add_all s (is_lost_once o) own) some.1 in
      let all = loses-part s.device c past A.fit in
      let all_own = loses-part s.device c own G in
      met s c ModemGone (lose s.device past) solo bytes
      (all.same ∙ ap (λ (l : List Fact). ModemLost ∷ known_aborts s.device c l) A.same ∙ sym all_own.same ∙ ap (part c) (sym is)) all.fit (subst (Fit true c) (sym is) all_own.fit) A.sent refl

  says_alike : (m : List ℕ) (past : List Fact) (solo : List Event) (bytes : List ℕ) → Alike s c past solo bytes → is_away s.starts_away past ≡ false → IsMessage size_of m → AreFair (part c (hear_modem s.device m past))
      → Alike s c (hear_modem s.device m past) (meet_message s (heard_alone (framed_kind m) s c m past (history s solo)) solo) bytes
  says_alike m past solo bytes A there message fair =
      let after : List Fact = hear_modem s.device m past in
      let F : Fit false c after = fit_add false c s (ModemSays m) past A.fit tt in
      let some = some_if (modem_bytes s c solo) (away_alike past solo bytes A ∙ there) in
      let first = heard_alike s c past (history s solo) A.fit A.alone A.same m message fair in
      let step : (o : Option (List ℕ)) → heard_alone (framed_kind m) s c m past (history s solo) ≡ o → HeardAlike s c past (history s solo) A.fit A.alone A.same m o → Alike s c after (meet_message s o solo) bytes =
      λ o. elim o as (λ o. heard_alone (framed_kind m) s c m past (history s solo) ≡ o → HeardAlike s c past (history s solo) A.fit A.alone A.same m o → Alike s c after (meet_message s o solo) bytes) [
        | None ↦ λ is heard. record { same = heard ∙ A.same; fit = F; alone = A.alone; sent = A.sent; whole = A.whole; empty = A.empty }
        | Some x ↦ λ is heard.
            whole_message s c past after solo bytes x some.0 A some.1
            (λ own G same requests.
            let alike : part c past ≡ part c own = A.same ∙ sym same in
            let at : heard_alone (framed_kind m) s c m past own ≡ Some x = heard_by s c (framed_kind m) m past own (history s solo) requests ∙ is in
            (subst (λ (o : Option (List ℕ)). HeardAlike s c past own A.fit G alike m o) at (heard_alike s c past own A.fit G alike m message fair)).1) F heard.0
      ]
      in step (heard_alone (framed_kind m) s c m past (history s solo)) refl first

  -- ---- all that a piece brings ----

  abbrev pub modem_brings : List (List ℕ) → Bool → List Item
  modem_brings messages bad = map (λ m. ModemSays m) messages ++ item_if bad ModemIsLost

  pub fair_modem : (messages : List (List ℕ)) (bad : Bool) (past : List Fact) → Fit false c past → AreFair (part c (add_all s (modem_brings messages bad) past)) → AreFair (part c past)
  unfolding proxy.add_all
  fair_modem [] true past F fair = fair_each s.device c false _ (part c past) (subst AreFair (loses-part s.device c past F).same fair).1
  fair_modem [] false past F fair = fair
  fair_modem (m ∷ messages) bad past F fair = fair_heard s c m past F (fair_modem messages bad (hear_modem s.device m past) (fit_add false c s (ModemSays m) past F tt) fair)

  pub piece_alike : (messages : List (List ℕ)) (bad : Bool) (past : List Fact) (solo : List Event) (bytes : List ℕ) → Alike s c past solo bytes → is_away s.starts_away past ≡ false → AllByRecursion (IsMessage size_of) messages
      → AreFair (part c (add_all s (modem_brings messages bad) past)) → Alike s c (add_all s (modem_brings messages bad) past) (meet_items s c (modem_brings messages bad) past solo) bytes
  unfolding proxy.add_all alone.hear_all
  piece_alike [] true past solo bytes A there whole fair = fails_alike past solo bytes A there
  piece_alike [] false past solo bytes A there whole fair = A
  piece_alike (m ∷ messages) bad past solo bytes A there whole fair =
      let after : List Fact = hear_modem s.device m past in
      let F : Fit false c after = fit_add false c s (ModemSays m) past A.fit tt in
      piece_alike messages bad after _ bytes (says_alike m past solo bytes A there whole.0 (fair_modem messages bad after F fair))
      (same_heard s m past A.fit.sound ∙ there) whole.1 fair

  pub piece_general : (messages : List (List ℕ)) (bad : Bool) (past : List Fact) → Fit false c past → AreGeneral (part c past) → AreGeneral (part c (add_all s (modem_brings messages bad) past))
  unfolding proxy.add_all
  piece_general [] true past F general = general_loses s c past F general
  piece_general [] false past F general = general
  piece_general (m ∷ messages) bad past F general = piece_general messages bad (hear_modem s.device m past) (fit_add false c s (ModemSays m) past F tt) (general_heard s c m past F general)
