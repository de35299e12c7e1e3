-- What a client gets beside others, it gets alone.
use Rattle.std.proofs.lemmas.Bool.{eqb-true, false_from_ne_true}
use Rattle.std.proofs.Common.{◌≡◌, ◌≢◌, ℕ, Bool, true, false, ◌==◌, if◌then◌else◌, List, [], ◌∷◌, refl, ap, sym, ◌∙◌, subst, arith, Some, None, length}
use Rattle.std.proofs.lemmas.List.Elements.{recursion_from_All, All-from_recursion}
use Rattle.framing.specs.Cutting.{cut_from}
use Rattle.qmux_frame.specs.Frame.{size_of}
use Rattle.proxy_history.specs.History as proxy
use Rattle.proxy_history.specs.Events.{Event, Joined}
use Rattle.proxy_history.specs.Streams.{stream, modem_stream}
use Rattle.proxy_history.specs.Facts.{Fact, Request}
use Rattle.proxy_history.specs.Connections.{is_present}
use Rattle.proxy_history.specs.Requests.{in_use, pending}
use Rattle.proxy_history.specs.ClientIds.{Grant, held}
use Rattle.proxy_history.specs.Modem.{is_away, to_modem, modem_taken_count, modem_queue}
use Rattle.proxy_history.specs.View.{Entry, view}
use Rattle.proxy_history.specs.Rendering.{Rendering, render}
use Rattle.proxy_history.specs.Wording.{told_by}
use Rattle.proxy_solo.specs.Part as alone_part
use Rattle.proxy_solo.specs.Solo as alone
use Rattle.qmi_proxy.specs.Limits.{outbox_limit}
use Rattle.proxy_history.specs.Coming.{queued_for}
use Rattle.qmi_proxy.specs.Setup.{Setup}
use Rattle.qmi_proxy.specs.Text.{text, view_of, qmi_wording}
use Rattle.qmi_proxy.specs.Clients.{wire}
use Rattle.qmi_proxy.specs.History.{qmi_protocol, history, text_for}
use Rattle.proxy_state.specs.Stands.{rest_in}
use Rattle.qmi_solo.specs.Solo.{qmi_alone, solo}
use Rattle.qmi_solo.specs.Part.{part}
use Rattle.proxy_solo.specs.Law.{tells_of_others}
use Rattle.qmi_solo.specs.Law.{MayCome, AreSound, IsLetAlone, GetsTheSameAlone, AloneIsSound, HistoriesAreSame}
use Rattle.proxy_solo.proofs.Reading.{AreGeneral}
use Rattle.qmi_solo.proofs.Fit.{Fit}
use Rattle.qmi_solo.proofs.Queries.{view-part, present-part, away-part, in_use-part, pending-part, held-part}
use Rattle.qmi_solo.proofs.Alone.{in_use_mine, held_mine}
use Rattle.qmi_solo.proofs.Fair.{AreFair}
use Rattle.qmi_solo.proofs.Meeting.{Alike}
use Rattle.qmi_solo.proofs.Undisturbed.{fair_from_view}
use Rattle.proxy_solo.proofs.Histories.{has_joined, new_name, not_joined}
use Rattle.proxy_solo.proofs.Coming.{IsShort, event_sound, solo_names}
use Rattle.proxy_solo.proofs.Time.{solo_time}
use Rattle.qmi_proxy.proofs.Walk.{Asks, orderly}
use Rattle.qmi_solo.proofs.Events.{fit_event, general_event, fair_event}
use Rattle.qmi_solo.proofs.AlikeEvents.{alike_event}

module _ (s : Setup) (c : ℕ) (clients : c ≢ 0) where
  isnt : (0 == c) ≡ false
  isnt = false_from_ne_true (0 == c) (λ e. clients (sym (eqb-true 0 c e)))

  record Known (events : List Event) : Type 0 where
    fit : Fit false c (history s events)
    fresh : has_joined c events ≡ false → AreGeneral (part c (history s events))

  joins_new : (event : Event) (events : List Event) → MayCome s event events → Known events → event ≡ Joined c → AreGeneral (part c (history s events))
  joins_new event events may K is =
      let rises : MayCome s (Joined c) events = subst (λ (x : Event). MayCome s x events) is may in K.fresh (new_name c events rises)

  known : (events : List Event) → AreSound s events → Known events
  unfolding proxy.history alone_part.part
  known [] sound = record { fit = record { client = isnt; sound = tt; fits = tt }; fresh = λ e. tt }
  known (event ∷ events) sound =
      let K = known events sound.1 in
      record {
        fit = fit_event s c event events sound.0 (joins_new event events sound.0 K) K.fit;
        fresh = λ e. let parts = not_joined c event events e in general_event s c event events parts.0 K.fit (K.fresh parts.1);
      }

  alike : (events : List Event) → AreSound s events → AreFair (part c (history s events)) → Alike s c (history s events) (solo s c events) (stream c events)
  unfolding proxy.history alone_part.part alone.solo stream modem_stream to_modem modem_taken_count cut_from
  alike [] sound fair = record { same = refl; fit = record { client = isnt; sound = tt; fits = tt }; alone = record { client = isnt; sound = tt; fits = tt }; sent = refl; whole = elim s.starts_away as (λ b. rest_in size_of (if b then None else Some []) ≡ []) [ true ↦ refl | false ↦ refl ]; empty = refl }
  alike (event ∷ events) sound fair =
      let K = known events sound.1 in
      alike_event s c event events (solo s c events) (solo_time (qmi_protocol s) (Asks s) (orderly s) (qmi_alone s) c events) (known (event ∷ events) sound).fit (joins_new event events sound.0 K) fair (alike events sound.1 (fair_event s c event events K.fit fair))

  -- where its view tells of nobody else
  pub alike_alone : (events : List Event) → IsLetAlone s c events → Alike s c (history s events) (solo s c events) (stream c events)
  alike_alone events L =
      alike events L.sound
      (fair_from_view c (history s events) (known events L.sound).fit.fits (recursion_from_All (λ (entry : Entry). tells_of_others entry ≡ false) (view_of c (history s events)) L.undisturbed))

  -- ---- what it meets alone may come ----

  entries_same : (past own : List Fact) → part c past ≡ part c own → view_of c past ≡ view_of c own
  entries_same past own same = sym (view-part c past) ∙ ap (λ (facts : List Fact). view (λ m. m) c facts) same ∙ view-part c own

  same_text : (past : List Event) (own : List Event) → part c (history s past) ≡ part c (history s own) → text_for s c past ≡ text_for s c own
  same_text past own same = ap (render outbox_limit (text s.device)) (entries_same (history s past) (history s own) same)

  same_there : (past own : List Fact) → part c past ≡ part c own → is_present c past ≡ is_present c own
  same_there past own same = sym (present-part c past) ∙ ap (is_present c) same ∙ present-part c own

  same_queued : (past own : List Event) → part c (history s past) ≡ part c (history s own) → queued_for (qmi_protocol s) c past ≡ queued_for (qmi_protocol s) c own
  same_queued past own same =
      ap (λ (b : Bool). if b then length (text_for s c past).waiting else 0) (same_there (history s past) (history s own) same)
      ∙ ap (λ (r : Rendering). if is_present c (history s own) then length r.waiting else 0) (same_text past own same)

  short : IsShort (qmi_alone s)
  short = record { parts = λ before piece few. (few, tt); answers = λ own m is. absurd (cc) }

  solo_sound : (events : List Event) → AreSound s events → AreFair (part c (history s events)) → AreSound s (solo s c events)
  unfolding alone.solo
  solo_sound [] sound fair = tt
  solo_sound (event ∷ events) sound fair =
      let before : AreFair (part c (history s events)) = fair_event s c event events (known events sound.1).fit fair in
      event_sound (qmi_protocol s) (qmi_alone s) short c events event (solo s c events) sound.0 (same_queued events (solo s c events) (alike events sound.1 before).same)
      (solo_names (qmi_protocol s) (qmi_alone s) short c events) (solo_sound events sound.1 before)

  empty_of : (bytes : List ℕ) → length bytes ≡ 0 → bytes ≡ []
  empty_of [] e = refl
  empty_of (b ∷ bytes) e = absurd (omega (arith, e))

pub gets_the_same_alone : GetsTheSameAlone
gets_the_same_alone s c events clients L = sym (same_text s c clients events (solo s c events) (alike_alone s c clients events L).same)

pub alone_is_sound : AloneIsSound
alone_is_sound s c events clients L =
    solo_sound s c clients events L.sound
    (fair_from_view c (history s events) (known s c clients events L.sound).fit.fits (recursion_from_All (λ (entry : Entry). tells_of_others entry ≡ false) (view_of c (history s events)) L.undisturbed))

pub histories_are_same : HistoriesAreSame
histories_are_same s c events clients L =
    let past : List Fact = history s events in
    let own : List Fact = history s (solo s c events) in
    let A = alike_alone s c clients events L in
    let same : part c past ≡ part c own = A.same in
    record {
      same = record {
        facts = same;
        bytes = same_text s c clients events (solo s c events) same;
        known = ap (λ (l : List Entry). told_by (qmi_wording s.device).fresh (qmi_wording s.device).step l) (entries_same s c clients past own same);
        there = same_there s c clients past own same;
        requests = sym (in_use-part c past A.fit) ∙ ap in_use same ∙ in_use-part c own A.alone;
        waiting = sym (pending-part c past A.fit) ∙ ap pending same ∙ pending-part c own A.alone;
        ids = sym (held-part c past A.fit.sound) ∙ ap held same ∙ held-part c own A.alone.sound;
        time = solo_time (qmi_protocol s) (Asks s) (orderly s) (qmi_alone s) c events;
        away = sym (away-part c s.starts_away past) ∙ ap (is_away s.starts_away) same ∙ away-part c s.starts_away own;
        queue = empty_of s c clients (modem_queue wire own) A.empty;
      };
      entries = entries_same s c clients past own same;
      asks = λ there. All-from_recursion (λ (r : Request). (r.conn == c) ≡ true) (in_use own) (in_use_mine c own A.alone there);
      holds = λ there. All-from_recursion (λ (g : Grant). (g.conn == c) ≡ true) (held own) (held_mine c own A.alone there);
    }
