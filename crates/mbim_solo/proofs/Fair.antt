-- Where nothing of a client's view tells of others, nothing did before, event by event.
use Rattle.std.proofs.Common.{◌≡◌, ◌≢◌, ℕ, ◌<◌, Bool, true, false, ◌==◌, if◌then◌else◌, List, [], ◌∷◌, ◌++◌, refl, sym, ◌∙◌, subst}
use Rattle.std.specs.List.{AllByRecursion}
use Rattle.std.proofs.lemmas.Bool.{eqb-true}
use Rattle.proxy_history.specs.Events.{Event, Joined}
use Rattle.proxy_history.specs.Items.{Item, Joins, items_of}
use Rattle.proxy_history.specs.Facts.{Fact, Ready, NotAdmitted, BadStream, Leaving, EventBegan, Admitted, Ended, Judged, Taken, Answered, IdHeld, Expired, Aborted, Indicated, OpeningEnded, SessionsClosed}
use Rattle.proxy_history.specs.Connections.{contains}
use Rattle.proxy_history.specs.View.{Entry, Said, Response, Refused, Indication, OpenedWith, Shut, Taking, End, HeldId, NoAnswer, view, entry_if}
use Rattle.proxy_history.specs.Coming.{greatest_name, AreSound}
use Rattle.proxy_history.specs.History as proxy
use Rattle.proxy_history.specs.History.{add_all}
use Rattle.proxy_history.proofs.Walk.{IsOf, items_are_of, sound_items, begun_is_sound}
use Rattle.proxy_solo.specs.Part.{as_sent, concerns, as_known, facts_if}
use Rattle.proxy_solo.specs.Part as alone_part
use Rattle.proxy_solo.proofs.Reading.{AreGeneral, is_general, is_judged, general_if}
use Rattle.proxy_solo.proofs.Undisturbed.{AreUndisturbed, joins, before_items, before_end}
use Rattle.mbim_proxy.specs.Setup.{Setup}
use Rattle.mbim_proxy.specs.Step.{blank, view_of}
use Rattle.mbim_proxy.specs.History.{mbim_protocol, history}
use Rattle.mbim_proxy.proofs.Walk.{Asks, orderly}
use Rattle.mbim_solo.specs.Solo.{restated}
use Rattle.mbim_solo.specs.Part.{part}
use Rattle.mbim_solo.proofs.Reading.{reads}
use Rattle.mbim_solo.proofs.Orderly.{new_is_unheard}

-- ---- of whom nothing was heard ----

no_entry : (b : Bool) (entry : Entry) (entries : List Entry) → (b ≡ true → ⊥) → entries ≡ [] → entry_if b entry entries ≡ []
no_entry true entry entries never none = absurd (never refl)
no_entry false entry entries never none = none

none_if : (b : Bool) (entries : List Entry) → entries ≡ [] → (if b then [] else entries) ≡ []
none_if true entries none = refl
none_if false entries none = none

-- a fact that concerns somebody isn't general
never_general : (b : Bool) (fact : Fact) (facts : List Fact) → is_judged fact ≡ false → is_general fact ≡ false → AreGeneral (facts_if b (restated fact) facts) → b ≡ true → ⊥
never_general b fact facts plain of_one general is =
    let here : AreGeneral (restated fact ++ facts) = subst (λ (t : Bool). AreGeneral (facts_if t (restated fact) facts)) is general in
    let stands : AreGeneral (fact ∷ facts) = subst (λ (l : List Fact). AreGeneral (l ++ facts)) (reads.plain fact plain) here in
    let clash : true ≡ false = sym stands.0 ∙ of_one in
    cc

never_judged : (b : Bool) (d place : ℕ) (m : List ℕ) (verdict : _) (facts : List Fact) → AreGeneral (facts_if b (restated (Judged d place m verdict)) facts) → b ≡ true → ⊥
never_judged true d place m Ready facts general is = let clash : false ≡ true = general.0 in cc
never_judged true d place m _ facts general is = let clash : false ≡ true = general.0 in cc
never_judged false d place m verdict facts general is = cc

module _ (c : ℕ) where
  rest_general : (fact : Fact) (past : List Fact) → AreGeneral (part c (fact ∷ past)) → AreGeneral (part c past)
  unfolding alone_part.part
  rest_general fact past general = general_if (concerns c fact) (restated (as_known blank c fact)) (part c past) general

  pub unheard_view : (past : List Fact) → AreGeneral (part c past) → view_of c past ≡ []
  unfolding view alone_part.part
  unheard_view [] general = refl
  unheard_view (Admitted d ∷ past) general = none_if (d == c) (view_of c past) (unheard_view past (rest_general (Admitted d) past general))
  unheard_view (Ended d NotAdmitted ∷ past) general =
      let never = never_general (d == c) (Ended d NotAdmitted) (part c past) refl refl general in
      elim (d == c) as (λ b. (b ≡ true → ⊥) → (if b then End NotAdmitted ∷ [] else view_of c past) ≡ []) [ true ↦ λ no. absurd (no refl) | false ↦ λ no. unheard_view past (rest_general (Ended d NotAdmitted) past general) ] never
  unheard_view (Ended d BadStream ∷ past) general = no_entry (d == c) (End BadStream) (view_of c past) (never_general (d == c) (Ended d BadStream) (part c past) refl refl general) (unheard_view past (rest_general (Ended d BadStream) past general))
  unheard_view (Ended d Leaving ∷ past) general = no_entry (d == c) (End Leaving) (view_of c past) (never_general (d == c) (Ended d Leaving) (part c past) refl refl general) (unheard_view past (rest_general (Ended d Leaving) past general))
  unheard_view (Judged d place m verdict ∷ past) general = no_entry (d == c) (Said m verdict) (view_of c past) (never_judged (d == c) d place m verdict (part c past) general) (unheard_view past (rest_general (Judged d place m verdict) past general))
  unheard_view (Taken d count ∷ past) general = no_entry (d == c) (Taking count) (view_of c past) (never_general (d == c) (Taken d count) (part c past) refl refl general) (unheard_view past (rest_general (Taken d count) past general))
  unheard_view (Answered r m ∷ past) general =
      no_entry (r.conn == c) (Response r.place (blank m)) (view_of c past) (never_general (r.conn == c) (Answered (as_sent r) (blank m)) (part c past) refl refl general) (unheard_view past (rest_general (Answered r m) past general))
  unheard_view (IdHeld r ∷ past) general = no_entry (r.conn == c) (Refused r.place HeldId) (view_of c past) (never_general (r.conn == c) (IdHeld (as_sent r)) (part c past) refl refl general) (unheard_view past (rest_general (IdHeld r) past general))
  unheard_view (Expired r ∷ past) general = no_entry (r.conn == c) (Refused r.place NoAnswer) (view_of c past) (never_general (r.conn == c) (Expired (as_sent r)) (part c past) refl refl general) (unheard_view past (rest_general (Expired r) past general))
  unheard_view (Aborted r ∷ past) general = no_entry (r.conn == c) (Refused r.place NoAnswer) (view_of c past) (never_general (r.conn == c) (Aborted (as_sent r)) (part c past) refl refl general) (unheard_view past (rest_general (Aborted r) past general))
  unheard_view (Indicated m receivers ∷ past) general =
      no_entry (contains c receivers) (Indication m) (view_of c past) (never_general (contains c receivers) (Indicated m (c ∷ [])) (part c past) refl refl general) (unheard_view past (rest_general (Indicated m receivers) past general))
  unheard_view (OpeningEnded status receivers ∷ past) general =
      no_entry (contains c receivers) (OpenedWith status) (view_of c past) (never_general (contains c receivers) (OpeningEnded status (c ∷ [])) (part c past) refl refl general) (unheard_view past (rest_general (OpeningEnded status receivers) past general))
  unheard_view (SessionsClosed receivers ∷ past) general =
      no_entry (contains c receivers) Shut (view_of c past) (never_general (contains c receivers) (SessionsClosed (c ∷ [])) (part c past) refl refl general) (unheard_view past (rest_general (SessionsClosed receivers) past general))
  unheard_view (fact ∷ past) general = unheard_view past (rest_general fact past general)

-- ---- every event ----

joined_other : ℕ → Event → Type 0
joined_other c (Joined d) = (d == c) ≡ false
joined_other c _ = Unit {0}

joins_not : (c : ℕ) (event : Event) → joined_other c event → (item : Item) → IsOf event item → joins c item ≡ false
unfolding joined_other
joins_not c (Joined d) other (Joins e) is = subst (λ (x : ℕ). (x == c) ≡ false) (sym is) other
joins_not c (Joined d) other _ is = absurd is
joins_not c _ other (Joins e) is = absurd is
joins_not c _ other _ is = refl

all_not : (c : ℕ) (event : Event) → joined_other c event → (items : List Item) → AllByRecursion (IsOf event) items → AllByRecursion (λ item. joins c item ≡ false) items
all_not c event other [] all = tt
all_not c event other (item ∷ items) all = (joins_not c event other item all.0, all_not c event other items all.1)

module _ (s : Setup) (c : ℕ) (client : c ≢ 0) where
  abbrev pub IsLeftAlone : List Fact → Type 0
  IsLeftAlone past = AreUndisturbed (view_of c past)

  -- behind an event's items, and before it
  pub record WasLeftAlone (event : Event) (events : List Event) : Type 0 where
    pub items : IsLeftAlone (add_all (mbim_protocol s) (items_of (mbim_protocol s) events event) (EventBegan ∷ history s events))
    pub before : IsLeftAlone (history s events)

  module _ (event : Event) (events : List Event) where
    abbrev facts : List Fact
    facts = add_all (mbim_protocol s) (items_of (mbim_protocol s) events event) (EventBegan ∷ history s events)

    behind_items : IsLeftAlone (history s (event ∷ events)) → IsLeftAlone facts
    unfolding proxy.history
    behind_items alone = before_end (mbim_protocol s) (Asks s) (orderly s) c facts (sound_items (mbim_protocol s) (Asks s) (orderly s) (items_of (mbim_protocol s) events event) (EventBegan ∷ history s events) (begun_is_sound (mbim_protocol s) (Asks s) (orderly s) events)) alone

    of_another : joined_other c event → IsLeftAlone facts → IsLeftAlone (history s events)
    unfolding view
    of_another other alone =
        before_items (mbim_protocol s) (Asks s) (orderly s) c (items_of (mbim_protocol s) events event) (EventBegan ∷ history s events)
        (all_not c event other (items_of (mbim_protocol s) events event) (items_are_of (mbim_protocol s) event events)) (begun_is_sound (mbim_protocol s) (Asks s) (orderly s) events) alone

    left_alone : joined_other c event → IsLeftAlone (history s (event ∷ events)) → WasLeftAlone event events
    left_alone other alone = let items : IsLeftAlone facts = behind_items alone in record { items = items; before = of_another other items }

  pub fair_event : (event : Event) (events : List Event) → AreSound (mbim_protocol s) (event ∷ events) → IsLeftAlone (history s (event ∷ events)) → WasLeftAlone event events
  unfolding joined_other
  fair_event (Joined d) events sound alone =
      let step : (b : Bool) → (d == c) ≡ b → WasLeftAlone (Joined d) events =
      λ b. elim b as (λ b. (d == c) ≡ b → WasLeftAlone (Joined d) events) [
        | true ↦ λ mine.
            let rises : greatest_name events < c = subst (λ (x : ℕ). greatest_name events < x) (eqb-true d c mine) sound.0 in
            record {
              items = behind_items (Joined d) events alone;
              before = subst AreUndisturbed (sym (unheard_view c (history s events) (new_is_unheard s c client events sound.1 rises))) tt;
            }
        | false ↦ λ other. left_alone (Joined d) events other alone
      ]
      in step (d == c) refl
  fair_event event events sound alone = left_alone event events tt alone
