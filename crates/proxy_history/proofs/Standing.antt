-- What is due to a client for a message of the modem stands in its queue at the end of the event.
use Rattle.std.proofs.Common.{◌≡◌, ℕ, ◌+◌, ◌<◌, Bool, true, false, ◌||◌, nat_lt, List, [], ◌∷◌, ◌++◌, length, map, refl, ap, sym, ◌∙◌, subst, Option, Some}
use Rattle.std.proofs.lemmas.Bool.{true≢false, le-ltb, lt-ltb, false_from_ne_true}
use Rattle.proxy_history.specs.Events.{Event, ModemPiece}
use Rattle.proxy_history.specs.Items.{Item, ModemSays, ModemIsLost, item_if, delivered_by_piece, modem_items}
use Rattle.proxy_history.specs.Streams.{is_bad, modem_stream}
use Rattle.proxy_history.specs.Facts.{Fact, Request, EventBegan}
use Rattle.proxy_history.specs.Connections.{is_present}
use Rattle.proxy_history.specs.Rendering.{Rendering, put, put_unless, Grows}
use Rattle.proxy_history.specs.Noting.{rendering}
use Rattle.proxy_history.specs.Sound.{IsSound}
use Rattle.proxy_history.specs.Adding.{Extends, AllFit, IsOrderly}
use Rattle.proxy_history.specs.Protocol.{Protocol}
use Rattle.proxy_history.specs.History.{add_all, history}
use Rattle.proxy_history.specs.Standing.{StandsBehind, GetsNothing, IsServed}
use Rattle.proxy_history.proofs.Walk.{behind_messages, one_if, sound_items, begun_is_sound, items_fit, begun_fits, all_fit}
use Rattle.proxy_history.proofs.Splits.{splits}
use Rattle.proxy_history.proofs.ModemFacts.{OfModem, is_modems, modem_adds, end_adds, all_grow, all_full, all_gone, IsOwed, all_owed}

-- ---- bytes that find room, and bytes that don't ----

-- who isn't over already lacks room where the bytes and those that wait are more than may be
over_is : (room : ℕ) (bytes : List ℕ) (before : Rendering) → before.is_over ≡ false → (put room bytes before).is_over ≡ nat_lt room (length before.waiting + length bytes)
over_is room bytes before fits = ap (λ (b : Bool). b || nat_lt room (length before.waiting + length bytes)) fits

put_nothing : (over : Bool) (bytes : List ℕ) (before : Rendering) → over ≡ true → GetsNothing before (put_unless over bytes before)
put_nothing true bytes before is = (refl, refl)
put_nothing false bytes before is = absurd (cc)

stands_behind : (room : ℕ) (bytes : List ℕ) (before between after : Rendering) → between ≡ put room bytes before → (put room bytes before).is_over ≡ false → Grows between after → StandsBehind bytes before after
stands_behind room bytes before between after is fits grows =
    let put_is : between ≡ put_unless false bytes before = is ∙ ap (λ (b : Bool). put_unless b bytes before) fits in
    record {
      more = grows.more;
      all = grows.bytes ∙ ap (λ (r : Rendering). r.bytes ++ grows.more) put_is;
      waiting = grows.waiting ∙ ap (λ (r : Rendering). r.waiting ++ grows.more) put_is;
    }

module _ {Known : Type 0} (p : Protocol Known) (Asks : Request → List Fact → Type 0) (O : IsOrderly p Asks) where
  -- ---- the facts of the modem behind the bytes ----

  module _ (c : ℕ) (bytes : List ℕ) (past heard after : List Fact) (there : is_present c past ≡ true) (put_is : rendering p.limits p.wording c heard ≡ put p.limits.outbox bytes (rendering p.limits p.wording c past))
      (fits : AllFit p.limits p.wording past) (fits_then : AllFit p.limits p.wording heard) (first : Extends OfModem past heard) (rest : Extends OfModem heard after) where
    abbrev before : Rendering
    before = rendering p.limits p.wording c past

    module _ (none : p.limits.outbox < length before.waiting + length bytes) where
      over : (put p.limits.outbox bytes before).is_over ≡ true
      over = over_is p.limits.outbox bytes before (fits c there) ∙ lt-ltb p.limits.outbox (length before.waiting + length bytes) none

      over_then : (rendering p.limits p.wording c heard).is_over ≡ true
      over_then = ap (λ (x : Rendering). x.is_over) put_is ∙ over

      gone : is_present c after ≡ false
      gone = all_gone c heard after rest (false_from_ne_true (is_present c heard) (λ still. true≢false (sym over_then ∙ fits_then c still)))

      nothing : GetsNothing before (rendering p.limits p.wording c after)
      nothing = subst (GetsNothing before) (sym (all_full p.limits p.wording c heard after rest over_then ∙ put_is)) (put_nothing (put p.limits.outbox bytes before).is_over bytes before over)

    owed : IsOwed c after
    owed = all_owed c heard after rest (all_owed c past heard first (λ absent. absurd (true≢false (sym there ∙ absent))))

    is_served : IsServed p.limits p.wording c bytes past after
    is_served = record {
      stands = λ room. stands_behind p.limits.outbox bytes before (rendering p.limits p.wording c heard) (rendering p.limits p.wording c after) put_is
          (over_is p.limits.outbox bytes before (fits c there) ∙ le-ltb p.limits.outbox (length before.waiting + length bytes) room) (all_grow p.limits p.wording c heard after rest);
      ended = λ none. (gone none, nothing none);
      why = owed;
    }

  -- ---- a message of the modem, behind those that came before it in one piece ----

  module _ (events : List Event) (earlier : List (List ℕ)) where
    abbrev pub facts_before : List Fact
    facts_before = add_all p (map (λ m. ModemSays m) earlier) (EventBegan ∷ history p events)

    pub sound_before : IsSound p.limits facts_before
    sound_before = sound_items p Asks O (map (λ m. ModemSays m) earlier) (EventBegan ∷ history p events) (begun_is_sound p Asks O events)

    fit_before : AllFit p.limits p.wording facts_before
    fit_before = items_fit p Asks O (map (λ m. ModemSays m) earlier) (EventBegan ∷ history p events) (begun_is_sound p Asks O events) (begun_fits p Asks O (history p events) (all_fit p Asks O events))

    pub fit_behind : (m : List ℕ) → AllFit p.limits p.wording (p.hear_modem m facts_before)
    unfolding add_all
    fit_behind m = items_fit p Asks O (ModemSays m ∷ []) facts_before sound_before fit_before

    -- ---- the whole event ----

    module _ (stream piece : List ℕ) (later : List (List ℕ)) (m : List ℕ) (back : modem_stream p.size p.starts_away events ≡ Some stream) (brings : delivered_by_piece p stream piece ≡ earlier ++ m ∷ later) where
      abbrev end : List Item
      end = map (λ m. ModemSays m) later ++ item_if (is_bad p.size (stream ++ piece)) ModemIsLost

      abbrev heard : List Fact
      heard = p.hear_modem m facts_before

      whole : history p (ModemPiece piece ∷ events) ≡ p.finish (add_all p end heard)
      unfolding history
      whole =
          ap (λ (before : Option (List ℕ)). p.finish (add_all p (modem_items p piece before) (EventBegan ∷ history p events))) back
          ∙ ap (λ (messages : List (List ℕ)). p.finish (add_all p (map (λ m. ModemSays m) messages ++ item_if (is_bad p.size (stream ++ piece)) ModemIsLost) (EventBegan ∷ history p events))) brings
          ∙ ap p.finish (splits p (λ m. ModemSays m) (item_if (is_bad p.size (stream ++ piece)) ModemIsLost) earlier later m (EventBegan ∷ history p events))

      sound_heard : IsSound p.limits heard
      unfolding add_all
      sound_heard = sound_items p Asks O (ModemSays m ∷ []) facts_before sound_before

      first : Extends OfModem facts_before heard
      unfolding add_all
      first = modem_adds p Asks O (ModemSays m ∷ []) facts_before (refl, tt) sound_before

      rest : Extends OfModem heard (p.finish (add_all p end heard))
      rest =
          end_adds p Asks O heard (add_all p end heard) (sound_items p Asks O end heard sound_heard)
          (modem_adds p Asks O end heard
          (behind_messages (λ item. is_modems item ≡ true) (λ m. ModemSays m) later (item_if (is_bad p.size (stream ++ piece)) ModemIsLost) (λ m. refl) (one_if (λ item. is_modems item ≡ true) (is_bad p.size (stream ++ piece)) ModemIsLost refl))
          sound_heard)

      pub served : (c : ℕ) (bytes : List ℕ) → is_present c facts_before ≡ true → rendering p.limits p.wording c heard ≡ put p.limits.outbox bytes (rendering p.limits p.wording c facts_before)
          → IsServed p.limits p.wording c bytes facts_before (history p (ModemPiece piece ∷ events))
      served c bytes there put_is =
          subst (IsServed p.limits p.wording c bytes facts_before) (sym whole)
          (is_served c bytes facts_before heard (p.finish (add_all p end heard)) there put_is fit_before (fit_behind m) first rest)
