-- How a client stands in the history of all and in its own, and what keeps it so.
use Rattle.std.proofs.Common.{◌≡◌, ◌≢◌, ℕ, ◌≤◌, Bool, true, false, ◌&&◌, ◌||◌, ◌==◌, is_some, if◌then◌else◌, List, [], ◌∷◌, length, refl, ap, sym, ◌∙◌, subst, arith, Contains, Option}
use Rattle.std.specs.List.{AllByRecursion, list_any}
use Rattle.proxy_history.specs.Events.{Event}
use Rattle.proxy_history.specs.Facts.{Fact, Request, EventBegan, Admitted, Ended, Forwarded}
use Rattle.proxy_history.specs.Connections.{present, is_present}
use Rattle.proxy_history.specs.Requests.{in_use, pending, deadline_of}
use Rattle.proxy_history.specs.Modem.{now, to_modem, modem_taken_count, modem_queue}
use Rattle.proxy_history.specs.Rendering.{Rendering, render}
use Rattle.proxy_history.specs.Wording.{text_behind}
use Rattle.proxy_history.specs.Adding.{AllFit}
use Rattle.proxy_history.specs.Coming.{queued_for}
use Rattle.proxy_history.proofs.Walk.{begun_fits, all_fit}
use Rattle.proxy_solo.specs.Part.{concerns, as_known, facts_if}
use Rattle.proxy_solo.specs.Part as alone_part
use Rattle.proxy_solo.proofs.Lists.{contains-push, contains-without}
use Rattle.proxy_solo.proofs.Reading.{AreGeneral, general_if}
use Rattle.proxy_solo.proofs.Placed.{forwarded_pending}
use Rattle.proxy_solo.proofs.Queries.{present-part}
use Rattle.mbim_proxy.specs.Setup.{Setup}
use Rattle.mbim_proxy.specs.Known.{Known}
use Rattle.mbim_proxy.specs.Step.{blank, known_now}
use Rattle.mbim_proxy.specs.Text.{mbim_wording}
use Rattle.mbim_proxy.specs.ModemStates.{ModemState, IsAway, IsShut, IsOpening, IsReady, state}
use Rattle.mbim_proxy.specs.Forwarding.{wire}
use Rattle.mbim_proxy.specs.History.{mbim_protocol, history, text_for}
use Rattle.mbim_proxy.proofs.Walk.{Asks, orderly}
use Rattle.mbim_solo.specs.Solo.{restated}
use Rattle.mbim_solo.specs.Part.{part}
use Rattle.mbim_solo.proofs.Reading.{reads}
use Rattle.mbim_solo.proofs.Views.{known_view, OpenOnce, text-part, known-part}
use Rattle.mbim_solo.proofs.Places.{IsPlacedIn}
use Rattle.mbim_solo.proofs.Noted.{known_in, is_waiting}
use Rattle.mbim_solo.proofs.Numbers.{deadline_within}
use Rattle.mbim_solo.proofs.Relation.{IsOrderly, is_end_of, Stand, AsksAlone, Stands, Alike}
use Rattle.mbim_solo.proofs.Orderly.{begun_orderly, histories_are_orderly}

module _ (s : Setup) (c : ℕ) where
  -- ---- what keeps how the client stands ----

  -- the modem is in the same state, and has the same requests
  pub record KeepsModem (past after : List Fact) : Type 0 where
    pub modem : state s.starts_away after ≡ state s.starts_away past
    pub used : in_use after ≡ in_use past
    pub waiting : pending after ≡ pending past

  pub keeps_itself : (past : List Fact) → KeepsModem past past
  keeps_itself past = record { modem = refl; used = refl; waiting = refl }

  asks_as_before : (modem : ModemState) (past own after facts : List Fact) → KeepsModem past after → KeepsModem own facts → AsksAlone s c modem past own → AsksAlone s c modem after facts
  asks_as_before IsAway past own after facts K L none = L.used ∙ none
  asks_as_before IsShut past own after facts K L none = L.used ∙ none
  asks_as_before IsOpening past own after facts K L asks = record {
    request = asks.request;
    opens = asks.opens;
    only = L.used ∙ asks.only;
    waits = L.waiting ∙ asks.waits;
    later = subst (AllByRecursion (λ r. r.deadline ≤ asks.request.deadline)) (sym K.waiting) asks.later;
  }
  asks_as_before IsReady past own after facts K L mine = subst (AllByRecursion (λ r. (r.conn == c) ≡ true)) (sym L.used) mine

  pub stands_as_before : (past own after facts : List Fact) → is_waiting s c (part c after) ≡ is_waiting s c (part c past) → KeepsModem past after → KeepsModem own facts → Stands s c past own → Stands s c after facts
  stands_as_before past own after facts waits K L S = record {
    states =
        subst (λ (m : ModemState). Stand s c (is_waiting s c (part c after)) (state s.starts_away after) m) (sym L.modem)
        (subst (λ (m : ModemState). Stand s c (is_waiting s c (part c after)) m (state s.starts_away own)) (sym K.modem)
        (subst (λ (b : Bool). Stand s c b (state s.starts_away past) (state s.starts_away own)) (sym waits) S.states));
    asks = subst (λ (m : ModemState). AsksAlone s c m after facts) (sym L.modem) (asks_as_before (state s.starts_away own) past own after facts K L S.asks);
  }

  -- ---- the client alone meets nothing ----

  pub passes_alone : (past after : List Fact) (solo : List Event) (bytes : List ℕ) → Alike s c past solo bytes → IsOrderly s c after → part c after ≡ part c past → now after ≡ now past → (list_any (is_end_of c) after ≡ false → Stands s c after (history s solo)) → Alike s c after solo bytes
  passes_alone past after solo bytes A after_orderly same time stands = record {
    orderly = after_orderly;
    may = A.may;
    rests = A.rests;
    quiet = A.quiet;
    same = same ∙ A.same;
    time = time ∙ A.time;
    sent = A.sent;
    stands = stands;
  }

module _ (s : Setup) (c : ℕ) (client : c ≢ 0) where
  -- ---- who is there hasn't ended ----

  general_has_no_end : (past : List Fact) → AreGeneral (part c past) → list_any (is_end_of c) past ≡ false
  unfolding alone_part.part
  general_has_no_end [] general = refl
  general_has_no_end (Ended d why ∷ past) general =
      let step : (b : Bool) → AreGeneral (facts_if b (Ended d why ∷ []) (part c past)) → (b || list_any (is_end_of c) past) ≡ false =
      λ b. elim b as (λ b. AreGeneral (facts_if b (Ended d why ∷ []) (part c past)) → (b || list_any (is_end_of c) past) ≡ false) [
        | true ↦ λ g. absurd (let clash : false ≡ true = g.0 in cc)
        | false ↦ λ g. general_has_no_end past g
      ]
      in step (d == c) general
  general_has_no_end (fact ∷ past) general = general_has_no_end past (general_if (concerns c fact) (restated (as_known blank c fact)) (part c past) general)

  pub there_not_ended : (past : List Fact) → IsPlacedIn s c past → is_present c past ≡ true → list_any (is_end_of c) past ≡ false
  unfolding present
  there_not_ended [] P there = refl
  there_not_ended (Admitted d ∷ past) P there =
      let step : (b : Bool) → (d == c) ≡ b → (if b then true else is_present c past) ≡ true → list_any (is_end_of c) past ≡ false =
      λ b. elim b as (λ b. (d == c) ≡ b → (if b then true else is_present c past) ≡ true → list_any (is_end_of c) past ≡ false) [
        | true ↦ λ e h. general_has_no_end past (P.placed.0 e)
        | false ↦ λ e h. there_not_ended past (record { sound = P.sound.1; placed = P.placed.1 }) h
      ]
      in step (d == c) refl (sym (contains-push c d (present past)) ∙ there)
  there_not_ended (Ended d why ∷ past) P there =
      let step : (b : Bool) → (if b then false else is_present c past) ≡ true → (b || list_any (is_end_of c) past) ≡ false =
      λ b. elim b as (λ b. (if b then false else is_present c past) ≡ true → (b || list_any (is_end_of c) past) ≡ false) [
        | true ↦ λ h. absurd (let clash : false ≡ true = h in cc)
        | false ↦ λ h. there_not_ended past (record { sound = P.sound.1; placed = P.placed.1 }) h
      ]
      in step (d == c) (sym (contains-without c d (present past)) ∙ there)
  there_not_ended (fact ∷ past) P there = there_not_ended past (record { sound = P.sound.1; placed = P.placed.1 }) there

  -- ---- whether its request to open waits ----

  pub waits-part : (past : List Fact) → OpenOnce s c past → is_waiting s c (part c past) ≡ (is_present c past && is_some (known_now s c past).waits)
  waits-part past once =
      ap (λ (b : Bool). b && is_some (known_in s c (part c past)).waits) (present-part s.limits blank restated reads c past)
      ∙ ap (λ (k : Known). is_present c past && is_some k.waits) (known-part s c past once)

  pub waits_as_before : (past after : List Fact) → OpenOnce s c past → OpenOnce s c after → is_present c after ≡ is_present c past → (known_now s c after).waits ≡ (known_now s c past).waits → is_waiting s c (part c after) ≡ is_waiting s c (part c past)
  waits_as_before past after once once_after there waits =
      waits-part after once_after
      ∙ ap (λ (b : Bool). b && is_some (known_now s c after).waits) there
      ∙ ap (λ (o : Option ℕ). is_present c past && is_some o) waits
      ∙ sym (waits-part past once)

  -- no request that waits expires later than one that is forwarded now
  pub none_expires_later : (past : List Fact) (deadline : ℕ) → IsOrderly s c past → deadline_of (now past) s.time_limit ≡ deadline → AllByRecursion (λ r. r.deadline ≤ deadline) (pending past)
  none_expires_later past deadline O is = each (pending past) (forwarded_pending past)
    where
      each : (requests : List Request) → AllByRecursion (λ q. Contains past (Forwarded q)) requests → AllByRecursion (λ r. r.deadline ≤ deadline) requests
      each [] all = tt
      each (r ∷ requests) all = (let within = deadline_within s past r O.sound O.fit.asked all.0 in omega (arith, within, is), each requests all.1)

  -- ---- what is done for all and alone alike ----

  -- before something of the client is met: `own` is its history alone, with the event begun
  pub record Both (past own : List Fact) : Type 0 where
    pub orderly : IsOrderly s c past
    pub alone : IsOrderly s c own
    pub same : part c past ≡ part c own
    pub time : now past ≡ now own
    pub stands : list_any (is_end_of c) past ≡ false → Stands s c past own
    pub empty : modem_queue (wire s) own ≡ []
    pub fits : AllFit s.limits (mbim_wording s) own

  -- and behind it
  pub record Done (after facts : List Fact) : Type 0 where
    pub same : part c after ≡ part c facts
    pub time : now after ≡ now facts
    pub stands : list_any (is_end_of c) after ≡ false → Stands s c after facts

  pub begun_alike : (past : List Fact) (solo : List Event) (bytes : List ℕ) → Alike s c past solo bytes → Alike s c (EventBegan ∷ past) solo bytes
  unfolding alone_part.part now state in_use pending
  begun_alike past solo bytes A = record {
    orderly = begun_orderly s c client past A.orderly;
    may = A.may;
    rests = A.rests;
    quiet = A.quiet;
    same = A.same;
    time = A.time;
    sent = A.sent;
    stands = λ still. stands_as_before s c past (history s solo) (EventBegan ∷ past) (history s solo) refl (record { modem = refl; used = refl; waiting = refl }) (keeps_itself s c (history s solo)) (A.stands still);
  }

  pub both_begin : (past : List Fact) (solo : List Event) (bytes : List ℕ) → Alike s c past solo bytes → Both past (EventBegan ∷ history s solo)
  unfolding alone_part.part now state in_use pending to_modem modem_taken_count
  both_begin past solo bytes A = record {
    orderly = A.orderly;
    alone = begun_orderly s c client (history s solo) (histories_are_orderly s c client solo A.may);
    same = A.same;
    time = A.time;
    stands = λ still. stands_as_before s c past (history s solo) past (EventBegan ∷ history s solo) refl (keeps_itself s c past) (record { modem = refl; used = refl; waiting = refl }) (A.stands still);
    empty = A.rests.queue;
    fits = begun_fits (mbim_protocol s) (Asks s) (orderly s) (history s solo) (all_fit (mbim_protocol s) (Asks s) (orderly s) solo);
  }

  pub both_do_nothing : (past own : List Fact) → Both past own → Done past own
  both_do_nothing past own B = record { same = B.same; time = B.time; stands = B.stands }

  pub there_alike : (past own : List Fact) → part c past ≡ part c own → is_present c past ≡ is_present c own
  there_alike past own same = sym (present-part s.limits blank restated reads c past) ∙ ap (is_present c) same ∙ present-part s.limits blank restated reads c own

  -- what is done where the client is there
  pub both_if : (b own_b : Bool) (past own after facts : List Fact) → b ≡ own_b → (b ≡ true → own_b ≡ true → Done after facts) → Done past own → Done (if b then after else past) (if own_b then facts else own)
  both_if true true past own after facts same there gone = there refl refl
  both_if true false past own after facts same there gone = absurd (cc)
  both_if false true past own after facts same there gone = absurd (cc)
  both_if false false past own after facts same there gone = gone

  pub fact_alike : (fact : Fact) (past own : List Fact) → part c past ≡ part c own → part c (fact ∷ past) ≡ part c (fact ∷ own)
  unfolding alone_part.part
  fact_alike fact past own same = ap (facts_if (concerns c fact) (restated (as_known blank c fact))) same

  -- as many bytes wait for it
  pub queued_alike : (events solo : List Event) (bytes : List ℕ) → Alike s c (history s events) solo bytes → queued_for (mbim_protocol s) c events ≡ queued_for (mbim_protocol s) c solo
  queued_alike events solo bytes A =
      let past : List Fact = history s events in
      let own : List Fact = history s solo in
      let text : text_for s c events ≡ text_for s c solo = sym (text-part s c past A.orderly.fit.once) ∙ ap (λ (l : List Fact). render s.limits.outbox (text_behind (mbim_wording s)) (known_view s c l)) A.same ∙ text-part s c own (histories_are_orderly s c client solo A.may).fit.once in
      ap (λ (b : Bool). if b then length (text_for s c events).waiting else 0) (there_alike past own A.same)
      ∙ ap (λ (r : Rendering). if is_present c own then length r.waiting else 0) text
