-- A client alone beside all, between two events. Lists of events and of facts have the newest first.
use Rattle.std.proofs.Common.{◌≡◌, ◌≢◌, ℕ, ◌≤◌, ◌⊎◌, inl, inr, Bool, true, false, ◌==◌, List, [], ◌∷◌, fold, refl, ap, sym, ◌∙◌, subst, arith}
use Rattle.std.specs.List.{list_any, AllByRecursion}
use Rattle.framing.specs.Cutting.{cut}
use Rattle.mbim_frame.specs.Frame.{size_of}
use Rattle.proxy_history.specs.Events.{Event}
use Rattle.proxy_history.specs.Streams.{stream}
use Rattle.proxy_history.specs.Facts.{Fact, Ended}
use Rattle.proxy_history.specs.Coming.{AreSound}
use Rattle.proxy_history.specs.Connections.{is_present, message_count}
use Rattle.proxy_history.specs.Requests.{in_use}
use Rattle.proxy_history.specs.Rendering.{render}
use Rattle.proxy_history.specs.Wording.{text_behind}
use Rattle.proxy_solo.specs.Part.{sent_by}
use Rattle.proxy_solo.proofs.Queries.{count-part}
use Rattle.mbim_proxy.specs.Step.{blank, known_now}
use Rattle.mbim_proxy.specs.Text.{mbim_wording}
use Rattle.mbim_proxy.specs.ModemStates.{ModemState, IsShut, IsOpening, IsReady, state}
use Rattle.mbim_proxy.specs.Proxy.{proxy_of}
use Rattle.mbim_proxy.specs.History.{mbim_protocol, history, text_for}
use Rattle.mbim_solo.specs.Solo.{restated}
use Rattle.mbim_solo.proofs.Reading.{reads}
use Rattle.mbim_solo.proofs.Views.{known_view, text-part}
use Rattle.mbim_solo.proofs.Saying.{OpenAlike}
use Rattle.mbim_solo.proofs.Hearing.{sent_alike}
use Rattle.mbim_solo.proofs.Relation.{IsOrderly, is_end_of, Stand, AsksAlone, OpensOnly, Stands, Alike}
use Rattle.mbim_solo.proofs.Orderly.{histories_are_orderly}
use Rattle.mbim_solo.proofs.Opened.{waits_not}
use Rattle.mbim_solo.proofs.Standing.{there_alike}
use Rattle.rig_runs.specs.Mbim.{setup}
use Rattle.rig_laws_mbim.proofs.Harmless.{AreHarmless}
use Rattle.rig_laws_mbim.proofs.Trail.{Standing, IsAt}
use Rattle.rig_trace.specs.declared.trace.Met.{Met}
use Rattle.rig_trace.specs.Rows.{asked_by}
use Rattle.rig_trace.specs.Trace.{met_by, taken_by}
use Rattle.rig_trace.specs.Mbim.{mbim_reading}
use Rattle.rig_trace.specs.Alone.{meets, meet_met}
use Rattle.rig_trace.proofs.Chain.{AreSame}
use Rattle.trace_laws_mbim.proofs.Content.{known_same}
use Rattle.trace_laws_mbim.proofs.Lone.{facts_of, ledger, Lone}
use Rattle.trace_laws_mbim.proofs.Asking.{room}
use Rattle.trace_laws_mbim.proofs.Meets.{Meets}
use Rattle.trace_laws_mbim.proofs.Telling.{meet, meet_event}

-- what is known between two events: `own` is what the client met so far alone
pub record Along (c : ℕ) (before : Standing) (events own : List Event) : Type 0 where
  pub at : IsAt before events
  pub alike : Alike setup c (history setup events) own (stream c events)
  pub lone : Lone c own
  pub opened : state false (history setup own) ≡ IsReady → c ≤ before.progress.opened

-- and with the next event
pub record Next (c : ℕ) (before after : Standing) (event : Event) (events own : List Event) : Type 0 where
  pub at : IsAt after (event ∷ events)
  pub alike : Alike setup c (history setup (event ∷ events)) (meet_event c events event own) (stream c (event ∷ events))
  pub sound : AreSound (mbim_protocol setup) (event ∷ events)
  pub rises : before.progress.opened ≤ after.progress.opened

not_ended : (c : ℕ) (past : List Fact) → AreHarmless past → list_any (is_end_of c) past ≡ false
not_ended c [] all = refl
not_ended c (Ended d why ∷ past) all = absurd all.0
not_ended c (_ ∷ past) all = not_ended c past all.1

only_shut : (own : ModemState) → OpenAlike IsShut own → own ≡ IsShut
only_shut IsShut alike = refl
only_shut _ alike = absurd alike

shut_or_ready : (own : ModemState) → OpenAlike IsReady own → (own ≡ IsShut) ⊎ (own ≡ IsReady)
shut_or_ready IsShut alike = inl refl
shut_or_ready IsReady alike = inr refl
shut_or_ready _ alike = absurd alike

module _ (c : ℕ) (client : c ≢ 0) (low : 1 ≤ c) (before : Standing) (events own : List Event) (L : Along c before events own) where
  abbrev past : List Fact
  past = history setup events

  abbrev pub mets : Event → List Met
  mets event = met_by mbim_reading event (asked_by (proxy_of setup) event events) (taken_by (proxy_of setup) event events) (ledger events)

  abbrev facts_alone : List Fact
  facts_alone = history setup own

  pub orderly_alone : IsOrderly setup c (history setup own)
  orderly_alone = histories_are_orderly setup c client own L.alike.may

  -- ---- what is the same ----

  pub known_alike : known_now setup c (history setup events) ≡ known_now setup c (history setup own)
  known_alike = known_same c client low before past facts_alone L.at.calm L.alike.orderly orderly_alone L.alike.same

  pub text_alike : text_for setup c events ≡ text_for setup c own
  text_alike =
      sym (text-part setup c past L.alike.orderly.fit.once)
      ∙ ap (λ (l : List Fact). render setup.limits.outbox (text_behind (mbim_wording setup)) (known_view setup c l)) L.alike.same
      ∙ text-part setup c facts_alone orderly_alone.fit.once

  pub present_alike : is_present c (history setup events) ≡ is_present c (history setup own)
  present_alike = there_alike setup c client past facts_alone L.alike.same

  pub count_alike : message_count c (history setup events) ≡ message_count c (history setup own)
  count_alike =
      sym (count-part setup.limits blank restated reads c past)
      ∙ ap (message_count c) L.alike.same
      ∙ count-part setup.limits blank restated reads c facts_alone

  pub requests_alike : sent_by c (in_use (history setup events)) ≡ sent_by c (in_use (history setup own))
  requests_alike = sent_alike setup room.enough c client past facts_alone L.alike.orderly.fit orderly_alone.fit L.alike.same

  pub whole_alone : (cut size_of (stream c own)).rest ≡ []
  whole_alone = ap (λ (l : List ℕ). (cut size_of l).rest) L.alike.sent ∙ L.at.streams.whole c

  -- ---- how it stands ----

  pub stands : Stands setup c (history setup events) (history setup own)
  stands = L.alike.stands (not_ended c past L.at.calm.harmless)

  -- nobody waits but while the modem opens
  pub alike_states : (state false (history setup events) ≡ IsOpening → ⊥) → OpenAlike (state false (history setup events)) (state false (history setup own))
  alike_states other = subst (λ (b : Bool). Stand setup c b (state false past) (state false facts_alone)) (waits_not setup c client past L.alike.orderly other) stands.states

  pub shut_too : state false (history setup events) ≡ IsShut → state false (history setup own) ≡ IsShut
  shut_too is = only_shut (state false facts_alone) (subst (λ (m : ModemState). OpenAlike m (state false facts_alone)) is (alike_states (λ e. let no : IsShut ≡ IsOpening = sym is ∙ e in cc)))

  pub ready_or_shut : state false (history setup events) ≡ IsReady → (state false (history setup own) ≡ IsShut) ⊎ (state false (history setup own) ≡ IsReady)
  ready_or_shut is = shut_or_ready (state false facts_alone) (subst (λ (m : ModemState). OpenAlike m (state false facts_alone)) is (alike_states (λ e. let no : IsReady ≡ IsOpening = sym is ∙ e in cc)))

  pub none_while_shut : state false (history setup own) ≡ IsShut → in_use (history setup own) ≡ []
  none_while_shut is = subst (λ (m : ModemState). AsksAlone setup c m past facts_alone) is stands.asks

  pub mine_while_ready : state false (history setup own) ≡ IsReady → AllByRecursion (λ r. (r.conn == c) ≡ true) (in_use (history setup own))
  mine_while_ready is = subst (λ (m : ModemState). AsksAlone setup c m past facts_alone) is stands.asks

  pub only_while_opening : state false (history setup own) ≡ IsOpening → OpensOnly setup c (history setup events) (history setup own)
  only_while_opening is = subst (λ (m : ModemState). AsksAlone setup c m past facts_alone) is stands.asks

  -- ---- steps ----

  -- what the client meets of the trace is what it meets alone
  pub record Step (after : Standing) (event : Event) : Type 0 where
    pub met : fold (meet_met mbim_reading (proxy_of setup) c) own (mets event) ≡ meet_event c events event own
    pub lone : Lone c (meet_event c events event own)
    pub opened : state false (history setup (meet_event c events event own)) ≡ IsReady → c ≤ after.progress.opened
    pub same : AreSame mbim_reading (proxy_of setup) c own (mets event)

  module _ (after : Standing) (event : Event) (N : Next c before after event events own) where
    -- it meets nothing
    pub stays : meet_event c events event own ≡ own → fold (meet_met mbim_reading (proxy_of setup) c) own (mets event) ≡ own → AreSame mbim_reading (proxy_of setup) c own (mets event) → Step after event
    stays is trace same = record {
      met = trace ∙ sym is;
      lone = subst (Lone c) (sym is) L.lone;
      opened = subst (λ (l : List Event). state false (history setup l) ≡ IsReady → c ≤ after.progress.opened) (sym is) (λ e. let high = L.opened e in let rises = N.rises in omega (arith, high, rises));
      same = same;
    }

    -- it meets one event, last of all
    pub meets_one : (first : List Event) (mine : Event) → meet_event c events event own ≡ meet mine first → Meets c client mine first → (state false (facts_of mine first) ≡ IsReady → c ≤ after.progress.opened)
        → fold (meet_met mbim_reading (proxy_of setup) c) own (mets event) ≡ meets (proxy_of setup) mine first → AreSame mbim_reading (proxy_of setup) c own (mets event) → Step after event
    meets_one first mine is M opened trace same = record {
      met = trace ∙ sym M.same ∙ sym is;
      lone = subst (Lone c) (sym (is ∙ M.same)) M.lone;
      opened = subst (λ (l : List Event). state false (history setup l) ≡ IsReady → c ≤ after.progress.opened) (sym (is ∙ M.same)) (λ e. opened (sym M.modem ∙ e));
      same = same;
    }
