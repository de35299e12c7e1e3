-- What holds of a client that is alone with the modem, and of its ledger. Lists of events and of facts have the newest first.
use Rattle.std.proofs.Common.{◌≡◌, ℕ, zero, suc, ◌≤◌, false, arith, length-drop, List, [], ◌∷◌, length, drop, map, Option, None, refl, ap, sym, ◌∙◌, subst}
use Rattle.hub_io.specs.Record.{taking}
use Rattle.proxy_history.specs.Events.{Event, ModemTook}
use Rattle.proxy_history.specs.Items.{items_of}
use Rattle.proxy_history.specs.Facts.{Fact, Request, EventBegan}
use Rattle.proxy_history.specs.Connections.{present, message_count}
use Rattle.proxy_history.specs.Requests.{first_where, in_use, pending, forward_count}
use Rattle.proxy_history.specs.Modem.{now, to_modem, modem_taken_count, modem_queue}
use Rattle.proxy_history.specs.History as proxy
use Rattle.proxy_history.specs.History.{add_all}
use Rattle.proxy_solo.specs.Solo as alone
use Rattle.mbim_proxy.specs.ModemStates.{state}
use Rattle.mbim_proxy.specs.Lists.{last_list}
use Rattle.mbim_proxy.specs.Forwarding.{wire}
use Rattle.mbim_proxy.specs.OwnList.{finish}
use Rattle.mbim_proxy.specs.Proxy.{proxy_of}
use Rattle.mbim_proxy.specs.History.{mbim_protocol, history}
use Rattle.mbim_solo.specs.Solo.{answer_to, list_taken, own_list_in, mbim_alone}
use Rattle.mbim_solo.proofs.Relation.{is_own_list}
use Rattle.mbim_solo.proofs.Unlisted.{IsUnlisted}
use Rattle.mbim_solo.proofs.Settling.{none_where}
use Rattle.mbim_solo.proofs.Wanting.{finish_none}
use Rattle.mbim_solo.proofs.Taking.{was_taken}
use Rattle.rig_runs.specs.Mbim.{setup}
use Rattle.rig_trace.specs.Rows.{Ledger, names, said_by, follow, ledger_of}
use Rattle.rig_trace.specs.Mbim.{mbim_reading}
use Rattle.rig_trace.specs.Alone.{meets}
use Rattle.trace_laws_mbim.specs.Laws.{row_of}
use Rattle.trace_laws_mbim.proofs.Rows.{AllAsked}
use Rattle.trace_laws_mbim.proofs.Kept.{IsAlone, HasStartingList}
use Rattle.trace_laws_mbim.proofs.Content.{IsContent, none_wanted, taken_content}

-- what an event adds alone before its end
abbrev pub facts_of : Event → List Event → List Fact
facts_of event own = add_all (mbim_protocol setup) (items_of (mbim_protocol setup) own event) (EventBegan ∷ history setup own)

abbrev pub ledger : List Event → Ledger
ledger own = ledger_of mbim_reading (proxy_of setup) own

module _ (c : ℕ) where
  -- the ledger of a client alone mirrors its history
  pub record Mirrored (ledger : Ledger) (past : List Fact) : Type 0 where
    pub rows : ledger.rows ≡ map (row_of c) (in_use past)
    pub asked : ledger.asked ≡ forward_count past
    pub time : ledger.time ≡ now past
    pub names_are : length ledger.said ≡ names
    pub said : said_by c ledger ≡ message_count c past

  pub record Holds (ledger : Ledger) (past : List Fact) : Type 0 where
    pub there : IsAlone c (present past)
    pub list : HasStartingList past
    pub plain : AllAsked (in_use past)
    -- the modem took no more than was queued for it
    pub taken : modem_taken_count past ≤ length (to_modem (wire setup) past)
    pub mirrors : Mirrored ledger past

  -- between two events
  abbrev pub Lone : List Event → Type 0
  Lone own = Holds (ledger own) (history setup own)

  -- behind the facts of an event, before its end
  abbrev pub Added : Event → List Event → Type 0
  Added event own = Holds (follow mbim_reading event (modem_queue (wire setup) (facts_of event own)) (ledger own)) (facts_of event own)

-- ---- an event, and the modem's taking behind it ----

takes_so : (count : ℕ) (events : List Event) → alone.take_all count events ≡ taking (λ n. ModemTook n) count events
takes_so zero events = refl
takes_so (suc count) events = refl

module _ (event : Event) (own : List Event) (empty : modem_queue (wire setup) (history setup own) ≡ []) (content : IsContent (facts_of event own)) (unlisted : IsUnlisted (facts_of event own)) where
  abbrev facts : List Fact
  facts = facts_of event own

  pub then_is : history setup (event ∷ own) ≡ facts
  unfolding proxy.history
  then_is = finish_none setup facts (none_wanted facts content)

  -- the proxy did nothing more
  record SameThen (after : List Fact) : Type 0 where
    waits : pending after ≡ pending facts
    uses : in_use after ≡ in_use facts
    modem : state false after ≡ state false facts
    holds : (c : ℕ) (l : Ledger) → Holds c l facts → Holds c l after

  drains : (count : ℕ) → length (modem_queue (wire setup) facts) ≡ count → SameThen (history setup (alone.take_all count (event ∷ own)))
  unfolding proxy.history add_all in_use pending forward_count message_count now present state last_list to_modem modem_taken_count
  drains zero is = subst SameThen (sym then_is) (record { waits = refl; uses = refl; modem = refl; holds = λ c l held. held })
  drains (suc count) is =
      let goes : history setup (ModemTook (suc count) ∷ event ∷ own) ≡ was_taken (suc count) facts =
      ap (λ (l : List Fact). finish setup (was_taken (suc count) l)) then_is ∙ finish_none setup (was_taken (suc count) facts) (none_wanted (was_taken (suc count) facts) (taken_content (suc count) facts content)) in
      subst SameThen (sym goes) (record {
        waits = refl;
        uses = refl;
        modem = refl;
        holds = λ c l held. record {
          there = held.there;
          list = held.list;
          plain = held.plain;
          taken = let within = held.taken in omega (arith, within, is, length-drop (modem_taken_count facts) (to_modem (wire setup) facts));
          mirrors = record { rows = held.mirrors.rows; asked = held.mirrors.asked; time = held.mirrors.time; names_are = held.mirrors.names_are; said = held.mirrors.said };
        };
      })

  abbrev count : ℕ
  count = length (modem_queue (wire setup) (history setup (event ∷ own)))

  waits : length (modem_queue (wire setup) facts) ≡ count
  waits = ap (λ (l : List Fact). length (modem_queue (wire setup) l)) (sym then_is)

  abbrev first : List Event
  first = alone.take_all count (event ∷ own)

  ledger_taken : (n : ℕ) → ledger (alone.take_all n (event ∷ own)) ≡ ledger (event ∷ own)
  unfolding ledger_of
  ledger_taken zero = refl
  ledger_taken (suc n) = refl

  ledger_then : ledger (event ∷ own) ≡ follow mbim_reading event (modem_queue (wire setup) facts) (ledger own)
  unfolding ledger_of
  ledger_then =
      ap (λ (l : List ℕ). follow mbim_reading event (drop (length l) (modem_queue (wire setup) (history setup (event ∷ own)))) (ledger own)) empty
      ∙ ap (λ (l : List Fact). follow mbim_reading event (modem_queue (wire setup) l) (ledger own)) then_is

  -- the modem answers nothing by itself
  pub meets_same : alone.meet (mbim_protocol setup) (mbim_alone setup) event own ≡ meets (proxy_of setup) event own
  meets_same =
      let listed : own_list_in (history setup first) ≡ None = ap (first_where is_own_list) (drains count waits).waits ∙ none_where is_own_list (pending facts) unlisted in
      ap (λ (o : Option Request). alone.answered (mbim_protocol setup) (answer_to o list_taken) first) listed ∙ takes_so count (event ∷ own)

  pub lone_then : (c : ℕ) → Added c event own → Lone c (meets (proxy_of setup) event own)
  lone_then c added =
      subst (Lone c) (takes_so count (event ∷ own))
      (subst (λ (l : Ledger). Holds c l (history setup first)) (sym (ledger_taken count ∙ ledger_then)) ((drains count waits).holds c _ added))

  pub modem_then : state false (history setup (meets (proxy_of setup) event own)) ≡ state false facts
  modem_then = ap (λ (l : List Event). state false (history setup l)) (sym (takes_so count (event ∷ own))) ∙ (drains count waits).modem

  pub pending_then : pending (history setup (meets (proxy_of setup) event own)) ≡ pending facts
  pending_then = ap (λ (l : List Event). pending (history setup l)) (sym (takes_so count (event ∷ own))) ∙ (drains count waits).waits

  pub uses_then : in_use (history setup (meets (proxy_of setup) event own)) ≡ in_use facts
  uses_then = ap (λ (l : List Event). in_use (history setup l)) (sym (takes_so count (event ∷ own))) ∙ (drains count waits).uses
