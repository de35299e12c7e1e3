-- What a message of the modem brings where a client is alone. Lists of events and of facts have the newest first.
use Rattle.std.proofs.Common.{◌≡◌, ℕ, inl, Bool, true, false, not, ◌==◌, is_none, if◌then◌else◌, List, [], ◌∷◌, ◌++◌, length, drop, map, Option, Some, None, refl, ap, ap₂, sym, ◌∙◌, subst, arith}
use Rattle.kit_bytes.proofs.Lists.{all_filter}
use Rattle.mbim_frame.specs.Frame.{size_of}
use Rattle.proxy_history.specs.Events.{Event, ModemPiece}
use Rattle.proxy_history.specs.Streams.{modem_stream, with_piece}
use Rattle.proxy_history.specs.Items.{Item, ModemSays, items_of, modem_items}
use Rattle.proxy_history.specs.Facts.{Fact, Request, EventBegan, Answered, OpeningEnded}
use Rattle.proxy_history.specs.Connections.{present, message_count}
use Rattle.proxy_history.specs.Requests.{in_use, is_pending, without_request, forward_count}
use Rattle.proxy_history.specs.Modem.{now, to_modem, modem_taken_count, modem_queue}
use Rattle.proxy_history.specs.Sound.{IsSound}
use Rattle.proxy_history.specs.History.{add_all}
use Rattle.proxy_history.proofs.Folds.{away_agrees}
use Rattle.proxy_history.proofs.Noted.{noted_in_use}
use Rattle.proxy_history.proofs.Walk.{begun_is_sound}
use Rattle.proxy_solo.proofs.Time.{item_keeps_time}
use Rattle.mbim_proxy.specs.Text.{mbim_wording, note}
use Rattle.mbim_proxy.specs.ModemStates.{is_own_open, state}
use Rattle.mbim_proxy.specs.Lists.{last_list, waiting}
use Rattle.mbim_proxy.specs.Forwarding.{wire}
use Rattle.mbim_proxy.specs.FromModem.{opening_status, end_opening, answer_or_late, respond, hear_modem}
use Rattle.mbim_proxy.specs.History.{mbim_protocol, history}
use Rattle.mbim_proxy.proofs.Walk.{Asks, orderly}
use Rattle.mbim_solo.specs.Openings.{is_absent}
use Rattle.mbim_solo.proofs.Spoken.{SaysOne, ComesAtOnce, comes_at_once}
use Rattle.mbim_solo.proofs.Relation.{IsQuietThere, modem_bytes, IsOrderly}
use Rattle.rig_runs.specs.Mbim.{setup}
use Rattle.rig_trace.specs.declared.rows.Row.{Row}
use Rattle.rig_trace.specs.Rows.{first_with, without_row, has_answered, follow}
use Rattle.rig_trace.specs.Mbim.{key_of, mbim_reading}
use Rattle.trace_laws_mbim.specs.Laws.{row_of}
use Rattle.trace_laws_mbim.proofs.Rows.{Asked, AllAsked}
use Rattle.trace_laws_mbim.proofs.Rows.{others_stay}
use Rattle.trace_laws_mbim.proofs.Kept.{SameCounts, alone_kept, list_kept, same_counts}
use Rattle.trace_laws_mbim.proofs.Lone.{facts_of, ledger, Mirrored, Holds, Lone}
use Rattle.trace_laws_mbim.proofs.Asking.{Brings}

-- ---- the modem's stream ----

some_of : (o : Option (List ℕ)) → is_none o ≡ false → (before : List ℕ) × (o ≡ Some before)
some_of None e = absurd (let no : true ≡ false = e in cc)
some_of (Some before) e = (before, refl)

module _ (c : ℕ) (own : List Event) where
  -- the message comes whole, in one piece
  pub record ComesAlone (m : List ℕ) : Type 0 where
    pub items : items_of (mbim_protocol setup) own (ModemPiece m) ≡ ModemSays m ∷ []
    pub quiet : IsQuietThere setup c (modem_bytes setup c (ModemPiece m ∷ own))

  pub comes_alone : (m : List ℕ) → IsOrderly setup c (history setup own) → is_absent (state false (history setup own)) ≡ false → IsQuietThere setup c (modem_bytes setup c own) → SaysOne setup m m → ComesAlone m
  unfolding modem_stream
  comes_alone m O there quiet one =
      let some = some_of (modem_bytes setup c own) (sym (away_agrees (mbim_protocol setup) (Asks setup) (orderly setup) own) ∙ O.order.away ∙ there) in
      let before : List ℕ = some.0 in
      let comes : ComesAtOnce setup before m m (subst (IsQuietThere setup c) some.1 quiet) one = comes_at_once setup before m m (subst (IsQuietThere setup c) some.1 quiet) one in
      record {
        items = ap (modem_items (mbim_protocol setup) m) some.1 ∙ comes.items;
        quiet = subst (IsQuietThere setup c) (sym (ap (with_piece size_of m) some.1 ∙ ap (λ (b : Bool). let o : Option (List ℕ) = if b then None else Some (before ++ m) in o) comes.good)) comes.quiet;
      }

-- ---- what it brings ----

module _ (c : ℕ) (own : List Event) (lone : Lone c own) (empty : modem_queue (wire setup) (history setup own) ≡ []) (m : List ℕ) (comes : ComesAlone c own m) where
  abbrev past : List Fact
  past = EventBegan ∷ history setup own

  abbrev after : List Fact
  after = hear_modem setup m past

  sound : IsSound setup.limits past
  sound = begun_is_sound (mbim_protocol setup) (Asks setup) (orderly setup) own

  pub heard_facts : facts_of (ModemPiece m) own ≡ after
  unfolding add_all
  heard_facts = ap (λ (items : List Item). add_all (mbim_protocol setup) items past) comes.items

  counts : SameCounts c past after
  counts = same_counts (ModemSays m) past sound c refl

  none_queued : modem_queue (wire setup) after ≡ []
  unfolding to_modem modem_taken_count
  none_queued = ap₂ drop counts.taken counts.to_it ∙ empty

  time_same : now after ≡ now past
  time_same = item_keeps_time (mbim_protocol setup) (Asks setup) (orderly setup) (ModemSays m) past sound refl

  -- ---- it answers a request ----

  module _ (r : Request) (responds : after ≡ respond setup (Some r) m past) (row : first_with (key_of m) (ledger own).rows ≡ Some (row_of c r)) where
    abbrev answered : List Fact
    answered = note setup (Answered r m) past

    noted_uses : in_use answered ≡ without_request r (in_use (history setup own))
    unfolding in_use
    noted_uses = noted_in_use setup.limits (mbim_wording setup) (Answered r m) past

    ended_uses : in_use (end_opening setup (opening_status m) answered) ≡ without_request r (in_use (history setup own))
    unfolding in_use
    ended_uses = noted_in_use setup.limits (mbim_wording setup) (OpeningEnded (opening_status m) (waiting setup answered)) answered ∙ noted_uses

    uses_by : (waits : Bool) → in_use (answer_or_late setup waits r m past) ≡ without_request r (in_use (history setup own))
    unfolding in_use
    uses_by true =
        elim (is_own_open r) as (λ b. in_use (let facts : List Fact = if b then end_opening setup (opening_status m) answered else answered in facts) ≡ without_request r (in_use (history setup own))) [
          | true ↦ ended_uses
          | false ↦ noted_uses
        ]
    uses_by false = refl

    pub uses_then : in_use after ≡ without_request r (in_use (history setup own))
    uses_then = ap in_use responds ∙ uses_by (is_pending r past)

    pub heard : Brings c own (ModemPiece m)
    unfolding present state last_list in_use forward_count message_count now to_modem modem_taken_count
    heard = record {
      added = subst (λ (l : List Fact). Holds c (follow mbim_reading (ModemPiece m) (modem_queue (wire setup) l) (ledger own)) l) (sym heard_facts) (record {
        there = alone_kept (ModemSays m) past sound c refl lone.there;
        list = list_kept (ModemSays m) past sound lone.list;
        plain = subst AllAsked (sym uses_then) (all_filter Asked (λ q. not (r.serial == q.serial)) (in_use (history setup own)) lone.plain);
        taken = let within = lone.taken in omega (arith, within, counts.taken, ap length counts.to_it);
        mirrors = subst (λ (o : Option Row). Mirrored c (has_answered o (ledger own)) after) (sym row) (record {
          rows = ap (without_row (row_of c r)) lone.mirrors.rows ∙ others_stay c r (in_use (history setup own)) ∙ ap (map (row_of c)) (sym uses_then);
          asked = lone.mirrors.asked ∙ sym counts.forwarded;
          time = lone.mirrors.time ∙ sym time_same;
          names_are = lone.mirrors.names_are;
          said = lone.mirrors.said ∙ sym counts.said;
        });
      });
      queues = inl (ap (modem_queue (wire setup)) heard_facts ∙ none_queued);
    }
