-- No item has the proxy ask the modem for its list: it does so at the end of an event alone.
use Rattle.std.proofs.Common.{◌≡◌, ◌≢◌, ℕ, ◌+◌, Bool, true, false, not, ◌&&◌, ◌==◌, if◌then◌else◌, List, [], ◌∷◌, refl, ap}
use Rattle.std.specs.List.{list_any}
use Rattle.mbim_frame.specs.declared.kind.MessageKind.TheVariants.{Open}
use Rattle.mbim_frame.specs.Head.{is_kind}
use Rattle.proxy_history.specs.Events.{Event}
use Rattle.proxy_history.specs.Items.{Item, Joins, Says, GoesBad, Leaves, ModemSays, ModemIsLost, ModemReturns, ClockShows, Takes, ModemTakes, items_of}
use Rattle.proxy_history.specs.Facts.{Fact, NoRoom, Forward, Waits, EventBegan, Ended, Judged, Forwarded, Answered, IdHeld, Late, Expired, Aborted, Reset, ModemLost}
use Rattle.proxy_history.specs.Decision.{Decision, Replies, Forwards}
use Rattle.proxy_history.specs.Connections.{is_present, message_count}
use Rattle.proxy_history.specs.Requests.{pending}
use Rattle.proxy_history.specs.Sound.{IsSound}
use Rattle.proxy_history.specs.Coming.{AreSound}
use Rattle.proxy_history.specs.History.{add, add_all}
use Rattle.proxy_history.proofs.Sound.{kept_by_note}
use Rattle.proxy_history.proofs.Walk.{MayAddStill, kept_by_still_items}
use Rattle.mbim_proxy.specs.Setup.{Setup}
use Rattle.mbim_proxy.specs.Known.{Known}
use Rattle.mbim_proxy.specs.Step.{known_now}
use Rattle.mbim_proxy.specs.Text.{mbim_wording}
use Rattle.mbim_proxy.specs.Forwarding.{own_open, request_of}
use Rattle.mbim_proxy.specs.Clients.{command_message, forward_for, judge, hear_client, decision_for}
use Rattle.mbim_proxy.specs.History.{mbim_protocol, history}
use Rattle.mbim_proxy.proofs.Walk.{Asks, orderly}
use Rattle.mbim_solo.proofs.Openings.{any_filter, any_push, not_the_proxy}
use Rattle.mbim_solo.proofs.Relation.{is_own_list, IsOrderly}
use Rattle.mbim_solo.proofs.Orderly.{MayMeet, event_keeps}

-- none of the proxy's requests for its list waits
abbrev pub IsUnlisted : List Fact → Type 0
IsUnlisted past = list_any is_own_list (pending past) ≡ false

forwards : Fact → Bool
forwards (Forwarded r) = true
forwards _ = false

unlisted_fact : (fact : Fact) (past : List Fact) → forwards fact ≡ false → IsUnlisted past → IsUnlisted (fact ∷ past)
unfolding pending forwards
unlisted_fact (Forwarded r) past other none = absurd (let clash : true ≡ false = other in cc)
unlisted_fact (Answered r m) past other none = any_filter is_own_list (λ q. not (r.serial == q.serial)) (pending past) none
unlisted_fact (IdHeld r) past other none = any_filter is_own_list (λ q. not (r.serial == q.serial)) (pending past) none
unlisted_fact (Late r) past other none = any_filter is_own_list (λ q. not (r.serial == q.serial)) (pending past) none
unlisted_fact (Expired r) past other none = any_filter is_own_list (λ q. not (r.serial == q.serial)) (pending past) none
unlisted_fact (Aborted r) past other none = any_filter is_own_list (λ q. not (r.serial == q.serial)) (pending past) none
unlisted_fact (Ended d why) past other none = any_filter is_own_list (λ q. not (d == q.conn)) (pending past) none
unlisted_fact Reset past other none = refl
unlisted_fact ModemLost past other none = refl
unlisted_fact _ past other none = none

-- ---- a client's message ----

module _ (s : Setup) (d : ℕ) (client : (d == 0) ≡ false) (known : Known) (m : List ℕ) where
  forwarded_unlisted : (opens : Bool) (number : ℕ) (past : List Fact) → IsUnlisted past → IsUnlisted (forward_for opens s known d m number past)
  unfolding pending
  forwarded_unlisted true number past none = any_push is_own_list (pending past) (request_of s 0 (own_open s) number (Judged d (message_count d past + 1) m Waits ∷ past)) none refl
  forwarded_unlisted false number past none =
      any_push is_own_list (pending past) (request_of s d (command_message s known m) number (Judged d (message_count d past + 1) m Forward ∷ past)) none
      (ap (λ (b : Bool). b && not (is_kind Open (command_message s known m))) client)

  judged_unlisted : (decision : Decision) (past : List Fact) → IsUnlisted past → IsUnlisted (judge s known d m decision past)
  unfolding forwards
  judged_unlisted (Replies verdict) past none =
      kept_by_note s.limits (mbim_wording s) IsUnlisted (λ e before there held. unlisted_fact (Ended e NoRoom) before refl held) (Judged d (message_count d past + 1) m verdict) past
      (unlisted_fact (Judged d (message_count d past + 1) m verdict) past refl none)
  judged_unlisted (Forwards number) past none = forwarded_unlisted (is_kind Open m) number past none

-- ---- every item ----

says : Item → Bool
says (Says d m) = true
says _ = false

asks_nothing : (item : Item) → says item ≡ false → (fact : Fact) (past : List Fact) → MayAddStill item fact past → forwards fact ≡ false
unfolding says forwards
asks_nothing (Says d m) other fact past may = absurd (let clash : true ≡ false = other in cc)
asks_nothing _ other (Forwarded r) past may = absurd may
asks_nothing _ other _ past may = refl

module _ (s : Setup) (c : ℕ) (client : c ≢ 0) where
  quiet_unlisted : (item : Item) (past : List Fact) → says item ≡ false → IsSound s.limits past → IsUnlisted past → IsUnlisted (add (mbim_protocol s) item past)
  unfolding add_all
  quiet_unlisted item past other sound none =
      kept_by_still_items (mbim_protocol s) (Asks s) (orderly s) IsUnlisted (λ past. refl) (λ item. says item ≡ false) (λ item other fact before follows may asked held. unlisted_fact fact before (asks_nothing item other fact before may) held) (item ∷ []) past (other, tt) sound none

  said_unlisted : (d : ℕ) (m : List ℕ) (past : List Fact) → IsOrderly s c past → IsUnlisted past → IsUnlisted (add (mbim_protocol s) (Says d m) past)
  said_unlisted d m past O none =
      let step : (b : Bool) → is_present d past ≡ b → IsUnlisted (let after : List Fact = if b then hear_client s (known_now s d past) d m past else past in after) =
      λ b. elim b as (λ b. is_present d past ≡ b → IsUnlisted (let after : List Fact = if b then hear_client s (known_now s d past) d m past else past in after)) [
        | true ↦ λ there. judged_unlisted s d (not_the_proxy s d past O.order.nobody there) (known_now s d past) m (decision_for s (known_now s d past) d m past) past none
        | false ↦ λ away. none
      ]
      in step (is_present d past) refl

  pub item_unlisted : (item : Item) (past : List Fact) → MayMeet s c client item past → IsOrderly s c past → IsUnlisted past → IsUnlisted (add (mbim_protocol s) item past)
  unfolding says
  item_unlisted (Says d m) past may O none = said_unlisted d m past O none
  item_unlisted (Joins d) past may O none = quiet_unlisted (Joins d) past refl O.sound none
  item_unlisted (GoesBad d) past may O none = quiet_unlisted (GoesBad d) past refl O.sound none
  item_unlisted (Leaves d) past may O none = quiet_unlisted (Leaves d) past refl O.sound none
  item_unlisted (ModemSays m) past may O none = quiet_unlisted (ModemSays m) past refl O.sound none
  item_unlisted ModemIsLost past may O none = quiet_unlisted ModemIsLost past refl O.sound none
  item_unlisted ModemReturns past may O none = quiet_unlisted ModemReturns past refl O.sound none
  item_unlisted (ClockShows time) past may O none = quiet_unlisted (ClockShows time) past refl O.sound none
  item_unlisted (Takes d count) past may O none = quiet_unlisted (Takes d count) past refl O.sound none
  item_unlisted (ModemTakes count) past may O none = quiet_unlisted (ModemTakes count) past refl O.sound none

  pub event_unlisted : (event : Event) (events : List Event) → AreSound (mbim_protocol s) (event ∷ events) → IsUnlisted (history s events) → IsUnlisted (add_all (mbim_protocol s) (items_of (mbim_protocol s) events event) (EventBegan ∷ history s events))
  unfolding forwards
  event_unlisted event events sound none = (event_keeps s c client IsUnlisted item_unlisted events sound.1 (unlisted_fact EventBegan (history s events) refl none) event sound.0).1
