-- Each request to open of a client that an open modem answers is its only one: so it stays, whatever is added to a history.
use Rattle.std.proofs.Common.{◌≡◌, ℕ, ◌+◌, Bool, true, false, not, ◌&&◌, ◌==◌, is_none, nat_le, if◌then◌else◌, List, [], ◌∷◌, length, refl, ap, sym, ◌∙◌, subst, Option, Some, None}
use Rattle.std.proofs.lemmas.Bool.{eqb-true, and_parts}
use Rattle.mbim_frame.specs.declared.kind.MessageKind.TheVariants.{Open, Command}
use Rattle.mbim_frame.specs.Kinds.{kind_number}
use Rattle.mbim_frame.specs.Head.{kind_of, is_kind}
use Rattle.proxy_history.specs.Items.{Item, Joins, Says, GoesBad, Leaves, ModemSays, ModemIsLost, ModemReturns, ClockShows, Takes, ModemTakes}
use Rattle.proxy_history.specs.Facts.{Fact, Verdict, Own, Share, Foreign, Away, Full, Forward, Ready, Waits, Judged, Forwarded, ListSent}
use Rattle.proxy_history.specs.Decision.{Decision, Replies, Forwards, forwards_under}
use Rattle.proxy_history.specs.Connections.{is_present, message_count}
use Rattle.proxy_history.specs.Sound.{IsSound}
use Rattle.proxy_history.specs.Adding.{MayAdd, MayFinish}
use Rattle.proxy_history.specs.History.{add, add_all}
use Rattle.proxy_history.proofs.Sound.{kept_by_note}
use Rattle.proxy_history.proofs.Walk.{kept_by_items, kept_at_end}
use Rattle.mbim_fragments.specs.Assembling.{joining_behind}
use Rattle.mbim_proxy.specs.Setup.{Setup}
use Rattle.mbim_proxy.specs.Known.{Known}
use Rattle.mbim_proxy.specs.OwnReplies.{is_open_request, is_command_fragment, may_open, is_for_modem, view_decides}
use Rattle.mbim_proxy.specs.Step.{known_now}
use Rattle.mbim_proxy.specs.Text.{mbim_wording}
use Rattle.mbim_proxy.specs.ModemStates.{state}
use Rattle.mbim_proxy.specs.Forwarding.{own_open, number_for}
use Rattle.mbim_proxy.specs.Clients.{command_message, opening_decision, decision_on, forward_for, judge, hear_client, decision_for, passes_share}
use Rattle.mbim_proxy.specs.OwnList.{finish}
use Rattle.mbim_proxy.specs.History.{mbim_protocol}
use Rattle.mbim_proxy.proofs.Walk.{Asks, orderly}
use Rattle.mbim_solo.proofs.Views.{OpensOnce, OpenOnce}

-- ---- a client that finds the modem open had no request to open that waited ----

first_of_both : (x y : Bool) → y ≡ false → (not x && not y) ≡ false → x ≡ true
first_of_both true y none e = refl
first_of_both false true none e = absurd (cc)
first_of_both false false none e = absurd (cc)

pub none_is : (o : Option ℕ) → is_none o ≡ true → o ≡ None
none_is None e = refl
none_is (Some n) e = absurd (cc)

opens_no_command : (m : List ℕ) → is_kind Open m ≡ true → is_command_fragment m ≡ false
opens_no_command m opens = let kind : kind_of m ≡ kind_number Open = eqb-true (kind_of m) (kind_number Open) opens in ap (λ (k : ℕ). (k == kind_number Command) && nat_le 20 (length m)) kind

module _ (s : Setup) (known : Known) (m : List ℕ) (past : List Fact) where
  -- what all share decides on a request to open only where the client may open
  pub may_open_then : is_kind Open m ≡ true → view_decides s known m ≡ false → may_open known ≡ true
  may_open_then opens shared =
      let other : (is_command_fragment m && is_for_modem known (joining_behind s.longest_body known.begun m)) ≡ false =
      ap (λ (b : Bool). b && is_for_modem known (joining_behind s.longest_body known.begun m)) (opens_no_command m opens)
      in
      (and_parts (is_open_request m) (may_open known) (first_of_both (is_open_request m && may_open known) (is_command_fragment m && is_for_modem known (joining_behind s.longest_body known.begun m)) other shared)).1

  never_ready : (o : Option ℕ) → forwards_under o ≡ Replies Ready → ⊥
  never_ready None e = cc
  never_ready (Some n) e = cc

  by_tests : (own opens : Bool) → view_decides s known m ≡ own → is_kind Open m ≡ opens → (if own then Replies Own else if opens then opening_decision (state s.starts_away past) (number_for s (own_open s) past) else forwards_under (number_for s (command_message s known m) past)) ≡ Replies Ready → known.waits ≡ None
  by_tests true opens decides kind e = absurd (cc)
  by_tests false true decides kind e = none_is known.waits (and_parts known.configured (is_none known.waits) (may_open_then kind decides)).1
  by_tests false false decides kind e = absurd (never_ready (number_for s (command_message s known m) past) e)

  pub ready_waits_not : decision_on s known m past ≡ Replies Ready → known.waits ≡ None
  ready_waits_not e = by_tests (view_decides s known m) (is_kind Open m) refl refl e

-- ---- every item ----

module _ (s : Setup) (c : ℕ) where
  abbrev Once : List Fact → Type 0
  Once past = OpenOnce s c past

  abbrev speaks : Item → Bool
  speaks (Says d m) = d == c
  speaks _ = false

  of_another : (item : Item) → speaks item ≡ false → (fact : Fact) (past : List Fact) → MayAdd item fact past → OpensOnce s c fact past
  of_another (Says d m) other (Judged e place message Ready) past may = λ mine. absurd (let same : (e == c) ≡ false = ap (λ (x : ℕ). x == c) may.0 ∙ other in let clash : true ≡ false = sym mine ∙ same in cc)
  of_another _ other (Judged e place message Ready) past may = absurd may
  of_another _ other _ past may = tt

  of_the_end : (fact : Fact) (past : List Fact) → MayFinish fact past → OpensOnce s c fact past
  of_the_end (Forwarded r) past may = tt
  of_the_end (ListSent list) past may = tt
  of_the_end _ past may = absurd may

  pub once_verdict : (place : ℕ) (m : List ℕ) (past : List Fact) (verdict : Verdict) → (verdict ≡ Ready → (known_now s c past).waits ≡ None) → OpensOnce s c (Judged c place m verdict) past
  once_verdict place m past Own none = tt
  once_verdict place m past Share none = tt
  once_verdict place m past Foreign none = tt
  once_verdict place m past Away none = tt
  once_verdict place m past Full none = tt
  once_verdict place m past Forward none = tt
  once_verdict place m past Ready none = λ mine. none refl
  once_verdict place m past Waits none = tt

  judged_once : (m : List ℕ) (past : List Fact) (decision : Decision) → (decision ≡ Replies Ready → (known_now s c past).waits ≡ None) → Once past → Once (judge s (known_now s c past) c m decision past)
  judged_once m past (Replies verdict) none once =
      kept_by_note s.limits (mbim_wording s) Once (λ d before there held. (tt, held)) (Judged c (message_count c past + 1) m verdict) past
      (once_verdict (message_count c past + 1) m past verdict (λ is. none (ap (λ (v : Verdict). Replies v) is)), once)
  judged_once m past (Forwards number) none once =
      elim (is_kind Open m) as (λ b. Once (forward_for b s (known_now s c past) c m number past)) [ true ↦ (tt, (tt, once)) | false ↦ (tt, (tt, once)) ]

  ready_behind : (b : Bool) (decision : Decision) → (if b then Replies Share else decision) ≡ Replies Ready → decision ≡ Replies Ready
  ready_behind true decision is = absurd (cc)
  ready_behind false decision is = is

  said_once : (m : List ℕ) (past : List Fact) → Once past → Once (hear_client s (known_now s c past) c m past)
  said_once m past once =
      judged_once m past (decision_for s (known_now s c past) c m past)
      (λ is. ready_waits_not s (known_now s c past) m past (ready_behind (passes_share s (known_now s c past) c m past) (decision_on s (known_now s c past) m past) is)) once

  quiet_once : (item : Item) (past : List Fact) → speaks item ≡ false → IsSound s.limits past → Once past → Once (add (mbim_protocol s) item past)
  unfolding add_all
  quiet_once item past other sound once =
      kept_by_items (mbim_protocol s) (Asks s) (orderly s) Once (λ item. speaks item ≡ false) (λ item other fact before follows may asked held. (of_another item other fact before may, held)) (item ∷ []) past (other, tt) sound once

  speaks_once : (d : ℕ) (m : List ℕ) (past : List Fact) → d ≡ c → Once past → Once (add (mbim_protocol s) (Says d m) past)
  speaks_once d m past is once =
      subst (λ (x : ℕ). Once (add (mbim_protocol s) (Says x m) past)) (sym is)
      (elim (is_present c past) as (λ b. Once (if b then hear_client s (known_now s c past) c m past else past)) [ true ↦ said_once m past once | false ↦ once ])

  pub item_once : (item : Item) (past : List Fact) → IsSound s.limits past → Once past → Once (add (mbim_protocol s) item past)
  item_once (Says d m) past sound once =
      let step : (b : Bool) → (d == c) ≡ b → Once (add (mbim_protocol s) (Says d m) past) =
      λ b. elim b as (λ b. (d == c) ≡ b → Once (add (mbim_protocol s) (Says d m) past)) [ true ↦ λ e. speaks_once d m past (eqb-true d c e) once | false ↦ λ e. quiet_once (Says d m) past e sound once ]
      in step (d == c) refl
  item_once (Joins d) past sound once = quiet_once (Joins d) past refl sound once
  item_once (GoesBad d) past sound once = quiet_once (GoesBad d) past refl sound once
  item_once (Leaves d) past sound once = quiet_once (Leaves d) past refl sound once
  item_once (ModemSays m) past sound once = quiet_once (ModemSays m) past refl sound once
  item_once ModemIsLost past sound once = quiet_once ModemIsLost past refl sound once
  item_once ModemReturns past sound once = quiet_once ModemReturns past refl sound once
  item_once (ClockShows time) past sound once = quiet_once (ClockShows time) past refl sound once
  item_once (Takes d count) past sound once = quiet_once (Takes d count) past refl sound once
  item_once (ModemTakes count) past sound once = quiet_once (ModemTakes count) past refl sound once

  pub finish_once : (past : List Fact) → IsSound s.limits past → Once past → Once (finish s past)
  finish_once past sound once = kept_at_end (mbim_protocol s) (Asks s) (orderly s) Once (λ fact before follows may asked held. (of_the_end fact before may, held)) past sound once
