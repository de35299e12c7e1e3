-- What the parts of a proxy add, and how it goes together.
use Rattle.std.proofs.Common.{◌≡◌, ℕ, ◌≤◌, ◌<◌, Bool, true, false, max, nat_le, nat_lt, if◌then◌else◌, List, [], ◌∷◌, ◌++◌, length, refl, ap, sym, ◌∙◌, arith, subst, append_assoc, All, Contains}
use Rattle.std.specs.List.{AllByRecursion}
use Rattle.std.proofs.lemmas.Bool.Decides.{nat_tests}
use Rattle.std.proofs.lemmas.List.Elements.{All-contains, All-filter, All-weaker, All-contains_itself, Contains-append_right, recursion_from_All}
use Rattle.kit_bytes.proofs.Lists.{all_weaker}
use Rattle.proxy_history.specs.Limits.{Limits}
use Rattle.proxy_history.specs.Facts.{NotAdmitted, NoRoom, Verdict, Fact, Request, Admitted, Ended, Judged, Forwarded, Expired, Aborted, TimeIs}
use Rattle.proxy_history.specs.Connections.{present, is_present}
use Rattle.proxy_history.specs.Requests.{pending, is_pending}
use Rattle.proxy_history.specs.Modem.{now}
use Rattle.proxy_history.specs.View.{Entry, Said}
use Rattle.proxy_history.specs.Wording.{Wording, text_behind}
use Rattle.proxy_history.specs.Noting.{join, if_present, end_overfull, note, each_pending, receivers_of}
use Rattle.proxy_history.specs.Unanswered.{Refusal, Order, abort_all, tick, due}
use Rattle.proxy_history.specs.Sound.{IsPresent, MayFollow, IsSound}
use Rattle.proxy_history.specs.Adding.{AreBehind, Extends, AllFit, Adds}
use Rattle.proxy_history.proofs.Fitting.{note_fits, silent_fits}
use Rattle.proxy_history.proofs.Sound.{KeptByEnd, kept_by_ends, kept_by_note, in_use_from_pending, forwarded_from_in_use, waits}

-- ---- facts behind facts ----

module _ (May : Fact → List Fact → Type 0) where
  behind_both : (later earlier past : List Fact) → AreBehind May later (earlier ++ past) → AreBehind May earlier past → AreBehind May (later ++ earlier) past
  behind_both [] earlier past new old = old
  behind_both (fact ∷ later) earlier past new old = (subst (May fact) (sym (append_assoc later earlier past)) new.0, behind_both later earlier past new.1 old)

  pub extends_none : (past : List Fact) → Extends May past past
  extends_none past = record { facts = []; whole = refl; may = tt }

  pub extends_one : (fact : Fact) (past : List Fact) → May fact past → Extends May past (fact ∷ past)
  extends_one fact past may = record { facts = fact ∷ []; whole = refl; may = (may, tt) }

  pub extends_further : (past between after : List Fact) → Extends May past between → Extends May between after → Extends May past after
  extends_further past between after one other = record {
    facts = other.facts ++ one.facts;
    whole = other.whole ∙ ap (λ (l : List Fact). other.facts ++ l) one.whole ∙ sym (append_assoc other.facts one.facts past);
    may = behind_both other.facts one.facts past (subst (AreBehind May other.facts) one.whole other.may) one.may;
  }

  -- what each fact keeps that may be added is kept by all of them
  module _ (P : List Fact → Type 0) (keeps : (fact : Fact) (past : List Fact) → May fact past → P past → P (fact ∷ past)) where
    kept_by_facts : (facts past : List Fact) → AreBehind May facts past → P past → P (facts ++ past)
    kept_by_facts [] past may p = p
    kept_by_facts (fact ∷ facts) past may p = keeps fact (facts ++ past) may.0 (kept_by_facts facts past may.1 p)

    pub extends_keeps : (past after : List Fact) → Extends May past after → P past → P after
    extends_keeps past after e p = subst P (sym e.whole) (kept_by_facts e.facts past e.may p)

  pub extends_contains : (past after : List Fact) (fact : Fact) → Extends May past after → Contains past fact → Contains after fact
  extends_contains past after fact e at = subst (λ (l : List Fact). Contains l fact) (sym e.whole) (Contains-append_right e.facts past fact at)

pub extends_weaker : (May May' : Fact → List Fact → Type 0) → ((fact : Fact) (past : List Fact) → May fact past → May' fact past) → (past after : List Fact) → Extends May past after → Extends May' past after
extends_weaker May May' weaker past after e = record { facts = e.facts; whole = e.whole; may = all e.facts e.may }
  where
    all : (facts : List Fact) → AreBehind May facts past → AreBehind May' facts past
    all [] may = tt
    all (fact ∷ facts) may = (weaker fact (facts ++ past) may.0, all facts may.1)

-- ---- what is noted ----

module _ {Known : Type 0} (limits : Limits) (wording : Wording Known) (May : Fact → List Fact → Type 0) where
  abbrev AddsMore : List Fact → List Fact → Type 0
  AddsMore past after = Adds limits wording May past after

  pub none : (past : List Fact) → AddsMore past past
  none past = record { extends = extends_none May past; fits = λ fit. fit }

  pub further : (past between after : List Fact) → AddsMore past between → AddsMore between after → AddsMore past after
  further past between after one other = record {
    extends = extends_further May past between after one.extends other.extends;
    fits = λ fit. other.fits (one.fits fit);
  }

  -- a test, and what follows on both its sides
  pub either : (b : Bool) (past one other : List Fact) → (b ≡ true → AddsMore past one) → (b ≡ false → AddsMore past other) → AddsMore past (if b then one else other)
  either true past one other is isnt = is refl
  either false past one other is isnt = isnt refl

  pub adds_if_present : (c : ℕ) (past after : List Fact) → (IsPresent c past → AddsMore past after) → AddsMore past (if_present c past after)
  adds_if_present c past after adds = either (is_present c past) past after past adds (λ absent. none past)

  -- a fact that brings nobody bytes
  pub added : (fact : Fact) (past : List Fact) → receivers_of fact ≡ [] → May fact past → AddsMore past (fact ∷ past)
  unfolding end_overfull
  added fact past silent may = record {
    extends = extends_one May fact past may;
    fits = λ fit. subst (λ (cs : List ℕ). AllFit limits wording (end_overfull limits wording cs (fact ∷ past))) silent (note_fits limits wording fact past fit);
  }

  -- a message that brings its sender no bytes
  pub judged : (c place : ℕ) (m : List ℕ) (verdict : Verdict) (past : List Fact) → ((entries : List Entry) → text_behind wording entries (Said m verdict) ≡ []) → May (Judged c place m verdict) past
      → AddsMore past (Judged c place m verdict ∷ past)
  judged c place m verdict past silent may = record {
    extends = extends_one May (Judged c place m verdict) past may;
    fits = λ fit. silent_fits limits wording c place m verdict past silent fit;
  }

  -- those who have no room end
  abbrev pub MayEnd : ℕ → Type 0
  MayEnd c = (before : List Fact) → IsPresent c before → May (Ended c NoRoom) before

  pub noted_by : (fact : Fact) (past : List Fact) → AllByRecursion MayEnd (receivers_of fact) → May fact past → AddsMore past (note limits wording fact past)
  noted_by fact past ends may = record {
    extends = kept_by_ends limits wording (Extends May past) (receivers_of fact) (fact ∷ past)
        (all_weaker MayEnd (KeptByEnd limits wording (Extends May past)) (λ c end before there e. extends_further May past before _ e (extends_one May (Ended c NoRoom) before (end before there))) (receivers_of fact) ends)
        (extends_one May fact past may);
    fits = λ fit. note_fits limits wording fact past fit;
  }

  -- where whoever has no room may end
  pub noted : ((c : ℕ) → MayEnd c) → (fact : Fact) (past : List Fact) → May fact past → AddsMore past (note limits wording fact past)
  noted ends fact past may = record {
    extends = kept_by_note limits wording (Extends May past) (λ c before there e. extends_further May past before _ e (extends_one May (Ended c NoRoom) before (ends c before there))) fact past (extends_one May fact past may);
    fits = λ fit. note_fits limits wording fact past fit;
  }

  pub adds_join : (c : ℕ) (past : List Fact)
      → (length (present past) < limits.connections → May (Admitted c) past) → (limits.connections ≤ length (present past) → May (Ended c NotAdmitted) past) → AddsMore past (join limits c past)
  adds_join c past lets refuses =
      either (nat_lt (length (present past)) limits.connections) past _ _
      (λ e. added (Admitted c) past refl (lets (grind (arith, nat_tests, e))))
      (λ e. added (Ended c NotAdmitted) past refl (refuses (grind (arith, nat_tests, e))))

pub adds_weaker : {Known : Type 0} (limits : Limits) (wording : Wording Known) (May May' : Fact → List Fact → Type 0) → ((fact : Fact) (past : List Fact) → May fact past → May' fact past)
    → (past after : List Fact) → Adds limits wording May past after → Adds limits wording May' past after
adds_weaker limits wording May May' weaker past after a = record { extends = extends_weaker May May' weaker past after a.extends; fits = a.fits }

-- ---- requests that get no answer ----

pub all_forwarded : (past : List Fact) → All (λ r. Contains past (Forwarded r)) (pending past)
all_forwarded past =
    All-weaker (Contains (pending past)) (λ (r : Request). Contains past (Forwarded r)) (λ r at. forwarded_from_in_use past r (in_use_from_pending past r at)) (pending past) (All-contains_itself (pending past))

module _ {Known : Type 0} (limits : Limits) (wording : Wording Known) (May : Fact → List Fact → Type 0) (follows : (fact : Fact) (past : List Fact) → May fact past → MayFollow limits fact past) where
  pub extends_sound : (past after : List Fact) → Extends May past after → IsSound limits past → IsSound limits after
  extends_sound past after e sound = extends_keeps May (IsSound limits) (λ fact before may s. (follows fact before may, s)) past after e sound

  -- what is done to those that wait
  module _ (action : Request → List Fact → List Fact) (acts : (r : Request) (past : List Fact) → IsSound limits past → Contains (pending past) r → Adds limits wording May past (action r past)) where
    pub adds_each_pending : (requests : List Request) (past : List Fact) → IsSound limits past → AllByRecursion (λ r. Contains past (Forwarded r)) requests → Adds limits wording May past (each_pending action requests past)
    unfolding each_pending
    adds_each_pending [] past sound all = none limits wording May past
    adds_each_pending (r ∷ requests) past sound all =
        let next : List Fact = if is_pending r past then action r past else past in
        let one : Adds limits wording May past next =
        either limits wording May (is_pending r past) past (action r past) past (λ is. acts r past sound (waits limits past r sound all.0 is)) (λ isnt. none limits wording May past)
        in
        further limits wording May past next _ one
        (adds_each_pending requests next (extends_sound past next one.extends sound)
        (all_weaker (λ (q : Request). Contains past (Forwarded q)) (λ (q : Request). Contains next (Forwarded q)) (λ q at. extends_contains May past next (Forwarded q) one.extends at) requests all.1))

  -- an order gives no other requests than it is given
  module _ (refuse : Refusal) (order : Order) (ordered : (requests : List Request) (r : Request) → Contains (order requests) r → Contains requests r) where
    in_order : (P : Request → Type 0) (requests : List Request) → All P requests → AllByRecursion P (order requests)
    in_order P requests all =
        recursion_from_All P (order requests)
        (All-weaker (Contains (order requests)) P (λ r at. All-contains P requests r all (ordered requests r at)) (order requests) (All-contains_itself (order requests)))

    pub adds_abort_all : ((r : Request) (past : List Fact) → IsSound limits past → Contains (pending past) r → Adds limits wording May past (refuse (Aborted r) r past))
        → (past : List Fact) → IsSound limits past → Adds limits wording May past (abort_all refuse order past)
    adds_abort_all refuses past sound = adds_each_pending (λ r before. refuse (Aborted r) r before) refuses (order (pending past)) past sound (in_order (λ r. Contains past (Forwarded r)) (pending past) (all_forwarded past))

    -- the clock shows the greater time, and then those whose time is over are refused
    pub adds_tick : ((r : Request) (past : List Fact) → IsSound limits past → Contains (pending past) r → Adds limits wording May past (refuse (Expired r) r past))
        → (time : ℕ) (past : List Fact) → IsSound limits (TimeIs (max time (now past)) ∷ past) → Adds limits wording May (TimeIs (max time (now past)) ∷ past) (tick refuse order time past)
    unfolding pending
    adds_tick refuses time past sound =
        let begun : List Fact = TimeIs (max time (now past)) ∷ past in
        adds_each_pending (λ r before. refuse (Expired r) r before) refuses (order (due (max time (now past)) (pending past))) begun sound
        (in_order (λ r. Contains begun (Forwarded r)) (due (max time (now past)) (pending past))
        (All-filter (λ r. nat_le r.deadline (max time (now past))) (λ (r : Request). Contains begun (Forwarded r)) (pending past) (all_forwarded begun)))
