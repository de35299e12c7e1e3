-- What the facts tell of a client, its part of them tells as well.
use Rattle.std.proofs.Common.{◌≡◌, ℕ, ◌+◌, Bool, true, false, not, ◌&&◌, ◌==◌, if◌then◌else◌, List, [], ◌∷◌, ◌++◌, filter, refl, ap, sym, ◌∙◌, Contains}
use Rattle.std.specs.List.{AllByRecursion}
use Rattle.proxy_history.specs.Limits.{Limits}
use Rattle.proxy_history.specs.Facts.{Fact, Request, Admitted, Ended, Judged, Forwarded, Answered, IdHeld, Late, Expired, Aborted, Granted, Freed, Reset, ModemLost, ModemReturned}
use Rattle.proxy_history.specs.Connections.{contains, present, is_present, message_count}
use Rattle.proxy_history.specs.Requests.{in_use, pending, without_request, is_pending, has_request}
use Rattle.proxy_history.specs.ClientIds.{Grant, is_of, held}
use Rattle.proxy_history.specs.Modem.{is_away}
use Rattle.proxy_history.specs.Sound.{IsSound, MayFollow}
use Rattle.proxy_history.specs.View.{Blank}
use Rattle.proxy_history.proofs.Lists.{filter-all}
use Rattle.proxy_history.proofs.Sound.{forwarded_from_in_use, in_use_from_pending}
use Rattle.proxy_solo.specs.Part.{as_sent, concerns, as_known, facts_if, part, sent_by, held_by}
use Rattle.proxy_solo.proofs.Lists.{contains-push, contains-without, sent_by-push, sent_by-ended, sent_by-all_go, held_by-all_go, sent_by-without_own, sent_by-without_other, sent_by-has, held_by-push, held_by-filter, held_by-ended, held_by-freed, every, SameGrantTest}
use Rattle.proxy_solo.proofs.Grants.{held_once, not_held}
use Rattle.proxy_solo.proofs.Reading.{Reads, is_judged, kept, passed, kept_plain, passed_plain}
use Rattle.proxy_solo.proofs.Placed.{Placed, forwarded_in_use, forwarded_pending, all_told, all_apart}

module _ (limits : Limits) (blank : Blank) (restated : Fact → List Fact) (R : Reads restated) (c : ℕ) where
  abbrev pub part_of : List Fact → List Fact
  part_of past = part blank restated c past

  abbrev IsPlacedIn : List Fact → Type 0
  IsPlacedIn past = Placed limits blank restated R c past

  -- ---- whether it is there, and how many messages it sent ----

  pub present-part : (facts : List Fact) → is_present c (part_of facts) ≡ is_present c facts
  unfolding present part
  present-part [] = refl
  present-part (Admitted d ∷ past) =
      kept_plain restated R (is_present c) (λ t p. if t then true else p) (d == c) (Admitted d) (part_of past) refl refl (λ e. contains-push c d (present (part_of past)))
      ∙ ap (λ (p : Bool). if d == c then true else p) (present-part past)
      ∙ sym (contains-push c d (present past))
  present-part (Ended d why ∷ past) =
      kept_plain restated R (is_present c) (λ t p. if t then false else p) (d == c) (Ended d why) (part_of past) refl refl (λ e. contains-without c d (present (part_of past)))
      ∙ ap (λ (p : Bool). if d == c then false else p) (present-part past)
      ∙ sym (contains-without c d (present past))
  present-part (Judged d place m verdict ∷ past) =
      passed (is_present c) (d == c) (restated (Judged d place m verdict)) (part_of past) (ap (contains c) (R.present d place m verdict (part_of past))) ∙ present-part past
  present-part (fact ∷ past) = passed_plain restated R (is_present c) (concerns c fact) (as_known blank c fact) (part_of past) refl refl ∙ present-part past

  pub count-part : (facts : List Fact) → message_count c (part_of facts) ≡ message_count c facts
  unfolding message_count part
  count-part [] = refl
  count-part (Admitted d ∷ past) = kept_plain restated R (message_count c) (λ t n. if t then 0 else n) (d == c) (Admitted d) (part_of past) refl refl (λ e. refl) ∙ ap (λ (n : ℕ). if d == c then 0 else n) (count-part past)
  count-part (Judged d place m verdict ∷ past) =
      kept (message_count c) (λ t n. if t then n + 1 else n) (d == c) (restated (Judged d place m verdict)) (part_of past) refl (λ e. R.count c d place m verdict (part_of past))
      ∙ ap (λ (n : ℕ). if d == c then n + 1 else n) (count-part past)
  count-part (fact ∷ past) = passed_plain restated R (message_count c) (concerns c fact) (as_known blank c fact) (part_of past) refl refl ∙ count-part past

  -- ---- the modem ----

  pub away-part : (away : Bool) (facts : List Fact) → is_away away (part_of facts) ≡ is_away away facts
  unfolding is_away part
  away-part away [] = refl
  away-part away (ModemLost ∷ past) = ap (λ (l : List Fact). is_away away (l ++ part_of past)) (R.plain ModemLost refl)
  away-part away (ModemReturned ∷ past) = ap (λ (l : List Fact). is_away away (l ++ part_of past)) (R.plain ModemReturned refl)
  away-part away (Judged d place m verdict ∷ past) = passed (is_away away) (d == c) (restated (Judged d place m verdict)) (part_of past) (R.away away d place m verdict (part_of past)) ∙ away-part away past
  away-part away (fact ∷ past) = passed_plain restated R (is_away away) (concerns c fact) (as_known blank c fact) (part_of past) refl refl ∙ away-part away past

  -- ---- requests ----

  tail_placed : (fact : Fact) (past : List Fact) → IsPlacedIn (fact ∷ past) → IsPlacedIn past
  tail_placed fact past F = record { sound = F.sound.1; placed = F.placed.1 }

  -- a request of the client, and of others, that goes
  sent_by-without : (past : List Fact) (r : Request) (list : List Request) → IsPlacedIn past → Contains past (Forwarded r) → AllByRecursion (λ q. Contains past (Forwarded q)) list
      → sent_by c (without_request r list) ≡ (if r.conn == c then without_request (as_sent r) (sent_by c list) else sent_by c list)
  sent_by-without past r list F at all =
      let step : (b : Bool) → (r.conn == c) ≡ b → sent_by c (without_request r list) ≡ (if b then without_request (as_sent r) (sent_by c list) else sent_by c list) =
      λ b. elim b as (λ b. (r.conn == c) ≡ b → sent_by c (without_request r list) ≡ (if b then without_request (as_sent r) (sent_by c list) else sent_by c list)) [
        | true ↦ λ e. sent_by-without_own c r list (all_told limits blank restated R c past r list F (at, e) all)
        | false ↦ λ e. sent_by-without_other c r list (all_apart limits blank restated R c past r list F at e all)
      ]
      in step (r.conn == c) refl

  goes : (q : List Fact → List Request) (fact : Fact) (past : List Fact) (r : Request) (list : List Request) → is_judged fact ≡ false → IsPlacedIn past → Contains past (Forwarded r) → AllByRecursion (λ q. Contains past (Forwarded q)) list
      → q (part_of past) ≡ sent_by c list → q (fact ∷ part_of past) ≡ without_request (as_sent r) (q (part_of past)) → q (facts_if (r.conn == c) (restated fact) (part_of past)) ≡ sent_by c (without_request r list)
  goes q fact past r list plain F at all same is =
      kept_plain restated R q (λ t l. if t then without_request (as_sent r) l else l) (r.conn == c) fact (part_of past) plain refl
      (λ e. is ∙ sym (ap (λ (t : Bool). if t then without_request (as_sent r) (q (part_of past)) else q (part_of past)) e))
      ∙ ap (λ (l : List Request). if r.conn == c then without_request (as_sent r) l else l) same
      ∙ sym (sent_by-without past r list F at all)

  comes : (q : List Fact → List Request) (past : List Fact) (r : Request) (list : List Request) → q (part_of past) ≡ sent_by c list → q (Forwarded (as_sent r) ∷ part_of past) ≡ q (part_of past) ++ as_sent r ∷ []
      → q (facts_if (r.conn == c) (restated (Forwarded (as_sent r))) (part_of past)) ≡ sent_by c (list ++ r ∷ [])
  comes q past r list same is =
      kept_plain restated R q (λ t l. if t then l ++ as_sent r ∷ [] else l) (r.conn == c) (Forwarded (as_sent r)) (part_of past) refl refl
      (λ e. is ∙ sym (ap (λ (t : Bool). if t then q (part_of past) ++ as_sent r ∷ [] else q (part_of past)) e))
      ∙ ap (λ (l : List Request). if r.conn == c then l ++ as_sent r ∷ [] else l) same
      ∙ sym (sent_by-push c list r)

  -- all go at once
  none_left : (q : List Fact → List Request) (fact : Fact) (past : List Fact) → is_judged fact ≡ false → q (fact ∷ part_of past) ≡ [] → q (restated fact ++ part_of past) ≡ []
  none_left q fact past plain none = ap (λ (l : List Fact). q (l ++ part_of past)) (R.plain fact plain) ∙ none

  pub in_use-part : (facts : List Fact) → IsPlacedIn facts → in_use (part_of facts) ≡ sent_by c (in_use facts)
  unfolding in_use part
  in_use-part [] F = refl
  in_use-part (Forwarded r ∷ past) F = comes in_use past r (in_use past) (in_use-part past (tail_placed (Forwarded r) past F)) refl
  in_use-part (Answered r m ∷ past) F =
      let G = tail_placed (Answered r m) past F in
      goes in_use (Answered (as_sent r) (blank m)) past r (in_use past) refl G (forwarded_from_in_use past r (in_use_from_pending past r F.sound.0)) (forwarded_in_use past) (in_use-part past G) refl
  in_use-part (IdHeld r ∷ past) F =
      let G = tail_placed (IdHeld r) past F in
      goes in_use (IdHeld (as_sent r)) past r (in_use past) refl G (forwarded_from_in_use past r (in_use_from_pending past r F.sound.0)) (forwarded_in_use past) (in_use-part past G) refl
  in_use-part (Late r ∷ past) F =
      let G = tail_placed (Late r) past F in
      goes in_use (Late (as_sent r)) past r (in_use past) refl G (forwarded_from_in_use past r F.sound.0) (forwarded_in_use past) (in_use-part past G) refl
  in_use-part (Reset ∷ past) F = none_left in_use Reset past refl refl
  in_use-part (ModemLost ∷ past) F = none_left in_use ModemLost past refl refl
  in_use-part (Judged d place m verdict ∷ past) F = passed in_use (d == c) (restated (Judged d place m verdict)) (part_of past) (R.in_use d place m verdict (part_of past)) ∙ in_use-part past (tail_placed (Judged d place m verdict) past F)
  in_use-part (fact ∷ past) F = passed_plain restated R in_use (concerns c fact) (as_known blank c fact) (part_of past) refl refl ∙ in_use-part past (tail_placed fact past F)

  pub pending-part : (facts : List Fact) → IsPlacedIn facts → pending (part_of facts) ≡ sent_by c (pending facts)
  unfolding pending part
  pending-part [] F = refl
  pending-part (Forwarded r ∷ past) F = comes pending past r (pending past) (pending-part past (tail_placed (Forwarded r) past F)) refl
  pending-part (Answered r m ∷ past) F =
      let G = tail_placed (Answered r m) past F in
      goes pending (Answered (as_sent r) (blank m)) past r (pending past) refl G (forwarded_from_in_use past r (in_use_from_pending past r F.sound.0)) (forwarded_pending past) (pending-part past G) refl
  pending-part (IdHeld r ∷ past) F =
      let G = tail_placed (IdHeld r) past F in
      goes pending (IdHeld (as_sent r)) past r (pending past) refl G (forwarded_from_in_use past r (in_use_from_pending past r F.sound.0)) (forwarded_pending past) (pending-part past G) refl
  pending-part (Expired r ∷ past) F =
      let G = tail_placed (Expired r) past F in
      goes pending (Expired (as_sent r)) past r (pending past) refl G (forwarded_from_in_use past r (in_use_from_pending past r F.sound.0)) (forwarded_pending past) (pending-part past G) refl
  pending-part (Aborted r ∷ past) F =
      let G = tail_placed (Aborted r) past F in
      goes pending (Aborted (as_sent r)) past r (pending past) refl G (forwarded_from_in_use past r (in_use_from_pending past r F.sound.0)) (forwarded_pending past) (pending-part past G) refl
  pending-part (Late r ∷ past) F =
      let G = tail_placed (Late r) past F in
      goes pending (Late (as_sent r)) past r (pending past) refl G (forwarded_from_in_use past r F.sound.0) (forwarded_pending past) (pending-part past G) refl
  pending-part (Ended d why ∷ past) F =
      let same = pending-part past (tail_placed (Ended d why) past F) in
      kept_plain restated R pending (λ t l. if t then [] else l) (d == c) (Ended d why) (part_of past) refl refl
      (λ e. ap (λ (l : List Request). filter (λ q. not (d == q.conn)) l) same ∙ sent_by-all_go c d e (pending past) ∙ sym (ap (λ (t : Bool). if t then [] else pending (part_of past)) e))
      ∙ ap (λ (l : List Request). if d == c then [] else l) same
      ∙ sym (sent_by-ended c d (pending past))
  pending-part (Reset ∷ past) F = none_left pending Reset past refl refl
  pending-part (ModemLost ∷ past) F = none_left pending ModemLost past refl refl
  pending-part (Judged d place m verdict ∷ past) F = passed pending (d == c) (restated (Judged d place m verdict)) (part_of past) (R.pending d place m verdict (part_of past)) ∙ pending-part past (tail_placed (Judged d place m verdict) past F)
  pending-part (fact ∷ past) F = passed_plain restated R pending (concerns c fact) (as_known blank c fact) (part_of past) refl refl ∙ pending-part past (tail_placed fact past F)

  -- whether a request of the client waits
  pub is_pending-part : (facts : List Fact) (r : Request) → IsPlacedIn facts → Contains facts (Forwarded r) → (r.conn == c) ≡ true → is_pending r facts ≡ is_pending (as_sent r) (part_of facts)
  is_pending-part facts r F at mine = sent_by-has c r (pending facts) (all_told limits blank restated R c facts r (pending facts) F (at, mine) (forwarded_pending facts)) ∙ sym (ap (has_request (as_sent r)) (pending-part facts F))

  -- ---- client ids ----

  -- a grant to c, and one to others
  granted : (d service cid : ℕ) (past : List Fact) → MayFollow limits (Granted d service cid) past
      → held_by c (filter (λ g. not (is_of service cid g)) (held past) ++ record { conn = d; service = service; cid = cid } ∷ [])
      ≡ (if d == c then filter (λ g. not (is_of service cid g)) (held_by c (held past)) ++ record { conn = d; service = service; cid = cid } ∷ [] else held_by c (held past))
  granted d service cid past may =
      let p : Grant → Bool = λ (g : Grant). not (is_of service cid g) in
      let new : Grant = record { conn = d; service = service; cid = cid } in
      held_by-push c (filter p (held past)) new
      ∙ (let step : (b : Bool) → (d == c) ≡ b → (if b then held_by c (filter p (held past)) ++ new ∷ [] else held_by c (filter p (held past))) ≡ (if b then filter p (held_by c (held past)) ++ new ∷ [] else held_by c (held past)) =
      λ b. elim b as (λ b. (d == c) ≡ b → (if b then held_by c (filter p (held past)) ++ new ∷ [] else held_by c (filter p (held past))) ≡ (if b then filter p (held_by c (held past)) ++ new ∷ [] else held_by c (held past))) [
        | true ↦ λ e. ap (λ (l : List Grant). l ++ new ∷ []) (held_by-filter c p p (held past) (every (SameGrantTest c p p) (λ g is. refl) (held past)))
        | false ↦ λ e. held_by-filter c p (λ g. true) (held past) (tests (held past) (not_held c d service cid (held past) (held_once past) e may.1)) ∙ filter-all (held_by c (held past))
      ]
      in step (d == c) refl)
    where
      tests : (grants : List Grant) → AllByRecursion (λ g. (g.conn == c) ≡ true → is_of service cid g ≡ false) grants → AllByRecursion (SameGrantTest c (λ g. not (is_of service cid g)) (λ g. true)) grants
      tests [] all = tt
      tests (g ∷ grants) all = ((λ mine. ap not (all.0 mine)), tests grants all.1)

  none_held : (fact : Fact) (past : List Fact) → is_judged fact ≡ false → held (fact ∷ part_of past) ≡ [] → held (restated fact ++ part_of past) ≡ []
  none_held fact past plain none = ap (λ (l : List Fact). held (l ++ part_of past)) (R.plain fact plain) ∙ none

  pub held-part : (facts : List Fact) → IsSound limits facts → held (part_of facts) ≡ held_by c (held facts)
  unfolding held part
  held-part [] sound = refl
  held-part (Granted d service cid ∷ past) sound =
      let new : Grant = record { conn = d; service = service; cid = cid } in
      kept_plain restated R held (λ t l. if t then filter (λ g. not (is_of service cid g)) l ++ new ∷ [] else l) (d == c) (Granted d service cid) (part_of past) refl refl
      (λ e. sym (ap (λ (t : Bool). if t then filter (λ g. not (is_of service cid g)) (held (part_of past)) ++ new ∷ [] else held (part_of past)) e))
      ∙ ap (λ (l : List Grant). if d == c then filter (λ g. not (is_of service cid g)) l ++ new ∷ [] else l) (held-part past sound.1)
      ∙ sym (granted d service cid past sound.0)
  held-part (Freed d service cid ∷ past) sound =
      let p : Grant → Bool = λ (g : Grant). not (is_of service cid g && (d == g.conn)) in
      kept_plain restated R held (λ t l. if t then filter p l else l) (d == c) (Freed d service cid) (part_of past) refl refl (λ e. sym (ap (λ (t : Bool). if t then filter p (held (part_of past)) else held (part_of past)) e))
      ∙ ap (λ (l : List Grant). if d == c then filter p l else l) (held-part past sound.1)
      ∙ sym (held_by-freed c d service cid (held past))
  held-part (Ended d why ∷ past) sound =
      let same = held-part past sound.1 in
      kept_plain restated R held (λ t l. if t then [] else l) (d == c) (Ended d why) (part_of past) refl refl
      (λ e. ap (λ (l : List Grant). filter (λ g. not (d == g.conn)) l) same ∙ held_by-all_go c d e (held past) ∙ sym (ap (λ (t : Bool). if t then [] else held (part_of past)) e))
      ∙ ap (λ (l : List Grant). if d == c then [] else l) same
      ∙ sym (held_by-ended c d (held past))
  held-part (Reset ∷ past) sound = none_held Reset past refl refl
  held-part (ModemLost ∷ past) sound = none_held ModemLost past refl refl
  held-part (Judged d place m verdict ∷ past) sound = passed held (d == c) (restated (Judged d place m verdict)) (part_of past) (R.held d place m verdict (part_of past)) ∙ held-part past sound.1
  held-part (fact ∷ past) sound = passed_plain restated R held (concerns c fact) (as_known blank c fact) (part_of past) refl refl ∙ held-part past sound.1
