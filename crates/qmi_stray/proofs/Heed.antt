-- A QMI proxy takes no heed of messages for nobody.
use Rattle.std.proofs.Common.{◌≡◌, ℕ, zero, suc, ◌+◌, Bool, true, false, not, ◌&&◌, ◌==◌, if◌then◌else◌, List, ◌∷◌, ◌++◌, length, drop, filter, refl, ap, ap₂, sym, ◌∙◌, Option, Some, None}
use Rattle.std.proofs.Math.Seq.{drop-append_seam}
use Rattle.qmux_frame.specs.declared.kind.MessageKind.{MessageKind}
use Rattle.qmux_frame.specs.declared.kind.MessageKind.TheVariants as kind
use Rattle.qmux_frame.specs.Head.{service_of, is_control, cid_of}
use Rattle.qmux_frame.specs.Kind.{framed_kind}
use Rattle.qmux_frame.specs.Control.{is_sync}
use Rattle.qmux_frame.specs.Framing.{size_of-kept}
use Rattle.proxy_history.specs.Facts.{Fact, Request, Verdict, Own, Share, Forward, Judged, Forwarded, Answered, IdHeld, Late, Indicated, Stray, Granted, Freed, Reset}
use Rattle.proxy_history.specs.Decision.{Decision, Replies, Forwards}
use Rattle.proxy_history.specs.Connections.{present, message_count}
use Rattle.proxy_history.specs.Requests.{in_use, is_pending, forward_count, next_number, has_share, deadline_of}
use Rattle.proxy_history.specs.ClientIds.{Grant, KeptId, held, kept, holder_in, is_holder, holds_some}
use Rattle.proxy_history.specs.Modem.{now, is_away, modem_queue}
use Rattle.proxy_history.specs.View.{view}
use Rattle.proxy_stray.specs.Alike.{substance, Alike}
use Rattle.proxy_stray.specs.Stray.{TakesNoHeed}
use Rattle.proxy_stray.proofs.Questions.{told, count-told, in_use-told, forwards-told, held-told, kept-told, now-told, away-told, view-told, next-told, share-told, queue-told, filter_same}
use Rattle.proxy_stray.proofs.Keeping.{behind, by_value, behind_each, noted, noted_each, aborts_all, waits_same, present_same}
use Rattle.qmi_proxy.specs.Setup.{Setup}
use Rattle.qmi_proxy.specs.Spaces.{control_space, space_of, limit_of, top_of}
use Rattle.qmi_proxy.specs.Limits.{qmi_limits, share_limit}
use Rattle.qmi_proxy.specs.Messages.{uses_id, used_service, used_cid, value_of, byte_of}
use Rattle.qmi_proxy.specs.OwnReplies.{is_open, view_decides}
use Rattle.qmi_proxy.specs.Text.{qmi_wording, blank, view_of, note}
use Rattle.qmi_proxy.specs.Clients.{number_for, holder_for, wire, has_room, shared_decision_of, decision_as, request_of, grant_if, forward, judge}
use Rattle.qmi_proxy.specs.FromModem.{IdChange, NoChange, Grants, Collides, Frees, id_change, holder_of_brought, answer, answer_to, answer_or_late, respond, first_answered_by, in_expiry_order, refuse, abort_all, open_ones, receivers, tell, hear_as}
use Rattle.qmi_proxy.specs.Releases.{release_of, own_request, first_due, releases_one, number_if, number_for_own, releases, release_due, freed_if}
use Rattle.qmi_proxy.specs.History.{qmi_protocol}

module _ (s : Setup) (a b : List Fact) (alike : Alike a b) where
  -- ---- what is read off both ----

  held_same : held a ≡ held b
  held_same = told held held-told a b alike.same

  in_use_same : in_use a ≡ in_use b
  in_use_same = told in_use in_use-told a b alike.same

  view_same : (c : ℕ) → view_of c a ≡ view_of c b
  view_same c = told (view blank c) (view-told blank c) a b alike.same

  count_same : (c : ℕ) → message_count c a ≡ message_count c b
  count_same c = told (message_count c) (count-told c) a b alike.same

  queue_same : modem_queue wire a ≡ modem_queue wire b
  queue_same = told (modem_queue wire) (queue-told wire) a b alike.same

  next_same : (space : ℕ) → next_number (limit_of space) (top_of space) space a ≡ next_number (limit_of space) (top_of space) space b
  next_same space = told (next_number (limit_of space) (top_of space) space) (next-told (limit_of space) (top_of space) space) a b alike.same

  number_same : (m : List ℕ) → number_for m a ≡ number_for m b
  number_same m = next_same (space_of m)

  holder_same : (m : List ℕ) → holder_for m a ≡ holder_for m b
  holder_same m = ap (λ (grants : List Grant). if uses_id m then holder_in (used_service m) (used_cid m) grants else None) held_same

  share_same : (c space : ℕ) → has_share share_limit c space a ≡ has_share share_limit c space b
  share_same c space = told (has_share share_limit c space) (share-told share_limit c space) a b alike.same

  decision_same : (opened : Bool) (c : ℕ) (m : List ℕ) → decision_as s opened c m a ≡ decision_as s opened c m b
  decision_same opened c m =
      ap₂ (λ (passed : Bool) (d : Decision). if view_decides opened m then Replies Own else if passed then Replies Share else d) (share_same c (space_of m))
      (ap₂ (λ (h : Option ℕ) (away : Bool). shared_decision_of c h away (has_room (length (modem_queue wire a)) m) (number_for m a)) (holder_same m) (told (is_away s.starts_away) (away-told s.starts_away) a b alike.same)
      ∙ ap₂ (λ (queue : List ℕ) (n : Option ℕ). shared_decision_of c (holder_for m b) (is_away s.starts_away b) (has_room (length queue) m) n) queue_same (number_same m))

  request_same : (c : ℕ) (m : List ℕ) (number : ℕ) → request_of s c m number a ≡ request_of s c m number b
  request_same c m number =
      let made : ℕ → ℕ → ℕ → Request = λ (forwards : ℕ) (count : ℕ) (time : ℕ). record { serial = forwards + 1; conn = c; place = count; space = space_of m; number = number; message = m; deadline = deadline_of time s.time_limit } in
      ap₂ (λ (forwards : ℕ) (count : ℕ). made forwards count (now a)) (told forward_count forwards-told a b alike.same) (count_same c)
      ∙ ap (made (forward_count b) (message_count c b)) (told now now-told a b alike.same)

  receivers_same : (m : List ℕ) → receivers s.device m a ≡ receivers s.device m b
  receivers_same m =
      let there = present_same a b alike in
      let opened : open_ones s.device a ≡ open_ones s.device b =
      ap (filter (λ (c : ℕ). is_open s.device (view_of c a))) there ∙ filter_same (λ (c : ℕ). is_open s.device (view_of c a)) (λ (c : ℕ). is_open s.device (view_of c b)) (present b) (λ c. ap (is_open s.device) (view_same c))
      in
      ap (λ (l : List ℕ). if is_control m then l else if cid_of m == 255 then filter (λ (c : ℕ). holds_some c (service_of m) (held a)) (present a) else filter (λ (c : ℕ). is_holder c (holder_in (service_of m) (cid_of m) (held a))) (present a)) opened
      ∙ ap₂ (λ (l : List ℕ) (grants : List Grant). if is_control m then open_ones s.device b else if cid_of m == 255 then filter (λ (c : ℕ). holds_some c (service_of m) grants) l else filter (λ (c : ℕ). is_holder c (holder_in (service_of m) (cid_of m) grants)) l) there held_same

module _ (s : Setup) where
  -- ---- clients ----

  grants : (uses : Bool) (c : ℕ) (m : List ℕ) (a b : List Fact) → Alike a b → Alike (grant_if uses c m a) (grant_if uses c m b)
  grants true c m a b alike = behind (Granted c (used_service m) (used_cid m)) a b alike
  grants false c m a b alike = alike

  forwards : (c : ℕ) (m : List ℕ) (number : ℕ) (a b : List Fact) → Alike a b → Alike (forward s c m number a) (forward s c m number b)
  forwards c m number a b alike =
      grants (uses_id m) c m _ _ (behind_each (Forwarded (request_of s c m number a)) (Forwarded (request_of s c m number b)) a b (ap (λ (r : Request). Forwarded r) (request_same s a b alike c m number)) alike)

  judged : (c : ℕ) (m : List ℕ) (verdict : Verdict) (a b : List Fact) → Alike a b → Judged c (message_count c a + 1) m verdict ≡ Judged c (message_count c b + 1) m verdict
  judged c m verdict a b alike = ap (λ (n : ℕ). Judged c (n + 1) m verdict) (count_same s a b alike c)

  judges : (c : ℕ) (m : List ℕ) (decision : Decision) (a b : List Fact) → Alike a b → Alike (judge s c m decision a) (judge s c m decision b)
  judges c m (Replies verdict) a b alike = noted_each qmi_limits (qmi_wording s.device) _ _ a b (judged c m verdict a b alike) alike
  judges c m (Forwards number) a b alike = forwards c m number _ _ (behind_each _ _ a b (judged c m Forward a b alike) alike)

  hears_client : (opened : Bool) (c : ℕ) (m : List ℕ) (a b : List Fact) → Alike a b → Alike (judge s c m (decision_as s opened c m a) a) (judge s c m (decision_as s opened c m b) b)
  hears_client opened c m a b alike = by_value (judge s c m) (decision_as s opened c m a) (decision_as s opened c m b) a b (decision_same s a b alike opened c m) (judges c m (decision_as s opened c m a) a b alike)

  -- ---- the modem ----

  notes : (fact : Fact) (a b : List Fact) → Alike a b → Alike (note s.device fact a) (note s.device fact b)
  notes fact a b alike = noted qmi_limits (qmi_wording s.device) fact a b alike

  answers : (r : Request) (m : List ℕ) (change : IdChange) (a b : List Fact) → Alike a b → Alike (answer s.device r m change a) (answer s.device r m change b)
  answers r m NoChange a b alike = notes (Answered r m) a b alike
  answers r m (Grants service cid) a b alike = notes (Answered r m) _ _ (behind (Granted r.conn service cid) a b alike)
  answers r m Collides a b alike = notes (IdHeld r) a b alike
  answers r m (Frees service cid) a b alike = notes (Answered r m) _ _ (behind (Freed r.conn service cid) a b alike)

  frees : (own : Bool) (r : Request) (a b : List Fact) → Alike a b → Alike (freed_if own r a) (freed_if own r b)
  frees true r a b alike = behind (Freed 0 (used_service r.message) (used_cid r.message)) a b alike
  frees false r a b alike = alike

  answers_to : (own : Bool) (r : Request) (m : List ℕ) (a b : List Fact) → Alike a b → Alike (answer_to own s.device r m a) (answer_to own s.device r m b)
  answers_to true r m a b alike = frees true r _ _ (notes (Answered r m) a b alike)
  answers_to false r m a b alike =
      let change : List Fact → IdChange = λ (past : List Fact). id_change r.conn r.message m (holder_of_brought m past) in
      by_value (answer s.device r m) (change a) (change b) a b
      (ap (λ (grants : List Grant). id_change r.conn r.message m (holder_in (byte_of 0 (value_of 0x01 m)) (byte_of 1 (value_of 0x01 m)) grants)) (held_same s a b alike))
      (answers r m (change a) a b alike)

  answers_or_late : (waits : Bool) (r : Request) (m : List ℕ) (a b : List Fact) → Alike a b → Alike (answer_or_late s.device waits r m a) (answer_or_late s.device waits r m b)
  answers_or_late true r m a b alike = answers_to (r.conn == 0) r m a b alike
  answers_or_late false r m a b alike = behind (Late r) a b alike

  responds : (found : Option Request) (m : List ℕ) (a b : List Fact) → Alike a b → Alike (respond s.device found m a) (respond s.device found m b)
  responds None m a b alike = behind Stray a b alike
  responds (Some r) m a b alike =
      by_value (λ waits past. answer_or_late s.device waits r m past) (is_pending r a) (is_pending r b) a b (waits_same a b alike r) (answers_or_late (is_pending r a) r m a b alike)

  refuses : (why : Fact) (r : Request) (a b : List Fact) → Alike a b → Alike (refuse s.device why r a) (refuse s.device why r b)
  refuses why r a b alike = frees (r.conn == 0) r _ _ (notes why a b alike)

  tells : (m : List ℕ) (a b : List Fact) → Alike a b → Alike (tell s.device m a) (tell s.device m b)
  tells m a b alike = noted_each qmi_limits (qmi_wording s.device) _ _ a b (ap (Indicated m) (receivers_same s a b alike m)) alike

  indicates : (sync unheard : Bool) (m : List ℕ) (a b : List Fact) → Alike a b
      → Alike (if sync then tell s.device m (Reset ∷ abort_all s.device a) else if unheard then Stray ∷ a else tell s.device m a) (if sync then tell s.device m (Reset ∷ abort_all s.device b) else if unheard then Stray ∷ b else tell s.device m b)
  indicates true unheard m a b alike = tells m _ _ (behind Reset _ _ (aborts_all (refuse s.device) in_expiry_order refuses a b alike))
  indicates false true m a b alike = behind Stray a b alike
  indicates false false m a b alike = tells m a b alike

  hears : (found : Option MessageKind) (m : List ℕ) (a b : List Fact) → Alike a b → Alike (hear_as found s.device m a) (hear_as found s.device m b)
  hears (Some kind.Response) m a b alike =
      by_value (λ found past. respond s.device found m past) (first_answered_by m (in_use a)) (first_answered_by m (in_use b)) a b (ap (first_answered_by m) (in_use_same s a b alike)) (responds (first_answered_by m (in_use a)) m a b alike)
  hears (Some kind.Indication) m a b alike = indicates (is_sync m) (not (is_control m) && cid_of m == 0) m a b alike
  hears (Some kind.Request) m a b alike = behind Stray a b alike
  hears None m a b alike = behind Stray a b alike

  -- ---- the client ids that the proxy itself releases ----

  abbrev due_in : (after : ℕ) → List Fact → Option KeptId
  due_in after past = first_due after (now past) (kept past)

  abbrev released_under : (after count : ℕ) → KeptId → Option ℕ → List Fact → List Fact
  released_under after count k found past = elim found [ None ↦ past | Some number ↦ releases s after count (releases_one s k number past) ]

  abbrev released_next : (after count : ℕ) → Option KeptId → List Fact → List Fact
  released_next after count found past = elim found [ None ↦ past | Some k ↦ released_under after count k (number_for_own k past) past ]

  due_same : (after : ℕ) (a b : List Fact) → Alike a b → due_in after a ≡ due_in after b
  due_same after a b alike = ap₂ (λ (time : ℕ) (ids : List KeptId). first_due after time ids) (told now now-told a b alike.same) (told kept kept-told a b alike.same)

  own_number_same : (k : KeptId) (a b : List Fact) → Alike a b → number_for_own k a ≡ number_for_own k b
  own_number_same k a b alike =
      ap₂ (λ (queue : List ℕ) (number : Option ℕ). number_if (has_room (length queue) (release_of k.service k.cid)) number) (queue_same s a b alike) (next_same s a b alike control_space)

  own_request_same : (k : KeptId) (number : ℕ) (a b : List Fact) → Alike a b → own_request s k.service k.cid number a ≡ own_request s k.service k.cid number b
  own_request_same k number a b alike =
      ap₂ (λ (forwards : ℕ) (time : ℕ). record { serial = forwards + 1; conn = 0; place = 0; space = control_space; number = number; message = release_of k.service k.cid; deadline = deadline_of time s.time_limit })
      (told forward_count forwards-told a b alike.same) (told now now-told a b alike.same)

  releases_it : (k : KeptId) (number : ℕ) (a b : List Fact) → Alike a b → Alike (releases_one s k number a) (releases_one s k number b)
  releases_it k number a b alike =
      behind (Granted 0 k.service k.cid) _ _ (behind_each _ _ a b (ap (λ (r : Request). Forwarded r) (own_request_same k number a b alike)) alike)

  releases_next : (after count : ℕ) → ((a b : List Fact) → Alike a b → Alike (releases s after count a) (releases s after count b))
      → (found : Option KeptId) (a b : List Fact) → Alike a b → Alike (released_next after count found a) (released_next after count found b)
  releases_next after count goes None a b alike = alike
  releases_next after count goes (Some k) a b alike =
      by_value (released_under after count k) (number_for_own k a) (number_for_own k b) a b (own_number_same k a b alike) (under (number_for_own k a))
    where
      under : (number : Option ℕ) → Alike (released_under after count k number a) (released_under after count k number b)
      under None = alike
      under (Some number) = goes _ _ (releases_it k number a b alike)

  releases_all : (after count : ℕ) (a b : List Fact) → Alike a b → Alike (releases s after count a) (releases s after count b)
  unfolding releases
  releases_all after zero a b alike = alike
  releases_all after (suc count) a b alike =
      by_value (released_next after count) (due_in after a) (due_in after b) a b (due_same after a b alike) (releases_next after count (releases_all after count) (due_in after a) a b alike)

  releases_due : (after : Option ℕ) (a b : List Fact) → Alike a b → Alike (release_due s after a) (release_due s after b)
  releases_due None a b alike = alike
  releases_due (Some after) a b alike =
      by_value (λ (ids : List KeptId) past. releases s after (length ids) past) (kept a) (kept b) a b (told kept kept-told a b alike.same) (releases_all after (length (kept a)) a b alike)

  pub heard_on : (messages more : List (List ℕ)) → drop (length messages) (messages ++ more) ≡ more
  heard_on messages more = drop-append_seam messages more

  pub takes_no_heed : TakesNoHeed (qmi_protocol s)
  unfolding substance
  takes_no_heed = record {
    client = λ opened c m a b alike. hears_client opened c m a b alike;
    modem = λ m a b alike. hears (framed_kind m) m a b alike;
    refusal = λ why r a b alike. refuses why r a b alike;
    clock = λ a b alike. releases_due s.release a b alike;
    loss = λ a b alike. alike;
    finish = λ a b alike. alike;
    done_at_first = refl;
    done = λ past. refl;
    kept = size_of-kept;
    goes_on = λ messages more. ap (λ (l : List (List ℕ)). messages ++ l) (sym (heard_on messages more));
    not_bad = refl;
  }
