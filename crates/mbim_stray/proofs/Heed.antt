-- An MBIM proxy takes no heed of messages for nobody.
use Rattle.std.proofs.Common.{◌≡◌, ℕ, ◌+◌, Bool, true, false, not, ◌&&◌, if◌then◌else◌, List, [], ◌∷◌, ◌++◌, length, drop, refl, ap, sym, ◌∙◌, Option, Some, None}
use Rattle.std.proofs.Math.Seq.{drop-append_seam}
use Rattle.std.proofs.lemmas.Bool.{false_from_ne_true}
use Rattle.kit_bytes.specs.Subscriptions.{Pair}
use Rattle.mbim_frame.specs.declared.kind.MessageKind.TheVariants as kind
use Rattle.mbim_frame.specs.declared.status.TheConstants.{FAILURE}
use Rattle.mbim_frame.specs.Framing.{size_of-kept}
use Rattle.mbim_frame.specs.Head.{is_kind}
use Rattle.mbim_frame.specs.Fragment.{body_of}
use Rattle.mbim_frame.specs.Bodies.{uuid_of, cid_of}
use Rattle.proxy_history.specs.Facts.{Fact, Request, Verdict, EventBegan, Forward, Waits, Judged, Forwarded, Answered, Late, Indicated, Stray, OpeningEnded, SessionsClosed, ListSent}
use Rattle.proxy_history.specs.Decision.{Decision, Replies, Forwards}
use Rattle.proxy_history.specs.Connections.{message_count}
use Rattle.proxy_history.specs.Requests.{in_use, pending, is_pending}
use Rattle.mbim_services.specs.SubscribeLists.{is_same_list}
use Rattle.proxy_stray.specs.Alike.{substance, TellTheSame, Alike}
use Rattle.proxy_stray.specs.Stray.{TakesNoHeed}
use Rattle.proxy_stray.proofs.Keeping.{behind, by_value, behind_each, noted, noted_each, waits_same, present_same}
use Rattle.mbim_proxy.specs.Setup.{Setup}
use Rattle.mbim_proxy.specs.Known.{Known}
use Rattle.mbim_proxy.specs.Step.{blank}
use Rattle.mbim_proxy.specs.Text.{mbim_wording, note}
use Rattle.mbim_proxy.specs.ModemStates.{IsAway, IsShut, is_own_open, is_ready, state}
use Rattle.mbim_proxy.specs.Lists.{merged, last_list}
use Rattle.mbim_proxy.specs.Forwarding.{own_open, own_subscribe, number_for, forward}
use Rattle.mbim_proxy.specs.OwnList.{is_free, number_of_list, send_under, finish}
use Rattle.mbim_proxy.specs.Clients.{command_message, decision_for, forward_for, judge, hear_client}
use Rattle.mbim_proxy.specs.Delivering.{none_begun, heard_from, begun_from, deliver}
use Rattle.mbim_proxy.specs.FromModem.{Heard, IsDone, IsOpenDone, IsError, IsIndication, IsNeither, heard_as, end_opening, opening_status, first_answered_by, answer_or_late, respond, hear_as, refuse, close}
use Rattle.mbim_proxy.specs.History.{mbim_protocol}
use Rattle.mbim_proxy.proofs.Delivered.{heard_goes_on}
use Rattle.mbim_proxy.proofs.Merging.{sent_waits}
use Rattle.mbim_stray.proofs.Questions.{in_use_is, count_is, waiting_is, merged_is, receivers_are, request_is, choice_is, list_number_is}

module _ (s : Setup) where
  -- ---- clients ----

  notes : (fact : Fact) (a b : List Fact) → Alike a b → Alike (note s fact a) (note s fact b)
  notes fact a b alike = noted s.limits (mbim_wording s) fact a b alike

  forwards : (c : ℕ) (m : List ℕ) (number : ℕ) (a b : List Fact) → Alike a b → Alike (forward s c m number a) (forward s c m number b)
  forwards c m number a b alike = behind_each _ _ a b (ap (λ (r : Request). Forwarded r) (request_is s a b alike.same c m number)) alike

  judged : (c : ℕ) (m : List ℕ) (verdict : Verdict) (a b : List Fact) → Alike a b → Judged c (message_count c a + 1) m verdict ≡ Judged c (message_count c b + 1) m verdict
  judged c m verdict a b alike = ap (λ (n : ℕ). Judged c (n + 1) m verdict) (count_is s a b alike.same c)

  forwards_for : (opens : Bool) (known : Known) (c : ℕ) (m : List ℕ) (number : ℕ) (a b : List Fact) → Alike a b → Alike (forward_for opens s known c m number a) (forward_for opens s known c m number b)
  forwards_for true known c m number a b alike = forwards 0 (own_open s) number _ _ (behind_each _ _ a b (judged c m Waits a b alike) alike)
  forwards_for false known c m number a b alike = forwards c (command_message s known m) number _ _ (behind_each _ _ a b (judged c m Forward a b alike) alike)

  judges : (known : Known) (c : ℕ) (m : List ℕ) (decision : Decision) (a b : List Fact) → Alike a b → Alike (judge s known c m decision a) (judge s known c m decision b)
  judges known c m (Replies verdict) a b alike = noted_each s.limits (mbim_wording s) _ _ a b (judged c m verdict a b alike) alike
  judges known c m (Forwards number) a b alike = forwards_for (is_kind kind.Open m) known c m number a b alike

  hears_client : (known : Known) (c : ℕ) (m : List ℕ) (a b : List Fact) → Alike a b → Alike (hear_client s known c m a) (hear_client s known c m b)
  hears_client known c m a b alike = by_value (judge s known c m) (decision_for s known c m a) (decision_for s known c m b) a b (choice_is s a b alike.same known c m) (judges known c m (decision_for s known c m a) a b alike)

  -- ---- the modem ----

  ends_opening : (status : ℕ) (a b : List Fact) → Alike a b → Alike (end_opening s status a) (end_opening s status b)
  ends_opening status a b alike = noted_each s.limits (mbim_wording s) _ _ a b (ap (OpeningEnded status) (waiting_is s a b alike.same)) alike

  ends_opening_by : (opens : Bool) (status : ℕ) (a b : List Fact) → Alike a b → Alike (if opens then end_opening s status a else a) (if opens then end_opening s status b else b)
  ends_opening_by true status a b alike = ends_opening status a b alike
  ends_opening_by false status a b alike = alike

  answers_or_late : (waits : Bool) (r : Request) (m : List ℕ) (a b : List Fact) → Alike a b → Alike (answer_or_late s waits r m a) (answer_or_late s waits r m b)
  answers_or_late true r m a b alike = ends_opening_by (is_own_open r) (opening_status m) _ _ (notes (Answered r m) a b alike)
  answers_or_late false r m a b alike = behind (Late r) a b alike

  responds : (found : Option Request) (m : List ℕ) (a b : List Fact) → Alike a b → Alike (respond s found m a) (respond s found m b)
  responds None m a b alike = behind Stray a b alike
  responds (Some r) m a b alike = by_value (λ waits past. answer_or_late s waits r m past) (is_pending r a) (is_pending r b) a b (waits_same a b alike r) (answers_or_late (is_pending r a) r m a b alike)

  finds : (heard : Heard) (m : List ℕ) (a b : List Fact) → Alike a b → Alike (respond s (first_answered_by heard m (in_use a)) m a) (respond s (first_answered_by heard m (in_use b)) m b)
  finds heard m a b alike =
      by_value (λ found past. respond s found m past) (first_answered_by heard m (in_use a)) (first_answered_by heard m (in_use b)) a b (ap (first_answered_by heard m) (in_use_is s a b alike.same)) (responds (first_answered_by heard m (in_use a)) m a b alike)

  hears : (heard : Heard) (m : List ℕ) (a b : List Fact) → Alike a b → Alike (hear_as s heard m a) (hear_as s heard m b)
  hears IsNeither m a b alike = behind Stray a b alike
  hears IsIndication m a b alike = noted_each s.limits (mbim_wording s) _ _ a b (ap (Indicated (blank m)) (receivers_are s a b alike.same (uuid_of (body_of m)) (cid_of (body_of m)))) alike
  hears IsDone m a b alike = finds IsDone m a b alike
  hears IsOpenDone m a b alike = finds IsOpenDone m a b alike
  hears IsError m a b alike = finds IsError m a b alike

  refuses : (why : Fact) (r : Request) (a b : List Fact) → Alike a b → Alike (refuse s why r a) (refuse s why r b)
  refuses why r a b alike = ends_opening_by (is_own_open r) FAILURE _ _ (notes why a b alike)

  closes : (a b : List Fact) → Alike a b → Alike (close a) (close b)
  closes a b alike = behind_each _ _ a b (ap (λ (l : List ℕ). SessionsClosed l) (present_same a b alike)) alike

  -- ---- the proxy's own list ----

  -- the number under which it is sent at the end of an event
  abbrev number : List Fact → Option ℕ
  number past = number_of_list s (merged s past) past

  number_same : (a b : List Fact) → TellTheSame a b → number a ≡ number b
  number_same a b same = ap (λ (list : List Pair). number_of_list s list a) (merged_is s a b same) ∙ list_number_is s a b same (merged s b)

  sends : (list : List Pair) (under : Option ℕ) (a b : List Fact) → Alike a b → Alike (send_under s list under a) (send_under s list under b)
  sends list None a b alike = alike
  sends list (Some n) a b alike = behind (ListSent list) _ _ (forwards 0 (own_subscribe list) n a b alike)

  finishes : (a b : List Fact) → Alike a b → Alike (finish s a) (finish s b)
  finishes a b alike =
      by_value (λ (list : List Pair) past. send_under s list (number_of_list s list past) past) (merged s a) (merged s b) a b (merged_is s a b alike.same)
      (by_value (send_under s (merged s a)) (number_of_list s (merged s a) a) (number_of_list s (merged s a) b) a b (list_number_is s a b alike.same (merged s a)) (sends (merged s a) (number_of_list s (merged s a) a) a b alike))

  -- where nothing may be asked, nothing is
  none_where_busy : (past : List Fact) → is_free s past ≡ false → number past ≡ None
  none_where_busy past busy =
      ap (λ (b : Bool). if b && not (is_same_list (merged s past) (last_list past)) then number_for s (own_subscribe (merged s past)) past else None) busy

  -- once it is sent, or can't be, there is no number for it
  sent : (under : Option ℕ) (past : List Fact) → number past ≡ under → number (send_under s (merged s past) under past) ≡ None
  sent None past is = is
  sent (Some n) past is = none_where_busy _ (false_from_ne_true _ (sent_waits s (merged s past) n past))

  nothing_to_send : (past : List Fact) → number past ≡ None → TellTheSame (finish s past) past
  nothing_to_send past none = ap (λ (under : Option ℕ). substance (send_under s (merged s past) under past)) none

  begins_same : (past : List Fact) → TellTheSame (EventBegan ∷ past) past
  unfolding substance
  begins_same past = refl

  done_behind : (past : List Fact) → number past ≡ None → TellTheSame (finish s (EventBegan ∷ past)) past
  done_behind past none = nothing_to_send (EventBegan ∷ past) (number_same (EventBegan ∷ past) past (begins_same past) ∙ none) ∙ begins_same past

  shut : (away : Bool) → is_ready (if away then IsAway else IsShut) ≡ false
  shut true = refl
  shut false = refl

  not_free : is_free s [] ≡ false
  unfolding state pending
  not_free = ap (λ (b : Bool). b && not false) (shut s.starts_away)

  -- ---- streams ----

  pub heard_on : (messages more : List (List ℕ)) → drop (length (deliver s.longest_body messages)) (deliver s.longest_body (messages ++ more)) ≡ heard_from s.longest_body (begun_from s.longest_body none_begun messages) more
  heard_on messages more =
      ap (drop (length (deliver s.longest_body messages))) (heard_goes_on s.longest_body none_begun messages more)
      ∙ drop-append_seam (deliver s.longest_body messages) (heard_from s.longest_body (begun_from s.longest_body none_begun messages) more)

  pub takes_no_heed : TakesNoHeed (mbim_protocol s)
  unfolding substance
  takes_no_heed = record {
    client = λ known c m a b alike. hears_client known c m a b alike;
    modem = λ m a b alike. hears (heard_as m) m a b alike;
    refusal = λ why r a b alike. refuses why r a b alike;
    clock = λ a b alike. alike;
    loss = λ a b alike. closes a b alike;
    finish = λ a b alike. finishes a b alike;
    done_at_first = done_behind [] (none_where_busy [] not_free);
    done = λ past. done_behind (finish s past) (sent (number past) past refl);
    kept = size_of-kept;
    goes_on = λ messages more. heard_goes_on s.longest_body none_begun messages more ∙ ap (λ (l : List (List ℕ)). deliver s.longest_body messages ++ l) (sym (heard_on messages more));
    not_bad = refl;
  }
