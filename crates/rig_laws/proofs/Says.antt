-- What a message of a client adds to a rig's facts. Lists of facts have the newest first.
use Rattle.std.proofs.Common.{◌≡◌, ℕ, suc, ◌+◌, ◌<◌, ◌≤◌, Bool, true, false, not, cond, ◌&&◌, ◌==◌, nat_le, nat_lt, if◌then◌else◌, List, [], ◌∷◌, ◌++◌, length, Option, Some, None, refl, ap, sym, ◌∙◌, arith, subst, IsSomeAnd}
use Rattle.std.proofs.lemmas.Bool.{eqb-true, eq-eqb, and_parts}
use Rattle.std.proofs.lemmas.Bool.Decides.{nat_tests}
use Rattle.framing.specs.Framing.{IsMessage}
use Rattle.qmux_frame.specs.Frame.{size_of}
use Rattle.qmux_frame.specs.Control.{is_proxy_open}
use Rattle.qmux_frame.specs.Reply.{result_reply}
use Rattle.proxy_history.specs.Coming.{piece_limit}
use Rattle.proxy_history.specs.Facts.{Fact, Request, Verdict, Own, Share, Foreign, Away, Full, Forward, Judged, Forwarded}
use Rattle.proxy_history.specs.Decision.{Decision, Replies, Forwards, forwards_under}
use Rattle.proxy_history.specs.Connections.{present, message_count}
use Rattle.proxy_history.specs.Requests.{has_share, in_use, last_number, of_space, numbers_of, numbers_in_use, number_after, following, free_from}
use Rattle.proxy_history.specs.ClientIds.{holder, is_other}
use Rattle.proxy_history.specs.Modem.{is_away, modem_queue}
use Rattle.proxy_history.specs.Sound.{IsSound}
use Rattle.proxy_history.specs.View.{Said, entry_if, view}
use Rattle.proxy_history.specs.Rendering.{Rendering, render, put}
use Rattle.proxy_history.specs.Laws.{IsFirstFree}
use Rattle.proxy_history.proofs.Numbers.{number_after-free}
use Rattle.proxy_history.proofs.Sound.{next_of}
use Rattle.qmi_proxy.specs.Setup.{Setup}
use Rattle.qmi_proxy.specs.Limits.{share_limit, qmi_limits, outbox_limit}
use Rattle.qmi_proxy.specs.Errors.{share_passed}
use Rattle.qmi_proxy.specs.Spaces.{space_of, limit_of, top_of, control_space}
use Rattle.qmi_proxy.specs.Messages.{opens, equals, value_of, uses_id, used_service, used_cid}
use Rattle.qmi_proxy.specs.OwnReplies.{is_open, own_error, view_decides}
use Rattle.qmi_proxy.specs.Text.{text, view_of, rendering, note}
use Rattle.qmi_proxy.specs.Clients.{number_for, holder_for, has_room, wire, decision_on, decision_as, request_of, grant_if, judge, hear_client}
use Rattle.qmi_proxy.proofs.Apart.{within}
use Rattle.qmi_proxy.proofs.Verdicts.{own_replies_are_of_the_view}
use Rattle.rig_runs.specs.Lines.{passes_share}
use Rattle.rig_laws.proofs.Harmless.{view_decides_opening, is_there, own_id_is_free}
use Rattle.rig_laws.proofs.Calm.{Calm, queue_is, judged, forwarded, granted}
use Rattle.rig_laws.proofs.Room.{AllHaveRoom, put_has_room, less_room, noted, reply_is_short}

-- ---- the number that a request gets ----

-- it is one of the space
given_below : (limit top last : ℕ) (used : List ℕ) (n : ℕ) → limit ≤ top → last ≤ top → number_after limit top last used ≡ Some n → n ≤ top
given_below limit top last used n within low found =
    let step : (b : Bool) → nat_lt (length used) limit ≡ b → (if b then Some (free_from (length used) top used (following top last)) else None) ≡ Some n → n ≤ top =
    λ b. elim b as (λ b. nat_lt (length used) limit ≡ b → (if b then Some (free_from (length used) top used (following top last)) else None) ≡ Some n → n ≤ top) [
      | true ↦ λ e is.
          let few : length used < limit = grind (arith, nat_tests, e) in
          let first : IsFirstFree top (following top last) used n = subst (λ (o : Option ℕ). IsSomeAnd o (IsFirstFree top (following top last) used)) found (number_after-free limit top last used within low few) in
          first.to_top
      | false ↦ λ e is. absurd (cc)
    ]
    in step (nat_lt (length used) limit) refl found

last_below : (past : List Fact) (space : ℕ) → IsSound qmi_limits past → last_number space past ≤ top_of space
unfolding last_number
last_below [] space sound = omega arith
last_below (Forwarded r ∷ past) space sound =
    let next = next_of qmi_limits r past sound in
    let below : r.number ≤ top_of r.space = given_below (limit_of r.space) (top_of r.space) (last_number r.space past) (numbers_in_use r.space past) r.number (within r.space) (last_below past r.space sound.1) next.number in
    let step : (b : Bool) → (r.space == space) ≡ b → (if b then r.number else last_number space past) ≤ top_of space =
    λ b. elim b as (λ b. (r.space == space) ≡ b → (if b then r.number else last_number space past) ≤ top_of space) [
      | true ↦ λ e. subst (λ (x : ℕ). r.number ≤ top_of x) (eqb-true r.space space e) below
      | false ↦ λ e. last_below past space sound.1
    ]
    in step (r.space == space) refl
last_below (_ ∷ past) space sound = last_below past space sound.1

few_in_space : (space : ℕ) (requests : List Request) → length (numbers_of (of_space space requests)) ≤ length requests
few_in_space space [] = omega arith
few_in_space space (r ∷ requests) =
    let less = few_in_space space requests in
    elim (r.space == space) as (λ b. length (numbers_of (cond b (r ∷ of_space space requests) (of_space space requests))) ≤ suc (length requests)) [ true ↦ omega (arith, less) | false ↦ omega (arith, less) ]

-- fewer than any limit
below_limit : (space n : ℕ) → n ≤ 200 → n < limit_of space
below_limit space n few = elim (space == control_space) as (λ b. n < (if b then 255 else 1024)) [ true ↦ omega arith | false ↦ omega arith ]

number_is : (limit top last : ℕ) (used : List ℕ) → length used < limit → number_after limit top last used ≡ Some (free_from (length used) top used (following top last))
number_is limit top last used few =
    let test : nat_lt (length used) limit ≡ true = grind (arith, nat_tests) in
    ap (λ (b : Bool). if b then Some (free_from (length used) top used (following top last)) else None) test

-- ---- what a client says ----

-- a request that the client may say once it has opened the device
pub record IsRequestOf (c : ℕ) (m : List ℕ) : Type 0 where
  pub is_message : IsMessage size_of m
  pub short : length m ≤ piece_limit
  pub is_shared : view_decides true m ≡ false
  pub own_id : uses_id m ≡ true → used_cid m ≡ c

abbrev by_tests : (own share foreign away room : Bool) → Option ℕ → Decision
by_tests own share foreign away room number =
    if own then Replies Own else if share then Replies Share else if foreign then Replies Foreign else if away then Replies Away else if not room then Replies Full else forwards_under number

decided : (own share foreign away room : Bool) (number : Option ℕ) → own ≡ false → share ≡ false → foreign ≡ false → away ≡ false → room ≡ true → by_tests own share foreign away room number ≡ forwards_under number
decided true share foreign away room number o p a b c = absurd (cc)
decided false true foreign away room number o p a b c = absurd (cc)
decided false false true away room number o p a b c = absurd (cc)
decided false false false true room number o p a b c = absurd (cc)
decided false false false false false number o p a b c = absurd (cc)
decided false false false false true number o p a b c = refl

past_share : (own share foreign away room : Bool) (number : Option ℕ) → own ≡ false → share ≡ true → by_tests own share foreign away room number ≡ Replies Share
past_share true share foreign away room number o p = absurd (cc)
past_share false true foreign away room number o p = refl
past_share false false foreign away room number o p = absurd (cc)

module _ (s : Setup) (c : ℕ) (m : List ℕ) where
  -- ---- it opens the device ----

  -- its reply is a result with this error
  abbrev HasError : Verdict → (error : ℕ) → List Fact → Type 0
  HasError verdict error past = text s.device (view_of c past) (Said m verdict) ≡ result_reply m error

  judged_rendering : (b : Bool) (verdict : Verdict) (error : ℕ) (past : List Fact) → b ≡ true → HasError verdict error past
      → render outbox_limit (text s.device) (entry_if b (Said m verdict) (view_of c past)) ≡ put outbox_limit (result_reply m error) (rendering s.device c past)
  unfolding render
  judged_rendering true verdict error past e is = ap (λ (reply : List ℕ). put outbox_limit reply (rendering s.device c past)) is
  judged_rendering false verdict error past e is = absurd (cc)

  answered_alone : (place : ℕ) (verdict : Verdict) (error : ℕ) (past : List Fact) → HasError verdict error past → AllHaveRoom s 20 past → note s.device (Judged c place m verdict) past ≡ Judged c place m verdict ∷ past
  unfolding view present
  answered_alone place verdict error past is has =
      let reply : List ℕ = result_reply m error in
      noted s (Judged c place m verdict) past c refl
      (λ there. subst (λ (r : Rendering). r.is_over ≡ false) (sym (judged_rendering (c == c) verdict error past (eq-eqb c c refl) is))
      (put_has_room 0 reply (rendering s.device c past) (less_room (length reply + 0) 20 (rendering s.device c past) (omega (arith, reply_is_short m error)) (has c there))).fits)

  pub opening_is_answered : (past : List Fact) → AllHaveRoom s 20 past → opens s.device m ≡ true → hear_client s c m past ≡ Judged c (message_count c past + 1) m Own ∷ past
  opening_is_answered past has opening =
      let first : is_proxy_open m ≡ true = (and_parts (is_proxy_open m) (equals s.device (value_of 0x01 m)) opening).0 in
      let decides : view_decides (is_open s.device (view_of c past)) m ≡ true = view_decides_opening s (is_open s.device (view_of c past)) m first in
      let own : decision_on s c m past ≡ Replies Own = (own_replies_are_of_the_view s c m past).1 decides in
      ap (λ (d : Decision). judge s c m d past) own ∙ answered_alone (message_count c past + 1) Own (own_error s.device (is_open s.device (view_of c past)) m) past refl has

  -- ---- it is for the modem ----

  -- the request that was added, the last that is in use; its bytes alone wait for the modem
  pub record IsForwarded (joined opened : ℕ) (requests : List Request) (after : List Fact) : Type 0 where
    pub r : Request
    pub conn : r.conn ≡ c
    pub message : r.message ≡ m
    pub number : r.number ≤ top_of (space_of m)
    pub calm : Calm s joined opened (requests ++ r ∷ []) (wire r) after

  module _ (joined opened : ℕ) (requests : List Request) (past : List Fact) (calm : Calm s joined opened requests [] past) (low : 1 ≤ c) (high : c ≤ opened) (is : IsRequestOf c m) where
    -- as many of its requests wait as may
    abbrev share : Bool
    share = has_share share_limit c (space_of m) past

    passes_where : passes_share s c m past ≡ share
    passes_where = ap (λ (opened : Bool). not (view_decides opened m) && share) (calm.open_ones c low high) ∙ ap (λ (own : Bool). not own && share) is.is_shared

    by_shared : decision_on s c m past
        ≡ by_tests (view_decides true m) share (is_other c (holder_for m past)) (is_away s.starts_away past) (has_room (length (modem_queue wire past)) m) (number_for m past)
    by_shared = ap (λ (opened : Bool). decision_as s opened c m past) (calm.open_ones c low high)

    -- ---- it passes the client's share ----

    pub request_is_refused : share ≡ true → AllHaveRoom s 20 past → Calm s joined opened requests [] (hear_client s c m past)
    request_is_refused full has =
        let judgement : Fact = Judged c (message_count c past + 1) m Share in
        let decision : decision_on s c m past ≡ Replies Share =
        by_shared ∙ past_share (view_decides true m) share (is_other c (holder_for m past)) (is_away s.starts_away past) (has_room (length (modem_queue wire past)) m) (number_for m past) is.is_shared full in
        subst (Calm s joined opened requests []) (sym (ap (λ (d : Decision). judge s c m d past) decision ∙ answered_alone (message_count c past + 1) Share share_passed past refl has))
        (judged s calm c (message_count c past + 1) m Share (passes_where ∙ full) low high)

    -- ---- it goes to the modem ----

    module _ (there : s.starts_away ≡ false) (sound : IsSound qmi_limits past) (few : length requests ≤ 200) where
      free_by : (b : Bool) → uses_id m ≡ b → is_other c (if b then holder (used_service m) (used_cid m) past else None) ≡ false
      free_by true e = ap (λ (n : ℕ). is_other c (holder (used_service m) n past)) (is.own_id e) ∙ own_id_is_free s c (used_service m) past calm.harmless
      free_by false e = refl

      finds_room : has_room (length (modem_queue wire past)) m ≡ true
      finds_room = ap (λ (l : List ℕ). has_room (length l) m) (queue_is s calm) ∙ small (length m) is.short
        where
          small : (n : ℕ) → n ≤ piece_limit → nat_le (0 + n) 1048576 ≡ true
          small n short = grind (arith, nat_tests)

      few_used : length (numbers_in_use (space_of m) past) < limit_of (space_of m)
      few_used = below_limit (space_of m) (length (numbers_in_use (space_of m) past)) (let few_now = few_in_space (space_of m) (in_use past) in let same : length (in_use past) ≡ length requests = ap length calm.uses in omega (arith, few_now, same, few))

      given : ℕ
      given = free_from (length (numbers_in_use (space_of m) past)) (top_of (space_of m)) (numbers_in_use (space_of m) past) (following (top_of (space_of m)) (last_number (space_of m) past))

      decision_is : share ≡ false → decision_on s c m past ≡ Forwards given
      unfolding given
      decision_is free =
          by_shared
          ∙ decided (view_decides true m) share (is_other c (holder_for m past)) (is_away s.starts_away past) (has_room (length (modem_queue wire past)) m) (number_for m past) is.is_shared free (free_by (uses_id m) refl) (is_there s there past calm.harmless) finds_room
          ∙ ap forwards_under (number_is (limit_of (space_of m)) (top_of (space_of m)) (last_number (space_of m) past) (numbers_in_use (space_of m) past) few_used)

      granted_if : (b : Bool) → uses_id m ≡ b → {requests : List Request} {queue : List ℕ} {before : List Fact} → Calm s joined opened requests queue before → Calm s joined opened requests queue (grant_if b c m before)
      granted_if true e before = granted s before c (used_service m) (used_cid m) (is.own_id e)
      granted_if false e before = before

      pub request_is_forwarded : share ≡ false → IsForwarded joined opened requests (hear_client s c m past)
      unfolding given
      request_is_forwarded free =
          let asks : List Fact = Judged c (message_count c past + 1) m Forward ∷ past in
          let added : Request = request_of s c m given asks in
          let client : (c == 0) ≡ false = grind (arith, nat_tests, low) in
          let after : Calm s joined opened (requests ++ added ∷ []) (wire added) (judge s c m (Forwards given) past) =
          granted_if (uses_id m) refl (forwarded s (judged s calm c (message_count c past + 1) m Forward (passes_where ∙ free) low high) added client) in
          record {
            r = added;
            conn = refl;
            message = refl;
            number = given_below (limit_of (space_of m)) (top_of (space_of m)) (last_number (space_of m) past) (numbers_in_use (space_of m) past) given (within (space_of m)) (last_below past (space_of m) sound) (number_is (limit_of (space_of m)) (top_of (space_of m)) (last_number (space_of m) past) (numbers_in_use (space_of m) past) few_used);
            calm = subst (λ (d : Decision). Calm s joined opened (requests ++ added ∷ []) (wire added) (judge s c m d past)) (sym (decision_is free)) after;
          }
