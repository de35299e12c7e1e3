-- The numbers of requests, the room for them and their deadlines: what a client has of them where it is alone.
use Rattle.std.proofs.Common.{◌≡◌, ℕ, zero, suc, ◌+◌, ◌≤◌, ◌<◌, Bool, true, false, nat_lt, ◌==◌, cond, is_some, if◌then◌else◌, List, [], ◌∷◌, length, refl, ap, sym, ◌∙◌, subst, ⊎_elim, arith, Contains, Option, Some, None}
use Rattle.std.specs.List.{AllByRecursion}
use Rattle.std.proofs.lemmas.Bool.Decides.{nat_tests}
use Rattle.proxy_history.specs.Facts.{Fact, Request, Forwarded, TimeIs}
use Rattle.proxy_history.specs.Connections.{contains}
use Rattle.proxy_history.specs.Requests.{in_use, of_space, numbers_of, following, free_from, next_number, last_number, numbers_in_use, deadline_of}
use Rattle.proxy_history.specs.Modem.{now, modem_queue}
use Rattle.proxy_history.specs.Sound.{IsSound}
use Rattle.proxy_history.specs.Adding.{AreAsked}
use Rattle.proxy_history.proofs.Lists.{Contains-nil, Contains-cons_cases}
use Rattle.proxy_history.proofs.Walk.{was_asked}
use Rattle.proxy_solo.specs.Part.{as_sent, request_if, sent_by}
use Rattle.proxy_solo.proofs.Placed.{forwarded_in_use}
use Rattle.mbim_proxy.specs.Setup.{Setup, the_space}
use Rattle.mbim_proxy.specs.Forwarding.{own_open, wire, wire_of, has_room, number_for}
use Rattle.mbim_proxy.specs.History.{mbim_protocol}
use Rattle.mbim_proxy.proofs.Verdicts.{given_if}
use Rattle.mbim_proxy.proofs.Walk.{Asks}
use Rattle.mbim_solo.proofs.Relation.{IsRoomy}

-- ---- a number that is given ----

following_within : (top n : ℕ) → 1 ≤ top → following top n ≤ top
following_within top n some =
    let step : (b : Bool) → nat_lt n top ≡ b → (if b then n + 1 else 1) ≤ top =
    λ b. elim b as (λ b. nat_lt n top ≡ b → (if b then n + 1 else 1) ≤ top) [ true ↦ λ e. grind (arith, nat_tests, e) | false ↦ λ e. some ]
    in step (nat_lt n top) refl

free_within : (steps top : ℕ) (used : List ℕ) (n : ℕ) → 1 ≤ top → n ≤ top → free_from steps top used n ≤ top
unfolding free_from
free_within zero top used n some within = within
free_within (suc steps) top used n some within =
    elim (contains n used) as (λ b. elim b [ true ↦ free_from steps top used (following top n) | false ↦ n ] ≤ top) [
      | true ↦ free_within steps top used (following top n) some (following_within top n some)
      | false ↦ within
    ]

some_is : {A : Type 0} (o : Option A) → is_some o ≡ true → (x : A) × (o ≡ Some x)
some_is None e = absurd (let clash : false ≡ true = e in cc)
some_is (Some x) e = (x, refl)

module _ (s : Setup) (roomy : IsRoomy s) where
  -- it is one of the space
  pub next_within : (past : List Fact) (n : ℕ) → next_number (s.limits.in_use the_space) (s.limits.top the_space) the_space past ≡ Some n → n ≤ s.limits.top the_space
  next_within past n found =
      let top : ℕ = s.limits.top the_space in
      let some : 1 ≤ top = omega (arith, roomy.some, roomy.enough the_space) in
      let used : List ℕ = numbers_in_use the_space past in
      let is = (given_if (nat_lt (length used) (s.limits.in_use the_space)) _ n found).1 in
      let same : free_from (length used) top used (following top (last_number the_space past)) ≡ n = cc in
      subst (λ (x : ℕ). x ≤ top) same (free_within (length used) top used (following top (last_number the_space past)) some (following_within top (last_number the_space past) some))

  pub number_within : (m : List ℕ) (past : List Fact) (n : ℕ) → number_for s m past ≡ Some n → n ≤ s.limits.top the_space
  number_within m past n given = next_within past n (given_if (has_room s m past) _ n given).1

  -- where there is room and not all numbers are in use
  finds_number : (m : List ℕ) (past : List Fact) → length (modem_queue (wire s) past) + length (wire_of s 0 m) ≤ s.limits.modem_outbox → length (numbers_in_use the_space past) < s.limits.in_use the_space → is_some (number_for s m past) ≡ true
  finds_number m past room few =
      let fits : has_room s m past ≡ true = grind (arith, nat_tests, room) in
      let free : nat_lt (length (numbers_in_use the_space past)) (s.limits.in_use the_space) ≡ true = grind (arith, nat_tests, few) in
      ap (λ (b : Bool). is_some (if b then next_number (s.limits.in_use the_space) (s.limits.top the_space) the_space past else None)) fits
      ∙ ap (λ (b : Bool). is_some (if b then Some (free_from (length (numbers_in_use the_space past)) (s.limits.top the_space) (numbers_in_use the_space past) (following (s.limits.top the_space) (last_number the_space past))) else None)) free

  -- for the proxy's own request to open there is one where nothing waits and none is in use
  pub opens_under : (own : List Fact) → modem_queue (wire s) own ≡ [] → in_use own ≡ [] → (n : ℕ) × (number_for s (own_open s) own ≡ Some n)
  opens_under own empty none =
      let queued : length (modem_queue (wire s) own) ≡ 0 = ap length empty in
      let used : length (numbers_in_use the_space own) ≡ 0 = ap (λ (l : List Request). length (numbers_of (of_space the_space l))) none in
      some_is (number_for s (own_open s) own) (finds_number (own_open s) own (omega (arith, queued, roomy.room)) (omega (arith, used, roomy.some)))

  -- ---- a command of the client ----

  module _ (c : ℕ) where
    all_sent : (requests : List Request) → AllByRecursion (λ r. (r.conn == c) ≡ true) requests → length (sent_by c requests) ≡ length requests
    all_sent [] all = refl
    all_sent (r ∷ requests) all = ap (λ (b : Bool). length (request_if b (as_sent r) (sent_by c requests))) all.0 ∙ ap suc (all_sent requests all.1)

    used_few : (requests : List Request) → length (numbers_of (of_space the_space requests)) ≤ length requests
    used_few [] = omega arith
    used_few (r ∷ requests) =
        let rest = used_few requests in
        elim (r.space == the_space) as (λ b. length (numbers_of (cond b (r ∷ of_space the_space requests) (of_space the_space requests))) ≤ suc (length requests)) [ true ↦ omega (arith, rest) | false ↦ omega (arith, rest) ]

    sent_few : (requests : List Request) → AllByRecursion (λ r. r.space ≡ the_space) requests → length (sent_by c requests) ≤ length (numbers_of (of_space the_space requests))
    sent_few [] all = omega arith
    sent_few (r ∷ requests) all =
        let rest = sent_few requests all.1 in
        let here : (r.space == the_space) ≡ true = ap (λ (x : ℕ). x == the_space) all.0 in
        subst (λ (b : Bool). length (request_if (r.conn == c) (as_sent r) (sent_by c requests)) ≤ length (numbers_of (cond b (r ∷ of_space the_space requests) (of_space the_space requests)))) (sym here)
        (elim (r.conn == c) as (λ b. length (request_if b (as_sent r) (sent_by c requests)) ≤ suc (length (numbers_of (of_space the_space requests)))) [ true ↦ omega (arith, rest) | false ↦ omega (arith, rest) ])

    in_the_space : (past : List Fact) (requests : List Request) → AreAsked (mbim_protocol s) (Asks s) past → AllByRecursion (λ q. Contains past (Forwarded q)) requests → AllByRecursion (λ r. r.space ≡ the_space) requests
    in_the_space past [] asked all = tt
    in_the_space past (r ∷ requests) asked all = ((was_asked (mbim_protocol s) (Asks s) past r asked all.0).1.space, in_the_space past requests asked all.1)

    -- where all have a number for it, the client has one alone
    pub goes_under : (m : List ℕ) (past own : List Fact) (n : ℕ) → AreAsked (mbim_protocol s) (Asks s) past → sent_by c (in_use past) ≡ sent_by c (in_use own) → AllByRecursion (λ r. (r.conn == c) ≡ true) (in_use own) → modem_queue (wire s) own ≡ []
        → number_for s m past ≡ Some n → (k : ℕ) × (number_for s m own ≡ Some k)
    goes_under m past own n asked same mine empty given =
        let both = given_if (has_room s m past) _ n given in
        let room : length (modem_queue (wire s) past) + length (wire_of s 0 m) ≤ s.limits.modem_outbox = grind (arith, nat_tests, both.0) in
        let free = (given_if (nat_lt (length (numbers_in_use the_space past)) (s.limits.in_use the_space)) _ n both.1).0 in
        let few : length (numbers_in_use the_space past) < s.limits.in_use the_space = grind (arith, nat_tests, free) in
        let queued : length (modem_queue (wire s) own) ≡ 0 = ap length empty in
        let fewer = sent_few (in_use past) (in_the_space past (in_use past) asked (forwarded_in_use past)) in
        let as_many = ap length same ∙ all_sent (in_use own) mine in
        some_is (number_for s m own) (finds_number m own (omega (arith, queued, room)) (omega (arith, few, fewer, as_many, used_few (in_use own))))

-- ---- deadlines ----

module _ (s : Setup) where
  later_too : (time later limit : ℕ) → time ≤ later → deadline_of time limit ≤ deadline_of later limit
  later_too time later limit less = omega (arith, less)

  -- none lies further ahead than that of a request which is forwarded now
  pub deadline_within : (past : List Fact) (r : Request) → IsSound s.limits past → AreAsked (mbim_protocol s) (Asks s) past → Contains past (Forwarded r) → r.deadline ≤ deadline_of (now past) s.time_limit
  unfolding now
  deadline_within [] r sound asked at = absurd (Contains-nil (Forwarded r) at)
  deadline_within (Forwarded q ∷ past) r sound asked at =
      ⊎_elim
      (λ (is : Forwarded q ≡ Forwarded r). let same : q ≡ r = cc in subst (λ (x : Request). x.deadline ≤ deadline_of (now past) s.time_limit) same (let is_so = asked.0.1.deadline in omega (arith, is_so)))
      (λ (old : Contains past (Forwarded r)). deadline_within past r sound.1 asked.1 old)
      (Contains-cons_cases (Forwarded r) (Forwarded q) past at)
  deadline_within (TimeIs time ∷ past) r sound asked at =
      ⊎_elim
      (λ (is : TimeIs time ≡ Forwarded r). absurd (cc))
      (λ (old : Contains past (Forwarded r)). let before = deadline_within past r sound.1 asked.1 old in let less = later_too (now past) time s.time_limit sound.0 in omega (arith, before, less))
      (Contains-cons_cases (Forwarded r) (TimeIs time) past at)
  deadline_within (fact ∷ past) r sound asked at =
      ⊎_elim
      (λ (is : fact ≡ Forwarded r). absurd (cc))
      (λ (old : Contains past (Forwarded r)). deadline_within past r sound.1 asked.1 old)
      (Contains-cons_cases (Forwarded r) fact past at)
