-- What holds of every sound history.
use Rattle.std.proofs.Common.{◌≡◌, ◌≢◌, ℕ, zero, ◌<◌, ◌≤◌, Bool, true, false, not, cond, ◌||◌, ◌==◌, if◌then◌else◌, List, [], ◌∷◌, ◌++◌, length, get_or, refl, ap, sym, ◌∙◌, ⊎_elim, arith, All, Contains, filter, subst, Option, Some, None, IsSomeAnd, nat_lt, AllPairs}
use Rattle.std.proofs.lemmas.Bool.Decides.{nat_tests}
use Rattle.std.proofs.lemmas.List.Elements.{All-nil, All-cons, All-head, All-tail, All-filter, All-weaker, All-push, All-contains, filter_passes, Contains-get_or}
use Rattle.std.proofs.lemmas.List.Kept.{AllPairs-filter}
use Rattle.std.proofs.lemmas.List.Quantifiers.{all_pairs_push}
use Rattle.std.proofs.lemmas.Bool.{or_left, or_right, not-true}
use Rattle.proxy_history.specs.Limits.{Limits}
use Rattle.proxy_history.specs.Facts.{Why, NotAdmitted, BadStream, NoRoom, Leaving, Fact, Request, Admitted, Ended, Judged, Taken, Forwarded, Answered, IdHeld, Late, Expired, Aborted, Indicated, OpeningEnded, SessionsClosed, Granted, Freed, Reset, ModemLost}
use Rattle.proxy_history.specs.Connections.{contains, without, present, is_present}
use Rattle.proxy_history.specs.Requests.{in_use, pending, number_after, last_number, of_space, numbers_of, numbers_in_use, following}
use Rattle.proxy_history.specs.ClientIds.{Grant, held, is_of}
use Rattle.proxy_history.specs.View.{Entry, Said, Response, Refused, Indication, OpenedWith, Shut, Taking, End, HeldId, NoAnswer, view, entry_if}
use Rattle.proxy_history.specs.Laws.{IsFirstFree}
use Rattle.proxy_history.specs.Sound.{IsPresent, IsParty, IsSound, Differ, begins_anew, is_end, HasNoEnd, EndsWithItsEnd}
use Rattle.proxy_history.proofs.Lists.{Contains-nil, Contains-cons, Contains-cons_cases}
use Rattle.proxy_history.proofs.Numbers.{number_after-free, number_after-none, contains_other}
use Rattle.proxy_history.proofs.Sound.{contains-without_self, serial_within, forwarded_from_in_use, next_of}

-- ---- lists of names ----

pub contains-append : (x : ℕ) (xs ys : List ℕ) → contains x (xs ++ ys) ≡ (contains x xs || contains x ys)
contains-append x [] ys = refl
contains-append x (y ∷ xs) ys = elim (x == y) as (λ b. (b || contains x (xs ++ ys)) ≡ ((b || contains x xs) || contains x ys)) [ true ↦ refl | false ↦ contains-append x xs ys ]

pub either_both : {X : Type 0} (P Q R : X → Type 0) (xs : List X) → ((x : X) → P x → Q x → R x) → All P xs → All Q xs → All R xs
either_both P Q R xs f a b k d lt = f (get_or xs k d) (a k d lt) (b k d lt)

-- ---- who was there before a connection joined or ended ----

pub left_is_absent : (c d : ℕ) (past : List Fact) → (d == c) ≡ true → contains c (without d (present past)) ≡ false
left_is_absent c d past e = let same : d ≡ c = grind (arith, nat_tests, e) in subst (λ (x : ℕ). contains x (without d (present past)) ≡ false) same (contains-without_self d (present past))

pub stayed_was_there : (c d : ℕ) (past : List Fact) → contains c (without d (present past)) ≡ true → is_present c past ≡ true
stayed_was_there c d past is =
    let step : (b : Bool) → (d == c) ≡ b → is_present c past ≡ true =
    λ b. elim b as (λ b. (d == c) ≡ b → is_present c past ≡ true) [
      | true ↦ λ e. absurd (let clash : true ≡ false = sym is ∙ left_is_absent c d past e in cc)
      | false ↦ λ e. sym (contains_other d c (present past) e) ∙ is
    ]
    in step (d == c) refl

pub joined_was_there : (c d : ℕ) (past : List Fact) → (d == c) ≡ false → contains c (present past ++ d ∷ []) ≡ true → is_present c past ≡ true
joined_was_there c d past other is =
    let turned : (c == d) ≡ false = grind (arith, nat_tests, other) in
    let split : (is_present c past || (c == d || false)) ≡ true = sym (contains-append c (present past) (d ∷ [])) ∙ is in
    let old : (is_present c past || false) ≡ true = subst (λ (b : Bool). (is_present c past || (b || false)) ≡ true) turned split in
    elim (is_present c past) as (λ b. (b || false) ≡ true → b ≡ true) [ true ↦ λ e. refl | false ↦ λ e. e ] old

-- ---- who is a party ----

party_joins : (c d : ℕ) (past : List Fact) → IsParty d past → IsParty d (Admitted c ∷ past)
unfolding present
party_joins c d past party =
    let more = contains-append d (present past) (c ∷ []) in
    elim (d == 0) as (λ b. (b || contains d (present past)) ≡ true → (b || contains d (present past ++ c ∷ [])) ≡ true) [
      | true ↦ λ e. refl
      | false ↦ λ e. more ∙ or_left (contains d (present past)) (contains d (c ∷ [])) e
    ] party

party_leaves : (c d : ℕ) (why : Why) (past : List Fact) → IsParty d past → not (c == d) ≡ true → IsParty d (Ended c why ∷ past)
unfolding present
party_leaves c d why past party other =
    let differs : (c == d) ≡ false = not-true (c == d) other in
    ap (λ (b : Bool). d == 0 || b) (contains_other c d (present past) differs) ∙ party

module _ (limits : Limits) where
  abbrev Sound : List Fact → Type 0
  Sound past = IsSound limits past

  pub waiting_are_parties : (facts : List Fact) → Sound facts → All (λ r. IsParty r.conn facts) (pending facts)
  unfolding pending present
  waiting_are_parties [] s = All-nil (λ (r : Request). IsParty r.conn [])
  waiting_are_parties (Admitted c ∷ past) s = All-weaker (λ (r : Request). IsParty r.conn past) (λ (r : Request). IsParty r.conn (Admitted c ∷ past)) (λ r p. party_joins c r.conn past p) (pending past) (waiting_are_parties past s.1)
  waiting_are_parties (Ended c why ∷ past) s =
      either_both (λ (r : Request). IsParty r.conn past) (λ (r : Request). not (c == r.conn) ≡ true) (λ (r : Request). IsParty r.conn (Ended c why ∷ past)) (filter (λ q. not (c == q.conn)) (pending past))
      (λ r p e. party_leaves c r.conn why past p e)
      (All-filter (λ q. not (c == q.conn)) (λ (r : Request). IsParty r.conn past) (pending past) (waiting_are_parties past s.1))
      (filter_passes (λ q. not (c == q.conn)) (pending past))
  waiting_are_parties (Forwarded r ∷ past) s = All-push (λ (q : Request). IsParty q.conn past) (pending past) r (waiting_are_parties past s.1) (next_of limits r past s).sender
  waiting_are_parties (Answered r message ∷ past) s = All-filter _ (λ (q : Request). IsParty q.conn past) (pending past) (waiting_are_parties past s.1)
  waiting_are_parties (IdHeld r ∷ past) s = All-filter _ (λ (q : Request). IsParty q.conn past) (pending past) (waiting_are_parties past s.1)
  waiting_are_parties (Late r ∷ past) s = All-filter _ (λ (q : Request). IsParty q.conn past) (pending past) (waiting_are_parties past s.1)
  waiting_are_parties (Expired r ∷ past) s = All-filter _ (λ (q : Request). IsParty q.conn past) (pending past) (waiting_are_parties past s.1)
  waiting_are_parties (Aborted r ∷ past) s = All-filter _ (λ (q : Request). IsParty q.conn past) (pending past) (waiting_are_parties past s.1)
  waiting_are_parties (Reset ∷ past) s = All-nil (λ (r : Request). IsParty r.conn past)
  waiting_are_parties (ModemLost ∷ past) s = All-nil (λ (r : Request). IsParty r.conn past)
  waiting_are_parties (_ ∷ past) s = waiting_are_parties past s.1

  pub holders_are_parties : (facts : List Fact) → Sound facts → All (λ g. IsParty g.conn facts) (held facts)
  unfolding held present
  holders_are_parties [] s = All-nil (λ (g : Grant). IsParty g.conn [])
  holders_are_parties (Admitted c ∷ past) s = All-weaker (λ (g : Grant). IsParty g.conn past) (λ (g : Grant). IsParty g.conn (Admitted c ∷ past)) (λ g p. party_joins c g.conn past p) (held past) (holders_are_parties past s.1)
  holders_are_parties (Ended c why ∷ past) s =
      either_both (λ (g : Grant). IsParty g.conn past) (λ (g : Grant). not (c == g.conn) ≡ true) (λ (g : Grant). IsParty g.conn (Ended c why ∷ past)) (filter (λ g. not (c == g.conn)) (held past))
      (λ g p e. party_leaves c g.conn why past p e)
      (All-filter (λ g. not (c == g.conn)) (λ (g : Grant). IsParty g.conn past) (held past) (holders_are_parties past s.1))
      (filter_passes (λ g. not (c == g.conn)) (held past))
  holders_are_parties (Granted c service cid ∷ past) s =
      All-push (λ (g : Grant). IsParty g.conn past) (filter (λ g. not (is_of service cid g)) (held past)) (record { conn = c; service = service; cid = cid })
      (All-filter (λ g. not (is_of service cid g)) (λ (g : Grant). IsParty g.conn past) (held past) (holders_are_parties past s.1)) s.0.0
  holders_are_parties (Freed c service cid ∷ past) s = All-filter _ (λ (g : Grant). IsParty g.conn past) (held past) (holders_are_parties past s.1)
  holders_are_parties (Reset ∷ past) s = All-nil (λ (g : Grant). IsParty g.conn past)
  holders_are_parties (ModemLost ∷ past) s = All-nil (λ (g : Grant). IsParty g.conn past)
  holders_are_parties (_ ∷ past) s = holders_are_parties past s.1

  -- ---- transaction numbers ----

  -- a number that was found is free
  found_is_free : (low high last : ℕ) (used : List ℕ) (n : ℕ) → low ≤ high → last ≤ high → number_after low high last used ≡ Some n → IsFirstFree high (following high last) used n
  found_is_free low high last used n within below found =
      let Is : Option ℕ → Type 0 = λ o. IsSomeAnd o (IsFirstFree high (following high last) used) in
      let step : (b : Bool) → nat_lt (length used) low ≡ b → IsFirstFree high (following high last) used n =
      λ b. elim b as (λ b. nat_lt (length used) low ≡ b → IsFirstFree high (following high last) used n) [
        | true ↦ λ e. let few : length used < low = grind (arith, nat_tests, e) in subst Is found (number_after-free low high last used within below few)
        | false ↦ λ e. let full : low ≤ length used = grind (arith, nat_tests, e) in let clash : None ≡ Some n = sym (number_after-none low high last used full) ∙ found in absurd (cc)
      ]
      in step (nat_lt (length used) low) refl

  module _ (within : (space : ℕ) → limits.in_use space ≤ limits.top space) where
    last_within : (facts : List Fact) (space : ℕ) → Sound facts → last_number space facts ≤ limits.top space
    unfolding last_number
    last_within [] space s = omega arith
    last_within (Forwarded r ∷ past) space s =
        let free = found_is_free (limits.in_use r.space) (limits.top r.space) (last_number r.space past) (numbers_in_use r.space past) r.number (within r.space) (last_within past r.space s.1) (next_of limits r past s).number in
        let step : (b : Bool) → (r.space == space) ≡ b → (if b then r.number else last_number space past) ≤ limits.top space =
        λ b. elim b as (λ b. (r.space == space) ≡ b → (if b then r.number else last_number space past) ≤ limits.top space) [
          | true ↦ λ e. let same : r.space ≡ space = grind (arith, nat_tests, e) in subst (λ (x : ℕ). r.number ≤ limits.top x) same free.to_top
          | false ↦ λ e. last_within past space s.1
        ]
        in step (r.space == space) refl
    last_within (_ ∷ past) space s = last_within past space s.1

    free_of : (r : Request) (past : List Fact) → Sound (Forwarded r ∷ past) → IsFirstFree (limits.top r.space) (following (limits.top r.space) (last_number r.space past)) (numbers_in_use r.space past) r.number
    free_of r past s = found_is_free (limits.in_use r.space) (limits.top r.space) (last_number r.space past) (numbers_in_use r.space past) r.number (within r.space) (last_within past r.space s.1) (next_of limits r past s).number

    number_contained : (requests : List Request) (q : Request) (space : ℕ) → Contains requests q → q.space ≡ space → contains q.number (numbers_of (of_space space requests)) ≡ true
    number_contained [] q space at same = absurd (Contains-nil q at)
    number_contained (r ∷ requests) q space at same =
        let Goal : Bool → Type 0 = λ b. contains q.number (numbers_of (cond b (r ∷ of_space space requests) (of_space space requests))) ≡ true in
        let step : (b : Bool) → (r.space == space) ≡ b → Goal b =
        λ b. elim b as (λ b. (r.space == space) ≡ b → Goal b) [
          | true ↦ λ e. ⊎_elim
              (λ (is : r ≡ q). let self : (q.number == r.number) ≡ true = let same : q.number ≡ r.number = ap (λ (x : Request). x.number) (sym is) in grind (arith, nat_tests) in ap (λ (b : Bool). b || contains q.number (numbers_of (of_space space requests))) self)
              (λ (old : Contains requests q). or_right (q.number == r.number) _ (number_contained requests q space old same))
              (Contains-cons_cases q r requests at)
          | false ↦ λ e. ⊎_elim
              (λ (is : r ≡ q). let here : r.space ≡ space = ap (λ (x : Request). x.space) is ∙ same in let clash : (r.space == space) ≡ true = grind (arith, nat_tests, here) in let no : true ≡ false = sym clash ∙ e in absurd (cc))
              (λ (old : Contains requests q). number_contained requests q space old same)
              (Contains-cons_cases q r requests at)
        ]
        in step (r.space == space) refl

    differs_from_next : (r : Request) (past : List Fact) → Sound (Forwarded r ∷ past) → (q : Request) → Contains (in_use past) q → Differ q r
    differs_from_next r past s q at =
        let low = serial_within limits past q s.1 (forwarded_from_in_use past q at) in
        let next = (next_of limits r past s).serial in
        let free = (free_of r past s).unused in (
          λ same. omega arith,
          λ space number. let used = number_contained (in_use past) q r.space at space in let clash : true ≡ false = sym used ∙ ap (λ (n : ℕ). contains n (numbers_in_use r.space past)) number ∙ free in cc,
        )

    pub in_use_differ : (facts : List Fact) → Sound facts → AllPairs Differ (in_use facts)
    unfolding in_use
    in_use_differ [] s = λ i j d lt inside. absurd (omega arith)
    in_use_differ (Forwarded r ∷ past) s = all_pairs_push Differ (in_use past) r (in_use_differ past s.1) (λ k d lt. differs_from_next r past s (get_or (in_use past) k d) (Contains-get_or (in_use past) k d lt))
    in_use_differ (Answered r message ∷ past) s = AllPairs-filter Differ _ (in_use past) (in_use_differ past s.1)
    in_use_differ (IdHeld r ∷ past) s = AllPairs-filter Differ _ (in_use past) (in_use_differ past s.1)
    in_use_differ (Late r ∷ past) s = AllPairs-filter Differ _ (in_use past) (in_use_differ past s.1)
    in_use_differ (Reset ∷ past) s = λ i j d lt inside. absurd (omega arith)
    in_use_differ (ModemLost ∷ past) s = λ i j d lt inside. absurd (omega arith)
    in_use_differ (_ ∷ past) s = in_use_differ past s.1

  -- ---- views of connections that ended ----

  -- a party isn't a connection that is gone
  party_is_other : (c d : ℕ) (past : List Fact) → c ≢ 0 → is_present c past ≡ false → IsParty d past → (d == c) ≡ false
  party_is_other c d past some gone party =
      let step : (b : Bool) → (d == c) ≡ b → b ≡ false =
      λ b. elim b as (λ b. (d == c) ≡ b → b ≡ false) [
        | true ↦ λ e.
            let same : d ≡ c = grind (arith, nat_tests, e) in
            let zero_not : (c == 0) ≡ false = grind (arith, nat_tests, some) in
            let is : (c == 0 || is_present c past) ≡ true = subst (λ (x : ℕ). IsParty x past) same party in
            let isnt : (c == 0 || is_present c past) ≡ false = ap (λ (x : Bool). x || is_present c past) zero_not ∙ gone in
            absurd (let clash : true ≡ false = sym is ∙ isnt in cc)
        | false ↦ λ e. refl
      ]
      in step (d == c) refl

  contained_is : (x : ℕ) (xs : List ℕ) → contains x xs ≡ true → Contains xs x
  contained_is x [] e = absurd (cc)
  contained_is x (y ∷ xs) e =
      let step : (b : Bool) → (x == y) ≡ b → (b || contains x xs) ≡ true → Contains (y ∷ xs) x =
      λ b. elim b as (λ b. (x == y) ≡ b → (b || contains x xs) ≡ true → Contains (y ∷ xs) x) [
        | true ↦ λ is has. let same : y ≡ x = grind (arith, nat_tests, is) in (zero, omega arith, same)
        | false ↦ λ is has. Contains-cons x y xs (contained_is x xs has)
      ]
      in step (x == y) refl e

  gone_is_no_receiver : (c : ℕ) (past : List Fact) (receivers : List ℕ) → is_present c past ≡ false → All (λ d. IsPresent d past) receivers → contains c receivers ≡ false
  gone_is_no_receiver c past receivers gone all =
      let step : (b : Bool) → contains c receivers ≡ b → b ≡ false =
      λ b. elim b as (λ b. contains c receivers ≡ b → b ≡ false) [
        | true ↦ λ e. let there = All-contains (λ (d : ℕ). IsPresent d past) receivers c all (contained_is c receivers e) in absurd (let clash : true ≡ false = sym there ∙ gone in cc)
        | false ↦ λ e. refl
      ]
      in step (contains c receivers) refl

  module _ (blank : List ℕ → List ℕ) (c : ℕ) (some : c ≢ 0) where
    -- the view stays, and the connection stays gone
    Stays : Fact → List Fact → Type 0
    Stays fact past = (view blank c (fact ∷ past) ≡ view blank c past) × (is_present c (fact ∷ past) ≡ false)

    no_entry : (b : Bool) (entry : Entry) (entries : List Entry) → b ≡ false → entry_if b entry entries ≡ entries
    no_entry true entry entries e = absurd (cc)
    no_entry false entry entries e = refl

    leaves_gone : (d : ℕ) (past : List Fact) → is_present c past ≡ false → contains c (without d (present past)) ≡ false
    leaves_gone d past gone =
        let step : (b : Bool) → (d == c) ≡ b → contains c (without d (present past)) ≡ false =
        λ b. elim b as (λ b. (d == c) ≡ b → contains c (without d (present past)) ≡ false) [
          | true ↦ λ e. let same : d ≡ c = grind (arith, nat_tests, e) in subst (λ (x : ℕ). contains x (without d (present past)) ≡ false) same (contains-without_self d (present past))
          | false ↦ λ e. contains_other d c (present past) e ∙ gone
        ]
        in step (d == c) refl

    joins_gone : (d : ℕ) (past : List Fact) → is_present c past ≡ false → (d == c) ≡ false → contains c (present past ++ d ∷ []) ≡ false
    joins_gone d past gone other =
        contains-append c (present past) (d ∷ [])
        ∙ ap (λ (b : Bool). b || (c == d || false)) gone
        ∙ (let turned : (c == d) ≡ false = grind (arith, nat_tests, other) in ap (λ (b : Bool). b || false) turned)

    -- a request's sender isn't gone
    waits_elsewhere : (r : Request) (past : List Fact) → Sound past → is_present c past ≡ false → Contains (pending past) r → (r.conn == c) ≡ false
    waits_elsewhere r past s gone at = party_is_other c r.conn past some gone (All-contains (λ (q : Request). IsParty q.conn past) (pending past) r (waiting_are_parties past s) at)

    present_elsewhere : (d : ℕ) (past : List Fact) → is_present c past ≡ false → IsPresent d past → (d == c) ≡ false
    present_elsewhere d past gone there = party_is_other c d past some gone (or_right (d == 0) (is_present d past) there)

    stays_gone : (fact : Fact) (past : List Fact) → Sound (fact ∷ past) → is_present c past ≡ false → begins_anew c fact ≡ false → Stays fact past
    unfolding Stays view present
    stays_gone (Admitted d) past s gone other = (ap (λ (b : Bool). if b then [] else view blank c past) other, joins_gone d past gone other)
    stays_gone (Ended d NotAdmitted) past s gone other = (ap (λ (b : Bool). if b then End NotAdmitted ∷ [] else view blank c past) other, leaves_gone d past gone)
    stays_gone (Ended d BadStream) past s gone other = (no_entry (d == c) _ _ (present_elsewhere d past gone s.0), leaves_gone d past gone)
    stays_gone (Ended d Leaving) past s gone other = (no_entry (d == c) _ _ (present_elsewhere d past gone s.0), leaves_gone d past gone)
    stays_gone (Ended d NoRoom) past s gone other = (refl, leaves_gone d past gone)
    stays_gone (Judged d place message verdict) past s gone other = (no_entry (d == c) _ _ (present_elsewhere d past gone s.0), gone)
    stays_gone (Taken d count) past s gone other = (no_entry (d == c) _ _ (present_elsewhere d past gone s.0), gone)
    stays_gone (Answered r message) past s gone other = (no_entry (r.conn == c) _ _ (waits_elsewhere r past s.1 gone s.0), gone)
    stays_gone (IdHeld r) past s gone other = (no_entry (r.conn == c) _ _ (waits_elsewhere r past s.1 gone s.0), gone)
    stays_gone (Expired r) past s gone other = (no_entry (r.conn == c) _ _ (waits_elsewhere r past s.1 gone s.0), gone)
    stays_gone (Aborted r) past s gone other = (no_entry (r.conn == c) _ _ (waits_elsewhere r past s.1 gone s.0), gone)
    stays_gone (Indicated message receivers) past s gone other = (no_entry (contains c receivers) _ _ (gone_is_no_receiver c past receivers gone s.0), gone)
    stays_gone (OpeningEnded status receivers) past s gone other = (no_entry (contains c receivers) _ _ (gone_is_no_receiver c past receivers gone s.0), gone)
    stays_gone (SessionsClosed receivers) past s gone other = (no_entry (contains c receivers) _ _ (gone_is_no_receiver c past receivers gone s.0), gone)
    stays_gone _ past s gone other = (refl, gone)

    ended_is_gone : (why : Why) (past : List Fact) → is_present c (Ended c why ∷ past) ≡ false
    unfolding present
    ended_is_gone why past = contains-without_self c (present past)

    all_stays : (later : List Fact) (past : List Fact) → is_present c past ≡ false → Sound (later ++ past) → All (λ fact. begins_anew c fact ≡ false) later
        → (view blank c (later ++ past) ≡ view blank c past) × (is_present c (later ++ past) ≡ false)
    unfolding Stays
    all_stays [] past gone s none = (refl, gone)
    all_stays (fact ∷ later) past gone s none =
        let rest = all_stays later past gone s.1 (All-tail (λ f. begins_anew c f ≡ false) fact later none) in
        let here = stays_gone fact (later ++ past) s rest.1 (All-head (λ f. begins_anew c f ≡ false) fact later none) in
        (here.0 ∙ rest.0, here.1)

    pub gone_view_stays : (why : Why) (later earlier : List Fact) → Sound (later ++ Ended c why ∷ earlier) → All (λ fact. begins_anew c fact ≡ false) later
        → view blank c (later ++ Ended c why ∷ earlier) ≡ view blank c (Ended c why ∷ earlier)
    gone_view_stays why later earlier s none = (all_stays later (Ended c why ∷ earlier) (ended_is_gone why earlier) s none).0

    -- ---- the end is the last entry ----

    -- the view has its end last, and none while the connection is there
    EndsWell : List Fact → Type 0
    EndsWell facts = EndsWithItsEnd (view blank c facts) × (is_present c facts ≡ true → HasNoEnd (view blank c facts))

    party_is_present : (d : ℕ) (past : List Fact) → IsParty d past → (d == c) ≡ true → is_present c past ≡ true
    party_is_present d past party e =
        let same : d ≡ c = grind (arith, nat_tests, e) in
        let zero_not : (c == 0) ≡ false = grind (arith, nat_tests, some) in
        sym (ap (λ (x : Bool). x || is_present c past) zero_not) ∙ subst (λ (x : ℕ). IsParty x past) same party

    waits_here : (r : Request) (past : List Fact) → Sound past → Contains (pending past) r → (r.conn == c) ≡ true → is_present c past ≡ true
    waits_here r past s at e = party_is_present r.conn past (All-contains (λ (q : Request). IsParty q.conn past) (pending past) r (waiting_are_parties past s) at) e

    present_here : (d : ℕ) (past : List Fact) → IsPresent d past → (d == c) ≡ true → is_present c past ≡ true
    present_here d past there e = party_is_present d past (or_right (d == 0) (is_present d past) there) e

    receives_here : (past : List Fact) (receivers : List ℕ) → All (λ d. IsPresent d past) receivers → contains c receivers ≡ true → is_present c past ≡ true
    receives_here past receivers all e = All-contains (λ (d : ℕ). IsPresent d past) receivers c all (contained_is c receivers e)

    -- an entry other than an end, for a connection that is there
    grows_well : (b present : Bool) (entry : Entry) (entries : List Entry) → is_end entry ≡ false → (b ≡ true → present ≡ true)
        → EndsWithItsEnd entries × (present ≡ true → HasNoEnd entries)
        → EndsWithItsEnd (entry_if b entry entries) × (present ≡ true → HasNoEnd (entry_if b entry entries))
    grows_well true present entry entries no_end there well = (well.1 (there refl), λ is. All-cons (λ e. is_end e ≡ false) entry entries no_end (well.1 is))
    grows_well false present entry entries no_end there well = well

    -- the end of a connection that was there
    ends_well : (b present after : Bool) (entry : Entry) (entries : List Entry) → (b ≡ true → present ≡ true) → (b ≡ true → after ≡ false) → (after ≡ true → present ≡ true)
        → EndsWithItsEnd entries × (present ≡ true → HasNoEnd entries)
        → EndsWithItsEnd (entry_if b entry entries) × (after ≡ true → HasNoEnd (entry_if b entry entries))
    ends_well true present after entry entries there gone before well = (well.1 (there refl), λ is. absurd (let clash : true ≡ false = sym is ∙ gone refl in cc))
    ends_well false present after entry entries there gone before well = (well.0, λ is. well.1 (before is))

    -- a view that begins anew
    begins_well : (b after : Bool) (fresh entries : List Entry) → EndsWithItsEnd fresh → (b ≡ true → after ≡ true → HasNoEnd fresh)
        → EndsWithItsEnd entries → (b ≡ false → after ≡ true → HasNoEnd entries)
        → EndsWithItsEnd (if b then fresh else entries) × (after ≡ true → HasNoEnd (if b then fresh else entries))
    begins_well true after fresh entries well no_end old old_end = (well, no_end refl)
    begins_well false after fresh entries well no_end old old_end = (old, old_end refl)

    fact_ends_well : (fact : Fact) (past : List Fact) → Sound (fact ∷ past) → EndsWell past → EndsWell (fact ∷ past)
    unfolding EndsWell view present
    fact_ends_well (Admitted d) past s well = begins_well (d == c) _ [] (view blank c past) tt (λ e is. All-nil (λ (x : Entry). is_end x ≡ false)) well.0 (λ e is. well.1 (joined_was_there c d past e is))
    fact_ends_well (Ended d NotAdmitted) past s well =
        begins_well (d == c) _ (End NotAdmitted ∷ []) (view blank c past) (All-nil (λ (x : Entry). is_end x ≡ false))
        (λ e is. absurd (let clash : true ≡ false = sym is ∙ left_is_absent c d past e in cc)) well.0 (λ e is. well.1 (stayed_was_there c d past is))
    fact_ends_well (Ended d BadStream) past s well = ends_well (d == c) (is_present c past) _ (End BadStream) (view blank c past) (present_here d past s.0) (left_is_absent c d past) (stayed_was_there c d past) well
    fact_ends_well (Ended d Leaving) past s well = ends_well (d == c) (is_present c past) _ (End Leaving) (view blank c past) (present_here d past s.0) (left_is_absent c d past) (stayed_was_there c d past) well
    fact_ends_well (Ended d NoRoom) past s well = (well.0, λ is. well.1 (stayed_was_there c d past is))
    fact_ends_well (Judged d place message verdict) past s well = grows_well (d == c) (is_present c past) (Said message verdict) (view blank c past) refl (present_here d past s.0) well
    fact_ends_well (Taken d count) past s well = grows_well (d == c) (is_present c past) (Taking count) (view blank c past) refl (present_here d past s.0) well
    fact_ends_well (Answered r message) past s well = grows_well (r.conn == c) (is_present c past) (Response r.place (blank message)) (view blank c past) refl (waits_here r past s.1 s.0) well
    fact_ends_well (IdHeld r) past s well = grows_well (r.conn == c) (is_present c past) (Refused r.place HeldId) (view blank c past) refl (waits_here r past s.1 s.0) well
    fact_ends_well (Expired r) past s well = grows_well (r.conn == c) (is_present c past) (Refused r.place NoAnswer) (view blank c past) refl (waits_here r past s.1 s.0) well
    fact_ends_well (Aborted r) past s well = grows_well (r.conn == c) (is_present c past) (Refused r.place NoAnswer) (view blank c past) refl (waits_here r past s.1 s.0) well
    fact_ends_well (Indicated message receivers) past s well = grows_well (contains c receivers) (is_present c past) (Indication message) (view blank c past) refl (receives_here past receivers s.0) well
    fact_ends_well (OpeningEnded status receivers) past s well = grows_well (contains c receivers) (is_present c past) (OpenedWith status) (view blank c past) refl (receives_here past receivers s.0) well
    fact_ends_well (SessionsClosed receivers) past s well = grows_well (contains c receivers) (is_present c past) Shut (view blank c past) refl (receives_here past receivers s.0) well
    fact_ends_well _ past s well = well

    all_end_well : (facts : List Fact) → Sound facts → EndsWell facts
    unfolding EndsWell view
    all_end_well [] s = (tt, λ is. All-nil (λ (x : Entry). is_end x ≡ false))
    all_end_well (fact ∷ past) s = fact_ends_well fact past s (all_end_well past s.1)

    pub ends_are_last : (facts : List Fact) → Sound facts → EndsWithItsEnd (view blank c facts)
    unfolding EndsWell
    ends_are_last facts s = (all_end_well facts s).0
