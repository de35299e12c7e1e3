-- A history stays regular from fact to fact.
use Rattle.std.proofs.Common.{◌≡◌, ℕ, ◌+◌, ◌≤◌, Bool, true, false, not, ◌||◌, ◌==◌, nat_lt, List, [], ◌∷◌, ◌++◌, length, filter, refl, ap, sym, ◌∙◌, subst, arith, if◌then◌else◌, Contains, ⊎_elim, inl, inr}
use Rattle.std.specs.List.{AllByRecursion}
use Rattle.std.proofs.lemmas.Bool.Decides.{nat_tests}
use Rattle.std.proofs.lemmas.Bool.{not-true}
use Rattle.std.proofs.lemmas.List.{length-append, length-drop}
use Rattle.std.proofs.lemmas.List.Elements.{All-contains, All-from_recursion}
use Rattle.kit_bytes.proofs.Lists.{all_weaker, all_passing, all_filter, all_push}
use Rattle.proxy_history.specs.Events.{Event, Joined, ModemTook}
use Rattle.proxy_history.specs.Items.{Item}
use Rattle.proxy_history.specs.Facts.{Fact, Request, EventBegan, NotAdmitted, BadStream, NoRoom, Leaving, Admitted, Ended, Judged, Taken, Forwarded, Answered, IdHeld, Late, Expired, Aborted, Indicated, OpeningEnded, SessionsClosed, Reset, ModemLost, ModemTaken, Verdict}
use Rattle.proxy_history.specs.Connections.{present, dropped, contains}
use Rattle.proxy_history.specs.Requests.{in_use, pending}
use Rattle.proxy_history.specs.Modem.{to_modem, modem_taken_count}
use Rattle.proxy_history.specs.Sound.{MayFollow, begins_anew}
use Rattle.proxy_history.specs.View.{Entry, Said, Response, Refused, Indication, OpenedWith, Shut, Taking, End, HeldId, NoAnswer, view, entry_if, said_at, said_count}
use Rattle.proxy_history.specs.Noting.{join}
use Rattle.proxy_history.specs.History as proxy
use Rattle.proxy_history.specs.Coming.{AreSound}
use Rattle.proxy_history.specs.Adding.{MayAsk}
use Rattle.proxy_history.proofs.Walk as walk
use Rattle.proxy_history.proofs.Coming.{new_names, lets_in_or_drains, joins_or_modem_takes, new_alone, is_joining_or_modems, other_items, nothing_new_at_end}
use Rattle.proxy_history.proofs.Lists.{ne_apart}
use Rattle.proxy_history.proofs.Nobody.{IsNamed, still_no_client, still_never_dropped}
use Rattle.proxy_history.proofs.Numbers.{contains_other}
use Rattle.qmi_proxy.specs.Setup.{Setup}
use Rattle.qmi_proxy.specs.Limits.{connection_limit, qmi_limits}
use Rattle.qmi_proxy.specs.Text.{view_of, blank}
use Rattle.qmi_proxy.specs.Clients.{wire}
use Rattle.qmi_proxy.specs.History.{qmi_protocol, add_all, history}
use Rattle.qmi_proxy.specs.Regular.{IsPlaced, IsSent, IsAsked, Regular}
use Rattle.qmi_proxy.proofs.Walk.{Asks, orderly}

-- ---- the messages that a client sent ----

-- the same messages were sent
record SentSame (later earlier : List Entry) : Type 0 where
  count : said_count later ≡ said_count earlier
  at : (place : ℕ) → said_at place later ≡ said_at place earlier

same_view : (entries : List Entry) → SentSame entries entries
same_view entries = record { count = refl; at = λ place. refl }

-- an entry that is no message of the client
entry_same : (b : Bool) (entry : Entry) (entries : List Entry) → SentSame (entry ∷ entries) entries → SentSame (entry_if b entry entries) entries
entry_same true entry entries same = same
entry_same false entry entries same = same_view entries

not_anew : (b : Bool) (fresh entries : List Entry) → b ≡ false → SentSame (if b then fresh else entries) entries
not_anew true fresh entries none = absurd (cc)
not_anew false fresh entries none = same_view entries

is_judged : Fact → Bool
is_judged (Judged c place m verdict) = true
is_judged _ = false

sent_same : (c : ℕ) (fact : Fact) (past : List Fact) → begins_anew c fact ≡ false → is_judged fact ≡ false → SentSame (view_of c (fact ∷ past)) (view_of c past)
unfolding view is_judged
sent_same c (Admitted d) past old other = not_anew (d == c) [] (view_of c past) old
sent_same c (Ended d NotAdmitted) past old other = not_anew (d == c) (End NotAdmitted ∷ []) (view_of c past) old
sent_same c (Ended d BadStream) past old other = entry_same (d == c) (End BadStream) (view_of c past) (record { count = refl; at = λ place. refl })
sent_same c (Ended d Leaving) past old other = entry_same (d == c) (End Leaving) (view_of c past) (record { count = refl; at = λ place. refl })
sent_same c (Judged d place m verdict) past old other = absurd (cc)
sent_same c (Taken d count) past old other = entry_same (d == c) (Taking count) (view_of c past) (record { count = refl; at = λ place. refl })
sent_same c (Answered r m) past old other = entry_same (r.conn == c) (Response r.place (blank m)) (view_of c past) (record { count = refl; at = λ place. refl })
sent_same c (IdHeld r) past old other = entry_same (r.conn == c) (Refused r.place HeldId) (view_of c past) (record { count = refl; at = λ place. refl })
sent_same c (Expired r) past old other = entry_same (r.conn == c) (Refused r.place NoAnswer) (view_of c past) (record { count = refl; at = λ place. refl })
sent_same c (Aborted r) past old other = entry_same (r.conn == c) (Refused r.place NoAnswer) (view_of c past) (record { count = refl; at = λ place. refl })
sent_same c (Indicated m receivers) past old other = entry_same (contains c receivers) (Indication m) (view_of c past) (record { count = refl; at = λ place. refl })
sent_same c (OpeningEnded status receivers) past old other = entry_same (contains c receivers) (OpenedWith status) (view_of c past) (record { count = refl; at = λ place. refl })
sent_same c (SessionsClosed receivers) past old other = entry_same (contains c receivers) Shut (view_of c past) (record { count = refl; at = λ place. refl })
sent_same c _ past old other = same_view (view_of c past)

-- ---- requests whose senders still wait ----

asked_as : (later earlier : List Fact) (r : Request) → contains r.conn (present later) ≡ true → SentSame (view_of r.conn later) (view_of r.conn earlier) → IsSent earlier r → IsSent later r
asked_as later earlier r there same asked = (there, subst (λ (n : ℕ). r.place ≤ n) (sym same.count) asked.1, same.at r.place ∙ asked.2)

-- what was sent before a message is sent at its place still
sent_before : (place : ℕ) (m : List ℕ) (verdict : Verdict) (entries : List Entry) → place ≤ said_count entries → said_at place (Said m verdict ∷ entries) ≡ said_at place entries
sent_before place m verdict entries within =
    let other : (said_count entries + 1 == place) ≡ false = grind (arith, nat_tests, within) in
    ap (λ (b : Bool). if b then m else said_at place entries) other

-- the messages that a client had sent when it sent this one
asked_behind : (there : Bool) (place : ℕ) (message m : List ℕ) (verdict : Verdict) (b : Bool) (entries : List Entry) → (there ≡ true) × (place ≤ said_count entries) × (said_at place entries ≡ message)
    → (there ≡ true) × (place ≤ said_count (entry_if b (Said m verdict) entries)) × (said_at place (entry_if b (Said m verdict) entries) ≡ message)
asked_behind there place message m verdict true entries asked = (asked.0, let within = asked.1 in omega arith, sent_before place m verdict entries asked.1 ∙ asked.2)
asked_behind there place message m verdict false entries asked = asked

-- who is let in wasn't there, neither it nor one that is refused is the proxy itself, and the modem took no more than waited
abbrev pub IsNew : Fact → List Fact → Type 0
IsNew (Admitted c) past = (1 ≤ c) × (contains c (present past) ≡ false)
IsNew (Ended c NotAdmitted) past = 1 ≤ c
IsNew (ModemTaken count) past = modem_taken_count past + count ≤ length (to_modem wire past)
IsNew _ past = Unit {0}

named : (fact : Fact) (past : List Fact) → IsNew fact past → IsNamed fact
named (Admitted c) past new = new.0
named (Ended c NotAdmitted) past new = new
named _ past new = tt

joined_still : (c d : ℕ) (xs : List ℕ) → contains c xs ≡ true → contains c (xs ++ d ∷ []) ≡ true
joined_still c d [] there = absurd (cc)
joined_still c d (x ∷ xs) there =
    let step : (b : Bool) → (b || contains c xs) ≡ true → (b || contains c (xs ++ d ∷ [])) ≡ true =
    λ b. elim b as (λ b. (b || contains c xs) ≡ true → (b || contains c (xs ++ d ∷ [])) ≡ true) [ true ↦ λ e. refl | false ↦ λ e. joined_still c d xs e ]
    in step (c == x) there

-- the fact doesn't end its sender
spares : ℕ → Fact → Bool
spares c (Ended d why) = not (d == c)
spares c _ = true

still_sent : (fact : Fact) (past : List Fact) (r : Request) → IsNew fact past → spares r.conn fact ≡ true → IsSent past r → IsSent (fact ∷ past) r
unfolding present view is_judged spares
still_sent (Admitted d) past r new spared asked =
    asked_as (Admitted d ∷ past) past r (joined_still r.conn d (present past) asked.0) (sent_same r.conn (Admitted d) past (let other = ne_apart r.conn d (present past) asked.0 new.1 in grind (arith, nat_tests, other)) refl) asked
still_sent (Ended d NotAdmitted) past r new spared asked =
    let other = not-true (d == r.conn) spared in asked_as (Ended d NotAdmitted ∷ past) past r (contains_other d r.conn (present past) other ∙ asked.0) (sent_same r.conn (Ended d NotAdmitted) past other refl) asked
still_sent (Ended d BadStream) past r new spared asked =
    let other = not-true (d == r.conn) spared in asked_as (Ended d BadStream ∷ past) past r (contains_other d r.conn (present past) other ∙ asked.0) (sent_same r.conn (Ended d BadStream) past refl refl) asked
still_sent (Ended d NoRoom) past r new spared asked =
    let other = not-true (d == r.conn) spared in asked_as (Ended d NoRoom ∷ past) past r (contains_other d r.conn (present past) other ∙ asked.0) (sent_same r.conn (Ended d NoRoom) past refl refl) asked
still_sent (Ended d Leaving) past r new spared asked =
    let other = not-true (d == r.conn) spared in asked_as (Ended d Leaving ∷ past) past r (contains_other d r.conn (present past) other ∙ asked.0) (sent_same r.conn (Ended d Leaving) past refl refl) asked
still_sent (Judged d place m verdict) past r new spared asked = asked_behind (contains r.conn (present past)) r.place r.message m verdict (d == r.conn) (view_of r.conn past) asked
still_sent fact past r new spared asked = asked_as (fact ∷ past) past r asked.0 (sent_same r.conn fact past refl refl) asked

still_asked : (fact : Fact) (past : List Fact) (r : Request) → IsNew fact past → spares r.conn fact ≡ true → IsAsked past r → IsAsked (fact ∷ past) r
still_asked fact past r new spared asked = ⊎_elim (λ sent. inl (still_sent fact past r new spared sent)) (λ own. inr own) asked

-- a request that is forwarded is the sender's
abbrev pub IsPut : Fact → List Fact → Type 0
IsPut (Forwarded r) past = IsPlaced r × IsAsked past r
IsPut _ past = Unit {0}

placed_more : (fact : Fact) (past : List Fact) → IsPut fact past → AllByRecursion IsPlaced (in_use past) → AllByRecursion IsPlaced (in_use (fact ∷ past))
unfolding in_use
placed_more (Forwarded r) past asked all = all_push IsPlaced (in_use past) r all asked.0
placed_more (Answered r m) past asked all = all_filter IsPlaced (λ (q : Request). not (r.serial == q.serial)) (in_use past) all
placed_more (IdHeld r) past asked all = all_filter IsPlaced (λ (q : Request). not (r.serial == q.serial)) (in_use past) all
placed_more (Late r) past asked all = all_filter IsPlaced (λ (q : Request). not (r.serial == q.serial)) (in_use past) all
placed_more Reset past asked all = tt
placed_more ModemLost past asked all = tt
placed_more _ past asked all = all

-- of those that wait, those that pass
passing : (p : Request → Bool) (fact : Fact) (past : List Fact) → IsNew fact past → ((c : ℕ) → spares c fact ≡ true) → AllByRecursion (IsAsked past) (pending past) → AllByRecursion (IsAsked (fact ∷ past)) (filter p (pending past))
passing p fact past new spared all = all_passing p (IsAsked past) (IsAsked (fact ∷ past)) (λ r passes asked. still_asked fact past r new (spared r.conn) asked) (pending past) all

asked_more : (fact : Fact) (past : List Fact) → IsPut fact past → IsNew fact past → AllByRecursion (IsAsked past) (pending past) → AllByRecursion (IsAsked (fact ∷ past)) (pending (fact ∷ past))
unfolding pending present view spares
asked_more (Forwarded r) past asked new all = all_push (IsAsked past) (pending past) r all asked.1
asked_more (Answered r m) past asked new all = passing (λ (q : Request). not (r.serial == q.serial)) (Answered r m) past new (λ c. refl) all
asked_more (IdHeld r) past asked new all = passing (λ (q : Request). not (r.serial == q.serial)) (IdHeld r) past new (λ c. refl) all
asked_more (Late r) past asked new all = passing (λ (q : Request). not (r.serial == q.serial)) (Late r) past new (λ c. refl) all
asked_more (Expired r) past asked new all = passing (λ (q : Request). not (r.serial == q.serial)) (Expired r) past new (λ c. refl) all
asked_more (Aborted r) past asked new all = passing (λ (q : Request). not (r.serial == q.serial)) (Aborted r) past new (λ c. refl) all
asked_more (Ended d why) past asked new all =
    all_passing (λ (q : Request). not (d == q.conn)) (IsAsked past) (IsAsked (Ended d why ∷ past)) (λ r other held. still_asked (Ended d why) past r new other held) (pending past) all
asked_more Reset past asked new all = tt
asked_more ModemLost past asked new all = tt
asked_more fact past asked new all = all_weaker (IsAsked past) (IsAsked (fact ∷ past)) (λ r held. still_asked fact past r new refl held) (pending past) all

taken_more : (fact : Fact) (past : List Fact) → IsNew fact past → modem_taken_count past ≤ length (to_modem wire past) → modem_taken_count (fact ∷ past) ≤ length (to_modem wire (fact ∷ past))
unfolding to_modem modem_taken_count
taken_more (Forwarded r) past new within = let both = length-append (to_modem wire past) (wire r) in omega arith
taken_more (ModemTaken count) past new within = new
taken_more ModemLost past new within = omega arith
taken_more _ past new within = within

pub regular_more : (fact : Fact) (past : List Fact) → MayFollow qmi_limits fact past → IsPut fact past → IsNew fact past → Regular past → Regular (fact ∷ past)
regular_more fact past follows asked new R = record {
  sound = (follows, R.sound);
  placed = placed_more fact past asked R.placed;
  asked = asked_more fact past asked new R.asked;
  was_taken = taken_more fact past new R.was_taken;
  nobody = still_no_client fact past (named fact past new) R.nobody;
  never = still_never_dropped qmi_limits fact past follows (named fact past new) R.nobody R.never;
}

pub asked_of_pending : (past : List Fact) (r : Request) → Regular past → Contains (pending past) r → IsAsked past r
asked_of_pending past r R at = All-contains (IsAsked past) (pending past) r (All-from_recursion (IsAsked past) (pending past) R.asked) at

-- ---- whole histories ----

put_rightly : (s : Setup) (fact : Fact) (past : List Fact) → MayAsk (qmi_protocol s) (Asks s) fact past → IsPut fact past
put_rightly s (Forwarded r) past asked =
    ⊎_elim
    (λ newest.
    let place = newest.place in
    let deadline = newest.deadline in
    ((newest.space, omega arith), inl (newest.sender, omega arith, newest.message)))
    (λ own. let deadline = own.deadline in ((own.space, omega arith), inr own.sender)) asked.1
put_rightly s _ past asked = tt

nothing_new : (fact : Fact) (past : List Fact) → lets_in_or_drains fact ≡ false → IsNew fact past
nothing_new (Admitted c) past other = absurd (cc)
nothing_new (Ended c NotAdmitted) past other = absurd (cc)
nothing_new (ModemTaken count) past other = absurd (cc)
nothing_new _ past other = tt

module _ (s : Setup) where
  pub regular_begun : (past : List Fact) → Regular past → Regular (EventBegan ∷ past)
  regular_begun past R = regular_more EventBegan past tt tt tt R

  -- items that let nobody in, and of which none is a taking of the modem
  pub regular_items : (items : List Item) (past : List Fact) → AllByRecursion (λ item. joins_or_modem_takes item ≡ false) items → Regular past → Regular (add_all s items past)
  regular_items items past others R =
      walk.kept_by_items (qmi_protocol s) (Asks s) (orderly s) Regular (λ item. joins_or_modem_takes item ≡ false)
      (λ item other fact before follows may asked held. regular_more fact before follows (put_rightly s fact before asked) (nothing_new fact before (new_alone item fact before other may)) held)
      items past others R.sound R

  regular_event : (event : Event) (events : List Event) → is_joining_or_modems event ≡ false → Regular (history s events) → Regular (history s (event ∷ events))
  regular_event event events other R =
      walk.kept_by_event (qmi_protocol s) (Asks s) (orderly s) Regular event
      (λ item of fact past follows may asked held. regular_more fact past follows (put_rightly s fact past asked) (nothing_new fact past (new_alone item fact past (other_items event item other of) may)) held)
      (λ fact past follows may asked held. regular_more fact past follows (put_rightly s fact past asked) (nothing_new fact past (nothing_new_at_end fact past may)) held)
      events (regular_begun (history s events) R)

  regular_join : (past : List Fact) (c : ℕ) → 1 ≤ c → contains c (present past) ≡ false → Regular past → Regular (join qmi_limits c past)
  regular_join past c some new R = by (nat_lt (length (present past)) connection_limit) refl
    where
      by : (b : Bool) → nat_lt (length (present past)) connection_limit ≡ b → Regular (let after : List Fact = if b then Admitted c ∷ past else Ended c NotAdmitted ∷ past in after)
      by true room = regular_more (Admitted c) past (grind (arith, nat_tests, room)) tt (some, new) R
      by false full = regular_more (Ended c NotAdmitted) past (grind (arith, nat_tests, full)) tt some R

  pub histories_are_regular : (events : List Event) → AreSound (qmi_protocol s) events → Regular (history s events)
  unfolding proxy.history proxy.add_all in_use pending present dropped modem_taken_count to_modem
  histories_are_regular [] sound = record { sound = tt; placed = tt; asked = tt; was_taken = omega arith; nobody = refl; never = refl }
  histories_are_regular (Joined c ∷ events) sound =
      regular_join (EventBegan ∷ history s events) c (let above = sound.0 in omega arith) (new_names (qmi_protocol s) (Asks s) (orderly s) events c sound.0) (regular_begun (history s events) (histories_are_regular events sound.1))
  histories_are_regular (ModemTook count ∷ events) sound =
      let R = histories_are_regular events sound.1 in
      let left = length-drop (modem_taken_count (history s events)) (to_modem wire (history s events)) in
      regular_more (ModemTaken count) (EventBegan ∷ history s events) tt tt (let some = sound.0 in let within = R.was_taken in omega arith) (regular_begun (history s events) R)
  histories_are_regular (event ∷ events) sound = regular_event event events refl (histories_are_regular events sound.1)
