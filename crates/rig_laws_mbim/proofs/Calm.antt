-- What holds of a rig's facts at every moment, and how each fact keeps it. Lists of facts have the newest first.
use Rattle.std.proofs.Common.{◌≡◌, ℕ, ◌+◌, ◌<◌, ◌≤◌, ◌⊎◌, zero, suc, inl, inr, ⊎_elim, Bool, true, false, not, ◌&&◌, ◌||◌, ◌==◌, is_none, is_some, if◌then◌else◌, List, [], ◌∷◌, ◌++◌, length, drop, filter, cond, map, Option, Some, None, refl, ap, sym, ◌∙◌, arith, subst, append_assoc, append-nil, length-append}
use Rattle.std.specs.List.{range_with_len, flat_map, list_any, AllByRecursion}
use Rattle.std.proofs.lemmas.Bool.{eq-eqb}
use Rattle.std.proofs.lemmas.Bool.Decides.{nat_tests}
use Rattle.std.proofs.Math.Seq.{drop-append_seam}
use Rattle.kit_bytes.specs.declared.services.TheConstants.{BASIC_CONNECT, SMS, USSD, PHONEBOOK, STK}
use Rattle.kit_bytes.specs.Subscriptions.{Pair, merge, normal_form, ordered_pairs, pairs_with, is_beside_all}
use Rattle.kit_bytes.specs.Services.{starting_list}
use Rattle.proxy_history.specs.Facts.{Fact, Request, Verdict, EventBegan, Own, Ready, Waits, Admitted, Judged, Taken, Forwarded, Answered, Late, Expired, OpeningEnded, ModemTaken, TimeIs}
use Rattle.proxy_history.specs.Connections.{contains, present, message_count}
use Rattle.proxy_history.specs.Requests.{in_use, pending, without_request}
use Rattle.proxy_history.specs.Modem.{to_modem, modem_taken_count, modem_queue}
use Rattle.proxy_history.specs.View.{Entry, Said, Response, Refused, OpenedWith, Taking, NoAnswer, entry_if, view}
use Rattle.proxy_history.specs.Wording.{told_by}
use Rattle.mbim_proxy.specs.Known.{Known}
use Rattle.mbim_proxy.specs.OwnReplies.{OwnReply}
use Rattle.mbim_proxy.specs.Step.{blank, view_of, known_from, known_now, with_message, with_reply}
use Rattle.mbim_proxy.specs.Step as step
use Rattle.mbim_proxy.specs.ModemStates.{ModemState, IsAway, IsShut, IsOpening, IsReady, is_own_open, is_own, is_ready, state}
use Rattle.mbim_proxy.specs.Lists.{open_ones, list_of, merged, last_list}
use Rattle.mbim_proxy.specs.Forwarding.{wire}
use Rattle.mbim_proxy.specs.OwnList.{finish}
use Rattle.mbim_solo.proofs.Wanting.{busy_none, asked_none, finish_none}
use Rattle.rig_runs.specs.Mbim.{setup}
use Rattle.rig_runs.specs.MbimExamples.{configuration, open_2}
use Rattle.rig_laws.proofs.Lists.{range-more, in_range}
use Rattle.rig_laws_mbim.proofs.Harmless.{IsHarmless, AreHarmless, IsSteady, steady, configuration_is_answered}

-- so many clients joined, the first of them named the device, and the first of those are open
pub record Progress : Type 0 where
  pub joined : ℕ
  pub configured : ℕ
  pub opened : ℕ
  pub modem : ModemState
  -- the number of the request to open that waits
  pub waiting : ℕ → Option ℕ

abbrev pub nobody_waits : ℕ → Option ℕ
nobody_waits c = None

abbrev pub first_waits : ℕ → Option ℕ
first_waits c = if c == 1 then Some 2 else None

abbrev pub shut : (joined configured : ℕ) → Progress
shut joined configured = record { joined = joined; configured = configured; opened = 0; modem = IsShut; waiting = nobody_waits }

abbrev pub opening : (joined : ℕ) → Progress
opening joined = record { joined = joined; configured = 1; opened = 0; modem = IsOpening; waiting = first_waits }

abbrev pub ready : (joined configured opened : ℕ) → Progress
ready joined configured opened = record { joined = joined; configured = configured; opened = opened; modem = IsReady; waiting = nobody_waits }

-- what each client's view tells
pub record Knows (w : Progress) (c : ℕ) (known : Known) : Type 0 where
  pub configured : 1 ≤ c → c ≤ w.configured → known.configured ≡ true
  pub opened : 1 ≤ c → c ≤ w.opened → known.opened ≡ true
  pub waits : known.waits ≡ w.waiting c

-- how many messages each client said
pub record Spoke (w : Progress) (c count : ℕ) : Type 0 where
  pub nothing : w.configured < c → count ≡ 0
  pub once : 1 ≤ c → c ≤ w.configured → w.opened < c → w.waiting c ≡ None → count ≡ 1
  pub waits : is_some (w.waiting c) ≡ true → 2 ≤ count
  pub often : 1 ≤ c → c ≤ w.opened → 2 ≤ count

-- until the modem is open, the requests that are in use wait; then it has the list of each client
abbrev pub Tells : ModemState → ℕ → List Request → List Fact → Type 0
Tells IsReady opened requests past = (1 ≤ opened) × (last_list past ≡ starting_list)
Tells _ opened requests past = pending past ≡ requests

-- these requests are in use, and these bytes wait for the modem
pub record Calm (w : Progress) (requests : List Request) (queue : List ℕ) (past : List Fact) : Type 0 where
  pub there : present past ≡ range_with_len 1 w.joined
  pub order : w.opened ≤ w.joined
  pub named : w.opened ≤ w.configured
  pub harmless : AreHarmless past
  pub knows : (c : ℕ) → Knows w c (known_now setup c past)
  pub spoke : (c : ℕ) → Spoke w c (message_count c past)
  pub state_is : state false past ≡ w.modem
  pub tells : Tells w.modem w.opened requests past
  pub uses : in_use past ≡ requests
  -- what the modem took, and what waits for it
  pub taken : List ℕ
  pub to_it : to_modem (wire setup) past ≡ taken ++ queue
  pub count : modem_taken_count past ≡ length taken

pub queue_is : {w : Progress} {requests : List Request} {queue : List ℕ} {past : List Fact} → Calm w requests queue past → modem_queue (wire setup) past ≡ queue
queue_is {queue = queue} {past = past} calm = ap (drop (modem_taken_count past)) calm.to_it ∙ ap (λ (n : ℕ). drop n (calm.taken ++ queue)) calm.count ∙ drop-append_seam calm.taken queue

-- ---- what entries leave as it is ----

abbrev pub SameFlags : Known → Known → Type 0
SameFlags before after = (after.configured ≡ before.configured) × (after.opened ≡ before.opened) × (after.waits ≡ before.waits)

still : (w : Progress) (c : ℕ) (before after : Known) → SameFlags before after → Knows w c before → Knows w c after
still w c before after same knows = record {
  configured = λ low high. same.0 ∙ knows.configured low high;
  opened = λ low high. same.1 ∙ knows.opened low high;
  waits = same.2 ∙ knows.waits;
}

still_if : (w : Progress) (c : ℕ) (b : Bool) (entry : Entry) (entries : List Entry) → ((known : Known) → SameFlags known (step.step setup known entry)) → Knows w c (known_from setup entries) → Knows w c (known_from setup (entry_if b entry entries))
unfolding told_by
still_if w c true entry entries same knows = still w c (known_from setup entries) (step.step setup (known_from setup entries) entry) (same (known_from setup entries)) knows
still_if w c false entry entries same knows = knows

tells_still : (modem : ModemState) (opened : ℕ) (requests : List Request) (past after : List Fact) → pending after ≡ pending past → last_list after ≡ last_list past → Tells modem opened requests past → Tells modem opened requests after
tells_still IsReady opened requests past after waiting last tells = (tells.0, last ∙ tells.1)
tells_still IsAway opened requests past after waiting last tells = waiting ∙ tells
tells_still IsShut opened requests past after waiting last tells = waiting ∙ tells
tells_still IsOpening opened requests past after waiting last tells = waiting ∙ tells

-- a client that is open asks something
spoke_asking : (w : Progress) (d : ℕ) (b : Bool) (c count : ℕ) → (d == c) ≡ b → d ≤ w.opened → w.opened ≤ w.configured → Spoke w c count → Spoke w c (if b then count + 1 else count)
spoke_asking w d true c count e within named spoke =
    let same : d ≡ c = grind (arith, nat_tests, e) in
    record {
      nothing = λ less. absurd (omega (arith, same, within, named, less));
      once = λ low high less none. absurd (omega (arith, same, within, less));
      waits = λ is. let old = spoke.waits is in omega (arith, old);
      often = λ low high. let old = spoke.often low high in omega (arith, old);
    }
spoke_asking w d false c count e within named spoke = spoke

module _ {w : Progress} {requests : List Request} {queue : List ℕ} {past : List Fact} (calm : Calm w requests queue past) where
  -- ---- facts that change nothing of this ----

  pub begun : Calm w requests queue (EventBegan ∷ past)
  unfolding present message_count in_use pending view to_modem modem_taken_count state last_list
  begun = record {
    there = calm.there;
    order = calm.order;
    named = calm.named;
    spoke = calm.spoke;
    harmless = (tt, calm.harmless);
    knows = calm.knows;
    state_is = calm.state_is;
    tells = tells_still w.modem w.opened requests past (EventBegan ∷ past) refl refl calm.tells;
    uses = calm.uses;
    taken = calm.taken;
    to_it = calm.to_it;
    count = calm.count;
  }

  pub timed : (time : ℕ) → Calm w requests queue (TimeIs time ∷ past)
  unfolding present message_count in_use pending view to_modem modem_taken_count state last_list
  timed time = record {
    there = calm.there;
    order = calm.order;
    named = calm.named;
    spoke = calm.spoke;
    harmless = (tt, calm.harmless);
    knows = calm.knows;
    state_is = calm.state_is;
    tells = tells_still w.modem w.opened requests past (TimeIs time ∷ past) refl refl calm.tells;
    uses = calm.uses;
    taken = calm.taken;
    to_it = calm.to_it;
    count = calm.count;
  }

  pub was_taken : (c count : ℕ) → Calm w requests queue (Taken c count ∷ past)
  unfolding present message_count in_use pending view to_modem modem_taken_count state last_list
  was_taken d count = record {
    there = calm.there;
    order = calm.order;
    named = calm.named;
    spoke = calm.spoke;
    harmless = (tt, calm.harmless);
    knows = λ c. still_if w c (d == c) (Taking count) (view_of c past) (λ known. (refl, refl, refl)) (calm.knows c);
    state_is = calm.state_is;
    tells = tells_still w.modem w.opened requests past (Taken d count ∷ past) refl refl calm.tells;
    uses = calm.uses;
    taken = calm.taken;
    to_it = calm.to_it;
    count = calm.count;
  }

  pub judged : (c place : ℕ) (m : List ℕ) (verdict : Verdict) → c ≤ w.opened → IsHarmless (Judged c place m verdict) past → ((known : Known) → SameFlags known (step.step setup known (Said m verdict))) → Calm w requests queue (Judged c place m verdict ∷ past)
  unfolding present message_count in_use pending view to_modem modem_taken_count state last_list
  judged d place m verdict high harmless same = record {
    there = calm.there;
    order = calm.order;
    named = calm.named;
    spoke = λ c. spoke_asking w d (d == c) c (message_count c past) refl high calm.named (calm.spoke c);
    harmless = (harmless, calm.harmless);
    knows = λ c. still_if w c (d == c) (Said m verdict) (view_of c past) same (calm.knows c);
    state_is = calm.state_is;
    tells = tells_still w.modem w.opened requests past (Judged d place m verdict ∷ past) refl refl calm.tells;
    uses = calm.uses;
    taken = calm.taken;
    to_it = calm.to_it;
    count = calm.count;
  }

  -- ---- the modem takes all that waits ----

  pub modem_taken_all : (count : ℕ) → count ≡ length queue → Calm w requests [] (ModemTaken count ∷ past)
  unfolding present message_count in_use pending view to_modem modem_taken_count state last_list
  modem_taken_all count is = record {
    there = calm.there;
    order = calm.order;
    named = calm.named;
    spoke = calm.spoke;
    harmless = (tt, calm.harmless);
    knows = calm.knows;
    state_is = calm.state_is;
    tells = tells_still w.modem w.opened requests past (ModemTaken count ∷ past) refl refl calm.tells;
    uses = calm.uses;
    taken = calm.taken ++ queue;
    to_it = calm.to_it ∙ sym (append-nil (calm.taken ++ queue));
    count = omega (arith, calm.count, is, length-append calm.taken queue);
  }

-- ---- requests ----

pub knows_answered : {w : Progress} {requests : List Request} {queue : List ℕ} {past : List Fact} → Calm w requests queue past → (r : Request) (m : List ℕ) (c : ℕ) → Knows w c (known_now setup c (Answered r m ∷ past))
unfolding view
knows_answered {w} {past = past} calm r m c = still_if w c (r.conn == c) (Response r.place (blank m)) (view_of c past) (λ known. (refl, refl, refl)) (calm.knows c)

-- ---- requests of an open modem ----

module _ {joined configured opened : ℕ} {requests : List Request} {queue : List ℕ} {past : List Fact} (calm : Calm (ready joined configured opened) requests queue past) where
  pub expired : (r : Request) → Calm (ready joined configured opened) requests queue (Expired r ∷ past)
  unfolding present message_count in_use pending view to_modem modem_taken_count state last_list
  expired r = record {
    there = calm.there;
    order = calm.order;
    named = calm.named;
    spoke = calm.spoke;
    harmless = (tt, calm.harmless);
    knows = λ c. still_if (ready joined configured opened) c (r.conn == c) (Refused r.place NoAnswer) (view_of c past) (λ known. (refl, refl, refl)) (calm.knows c);
    state_is = calm.state_is;
    tells = calm.tells;
    uses = calm.uses;
    taken = calm.taken;
    to_it = calm.to_it;
    count = calm.count;
  }

  pub forwarded : (r : Request) → is_own_open r ≡ false → Calm (ready joined configured opened) (requests ++ r ∷ []) (queue ++ wire setup r) (Forwarded r ∷ past)
  unfolding present message_count in_use pending view to_modem modem_taken_count state last_list
  forwarded r command = record {
    there = calm.there;
    order = calm.order;
    named = calm.named;
    spoke = calm.spoke;
    harmless = (tt, calm.harmless);
    knows = calm.knows;
    state_is = ap (λ (b : Bool). if b then IsOpening else state false past) command ∙ calm.state_is;
    tells = calm.tells;
    uses = ap (λ (l : List Request). l ++ r ∷ []) calm.uses;
    taken = calm.taken;
    to_it = ap (λ (l : List ℕ). l ++ wire setup r) calm.to_it ∙ append_assoc calm.taken queue (wire setup r);
    count = calm.count;
  }

  pub answered : (r : Request) (m : List ℕ) → Calm (ready joined configured opened) (without_request r requests) queue (Answered r m ∷ past)
  unfolding present message_count in_use pending view to_modem modem_taken_count state last_list
  answered r m = record {
    there = calm.there;
    order = calm.order;
    named = calm.named;
    spoke = calm.spoke;
    harmless = (tt, calm.harmless);
    knows = λ c. still_if (ready joined configured opened) c (r.conn == c) (Response r.place (blank m)) (view_of c past) (λ known. (refl, refl, refl)) (calm.knows c);
    state_is = calm.state_is;
    tells = calm.tells;
    uses = ap (without_request r) calm.uses;
    taken = calm.taken;
    to_it = calm.to_it;
    count = calm.count;
  }

  pub late : (r : Request) → Calm (ready joined configured opened) (without_request r requests) queue (Late r ∷ past)
  unfolding present message_count in_use pending view to_modem modem_taken_count state last_list
  late r = record {
    there = calm.there;
    order = calm.order;
    named = calm.named;
    spoke = calm.spoke;
    harmless = (tt, calm.harmless);
    knows = calm.knows;
    state_is = calm.state_is;
    tells = calm.tells;
    uses = ap (without_request r) calm.uses;
    taken = calm.taken;
    to_it = calm.to_it;
    count = calm.count;
  }

-- ---- clients come ----

joined_knows : (w : Progress) (b : Bool) (c : ℕ) (entries : List Entry) → w.configured ≡ 0 → w.opened ≡ 0 → w.waiting c ≡ None → Knows w c (known_from setup entries) → Knows w c (known_from setup (if b then [] else entries))
unfolding told_by
joined_knows w true c entries none_configured none_open none knows = record { configured = λ low high. absurd (omega (arith, low, high, none_configured)); opened = λ low high. absurd (omega (arith, low, high, none_open)); waits = sym none }
joined_knows w false c entries none_configured none_open none knows = knows

spoke_joined : (joined : ℕ) (b : Bool) (c count : ℕ) → Spoke (shut joined 0) c count → Spoke (shut (joined + 1) 0) c (if b then 0 else count)
spoke_joined joined true c count spoke = record { nothing = λ less. refl; once = λ low high less none. absurd (omega (arith, low, high)); waits = λ is. absurd (cc); often = λ low high. absurd (omega (arith, low, high)) }
spoke_joined joined false c count spoke = record { nothing = spoke.nothing; once = spoke.once; waits = spoke.waits; often = spoke.often }

pub admitted : {joined : ℕ} {requests : List Request} {queue : List ℕ} {past : List Fact} → Calm (shut joined 0) requests queue past → Calm (shut (joined + 1) 0) requests queue (Admitted (joined + 1) ∷ past)
unfolding present message_count in_use pending view to_modem modem_taken_count state last_list
admitted {joined} {past = past} calm = record {
  there = ap (λ (l : List ℕ). l ++ (joined + 1) ∷ []) calm.there ∙ range-more 1 joined (joined + 1) (omega arith);
  order = omega arith;
  named = omega arith;
  spoke = λ c. spoke_joined joined (joined + 1 == c) c (message_count c past) (calm.spoke c);
  harmless = (tt, calm.harmless);
  knows = λ c. joined_knows (shut (joined + 1) 0) (joined + 1 == c) c (view_of c past) refl refl refl (record { configured = (calm.knows c).configured; opened = (calm.knows c).opened; waits = (calm.knows c).waits });
  state_is = calm.state_is;
  tells = calm.tells;
  uses = calm.uses;
  taken = calm.taken;
  to_it = calm.to_it;
  count = calm.count;
}

-- ---- a client names the device ----

configured_flags : (known : Known) → IsSteady known → SameFlags (record known { configured = true }) (step.step setup known (Said configuration Own))
configured_flags known is =
    subst (λ (reply : OwnReply). SameFlags (record known { configured = true }) (with_reply reply (with_message setup configuration known))) (sym (configuration_is_answered known is.begun)) (refl, refl, refl)

abbrev pub one_more_configured : Progress → Progress
one_more_configured w = record w { configured = w.configured + 1 }

knows_configured : (w : Progress) (b : Bool) (c : ℕ) (entries : List Entry) → (w.configured + 1 == c) ≡ b → IsSteady (known_from setup entries) → Knows w c (known_from setup entries)
    → Knows (one_more_configured w) c (known_from setup (entry_if b (Said configuration Own) entries))
unfolding told_by
knows_configured w true c entries e is knows =
    let known : Known = known_from setup entries in
    let same = configured_flags known is in
    record { configured = λ low high. same.0; opened = λ low high. same.1 ∙ knows.opened low high; waits = same.2 ∙ knows.waits }
knows_configured w false c entries e is knows =
    record { configured = λ low high. knows.configured low (grind (arith, nat_tests, e)); opened = knows.opened; waits = knows.waits }

spoke_configured : (w : Progress) (b : Bool) (c count : ℕ) → (w.configured + 1 == c) ≡ b → w.opened ≤ w.configured → Spoke w c count → Spoke (one_more_configured w) c (if b then count + 1 else count)
spoke_configured w true c count e named spoke =
    let same : c ≡ w.configured + 1 = grind (arith, nat_tests, e) in
    record {
      nothing = λ less. absurd (omega (arith, same, less));
      once = λ low high less none. let old = spoke.nothing (omega (arith, same)) in omega (arith, old);
      waits = λ is. let old = spoke.waits is in omega (arith, old);
      often = λ low high. let old = spoke.often low high in omega (arith, old);
    }
spoke_configured w false c count e named spoke = record {
  nothing = λ less. spoke.nothing (omega (arith, less));
  once = λ low high less none. spoke.once low (grind (arith, nat_tests, e, high)) less none;
  waits = spoke.waits;
  often = spoke.often;
}

pub judged_configuration : {w : Progress} {requests : List Request} {queue : List ℕ} {past : List Fact} → Calm w requests queue past → (place : ℕ)
    → Calm (one_more_configured w) requests queue (Judged (w.configured + 1) place configuration Own ∷ past)
unfolding present message_count in_use pending view to_modem modem_taken_count state last_list
judged_configuration {w} {requests} {queue} {past} calm place = record {
  there = calm.there;
  order = calm.order;
  named = (let named = calm.named in omega (arith, named));
  spoke = λ c. spoke_configured w (w.configured + 1 == c) c (message_count c past) refl calm.named (calm.spoke c);
  harmless = (refl, calm.harmless);
  knows = λ c. knows_configured w (w.configured + 1 == c) c (view_of c past) refl (steady c past calm.harmless) (calm.knows c);
  state_is = calm.state_is;
  tells = tells_still w.modem w.opened requests past (Judged (w.configured + 1) place configuration Own ∷ past) refl refl calm.tells;
  uses = calm.uses;
  taken = calm.taken;
  to_it = calm.to_it;
  count = calm.count;
}

-- ---- a client finds the modem open ----

knows_opened : (joined configured opened : ℕ) (b : Bool) (c : ℕ) (entries : List Entry) → (opened + 1 == c) ≡ b → Knows (ready joined configured opened) c (known_from setup entries)
    → Knows (ready joined configured (opened + 1)) c (known_from setup (entry_if b (Said open_2 Ready) entries))
unfolding told_by
knows_opened joined configured opened true c entries e knows = record { configured = knows.configured; opened = λ low high. refl; waits = knows.waits }
knows_opened joined configured opened false c entries e knows = record { configured = knows.configured; opened = λ low high. knows.opened low (grind (arith, nat_tests, e)); waits = knows.waits }

spoke_opened : (joined configured opened : ℕ) (b : Bool) (c count : ℕ) → (opened + 1 == c) ≡ b → opened < configured → Spoke (ready joined configured opened) c count → Spoke (ready joined configured (opened + 1)) c (if b then count + 1 else count)
spoke_opened joined configured opened true c count e more spoke =
    let same : c ≡ opened + 1 = grind (arith, nat_tests, e) in
    record {
      nothing = λ less. absurd (omega (arith, same, more, less));
      once = λ low high less none. absurd (omega (arith, same, less));
      waits = λ is. absurd (cc);
      often = λ low high. let old = spoke.once low (omega (arith, same, more)) (omega (arith, same)) refl in omega (arith, old);
    }
spoke_opened joined configured opened false c count e more spoke = record {
  nothing = spoke.nothing;
  once = λ low high less none. spoke.once low high (omega (arith, less)) none;
  waits = spoke.waits;
  often = λ low high. spoke.often low (grind (arith, nat_tests, e, high));
}

pub judged_ready : {joined configured opened : ℕ} {requests : List Request} {queue : List ℕ} {past : List Fact} → Calm (ready joined configured opened) requests queue past → opened < configured → configured ≤ joined → (place : ℕ)
    → Calm (ready joined configured (opened + 1)) requests queue (Judged (opened + 1) place open_2 Ready ∷ past)
unfolding present message_count in_use pending view to_modem modem_taken_count state last_list
judged_ready {joined} {configured} {opened} {past = past} calm more within place = record {
  there = calm.there;
  order = omega (arith, more, within);
  named = omega (arith, more);
  spoke = λ c. spoke_opened joined configured opened (opened + 1 == c) c (message_count c past) refl more (calm.spoke c);
  harmless = (refl, calm.harmless);
  knows = λ c. knows_opened joined configured opened (opened + 1 == c) c (view_of c past) refl (calm.knows c);
  state_is = calm.state_is;
  tells = (omega arith, calm.tells.1);
  uses = calm.uses;
  taken = calm.taken;
  to_it = calm.to_it;
  count = calm.count;
}

-- ---- the first client has the modem opened ----

knows_waiting : (joined : ℕ) (b : Bool) (c : ℕ) (entries : List Entry) → (1 == c) ≡ b → Knows (shut joined 1) c (known_from setup entries) → Knows (opening joined) c (known_from setup (entry_if b (Said open_2 Waits) entries))
unfolding told_by
knows_waiting joined true c entries e knows =
    let same : (c == 1) ≡ true = grind (arith, nat_tests, e) in
    record { configured = knows.configured; opened = λ low high. absurd (omega (arith, low, high)); waits = sym (ap (λ (b : Bool). let o : Option ℕ = if b then Some 2 else None in o) same) }
knows_waiting joined false c entries e knows =
    let other : (c == 1) ≡ false = grind (arith, nat_tests, e) in
    record { configured = knows.configured; opened = knows.opened; waits = knows.waits ∙ sym (ap (λ (b : Bool). let o : Option ℕ = if b then Some 2 else None in o) other) }

waits_if : (b : Bool) → is_some (let o : Option ℕ = if b then Some 2 else None in o) ≡ b
waits_if true = refl
waits_if false = refl

spoke_waiting : (joined : ℕ) (b : Bool) (c count : ℕ) → (1 == c) ≡ b → Spoke (shut joined 1) c count → Spoke (opening joined) c (if b then count + 1 else count)
spoke_waiting joined true c count e spoke =
    let same : c ≡ 1 = grind (arith, nat_tests, e) in
    let first : (c == 1) ≡ true = grind (arith, nat_tests, e) in
    record {
      nothing = λ less. absurd (omega (arith, same, less));
      once = λ low high less none. absurd (let clash : true ≡ false = sym first ∙ sym (waits_if (c == 1)) ∙ ap (λ (o : Option ℕ). is_some o) none in cc);
      waits = λ is. let old = spoke.once (omega (arith, same)) (omega (arith, same)) (omega (arith, same)) refl in omega (arith, old);
      often = λ low high. absurd (omega (arith, low, high));
    }
spoke_waiting joined false c count e spoke =
    let other : (c == 1) ≡ false = grind (arith, nat_tests, e) in
    record {
      nothing = spoke.nothing;
      once = λ low high less none. spoke.once low high less refl;
      waits = λ is. absurd (let clash : true ≡ false = sym is ∙ waits_if (c == 1) ∙ other in cc);
      often = λ low high. absurd (omega (arith, low, high));
    }

pub asks_to_open : {joined : ℕ} {past : List Fact} → Calm (shut joined 1) [] [] past → (place : ℕ) (r : Request) → is_own_open r ≡ true
    → Calm (opening joined) (r ∷ []) (wire setup r) (Forwarded r ∷ Judged 1 place open_2 Waits ∷ past)
unfolding present message_count in_use pending view to_modem modem_taken_count state last_list
asks_to_open {joined} {past} calm place r opens = record {
  there = calm.there;
  order = omega arith;
  named = omega arith;
  spoke = λ c. spoke_waiting joined (1 == c) c (message_count c past) refl (calm.spoke c);
  harmless = (tt, (refl, calm.harmless));
  knows = λ c. knows_waiting joined (1 == c) c (view_of c past) refl (calm.knows c);
  state_is = ap (λ (b : Bool). if b then IsOpening else state false past) opens;
  tells = ap (λ (l : List Request). l ++ r ∷ []) calm.tells;
  uses = ap (λ (l : List Request). l ++ r ∷ []) calm.uses;
  taken = calm.taken;
  to_it = ap (λ (l : List ℕ). l ++ wire setup r) calm.to_it ∙ append_assoc calm.taken [] (wire setup r);
  count = calm.count;
}

knows_told : (joined : ℕ) (b : Bool) (c : ℕ) (entries : List Entry) → (c == 1) ≡ b → Knows (opening joined) c (known_from setup entries) → Knows (ready joined 1 1) c (known_from setup (entry_if b (OpenedWith 0) entries))
unfolding told_by
knows_told joined true c entries e knows = record { configured = knows.configured; opened = λ low high. refl; waits = refl }
knows_told joined false c entries e knows = record {
  configured = knows.configured;
  opened = λ low high. absurd (grind (arith, nat_tests, e, low, high));
  waits = knows.waits ∙ ap (λ (b : Bool). let o : Option ℕ = if b then Some 2 else None in o) e;
}

spoke_told : (joined c count : ℕ) → Spoke (opening joined) c count → Spoke (ready joined 1 1) c count
spoke_told joined c count spoke = record {
  nothing = spoke.nothing;
  once = λ low high less none. absurd (omega (arith, high, less));
  waits = λ is. absurd (cc);
  often = λ low high. let first : (c == 1) ≡ true = grind (arith, nat_tests, low, high) in spoke.waits (waits_if (c == 1) ∙ first);
}

pub opening_ended : {joined : ℕ} {past : List Fact} (r : Request) (m : List ℕ) → Calm (opening joined) (r ∷ []) [] past → 1 ≤ joined → Calm (ready joined 1 1) [] [] (OpeningEnded 0 (1 ∷ []) ∷ Answered r m ∷ past)
unfolding present message_count in_use pending view to_modem modem_taken_count state last_list
opening_ended {joined} {past} r m calm some = record {
  there = calm.there;
  order = some;
  named = omega arith;
  spoke = λ c. spoke_told joined c (message_count c past) (calm.spoke c);
  harmless = (tt, (tt, calm.harmless));
  knows = λ c.
      subst (λ (b : Bool). Knows (ready joined 1 1) c (known_from setup (entry_if b (OpenedWith 0) (entry_if (r.conn == c) (Response r.place (blank m)) (view_of c past))))) (sym (or_none (c == 1)))
      (knows_told joined (c == 1) c (entry_if (r.conn == c) (Response r.place (blank m)) (view_of c past)) refl (knows_answered calm r m c));
  state_is = refl;
  tells = (omega arith, refl);
  uses = ap (without_request r) calm.uses ∙ ap (λ (b : Bool). cond (not b) (r ∷ []) []) (eq-eqb r.serial r.serial refl);
  taken = calm.taken;
  to_it = calm.to_it;
  count = calm.count;
}
  where
    or_none : (b : Bool) → (b || false) ≡ b
    or_none true = refl
    or_none false = refl

-- ---- the proxy asks for no list by itself ----

abbrev lists_of : List Fact → List ℕ → List (List Pair)
lists_of past conns = map (λ c. list_of setup c past) (filter (λ c. (known_now setup c past).opened) conns)

abbrev pairs_of : List Fact → List ℕ → List Pair
pairs_of past conns = flat_map (λ list. list) (lists_of past conns)

abbrev with_start : List Pair → List Pair
with_start pairs = pairs_with (PHONEBOOK, None) (pairs_with (SMS, None) (pairs_with (BASIC_CONNECT, None) (pairs_with (STK, None) (pairs_with (USSD, None) pairs))))

one_list_more : (list : List Pair) (pairs : List Pair) → list ≡ starting_list → (ordered_pairs pairs ≡ []) ⊎ (ordered_pairs pairs ≡ starting_list) → ordered_pairs (list ++ pairs) ≡ starting_list
one_list_more list pairs is rest = ap (λ (l : List Pair). ordered_pairs (l ++ pairs)) is ∙ ⊎_elim (λ (e : ordered_pairs pairs ≡ []). ap with_start e) (λ (e : ordered_pairs pairs ≡ starting_list). ap with_start e) rest

module _ (past : List Fact) (all : AreHarmless past) where
  none_or_start : (conns : List ℕ) → (ordered_pairs (pairs_of past conns) ≡ []) ⊎ (ordered_pairs (pairs_of past conns) ≡ starting_list)
  none_or_start [] = inl refl
  none_or_start (c ∷ conns) =
      elim (known_now setup c past).opened as (λ b. (ordered_pairs (flat_map (λ list. list) (map (λ c. list_of setup c past) (cond b (c ∷ filter (λ c. (known_now setup c past).opened) conns) (filter (λ c. (known_now setup c past).opened) conns)))) ≡ []) ⊎ (ordered_pairs (flat_map (λ list. list) (map (λ c. list_of setup c past) (cond b (c ∷ filter (λ c. (known_now setup c past).opened) conns) (filter (λ c. (known_now setup c past).opened) conns)))) ≡ starting_list)) [
        | true ↦ inr (one_list_more (list_of setup c past) (pairs_of past conns) (steady c past all).list (none_or_start conns))
        | false ↦ none_or_start conns
      ]

  start_in_front : (c : ℕ) (conns : List ℕ) → (known_now setup c past).opened ≡ true → ordered_pairs (pairs_of past (c ∷ conns)) ≡ starting_list
  start_in_front c conns is_open =
      ap (λ (b : Bool). ordered_pairs (flat_map (λ list. list) (map (λ c. list_of setup c past) (cond b (c ∷ filter (λ c. (known_now setup c past).opened) conns) (filter (λ c. (known_now setup c past).opened) conns))))) is_open
      ∙ one_list_more (list_of setup c past) (pairs_of past conns) (steady c past all).list (none_or_start conns)

  none_beside : (pairs : List Pair) → ordered_pairs pairs ≡ starting_list → normal_form pairs ≡ starting_list
  none_beside pairs is = ap (λ (ordered : List Pair). filter (λ pair. not (is_beside_all pairs pair)) ordered) is

  pub merged_is : (joined : ℕ) → present past ≡ range_with_len 1 joined → 1 ≤ joined → (known_now setup 1 past).opened ≡ true → merged setup past ≡ starting_list
  merged_is zero there some is_open = absurd (omega arith)
  merged_is (suc joined) there some is_open =
      ap (λ (conns : List ℕ). merge (lists_of past conns)) there ∙ none_beside (pairs_of past (1 ∷ range_with_len 2 joined)) (start_in_front 1 (range_with_len 2 joined) is_open)

pub finishes : {w : Progress} {requests : List Request} {queue : List ℕ} {past : List Fact} → Calm w requests queue past → finish setup past ≡ past
finishes {w} {requests} {queue} {past} calm = by w.modem calm.state_is calm.tells
  where
    by : (modem : ModemState) → state false past ≡ modem → Tells modem w.opened requests past → finish setup past ≡ past
    by IsReady is tells =
        let all : merged setup past ≡ starting_list = merged_is past calm.harmless w.joined calm.there (let order = calm.order in omega (arith, tells.0, order)) ((calm.knows 1).opened (omega arith) tells.0) in
        finish_none setup past (asked_none setup (merged setup past) past (tells.1 ∙ sym all))
    by IsAway is tells = finish_none setup past (busy_none setup (merged setup past) past (ap (λ (m : ModemState). is_ready m && not (list_any is_own (pending past))) is))
    by IsShut is tells = finish_none setup past (busy_none setup (merged setup past) past (ap (λ (m : ModemState). is_ready m && not (list_any is_own (pending past))) is))
    by IsOpening is tells = finish_none setup past (busy_none setup (merged setup past) past (ap (λ (m : ModemState). is_ready m && not (list_any is_own (pending past))) is))

pub finished : {w : Progress} {requests : List Request} {queue : List ℕ} {past : List Fact} → Calm w requests queue past → Calm w requests queue (finish setup past)
finished {w} {requests} {queue} calm = subst (Calm w requests queue) (sym (finishes calm)) calm

-- ---- before any event ----

pub nobody_yet : Calm (shut 0 0) [] [] []
unfolding present message_count in_use pending view to_modem modem_taken_count state last_list told_by
nobody_yet = record {
  there = refl;
  order = omega arith;
  named = omega arith;
  spoke = λ c. record { nothing = λ less. refl; once = λ low high less none. absurd (omega (arith, low, high)); waits = λ is. absurd (cc); often = λ low high. absurd (omega (arith, low, high)) };
  harmless = tt;
  knows = λ c. record { configured = λ low high. absurd (omega (arith, low, high)); opened = λ low high. absurd (omega (arith, low, high)); waits = refl };
  state_is = refl;
  tells = refl;
  uses = refl;
  taken = [];
  to_it = refl;
  count = refl;
}
