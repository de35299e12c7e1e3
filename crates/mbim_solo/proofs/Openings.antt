-- What the modem's state tells of the requests that wait and of the clients stays so, whatever is added to a history.
use Rattle.std.proofs.Common.{◌≡◌, ℕ, Bool, true, false, not, cond, ◌&&◌, ◌||◌, ◌==◌, is_some, if◌then◌else◌, List, [], ◌∷◌, ◌++◌, filter, refl, ap, sym, ◌∙◌, subst, ⊎_elim, Contains, Option, Some, None}
use Rattle.std.specs.List.{list_any}
use Rattle.std.proofs.lemmas.Bool.{eqb-true}
use Rattle.mbim_frame.specs.declared.status.TheConstants.{SUCCESS}
use Rattle.mbim_frame.specs.Fragment.{body_of}
use Rattle.mbim_frame.specs.Bodies.{uuid_of, cid_of}
use Rattle.proxy_history.specs.Facts.{Fact, Request, Why, Verdict, Own, Share, Foreign, Away, Full, Forward, Ready, Waits, NotAdmitted, BadStream, NoRoom, Leaving, Ended, Judged, Forwarded, Answered, Late, Indicated, Stray, OpeningEnded}
use Rattle.proxy_history.specs.Connections.{contains, present, is_present}
use Rattle.proxy_history.specs.Requests.{in_use, pending, has_request, is_pending, without_request}
use Rattle.proxy_history.specs.Modem.{is_away}
use Rattle.proxy_history.specs.View.{Entry, Said, Response, Refused, Indication, OpenedWith, End, NoAnswer, entry_if, view}
use Rattle.proxy_history.specs.Wording.{told_by}
use Rattle.proxy_history.specs.Noting.{rendering, receivers_of, end_overfull}
use Rattle.proxy_history.specs.Sound.{IsSound}
use Rattle.proxy_history.proofs.Lists.{Contains-nil, Contains-cons_cases}
use Rattle.proxy_history.proofs.Sound.{kept_by_note, forwarded_from_in_use, waits}
use Rattle.proxy_history.proofs.Found.{found_is}
use Rattle.proxy_solo.proofs.Lists.{self, contains-without}
use Rattle.proxy_solo.proofs.Refusing.{refused}
use Rattle.mbim_proxy.specs.Setup.{Setup}
use Rattle.mbim_proxy.specs.Known.{Known}
use Rattle.mbim_proxy.specs.OwnReplies.{OwnReply, Silent, Wrong, NotOpened, Closes, Refuses, Configures, Subscribes, own_reply}
use Rattle.mbim_proxy.specs.Step.{with_message, blank, view_of, known_from, known_now}
use Rattle.mbim_proxy.specs.Step as step
use Rattle.mbim_proxy.specs.Text.{mbim_wording, note}
use Rattle.mbim_proxy.specs.ModemStates.{ModemState, IsAway, IsShut, IsOpening, IsReady, is_own_open, state}
use Rattle.mbim_proxy.specs.Lists.{waiting, receivers}
use Rattle.mbim_proxy.specs.FromModem.{Heard, IsDone, IsOpenDone, IsError, IsIndication, IsNeither, opening_status, end_opening, is_answered_by, first_answered_by, answer_or_late, respond, hear_as}
use Rattle.mbim_proxy.proofs.Waiting.{waits_is}
use Rattle.mbim_solo.specs.Openings.{WaitFor, MayBeOpen, is_absent, IsInOrder}

-- ---- requests ----

pub any_filter : (test p : Request → Bool) (requests : List Request) → list_any test requests ≡ false → list_any test (filter p requests) ≡ false
any_filter test p [] none = refl
any_filter test p (r ∷ requests) none =
    let step : (b : Bool) → test r ≡ b → (b || list_any test requests) ≡ false → list_any test (cond (p r) (r ∷ filter p requests) (filter p requests)) ≡ false =
    λ b. elim b as (λ b. test r ≡ b → (b || list_any test requests) ≡ false → list_any test (cond (p r) (r ∷ filter p requests) (filter p requests)) ≡ false) [
      | true ↦ λ is h. absurd (cc)
      | false ↦ λ is h. elim (p r) as (λ t. list_any test (cond t (r ∷ filter p requests) (filter p requests)) ≡ false) [
        | true ↦ ap (λ (b : Bool). b || list_any test (filter p requests)) is ∙ any_filter test p requests h
        | false ↦ any_filter test p requests h
      ]
    ]
    in step (test r) refl none

pub any_push : (test : Request → Bool) (requests : List Request) (r : Request) → list_any test requests ≡ false → test r ≡ false → list_any test (requests ++ r ∷ []) ≡ false
any_push test [] r none other = ap (λ (b : Bool). b || false) other
any_push test (q ∷ requests) r none other =
    elim (test q) as (λ b. (b || list_any test requests) ≡ false → (b || list_any test (requests ++ r ∷ [])) ≡ false) [ true ↦ λ e. e | false ↦ λ e. any_push test requests r e other ] none

-- a request that isn't among them goes from none of them
pub none_goes : (r : Request) (requests : List Request) → has_request r requests ≡ false → without_request r requests ≡ requests
none_goes r [] none = refl
none_goes r (q ∷ requests) none =
    elim (r.serial == q.serial) as (λ b. (b || has_request r requests) ≡ false → cond (not b) (q ∷ without_request r requests) (without_request r requests) ≡ q ∷ requests) [
      | true ↦ λ e. absurd (let clash : true ≡ false = e in cc)
      | false ↦ λ e. ap (λ (l : List Request). q ∷ l) (none_goes r requests e)
    ] none

-- the only one goes
pub only_goes : (r q : Request) → has_request r (q ∷ []) ≡ true → without_request r (q ∷ []) ≡ []
only_goes r q has =
    elim (r.serial == q.serial) as (λ b. (b || false) ≡ true → cond (not b) (q ∷ []) [] ≡ []) [ true ↦ λ e. refl | false ↦ λ e. absurd (let clash : false ≡ true = e in cc) ] has

-- ---- what a client's view tells ----

-- what keeps whether it is open, and whether it waits
abbrev pub AsOpen : Known → Known → Type 0
AsOpen before after = (after.opened ≡ before.opened) × (after.waits ≡ before.waits)

as_open : (modem : ModemState) (before after : Known) → AsOpen before after → MayBeOpen modem before → MayBeOpen modem after
as_open IsAway before after same may = (same.0 ∙ may.0, same.1 ∙ may.1)
as_open IsShut before after same may = (same.0 ∙ may.0, same.1 ∙ may.1)
as_open IsOpening before after same may = same.0 ∙ may
as_open IsReady before after same may = same.1 ∙ may

-- one that isn't open and doesn't wait may be so in each state
pub may_be_shut : (modem : ModemState) (known : Known) → known.opened ≡ false → known.waits ≡ None → MayBeOpen modem known
may_be_shut IsAway known shut none = (shut, none)
may_be_shut IsShut known shut none = (shut, none)
may_be_shut IsOpening known shut none = shut
may_be_shut IsReady known shut none = none

module _ (s : Setup) where
  abbrev now_in : List Fact → ModemState
  now_in past = state s.starts_away past

  -- ---- facts of one kind ----

  -- a fact that leaves the state, who is there and which requests wait, and keeps who is open
  pub still : (fact : Fact) (past : List Fact) → now_in (fact ∷ past) ≡ now_in past → pending (fact ∷ past) ≡ pending past → present (fact ∷ past) ≡ present past → is_away s.starts_away (fact ∷ past) ≡ is_away s.starts_away past
      → ((c : ℕ) → AsOpen (known_now s c past) (known_now s c (fact ∷ past))) → IsInOrder s past → IsInOrder s (fact ∷ past)
  still fact past modem requests there away known I = record {
    requests = subst (λ (l : List Request). WaitFor (now_in (fact ∷ past)) l) (sym requests) (subst (λ (m : ModemState). WaitFor m (pending past)) (sym modem) I.requests);
    clients =
        λ c is.
        subst (λ (m : ModemState). MayBeOpen m (known_now s c (fact ∷ past))) (sym modem)
        (as_open (now_in past) (known_now s c past) (known_now s c (fact ∷ past)) (known c) (I.clients c (sym (ap (contains c) there) ∙ is)));
    away = away ∙ I.away ∙ ap is_absent (sym modem);
    nobody = ap (contains 0) there ∙ I.nobody;
  }

  pub entry_as_open : (b : Bool) (entry : Entry) (entries : List Entry) → ((known : Known) → AsOpen known (step.step s known entry)) → AsOpen (known_from s entries) (known_from s (entry_if b entry entries))
  unfolding told_by
  entry_as_open true entry entries keeps = keeps (known_from s entries)
  entry_as_open false entry entries keeps = (refl, refl)

  -- ---- a connection that ends ----

  pub ended : (d : ℕ) (why : Why) (past : List Fact) → (d == 0) ≡ false → IsInOrder s past → IsInOrder s (Ended d why ∷ past)
  unfolding present pending state is_away view told_by
  ended d why past client I = record {
    requests = waits (now_in past) (pending past) I.requests;
    clients = λ c is. let other = stays c is in subst (λ (k : Known). MayBeOpen (now_in past) k) (sym (same c other.0 why)) (I.clients c other.1);
    away = I.away;
    nobody = contains-without 0 d (present past) ∙ ap (λ (b : Bool). if b then false else is_present 0 past) client ∙ I.nobody;
  }
    where
      kept_own : (r : Request) → r.conn ≡ 0 → filter (λ q. not (d == q.conn)) (r ∷ []) ≡ r ∷ []
      kept_own r own = ap (λ (b : Bool). cond (not b) (r ∷ []) []) (ap (λ (x : ℕ). d == x) own ∙ client)

      waits : (modem : ModemState) (requests : List Request) → WaitFor modem requests → WaitFor modem (filter (λ q. not (d == q.conn)) requests)
      waits IsAway requests none = ap (filter (λ q. not (d == q.conn))) none
      waits IsShut requests none = ap (filter (λ q. not (d == q.conn))) none
      waits IsOpening requests one = record { request = one.request; only = ap (filter (λ q. not (d == q.conn))) one.only ∙ kept_own one.request one.own; opens = one.opens; own = one.own }
      waits IsReady requests none = any_filter is_own_open (λ q. not (d == q.conn)) requests none

      stays : (c : ℕ) → contains c (present (Ended d why ∷ past)) ≡ true → ((d == c) ≡ false) × (is_present c past ≡ true)
      stays c is =
          let step : (b : Bool) → (d == c) ≡ b → (if b then false else is_present c past) ≡ true → ((d == c) ≡ false) × (is_present c past ≡ true) =
          λ b. elim b as (λ b. (d == c) ≡ b → (if b then false else is_present c past) ≡ true → ((d == c) ≡ false) × (is_present c past ≡ true)) [
            | true ↦ λ e h. absurd (let clash : false ≡ true = h in cc)
            | false ↦ λ e h. (e, h)
          ]
          in step (d == c) refl (sym (contains-without c d (present past)) ∙ is)

      same : (c : ℕ) → (d == c) ≡ false → (why : Why) → known_now s c (Ended d why ∷ past) ≡ known_now s c past
      same c other NotAdmitted = ap (λ (b : Bool). known_from s (let l : List Entry = if b then End NotAdmitted ∷ [] else view_of c past in l)) other
      same c other BadStream = ap (λ (b : Bool). known_from s (entry_if b (End BadStream) (view_of c past))) other
      same c other NoRoom = refl
      same c other Leaving = ap (λ (b : Bool). known_from s (entry_if b (End Leaving) (view_of c past))) other

  -- whoever is there isn't the proxy itself
  pub not_the_proxy : (d : ℕ) (past : List Fact) → is_present 0 past ≡ false → is_present d past ≡ true → (d == 0) ≡ false
  not_the_proxy d past nobody there =
      let step : (b : Bool) → (d == 0) ≡ b → b ≡ false =
      λ b. elim b as (λ b. (d == 0) ≡ b → b ≡ false) [
        | true ↦ λ e. absurd (let same : is_present 0 past ≡ true = subst (λ (x : ℕ). is_present x past ≡ true) (eqb-true d 0 e) there in let clash : true ≡ false = sym same ∙ nobody in cc)
        | false ↦ λ e. refl
      ]
      in step (d == 0) refl

  -- what is noted, with the ends of those who have no room for it
  pub noted_in_order : (fact : Fact) (past : List Fact) → IsInOrder s (fact ∷ past) → IsInOrder s (note s fact past)
  noted_in_order fact past I = kept_by_note s.limits (mbim_wording s) (IsInOrder s) (λ d before there held. ended d NoRoom before (not_the_proxy d before held.nobody there) held) fact past I

  -- ---- what a client says ----

  pub entry_known : (b : Bool) (entry : Entry) (entries : List Entry) → known_from s (entry_if b entry entries) ≡ (if b then step.step s (known_from s entries) entry else known_from s entries)
  unfolding told_by
  entry_known true entry entries = refl
  entry_known false entry entries = refl

  pub judged : (d place : ℕ) (m : List ℕ) (verdict : Verdict) (past : List Fact) → (is_present d past ≡ true → MayBeOpen (now_in past) (step.step s (known_now s d past) (Said m verdict))) → IsInOrder s past → IsInOrder s (Judged d place m verdict ∷ past)
  unfolding state pending present is_away view
  judged d place m verdict past may I = record {
    requests = I.requests;
    clients =
        λ c is.
        let Goal : Bool → Type 0 = λ (b : Bool). MayBeOpen (now_in past) (if b then step.step s (known_now s c past) (Said m verdict) else known_now s c past) in
        let by : (b : Bool) → (d == c) ≡ b → Goal b =
        λ b. elim b as (λ b. (d == c) ≡ b → Goal b) [
          | true ↦ λ e. let same : d ≡ c = eqb-true d c e in subst (λ (x : ℕ). MayBeOpen (now_in past) (step.step s (known_now s x past) (Said m verdict))) same (may (subst (λ (x : ℕ). is_present x past ≡ true) (sym same) is))
          | false ↦ λ e. I.clients c is
        ]
        in subst (MayBeOpen (now_in past)) (sym (entry_known (d == c) (Said m verdict) (view_of c past))) (by (d == c) refl);
    away = I.away;
    nobody = I.nobody;
  }

  closes_may : (modem : ModemState) (known later : Known) → later.opened ≡ false → later.waits ≡ known.waits → MayBeOpen modem known → MayBeOpen modem later
  closes_may IsAway known later shut same may = (shut, same ∙ may.1)
  closes_may IsShut known later shut same may = (shut, same ∙ may.1)
  closes_may IsOpening known later shut same may = shut
  closes_may IsReady known later shut same may = same ∙ may

  own_may : (modem : ModemState) (known : Known) (m : List ℕ) (reply : OwnReply) → MayBeOpen modem known → MayBeOpen modem (step.with_reply reply (with_message s m known))
  own_may modem known m Silent may = as_open modem known (with_message s m known) (refl, refl) may
  own_may modem known m (Wrong code) may = as_open modem known (with_message s m known) (refl, refl) may
  own_may modem known m (NotOpened status) may = as_open modem known (with_message s m known) (refl, refl) may
  own_may modem known m Closes may = closes_may modem known (step.with_reply Closes (with_message s m known)) refl refl may
  own_may modem known m (Refuses command status) may = as_open modem known (with_message s m known) (refl, refl) may
  own_may modem known m (Configures command) may = as_open modem known (step.with_reply (Configures command) (with_message s m known)) (refl, refl) may
  own_may modem known m (Subscribes command list) may = as_open modem known (step.with_reply (Subscribes command list) (with_message s m known)) (refl, refl) may

  -- a verdict by which the client opens comes of an open modem, and one by which it waits of one that opens
  abbrev pub Suits : ModemState → Verdict → Type 0
  Suits modem Ready = modem ≡ IsReady
  Suits modem Waits = modem ≡ IsOpening
  Suits modem _ = Unit {0}

  pub sent_may : (modem : ModemState) (known : Known) (m : List ℕ) (verdict : Verdict) → Suits modem verdict → MayBeOpen modem known → MayBeOpen modem (step.step s known (Said m verdict))
  sent_may modem known m Own suits may = own_may modem known m (own_reply s known m) may
  sent_may modem known m Share suits may = as_open modem known (with_message s m known) (refl, refl) may
  sent_may modem known m Foreign suits may = as_open modem known (with_message s m known) (refl, refl) may
  sent_may modem known m Away suits may = as_open modem known (with_message s m known) (refl, refl) may
  sent_may modem known m Full suits may = as_open modem known (with_message s m known) (refl, refl) may
  sent_may modem known m Forward suits may = as_open modem known (step.step s known (Said m Forward)) (refl, refl) may
  sent_may modem known m Ready suits may = subst (λ (x : ModemState). MayBeOpen x (step.step s known (Said m Ready))) (sym suits) (subst (λ (x : ModemState). MayBeOpen x known) suits may)
  sent_may modem known m Waits suits may = subst (λ (x : ModemState). MayBeOpen x (step.step s known (Said m Waits))) (sym suits) (subst (λ (x : ModemState). MayBeOpen x known) suits may)

  -- a command goes to an open modem alone
  pub forwarded_command : (r : Request) (past : List Fact) → is_own_open r ≡ false → now_in past ≡ IsReady → IsInOrder s past → IsInOrder s (Forwarded r ∷ past)
  unfolding state pending present is_away view
  forwarded_command r past command ready I =
      let modem : now_in (Forwarded r ∷ past) ≡ now_in past = ap (λ (b : Bool). if b then IsOpening else now_in past) command in
      let none : list_any is_own_open (pending past) ≡ false = subst (λ (x : ModemState). WaitFor x (pending past)) ready I.requests in
      record {
        requests = subst (λ (x : ModemState). WaitFor x (pending past ++ r ∷ [])) (sym (modem ∙ ready)) (any_push is_own_open (pending past) r none command);
        clients = λ c is. subst (λ (x : ModemState). MayBeOpen x (known_now s c past)) (sym modem) (I.clients c is);
        away = I.away ∙ ap is_absent (sym modem);
        nobody = I.nobody;
      }

  -- the proxy opens a shut modem, and the client waits
  pub opens_for : (r : Request) (d place : ℕ) (m : List ℕ) (past : List Fact) → is_own_open r ≡ true → r.conn ≡ 0 → now_in past ≡ IsShut → IsInOrder s past → IsInOrder s (Forwarded r ∷ Judged d place m Waits ∷ past)
  unfolding state pending present is_away view
  opens_for r d place m past opens own shut I =
      let modem : now_in (Forwarded r ∷ Judged d place m Waits ∷ past) ≡ IsOpening = ap (λ (b : Bool). if b then IsOpening else now_in past) opens in
      let none : pending past ≡ [] = subst (λ (x : ModemState). WaitFor x (pending past)) shut I.requests in
      record {
        requests = subst (λ (x : ModemState). WaitFor x (pending past ++ r ∷ [])) (sym modem) (record { request = r; only = ap (λ (l : List Request). l ++ r ∷ []) none; opens = opens; own = own });
        clients =
            λ c is.
            let may : MayBeOpen IsShut (known_now s c past) = subst (λ (x : ModemState). MayBeOpen x (known_now s c past)) shut (I.clients c is) in
            subst (λ (x : ModemState). MayBeOpen x (known_now s c (Forwarded r ∷ Judged d place m Waits ∷ past))) (sym modem)
            (subst (λ (k : Known). k.opened ≡ false) (sym (entry_known (d == c) (Said m Waits) (view_of c past)))
            (elim (d == c) as (λ b. (let k : Known = if b then step.step s (known_now s c past) (Said m Waits) else known_now s c past in k).opened ≡ false) [ true ↦ may.0 | false ↦ may.0 ]));
        away = I.away ∙ ap is_absent shut ∙ ap is_absent (sym modem);
        nobody = I.nobody;
      }

  -- ---- requests that go ----

  -- a fact by which a request goes, and that keeps who is open
  pub record Goes (fact : Fact) (r : Request) (past : List Fact) : Type 0 where
    modem : now_in (fact ∷ past) ≡ now_in past
    requests : pending (fact ∷ past) ≡ without_request r (pending past)
    there : present (fact ∷ past) ≡ present past
    away : is_away s.starts_away (fact ∷ past) ≡ is_away s.starts_away past
    known : (c : ℕ) → AsOpen (known_now s c past) (known_now s c (fact ∷ past))

  pub answered_goes : (r : Request) (m : List ℕ) (past : List Fact) → Goes (Answered r m) r past
  unfolding state pending present is_away view
  answered_goes r m past = record { modem = refl; requests = refl; there = refl; away = refl; known = λ c. entry_as_open (r.conn == c) (Response r.place (blank m)) (view_of c past) (λ known. (refl, refl)) }

  pub refused_goes : (flag : Bool) (r : Request) (past : List Fact) → Goes (refused flag r) r past
  unfolding state pending present is_away view
  refused_goes true r past = record { modem = refl; requests = refl; there = refl; away = refl; known = λ c. entry_as_open (r.conn == c) (Refused r.place NoAnswer) (view_of c past) (λ known. (refl, refl)) }
  refused_goes false r past = record { modem = refl; requests = refl; there = refl; away = refl; known = λ c. entry_as_open (r.conn == c) (Refused r.place NoAnswer) (view_of c past) (λ known. (refl, refl)) }

  -- a command goes while the modem is open
  pub command_goes : (fact : Fact) (r : Request) (past : List Fact) → Goes fact r past → now_in past ≡ IsReady → IsInOrder s past → IsInOrder s (fact ∷ past)
  command_goes fact r past G ready I =
      let none : list_any is_own_open (pending past) ≡ false = subst (λ (x : ModemState). WaitFor x (pending past)) ready I.requests in
      record {
        requests = subst (λ (x : ModemState). WaitFor x (pending (fact ∷ past))) (sym (G.modem ∙ ready)) (ap (list_any is_own_open) G.requests ∙ any_filter is_own_open (λ q. not (r.serial == q.serial)) (pending past) none);
        clients =
            λ c is.
            subst (λ (m : ModemState). MayBeOpen m (known_now s c (fact ∷ past))) (sym G.modem)
            (as_open (now_in past) (known_now s c past) (known_now s c (fact ∷ past)) (G.known c) (I.clients c (sym (ap (contains c) G.there) ∙ is)));
        away = G.away ∙ I.away ∙ ap is_absent (sym G.modem);
        nobody = ap (contains 0) G.there ∙ I.nobody;
      }

  -- the proxy's own request to open has gone
  pub record HasGone (past : List Fact) : Type 0 where
    modem : now_in past ≡ IsOpening
    none : pending past ≡ []
    shut : (c : ℕ) → is_present c past ≡ true → (known_now s c past).opened ≡ false
    away : is_away s.starts_away past ≡ false
    pub nobody : is_present 0 past ≡ false

  pub open_goes : (fact : Fact) (r : Request) (past : List Fact) → Goes fact r past → now_in past ≡ IsOpening → pending past ≡ r ∷ [] → IsInOrder s past → HasGone (fact ∷ past)
  open_goes fact r past G opening only I = record {
    modem = G.modem ∙ opening;
    none = G.requests ∙ ap (without_request r) only ∙ only_goes r r (ap (λ (b : Bool). b || false) (self r.serial));
    shut = λ c is. (G.known c).0 ∙ subst (λ (x : ModemState). MayBeOpen x (known_now s c past)) opening (I.clients c (sym (ap (contains c) G.there) ∙ is));
    away = G.away ∙ I.away ∙ ap is_absent opening;
    nobody = ap (contains 0) G.there ∙ I.nobody;
  }

  -- ---- the opening ends ----

  abbrev then_is : Bool → ModemState
  then_is opened = if opened then IsReady else IsShut

  waits_none : (o : Option ℕ) → is_some o ≡ false → o ≡ None
  waits_none None e = refl
  waits_none (Some n) e = absurd (let clash : true ≡ false = e in cc)

  ends_may : (opened waited : Bool) (known : Known) → waited ≡ is_some known.waits → known.opened ≡ false → MayBeOpen (then_is opened) (let later : Known = if waited then record known { waits = None; opened = opened } else known in later)
  ends_may true true known waits shut = refl
  ends_may true false known waits shut = waits_none known.waits (sym waits)
  ends_may false true known waits shut = (refl, refl)
  ends_may false false known waits shut = (shut, waits_none known.waits (sym waits))

  none_wait : (opened : Bool) (requests : List Request) → requests ≡ [] → WaitFor (then_is opened) requests
  none_wait true requests none = ap (list_any is_own_open) none
  none_wait false requests none = none

  ends_there : (opened : Bool) → is_absent (then_is opened) ≡ false
  ends_there true = refl
  ends_there false = refl

  ended_fact : (status : ℕ) (past : List Fact) → HasGone past → IsInOrder s (OpeningEnded status (waiting s past) ∷ past)
  unfolding state pending present is_away view
  ended_fact status past H = record {
    requests = none_wait (status == SUCCESS) (pending past) H.none;
    clients =
        λ c is.
        let waited : contains c (waiting s past) ≡ is_some (known_now s c past).waits = waits_is s c past ∙ ap (λ (b : Bool). b && is_some (known_now s c past).waits) is in
        subst (MayBeOpen (then_is (status == SUCCESS))) (sym (entry_known (contains c (waiting s past)) (OpenedWith status) (view_of c past)))
        (ends_may (status == SUCCESS) (contains c (waiting s past)) (known_now s c past) waited (H.shut c is));
    away = H.away ∙ sym (ends_there (status == SUCCESS));
    nobody = H.nobody;
  }

  pub opening_ends : (status : ℕ) (past : List Fact) → HasGone past → IsInOrder s (end_opening s status past)
  opening_ends status past H = noted_in_order (OpeningEnded status (waiting s past)) past (ended_fact status past H)

  -- ---- which request waits ----

  any_has : (requests : List Request) (r : Request) → Contains requests r → is_own_open r ≡ true → list_any is_own_open requests ≡ true
  any_has [] r at opens = absurd (Contains-nil r at)
  any_has (q ∷ requests) r at opens =
      ⊎_elim
      (λ (is : q ≡ r). ap (λ (b : Bool). b || list_any is_own_open requests) (ap is_own_open is ∙ opens))
      (λ (old : Contains requests r). elim (is_own_open q) as (λ b. (b || list_any is_own_open requests) ≡ true) [ true ↦ refl | false ↦ any_has requests r old opens ])
      (Contains-cons_cases r q requests at)

  none_there : (requests : List Request) (r : Request) → requests ≡ [] → Contains requests r → ⊥
  none_there requests r none at = Contains-nil r (subst (λ (l : List Request). Contains l r) none at)

  one_there : (requests : List Request) (q r : Request) → requests ≡ q ∷ [] → Contains requests r → q ≡ r
  one_there requests q r only at = ⊎_elim (λ (is : q ≡ r). is) (λ (old : Contains [] r). absurd (Contains-nil r old)) (Contains-cons_cases r q [] (subst (λ (l : List Request). Contains l r) only at))

  pub record OpensFor (r : Request) (past : List Fact) : Type 0 where
    pub modem : now_in past ≡ IsOpening
    pub only : pending past ≡ r ∷ []
    pub own : r.conn ≡ 0

  pub open_waits : (modem : ModemState) (r : Request) (past : List Fact) → now_in past ≡ modem → WaitFor modem (pending past) → Contains (pending past) r → is_own_open r ≡ true → OpensFor r past
  open_waits IsAway r past is none at opens = absurd (none_there (pending past) r none at)
  open_waits IsShut r past is none at opens = absurd (none_there (pending past) r none at)
  open_waits IsOpening r past is one at opens =
      let same : one.request ≡ r = one_there (pending past) one.request r one.only at in
      record { modem = is; only = one.only ∙ ap (λ (x : Request). x ∷ []) same; own = ap (λ (x : Request). x.conn) (sym same) ∙ one.own }
  open_waits IsReady r past is none at opens = absurd (let clash : true ≡ false = sym (any_has (pending past) r at opens) ∙ none in cc)

  command_waits : (modem : ModemState) (r : Request) (past : List Fact) → now_in past ≡ modem → WaitFor modem (pending past) → Contains (pending past) r → is_own_open r ≡ false → now_in past ≡ IsReady
  command_waits IsAway r past is none at command = absurd (none_there (pending past) r none at)
  command_waits IsShut r past is none at command = absurd (none_there (pending past) r none at)
  command_waits IsOpening r past is one at command = absurd (let same : one.request ≡ r = one_there (pending past) one.request r one.only at in let clash : true ≡ false = sym one.opens ∙ ap is_own_open same ∙ command in cc)
  command_waits IsReady r past is none at command = is

  -- what is noted of a request of the proxy itself ends nobody
  pub own_noted : (fact : Fact) (r : Request) (past : List Fact) → receivers_of fact ≡ r.conn ∷ [] → r.conn ≡ 0 → is_present 0 (fact ∷ past) ≡ false → note s fact past ≡ fact ∷ past
  unfolding end_overfull
  own_noted fact r past goes own nobody =
      ap (λ (cs : List ℕ). end_overfull s.limits (mbim_wording s) cs (fact ∷ past)) (goes ∙ ap (λ (x : ℕ). x ∷ []) own)
      ∙ ap (λ (b : Bool). if b && (rendering s.limits (mbim_wording s) 0 (fact ∷ past)).is_over then Ended 0 NoRoom ∷ fact ∷ past else fact ∷ past) nobody

  -- ---- what the modem says ----

  answered_in_order : (r : Request) (m : List ℕ) (past : List Fact) → Contains (pending past) r → IsInOrder s past → IsInOrder s (answer_or_late s true r m past)
  answered_in_order r m past at I = by (is_own_open r) refl
    where
      G : Goes (Answered r m) r past
      G = answered_goes r m past

      by : (b : Bool) → is_own_open r ≡ b → IsInOrder s (let after : List Fact = if b then end_opening s (opening_status m) (note s (Answered r m) past) else note s (Answered r m) past in after)
      by true opens =
          let O = open_waits (now_in past) r past refl I.requests at opens in
          let H = open_goes (Answered r m) r past G O.modem O.only I in
          subst (λ (l : List Fact). IsInOrder s (end_opening s (opening_status m) l)) (sym (own_noted (Answered r m) r past refl O.own H.nobody)) (opening_ends (opening_status m) (Answered r m ∷ past) H)
      by false command = noted_in_order (Answered r m) past (command_goes (Answered r m) r past G (command_waits (now_in past) r past refl I.requests at command) I)

  late_in_order : (r : Request) (past : List Fact) → is_pending r past ≡ false → IsInOrder s past → IsInOrder s (Late r ∷ past)
  unfolding state pending present is_away view
  late_in_order r past none I = still (Late r) past refl (none_goes r (pending past) none) refl refl (λ c. (refl, refl)) I

  stray_in_order : (past : List Fact) → IsInOrder s past → IsInOrder s (Stray ∷ past)
  unfolding state pending present is_away view
  stray_in_order past I = still Stray past refl refl refl refl (λ c. (refl, refl)) I

  indicated_in_order : (m : List ℕ) (receivers : List ℕ) (past : List Fact) → IsInOrder s past → IsInOrder s (note s (Indicated m receivers) past)
  unfolding state pending present is_away view
  indicated_in_order m receivers past I =
      noted_in_order (Indicated m receivers) past
      (still (Indicated m receivers) past refl refl refl refl (λ c. entry_as_open (contains c receivers) (Indication m) (view_of c past) (λ known. (refl, refl))) I)

  respond_in_order : (heard : Heard) (m : List ℕ) (past : List Fact) → IsSound s.limits past → IsInOrder s past → (found : Option Request) → first_answered_by heard m (in_use past) ≡ found → IsInOrder s (respond s found m past)
  respond_in_order heard m past sound I None is = stray_in_order past I
  respond_in_order heard m past sound I (Some r) is = by (is_pending r past) refl
    where
      by : (b : Bool) → is_pending r past ≡ b → IsInOrder s (answer_or_late s b r m past)
      by true waiting = answered_in_order r m past (waits s.limits past r sound (forwarded_from_in_use past r (found_is (is_answered_by heard m) (in_use past) r is).0) waiting) I
      by false late = late_in_order r past late I

  pub heard_in_order : (heard : Heard) (m : List ℕ) (past : List Fact) → IsSound s.limits past → IsInOrder s past → IsInOrder s (hear_as s heard m past)
  heard_in_order IsDone m past sound I = respond_in_order IsDone m past sound I (first_answered_by IsDone m (in_use past)) refl
  heard_in_order IsOpenDone m past sound I = respond_in_order IsOpenDone m past sound I (first_answered_by IsOpenDone m (in_use past)) refl
  heard_in_order IsError m past sound I = respond_in_order IsError m past sound I (first_answered_by IsError m (in_use past)) refl
  heard_in_order IsIndication m past sound I = indicated_in_order (blank m) (receivers s (uuid_of (body_of m)) (cid_of (body_of m)) past) past I
  heard_in_order IsNeither m past sound I = stray_in_order past I
