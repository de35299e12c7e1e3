-- What the modem says beside others, the client hears alone: answers under the number that its request has there, and indications.
use Rattle.std.proofs.Common.{◌≡◌, ◌≢◌, ◌⊎◌, ℕ, ◌+◌, ◌^◌, ◌≤◌, ◌<◌, nat_le, Bool, true, false, ◌&&◌, ◌==◌, if◌then◌else◌, List, [], ◌∷◌, length, refl, ap, sym, ◌∙◌, subst, ⊎_elim, inl, inr, arith, Contains, Option, Some, None, length-drop}
use Rattle.std.proofs.lemmas.Bool.{eqb-true, and_parts, false_from_ne_true}
use Rattle.std.proofs.lemmas.Bool.Decides.{nat_tests}
use Rattle.framing.specs.Framing.{IsMessage}
use Rattle.mbim_frame.specs.declared.kind.MessageKind.{MessageKind}
use Rattle.mbim_frame.specs.declared.kind.MessageKind.TheVariants.{OpenDone, CommandDone, FunctionError, IndicateStatus}
use Rattle.mbim_frame.specs.Kinds.{kind_number}
use Rattle.mbim_frame.specs.Frame.{size_of}
use Rattle.mbim_frame.specs.Head.{kind_of, is_kind, number_of, with_number}
use Rattle.mbim_frame.specs.Fragment.{body_of}
use Rattle.mbim_frame.specs.Bodies.{uuid_of, cid_of, is_done, is_indication}
use Rattle.mbim_frame.specs.Writing.{unsplit}
use Rattle.mbim_fragments.specs.Splitting.{split}
use Rattle.proxy_history.specs.Limits.{Limits}
use Rattle.proxy_history.specs.Facts.{Fact, Request, Forwarded, Late, OpeningEnded}
use Rattle.proxy_history.specs.Connections.{contains}
use Rattle.proxy_history.specs.Requests.{in_use, is_pending, next_number}
use Rattle.proxy_history.specs.Sound.{IsSound, IsNextRequest}
use Rattle.proxy_history.proofs.Lists.{Contains-nil, Contains-cons_cases}
use Rattle.proxy_history.proofs.Sound.{forwarded_from_in_use, waits}
use Rattle.proxy_history.proofs.Found.{found_is}
use Rattle.proxy_solo.specs.Part.{as_sent, facts_if}
use Rattle.proxy_solo.specs.Part as alone_part
use Rattle.proxy_solo.specs.Answers.{number_at, numbered, answer_alone}
use Rattle.proxy_solo.proofs.Matching.{Twin, twin_of, twin_number}
use Rattle.proxy_solo.proofs.Placed.{same_place}
use Rattle.mbim_proxy.specs.Setup.{Setup, the_space}
use Rattle.mbim_proxy.specs.Step.{blank}
use Rattle.mbim_proxy.specs.ModemStates.{is_own_open, state}
use Rattle.mbim_proxy.specs.Lists.{receivers}
use Rattle.mbim_proxy.specs.Delivering.{is_fragment}
use Rattle.mbim_proxy.specs.FromModem.{Heard, IsDone, IsOpenDone, IsError, IsIndication, IsNeither, heard_if, heard_as, opening_status, is_answered_by, first_answered_by, answer_or_late, respond, indicate, hear_as, hear_modem}
use Rattle.mbim_solo.specs.Solo.{in_fragments, message_if, heard_alone, answered_by, is_waiting_open, restated}
use Rattle.mbim_solo.specs.Part.{part}
use Rattle.mbim_solo.proofs.Reading.{reads}
use Rattle.mbim_solo.proofs.Noted.{end_known, is_waiting}
use Rattle.mbim_solo.proofs.Hearing.{Same, rewritten, is_answer, in_space, responds, is_command, sent_alike, reply_alike, indication_alike, untold, stray_passes, answer_elsewhere}
use Rattle.mbim_solo.proofs.Openings.{open_waits}
use Rattle.mbim_solo.proofs.Endings.{open_answered-part}
use Rattle.mbim_solo.proofs.Numbers.{next_within}
use Rattle.mbim_solo.proofs.Spoken.{SaysOne, answer_says_one, indication_says_one}
use Rattle.mbim_solo.proofs.Relation.{IsRoomy, IsOrderly}
use Rattle.mbim_solo.proofs.Heard.{IsJoined, CameAs}
use Rattle.mbim_solo.proofs.Opened.{short_is_said}

-- ---- what comes as an answer, as an indication, and as an error ----

-- what each kind of message has
abbrev Tells : (done done_whole opened short failed told told_whole : Bool) → Heard → Type 0
Tells done done_whole opened short failed told told_whole IsDone = (done ≡ true) × (done_whole ≡ true)
Tells done done_whole opened short failed told told_whole IsOpenDone = (opened ≡ true) × (short ≡ true)
Tells done done_whole opened short failed told told_whole IsError = (opened ≡ false) × (short ≡ true)
Tells done done_whole opened short failed told told_whole IsIndication = (told ≡ true) × (told_whole ≡ true)
Tells done done_whole opened short failed told told_whole IsNeither = Unit {0}

abbrev heard_by : (done done_whole opened short failed told told_whole : Bool) → Heard
heard_by done done_whole opened short failed told told_whole =
    if done then heard_if done_whole IsDone
    else if opened then heard_if short IsOpenDone
    else if failed then heard_if short IsError
    else if told then heard_if told_whole IsIndication
    else IsNeither

by_kind : (done done_whole opened short failed told told_whole : Bool) → Tells done done_whole opened short failed told told_whole (heard_by done done_whole opened short failed told told_whole)
by_kind true true opened short failed told told_whole = (refl, refl)
by_kind true false opened short failed told told_whole = tt
by_kind false done_whole true true failed told told_whole = (refl, refl)
by_kind false done_whole true false failed told told_whole = tt
by_kind false done_whole false true true told told_whole = (refl, refl)
by_kind false done_whole false false true told told_whole = tt
by_kind false done_whole false short false true true = (refl, refl)
by_kind false done_whole false short false true false = tt
by_kind false done_whole false short false false told_whole = tt

tells : (m : List ℕ) (heard : Heard) → heard_as m ≡ heard → Tells (is_kind CommandDone m) (is_done (body_of m)) (is_kind OpenDone m) (length m == 16) (is_kind FunctionError m) (is_kind IndicateStatus m) (is_indication (body_of m)) heard
tells m heard is =
    subst (Tells (is_kind CommandDone m) (is_done (body_of m)) (is_kind OpenDone m) (length m == 16) (is_kind FunctionError m) (is_kind IndicateStatus m) (is_indication (body_of m))) is
    (by_kind (is_kind CommandDone m) (is_done (body_of m)) (is_kind OpenDone m) (length m == 16) (is_kind FunctionError m) (is_kind IndicateStatus m) (is_indication (body_of m)))

module _ (longest : ℕ) (m : List ℕ) (came : CameAs longest m) where
  fragment_clash : (kind : MessageKind) → is_kind kind m ≡ true → 24 ≤ length (body_of m) → is_fragment kind m ≡ false → ⊥
  fragment_clash kind of long none =
      let some : nat_le 20 (length m) ≡ true = grind (arith, nat_tests, long, length-drop 20 m) in
      let clash : true ≡ false = sym (ap (λ (b : Bool). b && nat_le 20 (length m)) of ∙ some) ∙ none in cc

  pub done_joined : heard_as m ≡ IsDone → IsJoined longest CommandDone m
  done_joined heard =
      let T = tells m IsDone heard in
      ⊎_elim (λ J. J)
      (λ other. ⊎_elim
      (λ J. absurd (let clash : false ≡ true = sym (ap (is_kind CommandDone) J.is) ∙ T.0 in cc))
      (λ P. absurd (fragment_clash CommandDone T.0 (let long = (and_parts (nat_le 28 (length (body_of m))) _ T.1).0 in grind (arith, nat_tests, long)) P.no_answer)) other) came

  pub told_joined : heard_as m ≡ IsIndication → IsJoined longest IndicateStatus m
  told_joined heard =
      let T = tells m IsIndication heard in
      ⊎_elim
      (λ J. absurd (let clash : false ≡ true = sym (ap (is_kind IndicateStatus) J.is) ∙ T.0 in cc))
      (λ other. ⊎_elim (λ J. J)
      (λ P. absurd (fragment_clash IndicateStatus T.0 (let long = (and_parts (nat_le 24 (length (body_of m))) _ T.1).0 in grind (arith, nat_tests, long)) P.no_indication)) other) came

  -- a short message that came whole
  pub record IsShort : Type 0 where
    pub short : length m ≡ 16
    pub message : IsMessage size_of m

  plain_of : length m ≡ 16 → IsMessage size_of m
  plain_of short =
      ⊎_elim
      (λ J. absurd (let long : length (unsplit (kind_number CommandDone) J.number J.body) ≡ 20 + length J.body = omega arith in let is : length m ≡ length (unsplit (kind_number CommandDone) J.number J.body) = ap length J.is in omega (arith, short, long, is)))
      (λ other. ⊎_elim
      (λ J. absurd (let long : length (unsplit (kind_number IndicateStatus) J.number J.body) ≡ 20 + length J.body = omega arith in let is : length m ≡ length (unsplit (kind_number IndicateStatus) J.number J.body) = ap length J.is in omega (arith, short, long, is)))
      (λ P. P.message) other) came

  pub error_short : heard_as m ≡ IsError → IsShort
  error_short heard = let short = eqb-true (length m) 16 (tells m IsError heard).1 in record { short = short; message = plain_of short }

  pub opened_short : heard_as m ≡ IsOpenDone → IsShort
  opened_short heard = let short = eqb-true (length m) 16 (tells m IsOpenDone heard).1 in record { short = short; message = plain_of short }

pub opens_when_done : (m : List ℕ) → heard_as m ≡ IsOpenDone → is_kind OpenDone m ≡ true
opens_when_done m heard = (tells m IsOpenDone heard).0

pub opens_not_in_error : (m : List ℕ) → heard_as m ≡ IsError → is_kind OpenDone m ≡ false
opens_not_in_error m heard = (tells m IsError heard).0

-- ---- numbers ----

was_next : (limits : Limits) (past : List Fact) (q : Request) → IsSound limits past → Contains past (Forwarded q) → (before : List Fact) × IsNextRequest limits q before
was_next limits [] q sound at = absurd (Contains-nil (Forwarded q) at)
was_next limits (fact ∷ past) q sound at =
    ⊎_elim
    (λ (is : fact ≡ Forwarded q). let here : IsSound limits (Forwarded q ∷ past) = subst (λ (f : Fact). IsSound limits (f ∷ past)) is sound in (past, here.0))
    (λ (old : Contains past (Forwarded q)). was_next limits past q sound.1 old)
    (Contains-cons_cases (Forwarded q) fact past at)

module _ (s : Setup) (R : IsRoomy s) (c : ℕ) (client : c ≢ 0) where
  -- a number in use has four bytes
  pub number_fits : (own : List Fact) → IsOrderly s c own → (q : Request) → Contains (in_use own) q → q.number < 2 ^ 32
  number_fits own O q at =
      let was = was_next s.limits own q O.sound (forwarded_from_in_use own q at) in
      let space : q.space ≡ the_space = in_space s R.enough c client own O.fit q at in
      let few = next_within s R was.0 q.number (subst (λ (n : ℕ). next_number (s.limits.in_use n) (s.limits.top n) n was.0 ≡ Some q.number) space was.1.number) in
      omega (arith, few, R.top)

  -- ---- what the proxy itself is told ----

  late_elsewhere : (r : Request) (past : List Fact) → (r.conn == c) ≡ false → part c (Late r ∷ past) ≡ part c past
  unfolding alone_part.part
  late_elsewhere r past theirs = ap (λ (b : Bool). facts_if b (Late (as_sent r) ∷ []) (part c past)) theirs

  -- ---- all, and the client alone ----

  -- the client's request to open doesn't wait, or it isn't what is answered
  abbrev pub Unmoved : (m : List ℕ) → List Fact → Type 0
  Unmoved m past = (is_waiting s c (part c past) ≡ false) ⊎ (is_waiting_open (answered_by (heard_as m) m past) past ≡ false)

  module _ (past own : List Fact) (P : IsOrderly s c past) (O : IsOrderly s c own) (alike : part c past ≡ part c own) where
    -- the bytes say alone one message, which does to the client's part what the modem's message does beside others
    pub record IsTold (m x : List ℕ) : Type 0 where
      pub whole : List ℕ
      pub one : SaysOne s x whole
      pub same : (at : List Fact) → IsOrderly s c at → part c at ≡ part c own → in_use at ≡ in_use own → part c (hear_modem s m past) ≡ part c (hear_modem s whole at)

    abbrev pub IsHeardAlike : (m : List ℕ) → Option (List ℕ) → Type 0
    IsHeardAlike m None = part c (hear_modem s m past) ≡ part c past
    IsHeardAlike m (Some x) = IsTold m x

    -- ---- answers to others ----

    opens_for_others : (m : List ℕ) (r : Request) → Contains (in_use past) r → is_own_open r ≡ true → (is_waiting s c (part c past) ≡ false) ⊎ (is_pending r past ≡ false) → part c (respond s (Some r) m past) ≡ part c past
    opens_for_others m r at opens unmoved = by (is_pending r past) refl unmoved
      where
        forwarded : Contains past (Forwarded r)
        forwarded = forwarded_from_in_use past r at

        theirs : (r.conn == c) ≡ false
        theirs = false_from_ne_true (r.conn == c) (λ mine. let clash : true ≡ false = sym opens ∙ is_command s R.enough c client past P.fit r forwarded mine in cc)

        by : (b : Bool) → is_pending r past ≡ b → (is_waiting s c (part c past) ≡ false) ⊎ (b ≡ false) → part c (answer_or_late s b r m past) ≡ part c past
        by true pends unmoved =
            let F = open_waits s (state s.starts_away past) r past refl P.order.requests (waits s.limits past r P.sound forwarded pends) opens in
            let none : is_waiting s c (part c past) ≡ false = ⊎_elim (λ h. h) (λ h. absurd (let clash : true ≡ false = h in cc)) unmoved in
            open_answered-part s c client r past P.fit.once P.order opens F.own F.modem F.only m
            ∙ ap (λ (b : Bool). if b then end_known s c (OpeningEnded (opening_status m) (c ∷ []) ∷ part c past) else part c past) none
        by false late unmoved = late_elsewhere r past theirs

    unanswered : (m : List ℕ) (r : Request) → Contains (in_use past) r → (r.conn == c) ≡ false → (is_own_open r ≡ true → (is_waiting s c (part c past) ≡ false) ⊎ (is_pending r past ≡ false)) → part c (respond s (Some r) m past) ≡ part c past
    unanswered m r at theirs unmoved =
        let step : (b : Bool) → is_own_open r ≡ b → part c (respond s (Some r) m past) ≡ part c past =
        λ b. elim b as (λ b. is_own_open r ≡ b → part c (respond s (Some r) m past) ≡ part c past) [
          | true ↦ λ opens. opens_for_others m r at opens (unmoved opens)
          | false ↦ λ command. answer_elsewhere s R.enough c client m r past P.fit command theirs
        ]
        in step (is_own_open r) refl

    -- where the answer is for the request to open that the client waits for, that doesn't wait
    unmoved_then : (heard : Heard) (m : List ℕ) (r : Request) → (is_waiting s c (part c past) ≡ false) ⊎ (is_waiting_open (answered_by heard m past) past ≡ false) → answered_by heard m past ≡ Some r → is_own_open r ≡ true → (is_waiting s c (part c past) ≡ false) ⊎ (is_pending r past ≡ false)
    unmoved_then heard m r unmoved is opens =
        ⊎_elim (λ none. inl none)
        (λ still. inr (sym (ap (λ (b : Bool). b && is_pending r past) opens) ∙ sym (ap (λ (o : Option Request). is_waiting_open o past) is) ∙ still)) unmoved

    -- ---- answers to the client's own ----

    -- a message with another number, as the modem says it alone
    pub record IsRewritten (n : ℕ) (m x : List ℕ) : Type 0 where
      pub later : List ℕ
      pub one : SaysOne s x later
      pub same : Same n m later

    module _ (heard : Heard) (write : ℕ → List ℕ → List ℕ) (m : List ℕ) (is : heard_as m ≡ heard) (answer : is_answer heard ≡ true) (rewrites : (n : ℕ) → n < 2 ^ 32 → IsRewritten n m (write n m)) where
      hears_so : hear_modem s m past ≡ respond s (first_answered_by heard m (in_use past)) m past
      hears_so = ap (λ (h : Heard). hear_as s h m past) is ∙ responds s R.enough c client heard m past answer

      own_answer : (r : Request) → first_answered_by heard m (in_use past) ≡ Some r → Contains (in_use past) r → (r.conn == c) ≡ true → IsHeardAlike m (numbered write (number_at c r.place (in_use own)) m)
      own_answer r found at mine =
          let T : Twin c own r = twin_of c past own r (sent_alike s R.enough c client past own P.fit O.fit alike) at mine in
          let one : (x : Request) → Contains (in_use own) x → (x.conn == c) ≡ true → x.place ≡ T.request.place → x ≡ T.request =
          λ x at_x of place. same_place s.limits blank restated reads c own x T.request O.fit.placed.placed (forwarded_from_in_use own x at_x, of) (forwarded_from_in_use own T.request T.at, T.mine) place
          in
          let W = rewrites T.request.number (number_fits own O T.request T.at) in
          subst (λ (o : Option ℕ). IsHeardAlike m (numbered write o m)) (sym (twin_number c own r T one)) (record {
            whole = W.later;
            one = W.one;
            same =
                λ now N same used.
                reply_alike s R.enough c client past now P.fit N.fit (alike ∙ sym same) m W.later r at mine
                (record { request = T.request; at = subst (λ (l : List Request). Contains l T.request) (sym used) T.at; mine = T.mine; same = T.same }) W.same (ap is_answer is ∙ answer) (ap (λ (h : Heard). first_answered_by h m (in_use past)) is ∙ found);
          })

      pub answers_alike : ((r : Request) → first_answered_by heard m (in_use past) ≡ Some r → is_own_open r ≡ true → (is_waiting s c (part c past) ≡ false) ⊎ (is_pending r past ≡ false))
          → IsHeardAlike m (answer_alone write c (first_answered_by heard m (in_use past)) m (in_use own))
      answers_alike unmoved = by (first_answered_by heard m (in_use past)) refl
        where
          of : (r : Request) → first_answered_by heard m (in_use past) ≡ Some r → Contains (in_use past) r → (b : Bool) → (r.conn == c) ≡ b → IsHeardAlike m (let o : Option (List ℕ) = if b then numbered write (number_at c r.place (in_use own)) m else None in o)
          of r found at true mine = own_answer r found at mine
          of r found at false theirs = ap (part c) hears_so ∙ ap (λ (o : Option Request). part c (respond s o m past)) found ∙ unanswered m r at theirs (unmoved r found)

          by : (o : Option Request) → first_answered_by heard m (in_use past) ≡ o → IsHeardAlike m (answer_alone write c o m (in_use own))
          by None found = ap (part c) hears_so ∙ ap (λ (o : Option Request). part c (respond s o m past)) found ∙ stray_passes s R.enough c client past
          by (Some r) found = of r found (found_is (is_answered_by heard m) (in_use past) r found).0 (r.conn == c) refl

    -- ---- each kind of message ----

    done_rewritten : (m : List ℕ) → IsJoined s.longest_body CommandDone m → (n : ℕ) → n < 2 ^ 32 → IsRewritten n m (in_fragments n m)
    done_rewritten m J n below =
        let short : length J.body < 2 ^ 32 = let fits = J.fits in omega (arith, fits, R.short) in
        let kind : kind_of m ≡ kind_number CommandDone = ap kind_of J.is in
        let body : body_of m ≡ J.body = ap body_of J.is in
        let bytes : in_fragments n m ≡ split (kind_number CommandDone) n 4096 J.body = ap (λ (k : ℕ). split k n 4096 (body_of m)) kind ∙ ap (split (kind_number CommandDone) n 4096) body in
        record {
          later = unsplit (kind_number CommandDone) n J.body;
          one = subst (λ (l : List ℕ). SaysOne s l (unsplit (kind_number CommandDone) n J.body)) (sym bytes) (answer_says_one s n J.body below J.fits short);
          same = subst (λ (l : List ℕ). Same n l (unsplit (kind_number CommandDone) n J.body)) (sym J.is) (rewritten n J.number J.body below);
        }

    error_rewritten : (m : List ℕ) → length m ≡ 16 → IsMessage size_of m → (n : ℕ) → n < 2 ^ 32 → IsRewritten n m (with_number n m)
    error_rewritten m short message n below = let S = short_is_said s n m below short message in record { later = with_number n m; one = S.one; same = S.same }

    told_alike : (m : List ℕ) → heard_as m ≡ IsIndication → IsJoined s.longest_body IndicateStatus m → IsHeardAlike m (message_if (contains c (receivers s (uuid_of (body_of m)) (cid_of (body_of m)) past)) (in_fragments 0 m))
    told_alike m heard J = by (contains c (receivers s (uuid_of (body_of m)) (cid_of (body_of m)) past)) refl
      where
        hears_so : hear_modem s m past ≡ indicate s (unsplit (kind_number IndicateStatus) J.number J.body) past
        hears_so = ap (λ (h : Heard). hear_as s h m past) heard ∙ ap (λ (l : List ℕ). indicate s l past) J.is

        heard_too : heard_as (unsplit (kind_number IndicateStatus) 0 J.body) ≡ IsIndication
        heard_too = sym (ap heard_as J.is) ∙ heard

        bytes : in_fragments 0 m ≡ split (kind_number IndicateStatus) 0 4096 J.body
        bytes = ap (λ (k : ℕ). split k 0 4096 (body_of m)) (ap kind_of J.is) ∙ ap (split (kind_number IndicateStatus) 0 4096) (ap body_of J.is)

        by : (b : Bool) → contains c (receivers s (uuid_of (body_of m)) (cid_of (body_of m)) past) ≡ b → IsHeardAlike m (message_if b (in_fragments 0 m))
        by true is = record {
          whole = unsplit (kind_number IndicateStatus) 0 J.body;
          one = subst (λ (l : List ℕ). SaysOne s l (unsplit (kind_number IndicateStatus) 0 J.body)) (sym bytes) (indication_says_one s 0 J.body (omega arith) J.fits (let fits = J.fits in omega (arith, fits, R.short)));
          same =
              λ now N same used.
              ap (part c) hears_so
              ∙ indication_alike s R.enough c client past now P.fit N.fit (alike ∙ sym same) J.number J.body
              ∙ sym (ap (λ (h : Heard). part c (hear_as s h (unsplit (kind_number IndicateStatus) 0 J.body) now)) heard_too);
        }
        by false is =
            ap (part c) hears_so
            ∙ untold s R.enough c client past own P.fit O.fit alike J.number J.body (sym (ap (λ (l : List ℕ). contains c (receivers s (uuid_of (body_of l)) (cid_of (body_of l)) past)) J.is) ∙ is)

    opened_for_others : (m : List ℕ) → heard_as m ≡ IsOpenDone → Unmoved m past → part c (hear_modem s m past) ≡ part c past
    opened_for_others m heard unmoved = ap (λ (h : Heard). part c (hear_as s h m past)) heard ∙ by (first_answered_by IsOpenDone m (in_use past)) refl
      where
        by : (o : Option Request) → first_answered_by IsOpenDone m (in_use past) ≡ o → part c (respond s o m past) ≡ part c past
        by None found = stray_passes s R.enough c client past
        by (Some r) found =
            let is = found_is (is_answered_by IsOpenDone m) (in_use past) r found in
            let opens : is_own_open r ≡ true = (and_parts (r.number == number_of m) (is_own_open r) is.1).1 in
            opens_for_others m r is.0 opens (unmoved_then IsOpenDone m r (subst (λ (h : Heard). (is_waiting s c (part c past) ≡ false) ⊎ (is_waiting_open (answered_by h m past) past ≡ false)) heard unmoved) found opens)

    -- what the client hears alone does to its part what the message does beside others
    pub heard_alike : (m : List ℕ) → CameAs s.longest_body m → Unmoved m past → IsHeardAlike m (heard_alone (heard_as m) s c m past own)
    heard_alike m came unmoved = by (heard_as m) refl
      where
        unmoved_as : (h : Heard) → heard_as m ≡ h → (is_waiting s c (part c past) ≡ false) ⊎ (is_waiting_open (answered_by h m past) past ≡ false)
        unmoved_as h is = subst (λ (h : Heard). (is_waiting s c (part c past) ≡ false) ⊎ (is_waiting_open (answered_by h m past) past ≡ false)) is unmoved

        by : (h : Heard) → heard_as m ≡ h → IsHeardAlike m (heard_alone h s c m past own)
        by IsDone is =
            answers_alike IsDone in_fragments m is refl (λ n below. done_rewritten m (done_joined s.longest_body m came is) n below)
            (λ r found opens. unmoved_then IsDone m r (unmoved_as IsDone is) found opens)
        by IsError is =
            let S = error_short s.longest_body m came is in
            answers_alike IsError with_number m is refl (λ n below. error_rewritten m S.short S.message n below)
            (λ r found opens. unmoved_then IsError m r (unmoved_as IsError is) found opens)
        by IsIndication is = told_alike m is (told_joined s.longest_body m came is)
        by IsOpenDone is = opened_for_others m is unmoved
        by IsNeither is = ap (λ (h : Heard). part c (hear_as s h m past)) is ∙ stray_passes s R.enough c client past
