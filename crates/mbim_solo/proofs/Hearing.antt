-- What a client hears of the modem, it hears alone as well: the answers to its commands, and indications.
use Rattle.std.proofs.Common.{◌≡◌, ◌≢◌, ℕ, ◌+◌, ◌^◌, ◌≤◌, ◌<◌, Bool, true, false, not, ◌&&◌, ◌==◌, if◌then◌else◌, List, [], ◌∷◌, ◌++◌, length, refl, ap, sym, ◌∙◌, ⊎_elim, arith, Contains, Option, Some}
use Rattle.std.proofs.lemmas.Bool.{eqb-true, eq-eqb, and_parts}
use Rattle.mbim_frame.specs.declared.kind.MessageKind.TheVariants.{Open, CommandDone, IndicateStatus}
use Rattle.mbim_frame.specs.Kinds.{kind_number}
use Rattle.mbim_frame.specs.Numbers.{u32_bytes}
use Rattle.mbim_frame.specs.Head.{is_kind, number_of, with_number}
use Rattle.mbim_frame.specs.Bodies.{uuid_of, cid_of}
use Rattle.mbim_frame.specs.Writing.{unsplit}
use Rattle.mbim_frame.proofs.Numbers.{u32_at-bytes, u32_at-behind}
use Rattle.proxy_history.specs.Facts.{Fact, Request, Forwarded, Answered, Late, Indicated, Stray}
use Rattle.proxy_history.specs.Connections.{contains}
use Rattle.proxy_history.specs.Requests.{in_use, is_pending}
use Rattle.proxy_history.specs.Adding.{AreAsked}
use Rattle.proxy_history.proofs.Sound.{forwarded_from_in_use}
use Rattle.proxy_history.proofs.SoundLaws.{in_use_differ}
use Rattle.proxy_history.proofs.Given.{same_number, first_is}
use Rattle.proxy_history.proofs.Walk.{was_asked}
use Rattle.proxy_solo.specs.Part.{as_sent, facts_if, sent_by}
use Rattle.proxy_solo.specs.Part as alone_part
use Rattle.proxy_solo.proofs.Noting.{only}
use Rattle.proxy_solo.proofs.Queries.{in_use-part, is_pending-part}
use Rattle.proxy_solo.proofs.Matching.{Twin}
use Rattle.mbim_proxy.specs.Setup.{Setup, the_space}
use Rattle.mbim_proxy.specs.Step.{blank}
use Rattle.mbim_proxy.specs.Text.{note}
use Rattle.mbim_proxy.specs.ModemStates.{is_own_open}
use Rattle.mbim_proxy.specs.Lists.{receivers}
use Rattle.mbim_proxy.specs.FromModem.{Heard, IsDone, IsOpenDone, IsError, IsIndication, IsNeither, heard_as, opening_status, end_opening, is_for, is_answered_by, first_answered_by, answer_or_late, respond, indicate, hear_as, hear_modem}
use Rattle.mbim_proxy.specs.History.{mbim_protocol}
use Rattle.mbim_proxy.proofs.Walk.{Asks}
use Rattle.mbim_solo.specs.Solo.{restated}
use Rattle.mbim_solo.specs.Part.{part}
use Rattle.mbim_solo.proofs.Reading.{reads}
use Rattle.mbim_solo.proofs.Views.{OpenOnce}
use Rattle.mbim_solo.proofs.Places.{IsPlacedIn}
use Rattle.mbim_solo.proofs.Noted.{end_known, noted-part, is_told, told-part}

-- ---- a message with another number ----

-- it is the same in all else that is heard of it
pub record Same (number : ℕ) (m later : List ℕ) : Type 0 where
  pub number_is : number_of later ≡ number
  pub heard : heard_as later ≡ heard_as m
  pub blank_is : blank later ≡ blank m

pub renumbered : (n : ℕ) (m : List ℕ) → n < 2 ^ 32 → 12 ≤ length m → Same n m (with_number n m)
renumbered n (a ∷ b ∷ c ∷ d ∷ e ∷ f ∷ g ∷ h ∷ i ∷ j ∷ k ∷ l ∷ rest) below long = record { number_is = omega (arith, below); heard = refl; blank_is = refl }
renumbered n _ below long = absurd (omega arith)

pub number_written : (kind n : ℕ) (body : List ℕ) → n < 2 ^ 32 → number_of (unsplit kind n body) ≡ n
number_written kind n body below =
    let behind : List ℕ = (u32_bytes 1 ++ u32_bytes 0) ++ body in
    u32_at-behind (u32_bytes kind ++ u32_bytes (12 + (8 + length body))) (u32_bytes n ++ behind) 8 0 refl ∙ u32_at-bytes n behind below

-- an answer whose body was joined
pub rewritten : (n before : ℕ) (body : List ℕ) → n < 2 ^ 32 → Same n (unsplit (kind_number CommandDone) before body) (unsplit (kind_number CommandDone) n body)
rewritten n before body below = record { number_is = number_written (kind_number CommandDone) n body below; heard = refl; blank_is = refl }

-- ---- a history of the proxy ----

-- its numbers differ, the client's commands have rising places, and what it tells of the client its part tells
pub record Fit (s : Setup) (c : ℕ) (past : List Fact) : Type 0 where
  pub placed : IsPlacedIn s c past
  pub once : OpenOnce s c past
  pub asked : AreAsked (mbim_protocol s) (Asks s) past

abbrev pub is_answer : Heard → Bool
is_answer IsDone = true
is_answer IsError = true
is_answer _ = false

module _ (s : Setup) (within : (space : ℕ) → s.limits.in_use space ≤ s.limits.top space) (c : ℕ) (client : c ≢ 0) where
  pub in_space : (past : List Fact) → Fit s c past → (r : Request) → Contains (in_use past) r → r.space ≡ the_space
  in_space past F r at = (was_asked (mbim_protocol s) (Asks s) past r F.asked (forwarded_from_in_use past r at)).1.space

  -- a command of the client opens nothing
  pub is_command : (past : List Fact) → Fit s c past → (r : Request) → Contains past (Forwarded r) → (r.conn == c) ≡ true → is_own_open r ≡ false
  is_command past F r at mine =
      let asked = (was_asked (mbim_protocol s) (Asks s) past r F.asked at).1 in
      let is : r.conn ≡ c = eqb-true r.conn c mine in
      ⊎_elim (λ carries. ap (is_kind Open) carries.command) (λ own. absurd (client (sym is ∙ ⊎_elim (λ opens. opens.own) (λ subscribes. subscribes.own) own))) asked.carries

  one_is_answered : (past : List Fact) → Fit s c past → (heard : Heard) (m : List ℕ) (q r : Request) → Contains (in_use past) q → Contains (in_use past) r → is_answered_by heard m q ≡ true → is_answered_by heard m r ≡ true → q ≡ r
  one_is_answered past F heard m q r at_q at_r answers_q answers_r =
      let number_q : q.number ≡ number_of m = eqb-true q.number (number_of m) (and_parts (q.number == number_of m) (is_for heard q) answers_q).0 in
      let number_r : r.number ≡ number_of m = eqb-true r.number (number_of m) (and_parts (r.number == number_of m) (is_for heard r) answers_r).0 in
      same_number (in_use past) q r (in_use_differ s.limits within past F.placed.sound) at_q at_r (in_space past F q at_q ∙ sym (in_space past F r at_r)) (number_q ∙ sym number_r)

  pub found_for : (past : List Fact) → Fit s c past → (heard : Heard) (m : List ℕ) (r : Request) → Contains (in_use past) r → is_answered_by heard m r ≡ true → first_answered_by heard m (in_use past) ≡ Some r
  found_for past F heard m r at answers = first_is (is_answered_by heard m) (in_use past) r (λ q at_q is. one_is_answered past F heard m q r at_q at is answers) at answers

  pub responds : (heard : Heard) (m : List ℕ) (past : List Fact) → is_answer heard ≡ true → hear_as s heard m past ≡ respond s (first_answered_by heard m (in_use past)) m past
  responds IsDone m past answer = refl
  responds IsError m past answer = refl
  responds IsOpenDone m past answer = absurd (cc)
  responds IsIndication m past answer = absurd (cc)
  responds IsNeither m past answer = absurd (cc)

  -- ---- what an answer does to the client's part ----

  abbrev pub known_answer : Bool → Request → (message : List ℕ) → List Fact → List Fact
  known_answer true r m facts = end_known s c (Answered r m ∷ facts)
  known_answer false r m facts = Late r ∷ facts

  pub answer-part : (waits : Bool) (r : Request) (m : List ℕ) (past : List Fact) → OpenOnce s c past → is_own_open r ≡ false
      → part c (answer_or_late s waits r m past) ≡ (if r.conn == c then known_answer waits (as_sent r) (blank m) (part c past) else part c past)
  unfolding alone_part.part
  answer-part true r m past once command =
      ap (λ (b : Bool). part c (if b then end_opening s (opening_status m) (note s (Answered r m) past) else note s (Answered r m) past)) command
      ∙ noted-part s c (Answered r m) past (tt, once) (only c r.conn)
  answer-part false r m past once command = elim (r.conn == c) as (λ b. facts_if b (Late (as_sent r) ∷ []) (part c past) ≡ (if b then Late (as_sent r) ∷ part c past else part c past)) [ true ↦ refl | false ↦ refl ]

  module _ (past own : List Fact) (F : Fit s c past) (G : Fit s c own) (alike : part c past ≡ part c own) where
    pub sent_alike : sent_by c (in_use past) ≡ sent_by c (in_use own)
    sent_alike = sym (in_use-part s.limits blank restated reads c past F.placed) ∙ ap in_use alike ∙ in_use-part s.limits blank restated reads c own G.placed

    -- ---- an answer to a command of the client, and the same under the number that it has alone ----

    module _ (m later : List ℕ) (r : Request) (at : Contains (in_use past) r) (mine : (r.conn == c) ≡ true) (T : Twin c own r) (same : Same T.request.number m later) where
      abbrev q : Request
      q = T.request

      at_past : Contains past (Forwarded r)
      at_past = forwarded_from_in_use past r at

      at_own : Contains own (Forwarded q)
      at_own = forwarded_from_in_use own q T.at

      waiting_alike : is_pending r past ≡ is_pending q own
      waiting_alike =
          is_pending-part s.limits blank restated reads c past r F.placed at_past mine
          ∙ ap (is_pending (as_sent r)) alike
          ∙ ap (λ (x : Request). is_pending x (part c own)) (sym T.same)
          ∙ sym (is_pending-part s.limits blank restated reads c own q G.placed at_own T.mine)

      answered_alike : part c (answer_or_late s (is_pending r past) r m past) ≡ part c (answer_or_late s (is_pending q own) q later own)
      answered_alike =
          answer-part (is_pending r past) r m past F.once (is_command past F r at_past mine)
          ∙ ap (λ (b : Bool). if b then known_answer (is_pending r past) (as_sent r) (blank m) (part c past) else part c past) mine
          ∙ ap (λ (b : Bool). known_answer b (as_sent r) (blank m) (part c past)) waiting_alike
          ∙ ap (λ (x : Request). known_answer (is_pending q own) x (blank m) (part c past)) (sym T.same)
          ∙ ap (λ (l : List ℕ). known_answer (is_pending q own) (as_sent q) l (part c past)) (sym same.blank_is)
          ∙ ap (known_answer (is_pending q own) (as_sent q) (blank later)) alike
          ∙ sym (ap (λ (b : Bool). if b then known_answer (is_pending q own) (as_sent q) (blank later) (part c own) else part c own) T.mine)
          ∙ sym (answer-part (is_pending q own) q later own G.once (is_command own G q at_own T.mine))

      answers_own : (heard : Heard) → is_answer heard ≡ true → is_answered_by heard later q ≡ true
      answers_own IsDone answer =
          ap (λ (b : Bool). b && not (is_own_open q)) (eq-eqb q.number (number_of later) (sym same.number_is)) ∙ ap not (is_command own G q at_own T.mine)
      answers_own IsError answer = ap (λ (b : Bool). b && true) (eq-eqb q.number (number_of later) (sym same.number_is))
      answers_own IsOpenDone answer = absurd (cc)
      answers_own IsIndication answer = absurd (cc)
      answers_own IsNeither answer = absurd (cc)

      pub reply_alike : is_answer (heard_as m) ≡ true → first_answered_by (heard_as m) m (in_use past) ≡ Some r → part c (hear_modem s m past) ≡ part c (hear_modem s later own)
      reply_alike answer found =
          let answers : is_answer (heard_as later) ≡ true = ap is_answer same.heard ∙ answer in
          let own_found : first_answered_by (heard_as later) later (in_use own) ≡ Some q = found_for own G (heard_as later) later q T.at (answers_own (heard_as later) answers) in
          ap (part c) (responds (heard_as m) m past answer)
          ∙ ap (λ (o : Option Request). part c (respond s o m past)) found
          ∙ answered_alike
          ∙ sym (ap (λ (o : Option Request). part c (respond s o later own)) own_found)
          ∙ sym (ap (part c) (responds (heard_as later) later own answers))

    -- ---- an indication, and the same with number 0 ----

    abbrev indication : ℕ → List ℕ → List ℕ
    indication number body = unsplit (kind_number IndicateStatus) number body

    indicate-part : (number : ℕ) (body : List ℕ) (facts : List Fact) → OpenOnce s c facts
        → part c (indicate s (indication number body) facts) ≡ (if is_told s c (uuid_of body) (cid_of body) (part c facts) then end_known s c (Indicated (indication 0 body) (c ∷ []) ∷ part c facts) else part c facts)
    indicate-part number body facts once =
        noted-part s c (Indicated (indication 0 body) (receivers s (uuid_of body) (cid_of body) facts)) facts (tt, once) refl
        ∙ ap (λ (b : Bool). if b then end_known s c (Indicated (indication 0 body) (c ∷ []) ∷ part c facts) else part c facts) (told-part s c (uuid_of body) (cid_of body) facts once)

    pub indication_alike : (number : ℕ) (body : List ℕ) → part c (indicate s (indication number body) past) ≡ part c (indicate s (indication 0 body) own)
    indication_alike number body =
        indicate-part number body past F.once
        ∙ ap (λ (l : List Fact). if is_told s c (uuid_of body) (cid_of body) l then end_known s c (Indicated (indication 0 body) (c ∷ []) ∷ l) else l) alike
        ∙ sym (indicate-part 0 body own G.once)

    -- one that the client isn't told leaves its part as it is
    pub untold : (number : ℕ) (body : List ℕ) → contains c (receivers s (uuid_of body) (cid_of body) past) ≡ false → part c (indicate s (indication number body) past) ≡ part c past
    untold number body none =
        noted-part s c (Indicated (indication 0 body) (receivers s (uuid_of body) (cid_of body) past)) past (tt, F.once) refl
        ∙ ap (λ (b : Bool). if b then end_known s c (Indicated (indication 0 body) (c ∷ []) ∷ part c past) else part c past) none

  -- ---- what is for others ----

  pub stray_passes : (past : List Fact) → part c (Stray ∷ past) ≡ part c past
  unfolding alone_part.part
  stray_passes past = refl

  -- an answer to a command of another
  pub answer_elsewhere : (m : List ℕ) (r : Request) (past : List Fact) → Fit s c past → is_own_open r ≡ false → (r.conn == c) ≡ false → part c (respond s (Some r) m past) ≡ part c past
  answer_elsewhere m r past F command theirs =
      answer-part (is_pending r past) r m past F.once command
      ∙ ap (λ (b : Bool). if b then known_answer (is_pending r past) (as_sent r) (blank m) (part c past) else part c past) theirs
