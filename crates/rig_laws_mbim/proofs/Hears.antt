-- What an answer of the modem adds to a rig's facts. Lists of facts have the newest first.
use Rattle.std.proofs.Common.{◌≡◌, ℕ, zero, suc, ◌+◌, ◌^◌, ◌<◌, ◌≤◌, Bool, true, false, not, ◌&&◌, ◌||◌, ◌==◌, is_some, if◌then◌else◌, List, [], ◌∷◌, ◌++◌, length, Option, Some, None, refl, ap, ap₂, sym, ◌∙◌, arith, subst, lit≤, AllPairs, Contains}
use Rattle.std.specs.List.{range_with_len}
use Rattle.std.proofs.lemmas.Bool.{eq-eqb, eqb-true, and_parts}
use Rattle.std.proofs.lemmas.Bool.Decides.{nat_tests}
use Rattle.std.proofs.lemmas.List.Elements.{Contains-append_right}
use Rattle.mbim_frame.specs.declared.kind.MessageKind.TheVariants.{Open, OpenDone}
use Rattle.mbim_frame.specs.Head.{kind_of, is_kind, number_of, with_number}
use Rattle.mbim_frame.specs.Fragment.{body_of}
use Rattle.mbim_fragments.specs.Splitting.{split}
use Rattle.proxy_history.specs.Facts.{Fact, Request, Answered, Late, OpeningEnded}
use Rattle.proxy_history.specs.Connections.{contains, present, is_present}
use Rattle.proxy_history.specs.Requests.{in_use, pending, is_pending, has_request, without_request}
use Rattle.proxy_history.specs.Sound.{IsSound, Differ}
use Rattle.proxy_history.specs.View.{Entry, Response, OpenedWith, entry_if, view}
use Rattle.proxy_history.specs.Rendering.{Rendering, render, put}
use Rattle.proxy_history.proofs.Given.{first_is, same_number}
use Rattle.proxy_history.proofs.SoundLaws.{in_use_differ}
use Rattle.mbim_proxy.specs.Setup.{the_space}
use Rattle.mbim_frame.specs.Writing.{open_done}
use Rattle.mbim_proxy.specs.Known.{Ask, Known, ask_at, waiting_number}
use Rattle.mbim_proxy.specs.Step.{blank, view_of, known_now}
use Rattle.mbim_proxy.specs.Text.{response_text, note}
use Rattle.mbim_proxy.specs.ModemStates.{is_own_open}
use Rattle.mbim_proxy.specs.Lists.{waiting}
use Rattle.mbim_proxy.specs.FromModem.{Heard, IsDone, IsOpenDone, heard_as, end_opening, end_opening_by, opening_status, is_answered_by, first_answered_by, answer_or_late, respond, hear_as, hear_modem}
use Rattle.mbim_solo.proofs.OneWaits.{one_waits}
use Rattle.rig_runs.specs.Mbim.{setup}
use Rattle.rig_laws.proofs.Lists.{goes_from_between}
use Rattle.rig_laws_mbim.proofs.Messages.{answer, cid_for, answer_is, answer_number_is, opened, modem_is_opened, opened_number_is}
use Rattle.rig_laws_mbim.proofs.Harmless.{IsSteady, steady}
use Rattle.rig_laws_mbim.proofs.Calm.{Calm, Knows, opening, ready, knows_answered, answered, late, opening_ended}
use Rattle.rig_laws_mbim.proofs.Room.{HasRoom, AllHaveRoom, outbox, bytes_for, bytes_of, put_has_room, less_room, fewer, noted}
use Rattle.rig_laws_mbim.proofs.Says.{sent_for}

-- the modem's answer to the request
pub record Suits (m : List ℕ) (r : Request) : Type 0 where
  pub choice : ℕ
  pub below : r.number < 2 ^ 32
  pub is : m ≡ answer (cid_for choice) r.number
  pub command : is_own_open r ≡ false

-- whether or not its sender waits
abbrev pub answered_or_late : (waits : Bool) → Request → (message : List ℕ) → List Fact → List Fact
answered_or_late true r m past = Answered r m ∷ past
answered_or_late false r m past = Late r ∷ past

pub no_more : (space : ℕ) → setup.limits.in_use space ≤ setup.limits.top space
no_more space = omega arith

module _ (past : List Fact) (sound : IsSound setup.limits past) (placed : (p : Request) → Contains (in_use past) p → p.space ≡ the_space) where
  one_is_answered : (heard : Heard) (m : List ℕ) (q r : Request) → Contains (in_use past) q → Contains (in_use past) r → is_answered_by heard m q ≡ true → is_answered_by heard m r ≡ true → q ≡ r
  one_is_answered heard m q r at_q at_r answers_q answers_r =
      let number_q : q.number ≡ number_of m = eqb-true q.number (number_of m) (and_first (q.number == number_of m) _ answers_q) in
      let number_r : r.number ≡ number_of m = eqb-true r.number (number_of m) (and_first (r.number == number_of m) _ answers_r) in
      same_number (in_use past) q r (in_use_differ setup.limits no_more past sound) at_q at_r (placed q at_q ∙ sym (placed r at_r)) (number_q ∙ sym number_r)
    where
      and_first : (a b : Bool) → (a && b) ≡ true → a ≡ true
      and_first true b e = refl
      and_first false b e = absurd (cc)

  pub found : (heard : Heard) (m : List ℕ) (r : Request) → Contains (in_use past) r → is_answered_by heard m r ≡ true → first_answered_by heard m (in_use past) ≡ Some r
  found heard m r at answers = first_is (is_answered_by heard m) (in_use past) r (λ q at_q is. one_is_answered heard m q r at_q at is answers) at answers

-- ---- an answer to a query ----

module _ (r : Request) (choice : ℕ) (below : r.number < 2 ^ 32) (command : is_own_open r ≡ false) where
  abbrev m : List ℕ
  m = answer (cid_for choice) r.number

  pub is_its_answer : is_answered_by IsDone m r ≡ true
  is_its_answer =
      ap (λ (n : ℕ). r.number == n && not (is_own_open r)) (answer_number_is (cid_for choice) r.number below)
      ∙ ap (λ (b : Bool). b && not (is_own_open r)) (eq-eqb r.number r.number refl)
      ∙ ap not command

  answer_text : (known : Known) (ask : Ask) → IsSteady known → length (response_text known ask (blank m)) ≤ 200
  answer_text known ask is =
      let a = answer_is choice in
      subst (λ (b : Bool). length (if b then with_number ask.number (blank m) else split (kind_of (blank m)) ask.number known.fragment (body_of (blank m))) ≤ 200) (sym (a.no_error r.number))
      (subst (λ (n : ℕ). length (split (kind_of (blank m)) ask.number n (body_of (blank m))) ≤ 200) (sym is.fragment) (a.in_fragments r.number ask.number))

  module _ {joined configured opened : ℕ} (before behind : List Request) (past : List Fact) (sound : IsSound setup.limits past) (placed : (p : Request) → Contains (in_use past) p → p.space ≡ the_space)
      (calm : Calm (ready joined configured opened) (before ++ r ∷ behind) [] past) (room : AllHaveRoom 200 past) where
    answer_fits : HasRoom 200 (bytes_for r.conn past) → (bytes_for r.conn (Answered r m ∷ past)).is_over ≡ false
    unfolding view render
    answer_fits has =
        let known : Known = known_now setup r.conn past in
        let text : List ℕ = response_text known (ask_at r.place known.asks) (blank m) in
        let short = answer_text known (ask_at r.place known.asks) (steady r.conn past calm.harmless) in
        subst (λ (o : Rendering). o.is_over ≡ false) (sym (sent_for (r.conn == r.conn) (Response r.place (blank m)) (view_of r.conn past) (eq-eqb r.conn r.conn refl)))
        (put_has_room 0 text (bytes_for r.conn past) (less_room (length text + 0) 200 (bytes_for r.conn past) (omega (arith, short)) has)).fits

    answer_is_noted : note setup (Answered r m) past ≡ Answered r m ∷ past
    unfolding present
    answer_is_noted = noted (Answered r m) past r.conn refl (λ there. answer_fits (room r.conn there))

    used : Contains (in_use past) r
    used = subst (λ (l : List Request). Contains l r) (sym calm.uses) (Contains-append_right before (r ∷ behind) r (zero, omega arith, refl))

    others_stay : without_request r (before ++ r ∷ behind) ≡ before ++ behind
    others_stay = goes_from_between before r behind (subst (λ (l : List Request). AllPairs Differ l) calm.uses (in_use_differ setup.limits no_more past sound))

    abbrev IsCalm : List Fact → Type 0
    IsCalm after = Calm (ready joined configured opened) (before ++ behind) [] after

    calm_without : (after : List Fact) → Calm (ready joined configured opened) (without_request r (before ++ r ∷ behind)) [] after → IsCalm after
    calm_without after is = subst (λ (l : List Request). Calm (ready joined configured opened) l [] after) others_stay is

    waits_or_not : (b : Bool) → answer_or_late setup b r m past ≡ answered_or_late b r m past
    waits_or_not true =
        ap (λ (b : Bool). if b then end_opening setup (opening_status m) (note setup (Answered r m) past) else note setup (Answered r m) past) command ∙ answer_is_noted
    waits_or_not false = refl

    calm_then : (b : Bool) → IsCalm (answered_or_late b r m past)
    calm_then true = calm_without (Answered r m ∷ past) (answered calm r m)
    calm_then false = calm_without (Late r ∷ past) (late calm r)

    pub record IsHeard : Type 0 where
      pub facts : hear_modem setup m past ≡ answered_or_late (is_pending r past) r m past
      pub keeps : IsCalm (answered_or_late (is_pending r past) r m past)

    pub answer_is_heard : IsHeard
    answer_is_heard = record {
      facts =
          ap (λ (h : Heard). hear_as setup h m past) ((answer_is choice).heard r.number)
          ∙ ap (λ (o : Option Request). respond setup o m past) (found past sound placed IsDone m r used is_its_answer)
          ∙ waits_or_not (is_pending r past);
      keeps = calm_then (is_pending r past);
    }

-- ---- the modem opened ----

module _ (r : Request) (below : r.number < 2 ^ 32) (own : r.conn ≡ 0) (opens : is_own_open r ≡ true) where
  abbrev done : List ℕ
  done = opened r.number

  pub ends_it : is_answered_by IsOpenDone done r ≡ true
  ends_it =
      ap (λ (n : ℕ). r.number == n && is_own_open r) (opened_number_is r.number below)
      ∙ ap (λ (b : Bool). b && is_own_open r) (eq-eqb r.number r.number refl)
      ∙ opens

  module _ {joined : ℕ} (some : 1 ≤ joined) (past : List Fact) (sound : IsSound setup.limits past) (placed : (p : Request) → Contains (in_use past) p → p.space ≡ the_space)
      (calm : Calm (opening joined) (r ∷ []) [] past) (room : AllHaveRoom 200 past) where
    not_there : (n a : ℕ) → 1 ≤ a → contains 0 (range_with_len a n) ≡ false
    not_there zero a some = refl
    not_there (suc n) a some =
        let other : (0 == a) ≡ false = grind (arith, nat_tests, some) in
        ap (λ (b : Bool). b || contains 0 (range_with_len (a + 1) n)) other ∙ not_there n (a + 1) (omega arith)

    abbrev answered_facts : List Fact
    answered_facts = Answered r done ∷ past

    proxy_is_answered : note setup (Answered r done) past ≡ answered_facts
    unfolding present
    proxy_is_answered =
        noted (Answered r done) past 0 (ap (λ (c : ℕ). c ∷ []) own)
        (λ there. absurd (let none : contains 0 (present past) ≡ false = ap (contains 0) calm.there ∙ not_there joined 1 (omega arith) in let clash : true ≡ false = sym there ∙ none in cc))

    first_there : (n : ℕ) → 1 ≤ n → contains 1 (range_with_len 1 n) ≡ true
    first_there zero some = absurd (omega arith)
    first_there (suc n) some = refl

    answered_knows : (c : ℕ) → Knows (opening joined) c (known_now setup c answered_facts)
    answered_knows c = knows_answered calm r done c

    first_waits_alone : waiting setup answered_facts ≡ 1 ∷ []
    unfolding present
    first_waits_alone =
        one_waits 1 setup answered_facts
        (ap₂ (λ (there waits : Bool). there && waits) (ap (contains 1) calm.there ∙ first_there joined some) (ap (λ (o : Option ℕ). is_some o) (answered_knows 1).waits))
        (λ d other.
        ap (λ (o : Option ℕ). is_present d answered_facts && is_some o) (answered_knows d).waits
        ∙ ap (λ (b : Bool). is_present d answered_facts && is_some (let o : Option ℕ = if b then Some 2 else None in o)) other
        ∙ elim (is_present d answered_facts) as (λ b. (b && false) ≡ false) [ true ↦ refl | false ↦ refl ])

    told_fits : is_present 1 (OpeningEnded 0 (1 ∷ []) ∷ answered_facts) ≡ true → (bytes_for 1 (OpeningEnded 0 (1 ∷ []) ∷ answered_facts)).is_over ≡ false
    unfolding view present render
    told_fits there =
        let known : Known = known_now setup 1 answered_facts in
        let text : List ℕ = open_done (waiting_number known.waits) 0 in
        let as_before : bytes_for 1 answered_facts ≡ bytes_for 1 past = ap (λ (conn : ℕ). bytes_of (entry_if (conn == 1) (Response r.place (blank done)) (view_of 1 past))) own in
        (put_has_room 0 text (bytes_for 1 answered_facts) (less_room (length text + 0) 200 (bytes_for 1 answered_facts) (lit≤ tt) (subst (HasRoom 200) (sym as_before) (room 1 there)))).fits

    is_told : note setup (OpeningEnded 0 (1 ∷ [])) answered_facts ≡ OpeningEnded 0 (1 ∷ []) ∷ answered_facts
    is_told = noted (OpeningEnded 0 (1 ∷ [])) answered_facts 1 refl told_fits

    waits : is_pending r past ≡ true
    waits = ap (has_request r) calm.tells ∙ ap (λ (b : Bool). b || false) (eq-eqb r.serial r.serial refl)

    pub record EndsOpening : Type 0 where
      pub facts : hear_modem setup done past ≡ OpeningEnded 0 (1 ∷ []) ∷ answered_facts
      pub keeps : Calm (ready joined 1 1) [] [] (OpeningEnded 0 (1 ∷ []) ∷ answered_facts)

    pub opening_is_heard : EndsOpening
    opening_is_heard =
        let used : Contains (in_use past) r = subst (λ (l : List Request). Contains l r) (sym calm.uses) (zero, omega arith, refl) in
        record {
          facts =
              ap (λ (h : Heard). hear_as setup h done past) (modem_is_opened r.number).heard
              ∙ ap (λ (o : Option Request). respond setup o done past) (found past sound placed IsOpenDone done r used ends_it)
              ∙ ap (λ (b : Bool). answer_or_late setup b r done past) waits
              ∙ ap (λ (b : Bool). if b then end_opening setup 0 (note setup (Answered r done) past) else note setup (Answered r done) past) opens
              ∙ ap (λ (l : List Fact). end_opening setup 0 l) proxy_is_answered
              ∙ ap (λ (receivers : List ℕ). note setup (OpeningEnded 0 receivers) answered_facts) first_waits_alone
              ∙ is_told;
          keeps = opening_ended r done calm some;
        }
