-- Where a client is alone, the modem answers the proxy's own request to open, and the client is told the status.
use Rattle.std.proofs.Common.{◌≡◌, ◌≢◌, ℕ, zero, ◌^◌, ◌≤◌, ◌<◌, Bool, true, false, nat_le, ◌&&◌, ◌||◌, ◌==◌, if◌then◌else◌, List, [], ◌∷◌, length, refl, ap, sym, ◌∙◌, subst, arith, Contains, Option, Some}
use Rattle.std.specs.List.{AllByRecursion}
use Rattle.std.proofs.lemmas.Bool.{eq-eqb, false_from_ne_true}
use Rattle.framing.specs.Framing.{IsMessage}
use Rattle.mbim_frame.specs.declared.kind.MessageKind.{MessageKind}
use Rattle.mbim_frame.specs.declared.kind.MessageKind.TheVariants.{CommandDone, IndicateStatus}
use Rattle.mbim_frame.specs.declared.status.TheConstants.{SUCCESS}
use Rattle.mbim_frame.specs.Frame.{size_of}
use Rattle.mbim_frame.specs.Head.{is_kind, number_of, with_number}
use Rattle.proxy_history.specs.Facts.{Fact, Request, Answered, OpeningEnded}
use Rattle.proxy_history.specs.Requests.{in_use, pending, has_request, is_pending, without_request}
use Rattle.proxy_history.proofs.Noted.{noted_in_use}
use Rattle.proxy_solo.proofs.Lists.{self}
use Rattle.mbim_proxy.specs.Setup.{Setup}
use Rattle.mbim_proxy.specs.Text.{mbim_wording, note}
use Rattle.mbim_proxy.specs.ModemStates.{ModemState, IsShut, IsOpening, IsReady, is_own_open, state}
use Rattle.mbim_proxy.specs.Lists.{waiting}
use Rattle.mbim_proxy.specs.Delivering.{is_fragment}
use Rattle.mbim_proxy.specs.FromModem.{Heard, IsOpenDone, heard_as, opening_status, end_opening, first_answered_by, answer_or_late, respond, hear_as, hear_modem}
use Rattle.mbim_solo.specs.Part.{part}
use Rattle.mbim_solo.proofs.Noted.{is_waiting}
use Rattle.mbim_solo.proofs.Hearing.{Same, renumbered}
use Rattle.mbim_solo.proofs.Openings.{only_goes, open_waits}
use Rattle.mbim_solo.proofs.Endings.{opens_with, open_answered-part}
use Rattle.mbim_solo.proofs.Spoken.{SaysOne, plain_says_one}
use Rattle.mbim_solo.proofs.Relation.{IsOrderly, Stand, AsksAlone, Stands}
use Rattle.mbim_solo.proofs.Standing.{waits-part}
use Rattle.mbim_solo.proofs.Changes.{waits_in_opening, opened_state}

-- ---- a short message with another number ----

pub record IsSaidAs (s : Setup) (n : ℕ) (m x : List ℕ) : Type 0 where
  pub one : SaysOne s x x
  pub same : Same n m x
  pub status : opening_status x ≡ opening_status m

same_size : (n : ℕ) (m : List ℕ) → 12 ≤ length m → IsMessage size_of m → IsMessage size_of (with_number n m)
same_size n (a ∷ b ∷ c ∷ d ∷ e ∷ f ∷ g ∷ h ∷ i ∷ j ∷ k ∷ l ∷ rest) long is = is
same_size n _ long is = absurd (omega arith)

same_length : (n : ℕ) (m : List ℕ) → 12 ≤ length m → length (with_number n m) ≡ length m
same_length n (a ∷ b ∷ c ∷ d ∷ e ∷ f ∷ g ∷ h ∷ i ∷ j ∷ k ∷ l ∷ rest) long = refl
same_length n _ long = absurd (omega arith)

same_status : (n : ℕ) (m : List ℕ) → 12 ≤ length m → opening_status (with_number n m) ≡ opening_status m
same_status n (a ∷ b ∷ c ∷ d ∷ e ∷ f ∷ g ∷ h ∷ i ∷ j ∷ k ∷ l ∷ rest) long = refl
same_status n _ long = absurd (omega arith)

no_fragment : (kind : MessageKind) (m : List ℕ) → length m ≡ 16 → is_fragment kind m ≡ false
no_fragment kind m short = ap (λ (n : ℕ). is_kind kind m && nat_le 20 n) short ∙ elim (is_kind kind m) as (λ b. (b && false) ≡ false) [ true ↦ refl | false ↦ refl ]

pub short_is_said : (s : Setup) (n : ℕ) (m : List ℕ) → n < 2 ^ 32 → length m ≡ 16 → IsMessage size_of m → IsSaidAs s n m (with_number n m)
short_is_said s n m below short is =
    let long : 12 ≤ length m = omega (arith, short) in
    let short_too : length (with_number n m) ≡ 16 = same_length n m long ∙ short in
    record {
      one = plain_says_one s (with_number n m) (same_size n m long is) (no_fragment CommandDone (with_number n m) short_too) (no_fragment IndicateStatus (with_number n m) short_too);
      same = renumbered n m below long;
      status = same_status n m long;
    }

-- ---- the end of the opening ----

module _ (s : Setup) (c : ℕ) (client : c ≢ 0) where
  abbrev pub then_is : (status : ℕ) → ModemState
  then_is status = if status == SUCCESS then IsReady else IsShut

  opens_no_more : (b : Bool) → (let modem : ModemState = if b then IsReady else IsShut in modem) ≡ IsOpening → ⊥
  opens_no_more true e = cc
  opens_no_more false e = cc

  -- no client waits but while the modem opens
  pub waits_not : (past : List Fact) → IsOrderly s c past → (state s.starts_away past ≡ IsOpening → ⊥) → is_waiting s c (part c past) ≡ false
  waits_not past O other = false_from_ne_true (is_waiting s c (part c past)) (λ waits. other (waits_in_opening s c past O.order (sym (waits-part s c client past O.fit.once) ∙ waits)))

  pub record EndsAlone (now : List Fact) (status : ℕ) (facts : List Fact) : Type 0 where
    pub same : part c facts ≡ opens_with s c client status (part c now)
    pub state : state s.starts_away facts ≡ then_is status
    pub in_use : in_use facts ≡ []

  pub opened_alone : (q : Request) (now : List Fact) → IsOrderly s c now → state s.starts_away now ≡ IsOpening → in_use now ≡ q ∷ [] → pending now ≡ q ∷ [] → is_own_open q ≡ true
      → (x : List ℕ) → heard_as x ≡ IsOpenDone → number_of x ≡ q.number → EndsAlone now (opening_status x) (hear_modem s x now)
  unfolding in_use
  opened_alone q now O opening used waits opens x heard number =
      let at : Contains (pending now) q = subst (λ (l : List Request). Contains l q) (sym waits) (zero, omega arith, refl) in
      let F = open_waits s (state s.starts_away now) q now refl O.order.requests at opens in
      let answers : (q.number == number_of x && is_own_open q) ≡ true = ap (λ (b : Bool). b && is_own_open q) (eq-eqb q.number (number_of x) (sym number)) ∙ opens in
      let found : first_answered_by IsOpenDone x (in_use now) ≡ Some q = ap (first_answered_by IsOpenDone x) used ∙ ap (λ (b : Bool). let o : Option Request = if b then Some q else first_answered_by IsOpenDone x [] in o) answers in
      let pends : is_pending q now ≡ true = ap (has_request q) waits ∙ ap (λ (b : Bool). b || false) (self q.serial) in
      let is : hear_modem s x now ≡ answer_or_late s true q x now =
      ap (λ (h : Heard). hear_as s h x now) heard ∙ ap (λ (o : Option Request). respond s o x now) found ∙ ap (λ (b : Bool). answer_or_late s b q x now) pends
      in
      let answered : List Fact = note s (Answered q x) now in
      let ends : hear_modem s x now ≡ end_opening s (opening_status x) answered = is ∙ ap (λ (b : Bool). let facts : List Fact = if b then end_opening s (opening_status x) answered else answered in facts) opens in
      record {
        same = ap (part c) is ∙ open_answered-part s c client q now O.fit.once O.order opens F.own opening waits x;
        state = ap (state s.starts_away) ends ∙ opened_state s (opening_status x) answered;
        in_use =
            ap in_use ends
            ∙ noted_in_use s.limits (mbim_wording s) (OpeningEnded (opening_status x) (waiting s answered)) answered
            ∙ noted_in_use s.limits (mbim_wording s) (Answered q x) now
            ∙ ap (without_request q) used
            ∙ only_goes q q (ap (λ (b : Bool). b || false) (self q.serial));
      }

  -- it ended with this status for all and for the client alone
  pub both_opened : (status : ℕ) (after facts : List Fact) → IsOrderly s c after → state s.starts_away after ≡ then_is status → state s.starts_away facts ≡ then_is status → in_use facts ≡ [] → Stands s c after facts
  both_opened status after facts O all own used =
      let waits : is_waiting s c (part c after) ≡ false = waits_not after O (λ opening. opens_no_more (status == SUCCESS) (sym all ∙ opening)) in
      record {
        states =
            subst (λ (b : Bool). Stand s c b (state s.starts_away after) (state s.starts_away facts)) (sym waits)
            (subst (λ (m : ModemState). Stand s c false m (state s.starts_away facts)) (sym all)
            (subst (λ (m : ModemState). Stand s c false (then_is status) m) (sym own) (elim (status == SUCCESS) as (λ b. Stand s c false (if b then IsReady else IsShut) (if b then IsReady else IsShut)) [ true ↦ tt | false ↦ tt ])));
        asks = subst (λ (m : ModemState). AsksAlone s c m after facts) (sym own) (by (status == SUCCESS));
      }
    where
      by : (b : Bool) → AsksAlone s c (if b then IsReady else IsShut) after facts
      by true = subst (AllByRecursion (λ r. (r.conn == c) ≡ true)) (sym used) tt
      by false = used
