-- The history of a protocol whose requests are each the newest message of their sender: a client that joins is new, and its requests have rising places.
use Rattle.std.proofs.Common.{◌≡◌, ◌≢◌, ℕ, ◌≤◌, ◌<◌, max, Bool, true, false, ◌||◌, ◌==◌, nat_lt, if◌then◌else◌, List, [], ◌∷◌, ◌++◌, length, refl, ap, sym, ◌∙◌, subst, arith, Contains}
use Rattle.std.specs.List.{AllByRecursion}
use Rattle.std.proofs.lemmas.Bool.{eqb-true, eq-eqb}
use Rattle.std.proofs.lemmas.Bool.Decides.{nat_tests}
use Rattle.std.proofs.lemmas.List.Elements.{recursion_from_All}
use Rattle.proxy_history.specs.Events.{Event, Joined, Piece, Left, ModemPiece, ModemGone, ModemBack, Now, Took, ModemTook}
use Rattle.proxy_history.specs.Items.{Item, Joins}
use Rattle.proxy_history.specs.Facts.{Fact, Request, NotAdmitted, BadStream, NoRoom, Leaving, EventBegan, Admitted, Ended, Judged, Taken, Forwarded, Answered, IdHeld, Late, Expired, Aborted, Indicated, OpeningEnded, SessionsClosed, Granted, Freed, Reset, ModemLost, ModemReturned, ListSent}
use Rattle.proxy_history.specs.Connections.{contains, present, is_present}
use Rattle.proxy_history.specs.Sound.{IsPresent, MayFollow, begins_anew}
use Rattle.proxy_history.specs.Protocol.{Protocol}
use Rattle.proxy_history.specs.History.{add_all, history}
use Rattle.proxy_history.specs.Coming.{greatest_name, MayCome, AreSound}
use Rattle.proxy_history.specs.Adding.{MayAdd, MayFinish, MayAsk, IsOrderly}
use Rattle.proxy_history.proofs.Sound.{forwarded_from_in_use, in_use_from_pending}
use Rattle.proxy_history.proofs.Walk.{IsOf, kept_by_event, kept_at_end}
use Rattle.proxy_solo.specs.Part.{facts_if, part}
use Rattle.proxy_solo.proofs.Lists.{turned}
use Rattle.proxy_solo.proofs.Reading.{Reads, AreGeneral, is_general, is_judged}
use Rattle.proxy_solo.proofs.Placed.{IsNewest, Placed, no_request}
use Rattle.proxy_solo.proofs.Queries.{present-part}

-- ---- who joined ----

abbrev pub has_joined : ℕ → List Event → Bool
has_joined c [] = false
has_joined c (Joined d ∷ events) = d == c || has_joined c events
has_joined c (_ ∷ events) = has_joined c events

joined_within : (c : ℕ) (events : List Event) → has_joined c events ≡ true → c ≤ greatest_name events
joined_within c [] e = absurd (cc)
joined_within c (Joined d ∷ events) e =
    let step : (b : Bool) → (d == c) ≡ b → (b || has_joined c events) ≡ true → c ≤ max d (greatest_name events) =
    λ b. elim b as (λ b. (d == c) ≡ b → (b || has_joined c events) ≡ true → c ≤ max d (greatest_name events)) [
      | true ↦ λ is h. let same : d ≡ c = eqb-true d c is in omega (arith, same)
      | false ↦ λ is h. let rest = joined_within c events h in omega (arith, rest)
    ]
    in step (d == c) refl e
joined_within c (_ ∷ events) e = joined_within c events e

-- names rise, so a name that joins is new
pub new_name : (c : ℕ) (events : List Event) → greatest_name events < c → has_joined c events ≡ false
new_name c events rises =
    let step : (b : Bool) → has_joined c events ≡ b → b ≡ false =
    λ b. elim b as (λ b. has_joined c events ≡ b → b ≡ false) [
      | true ↦ λ e. let low = joined_within c events e in absurd (omega (arith, low, rises))
      | false ↦ λ e. refl
    ]
    in step (has_joined c events) refl

pub not_joined : (c : ℕ) (event : Event) (events : List Event) → has_joined c (event ∷ events) ≡ false → (event ≡ Joined c → ⊥) × (has_joined c events ≡ false)
not_joined c (Joined d) events e =
    let step : (b : Bool) → (d == c) ≡ b → (b || has_joined c events) ≡ false → (Joined d ≡ Joined c → ⊥) × (has_joined c events ≡ false) =
    λ b. elim b as (λ b. (d == c) ≡ b → (b || has_joined c events) ≡ false → (Joined d ≡ Joined c → ⊥) × (has_joined c events ≡ false)) [
      | true ↦ λ is h. absurd (cc)
      | false ↦ λ is h. ((λ same. let names : d ≡ c = cc in let clash : true ≡ false = sym (eq-eqb d c names) ∙ is in cc), h)
    ]
    in step (d == c) refl e
not_joined c (Piece d bytes) events e = ((λ same. cc), e)
not_joined c (Left d) events e = ((λ same. cc), e)
not_joined c (ModemPiece bytes) events e = ((λ same. cc), e)
not_joined c ModemGone events e = ((λ same. cc), e)
not_joined c ModemBack events e = ((λ same. cc), e)
not_joined c (Now time) events e = ((λ same. cc), e)
not_joined c (Took d count) events e = ((λ same. cc), e)
not_joined c (ModemTook count) events e = ((λ same. cc), e)

-- ---- of whom nothing was heard ----

pub general_present : (c : ℕ) (facts : List Fact) → AreGeneral facts → is_present c facts ≡ false
unfolding present
general_present c [] general = refl
general_present c (Freed d service cid ∷ facts) general = general_present c facts general.1
general_present c (Reset ∷ facts) general = general_present c facts general.1
general_present c (ModemLost ∷ facts) general = general_present c facts general.1
general_present c (ModemReturned ∷ facts) general = general_present c facts general.1
general_present c (_ ∷ facts) general = absurd (let clash : false ≡ true = general.0 in cc)

-- what a test comes to where it can't hold
never : (b : Bool) → (b ≡ true → ⊥) → b ≡ false
never true none = absurd (none refl)
never false none = refl

module _ {Known : Type 0} (p : Protocol Known) (Asks : Request → List Fact → Type 0) (O : IsOrderly p Asks) (restated : Fact → List Fact) (R : Reads restated) (c : ℕ) (client : c ≢ 0) where
  abbrev pub part_of : List Fact → List Fact
  part_of past = part p.wording.blank restated c past

  abbrev pub IsUnheard : List Fact → Type 0
  IsUnheard past = AreGeneral (part_of past)

  pub absent : (past : List Fact) → IsUnheard past → is_present c past ≡ false
  absent past unheard = sym (present-part p.limits p.wording.blank restated R c past) ∙ general_present c (part_of past) unheard

  there_is_another : (d : ℕ) (past : List Fact) → IsUnheard past → IsPresent d past → (d == c) ≡ false
  there_is_another d past unheard there =
      never (d == c) (λ e. let same : is_present c past ≡ true = subst (λ (x : ℕ). is_present x past ≡ true) (eqb-true d c e) there in let clash : true ≡ false = sym same ∙ absent past unheard in cc)

  party_is_another : (d : ℕ) (past : List Fact) → IsUnheard past → (d == 0 || is_present d past) ≡ true → (d == c) ≡ false
  party_is_another d past unheard party =
      never (d == c)
      (λ e.
      let same : d ≡ c = eqb-true d c e in
      let step : (b : Bool) → (d == 0) ≡ b → (b || is_present d past) ≡ true → ⊥ =
      λ b. elim b as (λ b. (d == 0) ≡ b → (b || is_present d past) ≡ true → ⊥) [
        | true ↦ λ none h. client (sym same ∙ eqb-true d 0 none)
        | false ↦ λ some h. let other = there_is_another d past unheard h in let clash : true ≡ false = sym e ∙ other in cc
      ]
      in step (d == 0) refl party)

  sender_is_another : (r : Request) (past : List Fact) → IsUnheard past → Contains past (Forwarded r) → (r.conn == c) ≡ false
  sender_is_another r past unheard at = never (r.conn == c) (λ mine. no_request p.limits p.wording.blank restated R c past r unheard (at, mine))

  receivers_are_others : (receivers : List ℕ) (past : List Fact) → IsUnheard past → AllByRecursion (λ d. IsPresent d past) receivers → contains c receivers ≡ false
  receivers_are_others [] past unheard all = refl
  receivers_are_others (d ∷ receivers) past unheard all =
      ap (λ (b : Bool). b || contains c receivers) (turned c d ∙ there_is_another d past unheard all.0) ∙ receivers_are_others receivers past unheard all.1

  others_pass : (b : Bool) (added facts : List Fact) → b ≡ false → AreGeneral facts → AreGeneral (facts_if b added facts)
  others_pass b added facts theirs general = subst (λ (t : Bool). AreGeneral (facts_if t added facts)) (sym theirs) general

  all_pass : (b : Bool) (fact : Fact) (facts : List Fact) → is_judged fact ≡ false → is_general fact ≡ true → AreGeneral facts → AreGeneral (facts_if b (restated fact) facts)
  all_pass true fact facts plain names_nobody general = subst (λ (l : List Fact). AreGeneral (l ++ facts)) (sym (R.plain fact plain)) (names_nobody, general)
  all_pass false fact facts plain names_nobody general = general

  pub unheard_fact : (fact : Fact) (past : List Fact) → begins_anew c fact ≡ false → MayFollow p.limits fact past → IsUnheard past → IsUnheard (fact ∷ past)
  unfolding part
  unheard_fact (Admitted d) past other follows unheard = others_pass (d == c) _ (part_of past) other unheard
  unheard_fact (Ended d NotAdmitted) past other follows unheard = others_pass (d == c) _ (part_of past) other unheard
  unheard_fact (Ended d BadStream) past other follows unheard = others_pass (d == c) _ (part_of past) (there_is_another d past unheard follows) unheard
  unheard_fact (Ended d NoRoom) past other follows unheard = others_pass (d == c) _ (part_of past) (there_is_another d past unheard follows) unheard
  unheard_fact (Ended d Leaving) past other follows unheard = others_pass (d == c) _ (part_of past) (there_is_another d past unheard follows) unheard
  unheard_fact (Judged d place m verdict) past other follows unheard = others_pass (d == c) _ (part_of past) (there_is_another d past unheard follows) unheard
  unheard_fact (Taken d count) past other follows unheard = others_pass (d == c) _ (part_of past) (there_is_another d past unheard follows) unheard
  unheard_fact (Forwarded r) past other follows unheard = others_pass (r.conn == c) _ (part_of past) (party_is_another r.conn past unheard follows.sender) unheard
  unheard_fact (Answered r m) past other follows unheard = others_pass (r.conn == c) _ (part_of past) (sender_is_another r past unheard (forwarded_from_in_use past r (in_use_from_pending past r follows))) unheard
  unheard_fact (IdHeld r) past other follows unheard = others_pass (r.conn == c) _ (part_of past) (sender_is_another r past unheard (forwarded_from_in_use past r (in_use_from_pending past r follows))) unheard
  unheard_fact (Expired r) past other follows unheard = others_pass (r.conn == c) _ (part_of past) (sender_is_another r past unheard (forwarded_from_in_use past r (in_use_from_pending past r follows))) unheard
  unheard_fact (Aborted r) past other follows unheard = others_pass (r.conn == c) _ (part_of past) (sender_is_another r past unheard (forwarded_from_in_use past r (in_use_from_pending past r follows))) unheard
  unheard_fact (Late r) past other follows unheard = others_pass (r.conn == c) _ (part_of past) (sender_is_another r past unheard (forwarded_from_in_use past r follows)) unheard
  unheard_fact (Indicated m receivers) past other follows unheard = others_pass (contains c receivers) _ (part_of past) (receivers_are_others receivers past unheard (recursion_from_All (λ (d : ℕ). IsPresent d past) receivers follows)) unheard
  unheard_fact (OpeningEnded status receivers) past other follows unheard = others_pass (contains c receivers) _ (part_of past) (receivers_are_others receivers past unheard (recursion_from_All (λ (d : ℕ). IsPresent d past) receivers follows)) unheard
  unheard_fact (SessionsClosed receivers) past other follows unheard = others_pass (contains c receivers) _ (part_of past) (receivers_are_others receivers past unheard (recursion_from_All (λ (d : ℕ). IsPresent d past) receivers follows)) unheard
  unheard_fact (Granted d service id) past other follows unheard = others_pass (d == c) _ (part_of past) (party_is_another d past unheard follows.0) unheard
  unheard_fact (Freed d service id) past other follows unheard = all_pass (d == c) (Freed d service id) (part_of past) refl refl unheard
  unheard_fact Reset past other follows unheard = all_pass true Reset (part_of past) refl refl unheard
  unheard_fact ModemLost past other follows unheard = all_pass true ModemLost (part_of past) refl refl unheard
  unheard_fact ModemReturned past other follows unheard = all_pass true ModemReturned (part_of past) refl refl unheard
  unheard_fact _ past other follows unheard = unheard

  -- ---- event by event ----

  is_another : (d e : ℕ) → (Joined d ≡ Joined c → ⊥) → e ≡ d → (e == c) ≡ false
  is_another d e new same = never (e == c) (λ is. new (ap (λ (x : ℕ). Joined x) (sym same ∙ eqb-true e c is)))

  nobody_anew : (event : Event) → (event ≡ Joined c → ⊥) → (item : Item) → IsOf event item → (fact : Fact) (past : List Fact) → MayAdd item fact past → begins_anew c fact ≡ false
  nobody_anew (Joined x) new (Joins d) is (Admitted e) past may = is_another x e new (may ∙ is)
  nobody_anew (Joined x) new (Joins d) is (Ended e NotAdmitted) past may = is_another x e new (may ∙ is)
  nobody_anew (Joined x) new (Joins d) is _ past may = absurd may
  nobody_anew _ new (Joins d) is _ past may = absurd is
  nobody_anew _ new _ is (Admitted e) past may = absurd may
  nobody_anew _ new _ is (Ended e NotAdmitted) past may = absurd may
  nobody_anew _ new _ is _ past may = refl

  nobody_at_end : (fact : Fact) (past : List Fact) → MayFinish fact past → begins_anew c fact ≡ false
  nobody_at_end (Forwarded r) past may = refl
  nobody_at_end (ListSent list) past may = refl
  nobody_at_end _ past may = absurd may

  pub unheard_event : (event : Event) (events : List Event) → (event ≡ Joined c → ⊥) → IsUnheard (history p events) → IsUnheard (history p (event ∷ events))
  unfolding part
  unheard_event event events new unheard =
      kept_by_event p Asks O IsUnheard event
      (λ item of fact past follows may asked held. unheard_fact fact past (nobody_anew event new item of fact past may) follows held)
      (λ fact past follows may asked held. unheard_fact fact past (nobody_at_end fact past may) follows held)
      events unheard

  -- ---- places ----

  abbrev pub IsPlacedIn : List Fact → Type 0
  IsPlacedIn past = Placed p.limits p.wording.blank restated R c past

  module _ (newest : (r : Request) (past : List Fact) → IsPlacedIn past → Asks r past → (r.conn == c) ≡ true → IsNewest c r past) where
    pub placed_fact : (fact : Fact) (past : List Fact) → begins_anew c fact ≡ false → MayFollow p.limits fact past → MayAsk p Asks fact past → IsPlacedIn past → IsPlacedIn (fact ∷ past)
    placed_fact (Admitted d) past other follows asked P = record { sound = (follows, P.sound); placed = ((λ e. absurd (let clash : true ≡ false = sym e ∙ other in cc)), P.placed) }
    placed_fact (Forwarded r) past other follows asked P = record { sound = (follows, P.sound); placed = ((λ mine. newest r past P asked.1 mine), P.placed) }
    placed_fact fact past other follows asked P = record { sound = (follows, P.sound); placed = (tt, P.placed) }

    placed_begun : (past : List Fact) → IsPlacedIn past → IsPlacedIn (EventBegan ∷ past)
    placed_begun past P = record { sound = (tt, P.sound); placed = (tt, P.placed) }

    placed_end : (past : List Fact) → IsPlacedIn past → IsPlacedIn (p.finish past)
    placed_end past P = kept_at_end p Asks O IsPlacedIn (λ fact before follows may asked held. placed_fact fact before (nobody_at_end fact before may) follows asked held) past P.sound P

    pub placed_event : (event : Event) (events : List Event) → (event ≡ Joined c → ⊥) → IsPlacedIn (history p events) → IsPlacedIn (history p (event ∷ events))
    placed_event event events new P =
        kept_by_event p Asks O IsPlacedIn event
        (λ item of fact past follows may asked held. placed_fact fact past (nobody_anew event new item of fact past may) follows asked held)
        (λ fact past follows may asked held. placed_fact fact past (nobody_at_end fact past may) follows asked held)
        events (placed_begun (history p events) P)

    placed_join : (events : List Event) → IsUnheard (history p events) → IsPlacedIn (history p events) → IsPlacedIn (history p (Joined c ∷ events))
    unfolding history add_all part
    placed_join events unheard P =
        let begun : IsPlacedIn (EventBegan ∷ history p events) = placed_begun (history p events) P in
        placed_end _ (by (nat_lt (length (present (EventBegan ∷ history p events))) p.limits.connections) refl)
      where
        by : (b : Bool) → nat_lt (length (present (EventBegan ∷ history p events))) p.limits.connections ≡ b → IsPlacedIn (let after : List Fact = if b then Admitted c ∷ EventBegan ∷ history p events else Ended c NotAdmitted ∷ EventBegan ∷ history p events in after)
        by true room = record { sound = (grind (arith, nat_tests, room), (tt, P.sound)); placed = ((λ e. unheard), (tt, P.placed)) }
        by false full = record { sound = (grind (arith, nat_tests, full), (tt, P.sound)); placed = (tt, (tt, P.placed)) }

    pub record Follows (events : List Event) : Type 0 where
      pub placed : IsPlacedIn (history p events)
      -- until it joins
      pub unheard : has_joined c events ≡ false → IsUnheard (history p events)

    follows_join : (event : Event) (events : List Event) → event ≡ Joined c → MayCome p event events → Follows events → Follows (event ∷ events)
    follows_join event events is may F =
        let rises : MayCome p (Joined c) events = subst (λ (x : Event). MayCome p x events) is may in
        let after : IsPlacedIn (history p (Joined c ∷ events)) = placed_join events (F.unheard (new_name c events rises)) F.placed in
        record {
          placed = subst (λ (x : Event). IsPlacedIn (history p (x ∷ events))) (sym is) after;
          unheard = λ none. let other = (not_joined c event events none).0 in absurd (other is);
        }

    follows_other : (event : Event) (events : List Event) → (event ≡ Joined c → ⊥) → Follows events → Follows (event ∷ events)
    follows_other event events new F = record {
      placed = placed_event event events new F.placed;
      unheard = λ none. unheard_event event events new (F.unheard (not_joined c event events none).1);
    }

    follows_any : (d : ℕ) (events : List Event) → MayCome p (Joined d) events → Follows events → Follows (Joined d ∷ events)
    follows_any d events may F =
        let step : (b : Bool) → (d == c) ≡ b → Follows (Joined d ∷ events) =
        λ b. elim b as (λ b. (d == c) ≡ b → Follows (Joined d ∷ events)) [
          | true ↦ λ e. follows_join (Joined d) events (ap (λ (x : ℕ). Joined x) (eqb-true d c e)) may F
          | false ↦ λ e. follows_other (Joined d) events (λ same. let names : d ≡ c = cc in let clash : true ≡ false = sym (eq-eqb d c names) ∙ e in cc) F
        ]
        in step (d == c) refl

    pub follows : (events : List Event) → AreSound p events → Follows events
    unfolding history part
    follows [] sound = record { placed = record { sound = tt; placed = tt }; unheard = λ none. tt }
    follows (Joined d ∷ events) sound = follows_any d events sound.0 (follows events sound.1)
    follows (Piece d bytes ∷ events) sound = follows_other (Piece d bytes) events (λ same. cc) (follows events sound.1)
    follows (Left d ∷ events) sound = follows_other (Left d) events (λ same. cc) (follows events sound.1)
    follows (ModemPiece bytes ∷ events) sound = follows_other (ModemPiece bytes) events (λ same. cc) (follows events sound.1)
    follows (ModemGone ∷ events) sound = follows_other ModemGone events (λ same. cc) (follows events sound.1)
    follows (ModemBack ∷ events) sound = follows_other ModemBack events (λ same. cc) (follows events sound.1)
    follows (Now time ∷ events) sound = follows_other (Now time) events (λ same. cc) (follows events sound.1)
    follows (Took d count ∷ events) sound = follows_other (Took d count) events (λ same. cc) (follows events sound.1)
    follows (ModemTook count ∷ events) sound = follows_other (ModemTook count) events (λ same. cc) (follows events sound.1)
