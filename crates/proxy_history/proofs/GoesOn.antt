-- What the filters over facts keep: what a fact began and no later fact ends. First of all, the requests.
use Rattle.std.proofs.Common.{◌≡◌, ◌↔◌, Bool, true, false, not, List, [], ◌∷◌, ◌++◌, refl, ap, sym, ◌∙◌, ⊎_elim, All, Contains, filter, subst, append-nil}
use Rattle.std.proofs.lemmas.List.Elements.{All-nil, All-cons, All-head, All-tail, Contains-append_left, Contains-append_right, Contains-append_cases, Contains-push}
use Rattle.std.proofs.lemmas.Bool.{not-true}
use Rattle.proxy_history.specs.Facts.{Fact, Request, Ended, Forwarded, Answered, IdHeld, Late, Expired, Aborted, Reset, ModemLost}
use Rattle.proxy_history.specs.Requests.{in_use, pending}
use Rattle.proxy_history.specs.Laws.{GoesOn, IsForwardedAndGoesOn, frees_number, ends_waiting}
use Rattle.proxy_history.proofs.Lists.{Contains-nil, Contains-cons_cases, Contains-filter, Contains-filter_from, Contains-filter_passes, filter-all, filter-none}

-- the request that a fact forwards
forwarded : Fact → List Request
forwarded (Forwarded r) = r ∷ []
forwarded _ = []

forwarded_is : (fact : Fact) (r : Request) → Contains (forwarded fact) r → fact ≡ Forwarded r
unfolding forwarded
forwarded_is (Forwarded q) r at = ⊎_elim (λ (is : q ≡ r). ap (λ (x : Request). Forwarded x) is) (λ (none : Contains [] r). absurd (Contains-nil r none)) (Contains-cons_cases r q [] at)
forwarded_is _ r at = absurd (Contains-nil r at)

-- what a fact begins, behind those before it, and is kept until a fact ends it
module _ {X : Type 0} (begun : Fact → List Fact → List X) (ends : X → Fact → Bool) (keeps : List Fact → List X) (empty : keeps [] ≡ [])
    (step : (fact : Fact) (past : List Fact) → keeps (fact ∷ past) ≡ filter (λ x. not (ends x fact)) (keeps past) ++ begun fact past) where
  pub record IsBegunAndGoesOn (x : X) (facts : List Fact) : Type 0 where
    pub later : List Fact
    pub fact : Fact
    pub earlier : List Fact
    pub whole : facts ≡ later ++ fact ∷ earlier
    pub begins : Contains (begun fact earlier) x
    pub none : All (λ f. ends x f ≡ false) later

  kept_goes_on : (facts : List Fact) (x : X) → Contains (keeps facts) x → IsBegunAndGoesOn x facts
  kept_goes_on [] x at = absurd (Contains-nil x (subst (λ (l : List X). Contains l x) empty at))
  kept_goes_on (fact ∷ past) x at =
      ⊎_elim
      (λ (old : Contains (filter (λ y. not (ends y fact)) (keeps past)) x).
      let before = kept_goes_on past x (Contains-filter_from (λ y. not (ends y fact)) (keeps past) x old) in
      record {
        later = fact ∷ before.later;
        fact = before.fact;
        earlier = before.earlier;
        whole = ap (λ (l : List Fact). fact ∷ l) before.whole;
        begins = before.begins;
        none = All-cons (λ f. ends x f ≡ false) fact before.later (not-true (ends x fact) (Contains-filter_passes (λ y. not (ends y fact)) (keeps past) x old)) before.none;
      })
      (λ (new : Contains (begun fact past) x). record { later = []; fact = fact; earlier = past; whole = refl; begins = new; none = All-nil (λ f. ends x f ≡ false) })
      (Contains-append_cases (filter (λ y. not (ends y fact)) (keeps past)) (begun fact past) x (subst (λ (l : List X). Contains l x) (step fact past) at))

  going_on_is_kept : (later : List Fact) (begins : Fact) (earlier : List Fact) (x : X) → Contains (begun begins earlier) x → All (λ fact. ends x fact ≡ false) later → Contains (keeps (later ++ begins ∷ earlier)) x
  going_on_is_kept [] begins earlier x new none =
      subst (λ (l : List X). Contains l x) (sym (step begins earlier)) (Contains-append_right (filter (λ y. not (ends y begins)) (keeps earlier)) (begun begins earlier) x new)
  going_on_is_kept (fact ∷ later) begins earlier x new none =
      let past : List Fact = later ++ begins ∷ earlier in
      subst (λ (l : List X). Contains l x) (sym (step fact past))
      (Contains-append_left (filter (λ y. not (ends y fact)) (keeps past)) (begun fact past) x
      (Contains-filter (λ y. not (ends y fact)) (keeps past) x
      (going_on_is_kept later begins earlier x new (All-tail (λ f. ends x f ≡ false) fact later none))
      (ap not (All-head (λ f. ends x f ≡ false) fact later none))))

  pub kept_until_ended : (facts : List Fact) (x : X) → Contains (keeps facts) x ↔ IsBegunAndGoesOn x facts
  kept_until_ended facts x = (kept_goes_on facts x, λ g. subst (λ (l : List Fact). Contains (keeps l) x) (sym g.whole) (going_on_is_kept g.later g.fact g.earlier x g.begins g.none))

-- what a fact alone begins
pub kept_exactly : {X : Type 0} (begins : X → Fact) (begun : Fact → List X) (ends : X → Fact → Bool) (keeps : List Fact → List X)
    → ((fact : Fact) (x : X) → Contains (begun fact) x → fact ≡ begins x) → ((x : X) → begun (begins x) ≡ x ∷ []) → keeps [] ≡ []
    → ((fact : Fact) (past : List Fact) → keeps (fact ∷ past) ≡ filter (λ x. not (ends x fact)) (keeps past) ++ begun fact)
    → (facts : List Fact) (x : X) → Contains (keeps facts) x ↔ GoesOn begins ends x facts
kept_exactly {X} begins begun ends keeps is self empty step facts x =
    let law = kept_until_ended (λ fact past. begun fact) ends keeps empty step facts x in (
      λ at. let g = law.0 at in record { later = g.later; earlier = g.earlier; whole = g.whole ∙ ap (λ (f : Fact). g.later ++ f ∷ g.earlier) (is g.fact x g.begins); none = g.none },
      λ g. law.1 (record {
        later = g.later;
        fact = begins x;
        earlier = g.earlier;
        whole = g.whole;
        begins = subst (λ (l : List X). Contains l x) (sym (self x)) (Contains-push [] x);
        none = g.none;
      }),
    )

-- a fact that ends none and begins none
pub same : {X : Type 0} (xs : List X) → xs ≡ filter (λ x. true) xs ++ []
same xs = sym (append-nil (filter (λ x. true) xs) ∙ filter-all xs)

-- one that ends all
pub cleared : {X : Type 0} (xs : List X) → [] ≡ filter (λ x. false) xs ++ []
cleared xs = sym (append-nil (filter (λ x. false) xs) ∙ filter-none xs)

in_use-step : (fact : Fact) (past : List Fact) → in_use (fact ∷ past) ≡ filter (λ r. not (frees_number r fact)) (in_use past) ++ forwarded fact
unfolding in_use forwarded
in_use-step (Forwarded r) past = ap (λ (l : List Request). l ++ r ∷ []) (sym (filter-all (in_use past)))
in_use-step (Answered r message) past = sym (append-nil _)
in_use-step (IdHeld r) past = sym (append-nil _)
in_use-step (Late r) past = sym (append-nil _)
in_use-step Reset past = cleared (in_use past)
in_use-step ModemLost past = cleared (in_use past)
in_use-step _ past = same (in_use past)

pending-step : (fact : Fact) (past : List Fact) → pending (fact ∷ past) ≡ filter (λ r. not (ends_waiting r fact)) (pending past) ++ forwarded fact
unfolding pending forwarded
pending-step (Forwarded r) past = ap (λ (l : List Request). l ++ r ∷ []) (sym (filter-all (pending past)))
pending-step (Answered r message) past = sym (append-nil _)
pending-step (IdHeld r) past = sym (append-nil _)
pending-step (Late r) past = sym (append-nil _)
pending-step (Expired r) past = sym (append-nil _)
pending-step (Aborted r) past = sym (append-nil _)
pending-step (Ended c why) past = sym (append-nil _)
pending-step Reset past = cleared (pending past)
pending-step ModemLost past = cleared (pending past)
pending-step _ past = same (pending past)

pub in_use-exactly : (facts : List Fact) (r : Request) → Contains (in_use facts) r ↔ IsForwardedAndGoesOn frees_number r facts
unfolding in_use forwarded
in_use-exactly = kept_exactly (λ r. Forwarded r) forwarded frees_number in_use forwarded_is (λ r. refl) refl in_use-step

pub pending-exactly : (facts : List Fact) (r : Request) → Contains (pending facts) r ↔ IsForwardedAndGoesOn ends_waiting r facts
unfolding pending forwarded
pending-exactly = kept_exactly (λ r. Forwarded r) forwarded ends_waiting pending forwarded_is (λ r. refl) refl pending-step
