-- The client of a name, by its place.
use Rattle.std.proofs.Common.{◌≡◌, ℕ, zero, suc, ◌<◌, Bool, true, false, cond, ◌==◌, if◌then◌else◌, List, [], ◌∷◌, length, get_or, set, slice_get, position, refl, ap, sym, ◌∙◌, subst, arith, Option, Some, None}
use Rattle.std.specs.List.{remove}
use Rattle.std.proofs.lemmas.Bool.{eqb-true}
use Rattle.std.proofs.lemmas.List.Quantifiers.{position-Some}
use Rattle.kit_bytes.proofs.Lists.{find_first, find_none}
use Rattle.proxy_history.specs.Streams.{Framing}
use Rattle.served_sim.specs.Conduct.{Conduct}
use Rattle.sim_serving.specs.Core.{Client, Core, Replies, names_of, named, waiting_in, waiting_for}
use Rattle.sim_serving.specs.Hearing.{Answers, cut_of, goes_on, heard, changed, gone, took, Hears, Brings}

pub remove_set : {X : Type 0} (xs : List X) (i : ℕ) (y : X) → remove (set xs i y) i ≡ remove xs i
remove_set [] i y = refl
remove_set (x ∷ xs) zero y = refl
remove_set (x ∷ xs) (suc i) y = ap (λ t. x ∷ t) (remove_set xs i y)

pub name_got : (clients : List Client) (place name : ℕ) → place < length clients → ((k : Client) → k ≡ get_or clients place k → name ≡ k.name) → slice_get (names_of clients) place ≡ Some name
name_got [] place name within is = absurd (omega arith)
name_got (k ∷ clients) zero name within is = ap Some (sym (is k refl))
name_got (k ∷ clients) (suc place) name within is = name_got clients place name (omega arith) is

module _ (name : ℕ) where
  abbrev pub is_named : Client → Bool
  is_named k = name == k.name

  -- the first of this name stands at this place
  record IsAt (clients : List Client) (place : ℕ) : Type 0 where
    within : place < length clients
    here : (d : Client) → is_named (get_or clients place d) ≡ true
    before : (j : ℕ) (d : Client) → j < place → is_named (get_or clients j d) ≡ false

  is_at : (clients : List Client) (place : ℕ) → Some place ≡ position is_named clients → (d : Client) → IsAt clients place
  is_at clients place is d = record {
    within = (position-Some is_named clients place d (sym is)).0;
    here = λ e. (position-Some is_named clients place e (sym is)).1;
    before = λ j e low. (position-Some is_named clients place e (sym is)).2 j low;
  }

  is_behind : (k : Client) (clients : List Client) (place : ℕ) → IsAt (k ∷ clients) (suc place) → IsAt clients place
  is_behind k clients place at = record {
    within = omega (arith, at.within);
    here = at.here;
    before = λ j d low. at.before (suc j) d (omega arith);
  }

  changed_set : (change : Client → Client) (clients : List Client) (place : ℕ) (d : Client) → IsAt clients place → changed name change clients ≡ set clients place (change (get_or clients place d))
  unfolding changed
  changed_set change [] place d at = absurd (omega (arith, at.within))
  changed_set change (k ∷ clients) zero d at = rw (at.here d) refl
  changed_set change (k ∷ clients) (suc place) d at = rw (at.before 0 d (omega arith)) (ap (λ t. k ∷ t) (changed_set change clients place d (is_behind k clients place at)))

  gone_remove : (clients : List Client) (place : ℕ) (d : Client) → IsAt clients place → gone name clients ≡ remove clients place
  unfolding gone
  gone_remove [] place d at = absurd (omega (arith, at.within))
  gone_remove (k ∷ clients) zero d at = rw (at.here d) refl
  gone_remove (k ∷ clients) (suc place) d at = rw (at.before 0 d (omega arith)) (ap (λ t. k ∷ t) (gone_remove clients place d (is_behind k clients place at)))

  module _ (clients : List Client) (place : ℕ) (is : Some place ≡ position is_named clients) (k : Client) (at : k ≡ get_or clients place k) where
    pub found : named name clients ≡ Some k
    found = find_first is_named clients place k (sym is) ∙ ap Some (sym at)

    pub name_is : name ≡ k.name
    name_is = eqb-true name k.name (ap is_named at ∙ (is_at clients place is k).here k)

    pub waiting_at : waiting_for name clients ≡ k.replies.waiting
    waiting_at = ap waiting_in found

    pub changed_at : (change : Client → Client) → changed name change clients ≡ set clients place (change k)
    changed_at change = changed_set change clients place k (is_at clients place is k) ∙ ap (λ (l : Client). set clients place (change l)) (sym at)

    pub gone_at : gone name clients ≡ remove clients place
    gone_at = gone_remove clients place k (is_at clients place is k)

  -- ---- none has this name ----

  pub none_found : (clients : List Client) → None ≡ position is_named clients → named name clients ≡ None
  none_found clients none = find_none is_named clients (sym none)

  pub waiting_none : (clients : List Client) → None ≡ position is_named clients → waiting_for name clients ≡ []
  waiting_none clients none = ap waiting_in (none_found clients none)

  pub changed_none : (change : Client → Client) (clients : List Client) → named name clients ≡ None → changed name change clients ≡ clients
  unfolding changed
  changed_none change [] none = refl
  changed_none change (k ∷ clients) none =
      let step : (b : Bool) → cond b (Some k) (named name clients) ≡ None → (if b then change k ∷ clients else k ∷ changed name change clients) ≡ k ∷ clients =
      λ b. elim b as (λ b. cond b (Some k) (named name clients) ≡ None → (if b then change k ∷ clients else k ∷ changed name change clients) ≡ k ∷ clients) [
        | true ↦ λ none. absurd (cc)
        | false ↦ λ none. ap (λ (l : List Client). k ∷ l) (changed_none change clients none)
      ]
      in step (is_named k) none

  pub gone_none : (clients : List Client) → named name clients ≡ None → gone name clients ≡ clients
  unfolding gone
  gone_none [] none = refl
  gone_none (k ∷ clients) none =
      let step : (b : Bool) → cond b (Some k) (named name clients) ≡ None → (if b then clients else k ∷ gone name clients) ≡ k ∷ clients =
      λ b. elim b as (λ b. cond b (Some k) (named name clients) ≡ None → (if b then clients else k ∷ gone name clients) ≡ k ∷ clients) [
        | true ↦ λ none. absurd (cc)
        | false ↦ λ none. ap (λ (l : List Client). k ∷ l) (gone_none clients none)
      ]
      in step (is_named k) none

-- ---- on the fields of a core ----

abbrev pub core_of : {S : Type 0} → S → List Client → Option ℕ → ℕ → Core S
core_of sim clients dropped greatest = record { sim = sim; clients = clients; dropped = dropped; greatest = greatest }

module _ {S : Type 0} {t old : Core S} (was : t ≡ old) (name : ℕ) where
  abbrev with_clients : List Client → Core S → Core S
  with_clients l core = record core { clients = l }

  module _ (place : ℕ) (is : Some place ≡ position (is_named name) t.clients) (k : Client) (at : k ≡ get_or t.clients place k) where
    pub queue_is : waiting_for name old.clients ≡ k.replies.waiting
    queue_is = ap (λ (c : Core S). waiting_for name c.clients) (sym was) ∙ waiting_at name t.clients place is k at

    pub left_is : (after : List Client) → after ≡ remove t.clients place → core_of t.sim after t.dropped t.greatest ≡ with_clients (gone name old.clients) old
    left_is after after_is =
        ap (λ (l : List Client). core_of t.sim l t.dropped t.greatest) (after_is ∙ sym (gone_at name t.clients place is k at)) ∙ ap (λ (c : Core S). with_clients (gone name c.clients) c) was

    pub took_is : (count : ℕ) (now : Client) → now ≡ took count k → core_of t.sim (set t.clients place now) t.dropped t.greatest ≡ with_clients (changed name (took count) old.clients) old
    took_is count now now_is =
        ap (λ (m : Client). core_of t.sim (set t.clients place m) t.dropped t.greatest) now_is
        ∙ sym (ap (λ (l : List Client). core_of t.sim l t.dropped t.greatest) (changed_at name t.clients place is k at (took count)))
        ∙ ap (λ (c : Core S). with_clients (changed name (took count) c.clients) c) was

    -- a piece of its stream
    module _ (size : Framing) (keeps : ℕ → Conduct → List (List ℕ) → S → Type 0) (ticks : ℕ) (conduct : Conduct) (before : List (List ℕ)) (piece : List ℕ) (next : S) (now : Client) (A : Answers keeps ticks conduct before (cut_of size piece k).messages next k.replies now.replies) where
      hears_here : (new : Core S) → Hears size keeps ticks conduct before k piece t new → Brings size keeps ticks conduct before (named name old.clients) piece old new
      hears_here new H =
          subst (λ (c : Core S). Brings size keeps ticks conduct before (named name c.clients) piece c new) was
          (subst (λ (o : Option Client). Brings size keeps ticks conduct before o piece t new) (sym (found name t.clients place is k at)) H)

      pub hears_good : now.name ≡ k.name → now.rest ≡ (cut_of size piece k).rest → goes_on size conduct before piece k ≡ true
          → Brings size keeps ticks conduct before (named name old.clients) piece old (core_of next (set t.clients place now) t.dropped t.greatest)
      hears_good named_so rest good =
          let make : ℕ → List ℕ → Replies → Client = λ name rest replies. let m : Client = record { name = name; rest = rest; replies = replies } in m in
          let now_is : now ≡ heard size ticks conduct before piece k =
          ap (λ (n : ℕ). make n now.rest now.replies) named_so ∙ ap (λ (r : List ℕ). make k.name r now.replies) rest ∙ ap (make k.name (cut_of size piece k).rest) A.answered
          in
          let change : Client → Client = heard size ticks conduct before piece in
          let list : set t.clients place now ≡ changed k.name change t.clients =
          ap (set t.clients place) now_is ∙ sym (changed_at name t.clients place is k at change) ∙ ap (λ (n : ℕ). changed n change t.clients) (name_is name t.clients place is k at)
          in
          hears_here _ (record {
            modem = A.modem;
            clients = list ∙ sym (ap (λ (b : Bool). if b then changed k.name change t.clients else gone k.name t.clients) good);
            dropped = sym (ap (λ (b : Bool). if b then t.dropped else Some k.name) good);
            greatest = refl;
          })

      pub hears_bad : goes_on size conduct before piece k ≡ false → (after : List Client) → after ≡ remove (set t.clients place now) place
          → Brings size keeps ticks conduct before (named name old.clients) piece old (core_of next after (Some name) t.greatest)
      hears_bad bad after after_is =
          let change : Client → Client = heard size ticks conduct before piece in
          let list : after ≡ gone k.name t.clients =
          after_is ∙ remove_set t.clients place now ∙ sym (gone_at name t.clients place is k at) ∙ ap (λ (n : ℕ). gone n t.clients) (name_is name t.clients place is k at)
          in
          hears_here _ (record {
            modem = A.modem;
            clients = list ∙ sym (ap (λ (b : Bool). if b then changed k.name change t.clients else gone k.name t.clients) bad);
            dropped = ap Some (name_is name t.clients place is k at) ∙ sym (ap (λ (b : Bool). if b then t.dropped else Some k.name) bad);
            greatest = refl;
          })

  module _ (none : None ≡ position (is_named name) t.clients) where
    nobody : named name old.clients ≡ None
    nobody = ap (λ (c : Core S). named name c.clients) (sym was) ∙ none_found name t.clients none

    pub queue_none : waiting_for name old.clients ≡ []
    queue_none = ap waiting_in nobody

    pub left_none : old ≡ with_clients (gone name old.clients) old
    left_none = ap (λ (l : List Client). with_clients l old) (sym (gone_none name old.clients nobody))

    pub took_none : (count : ℕ) → old ≡ with_clients (changed name (took count) old.clients) old
    took_none count = ap (λ (l : List Client). with_clients l old) (sym (changed_none name (took count) old.clients nobody))

    pub brought_none : (size : Framing) (keeps : ℕ → Conduct → List (List ℕ) → S → Type 0) (ticks : ℕ) (conduct : Conduct) (before : List (List ℕ)) (piece : List ℕ) → Brings size keeps ticks conduct before (named name old.clients) piece old old
    brought_none size keeps ticks conduct before piece = subst (λ (o : Option Client). Brings size keeps ticks conduct before o piece old old) (sym nobody) refl
