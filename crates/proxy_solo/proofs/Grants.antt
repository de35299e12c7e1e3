-- Who holds a client id, told by what each client holds.
use Rattle.std.proofs.Common.{◌≡◌, ℕ, Bool, true, false, not, ◌&&◌, ◌||◌, ◌==◌, if◌then◌else◌, List, [], ◌∷◌, refl, ap, sym, ◌∙◌, arith, Some, None}
use Rattle.std.specs.List.{AllByRecursion}
use Rattle.std.proofs.lemmas.Bool.Decides.{nat_tests}
use Rattle.std.proofs.lemmas.Bool.{eqb-true}
use Rattle.proxy_history.specs.ClientIds.{Grant, is_of, holder_in, is_other, is_holder, holds_some}
pub use Rattle.proxy_history.proofs.Kept.{IsApart, AreUnique, held_once}
use Rattle.proxy_solo.specs.Part.{held_by}
use Rattle.proxy_solo.proofs.Lists.{grant_if}

-- ---- who holds an id ----

both_true : (a b : Bool) → (a && b) ≡ true → (a ≡ true) × (b ≡ true)
both_true true b e = (refl, e)
both_true false b e = absurd (cc)

-- behind the grant of an id there is none of that id
none_behind : (service cid : ℕ) (g : Grant) (grants : List Grant) → is_of service cid g ≡ true → AllByRecursion (IsApart g) grants → AllByRecursion (λ h. is_of service cid h ≡ false) grants
none_behind service cid g [] is apart = tt
none_behind service cid g (h ∷ grants) is apart =
    let parts = both_true (g.service == service) (g.cid == cid) is in
    let service_is : g.service ≡ service = eqb-true g.service service parts.0 in
    let cid_is : g.cid ≡ cid = eqb-true g.cid cid parts.1 in (
      sym (ap (λ (n : ℕ). is_of n g.cid h) service_is ∙ ap (λ (n : ℕ). is_of service n h) cid_is) ∙ apart.0,
      none_behind service cid g grants is apart.1,
    )

none_holds : (c service cid : ℕ) (grants : List Grant) → AllByRecursion (λ h. is_of service cid h ≡ false) grants → holder_in service cid (held_by c grants) ≡ None
none_holds c service cid [] none = refl
none_holds c service cid (h ∷ grants) none =
    elim (h.conn == c) as (λ b. holder_in service cid (grant_if b h (held_by c grants)) ≡ None) [
      | true ↦ ap (λ (t : Bool). if t then Some h.conn else holder_in service cid (held_by c grants)) none.0 ∙ none_holds c service cid grants none.1
      | false ↦ none_holds c service cid grants none.1
    ]

-- whether the client holds an id is told by what it holds
pub holder_by : (c service cid : ℕ) (grants : List Grant) → AreUnique grants → is_holder c (holder_in service cid grants) ≡ is_holder c (holder_in service cid (held_by c grants))
holder_by c service cid [] unique = refl
holder_by c service cid (g ∷ grants) unique =
    let Goal : Bool → Bool → Type 0 = λ (of : Bool) (mine : Bool). is_holder c (if of then Some g.conn else holder_in service cid grants) ≡ is_holder c (holder_in service cid (grant_if mine g (held_by c grants))) in
    let step : (of mine : Bool) → is_of service cid g ≡ of → (g.conn == c) ≡ mine → Goal of mine =
    λ of mine. elim of as (λ of. is_of service cid g ≡ of → (g.conn == c) ≡ mine → Goal of mine) [
      | true ↦ λ is. elim mine as (λ mine. (g.conn == c) ≡ mine → Goal true mine) [
        | true ↦ λ e. sym (ap (λ (t : Bool). is_holder c (if t then Some g.conn else holder_in service cid (held_by c grants))) is)
        | false ↦ λ e. e ∙ sym (ap (is_holder c) (none_holds c service cid grants (none_behind service cid g grants is unique.0)))
      ]
      | false ↦ λ is. elim mine as (λ mine. (g.conn == c) ≡ mine → Goal false mine) [
        | true ↦ λ e. holder_by c service cid grants unique.1 ∙ sym (ap (λ (t : Bool). is_holder c (if t then Some g.conn else holder_in service cid (held_by c grants))) is)
        | false ↦ λ e. holder_by c service cid grants unique.1
      ]
    ]
    in step (is_of service cid g) (g.conn == c) refl refl

pub some_by : (c service : ℕ) (grants : List Grant) → holds_some c service grants ≡ holds_some c service (held_by c grants)
some_by c service [] = refl
some_by c service (g ∷ grants) =
    let rest = some_by c service grants in
    let step : (b : Bool) → (g.conn == c) ≡ b → ((b && (g.service == service)) || holds_some c service grants) ≡ holds_some c service (grant_if b g (held_by c grants)) =
    λ b. elim b as (λ b. (g.conn == c) ≡ b → ((b && (g.service == service)) || holds_some c service grants) ≡ holds_some c service (grant_if b g (held_by c grants))) [
      | true ↦ λ e. ap (λ (t : Bool). g.service == service || t) rest ∙ sym (ap (λ (t : Bool). (t && (g.service == service)) || holds_some c service (held_by c grants)) e)
      | false ↦ λ e. rest
    ]
    in step (g.conn == c) refl

-- where nobody but d holds the id, c doesn't
pub not_held : (c d service cid : ℕ) (grants : List Grant) → AreUnique grants → (d == c) ≡ false → is_other d (holder_in service cid grants) ≡ false
    → AllByRecursion (λ g. (g.conn == c) ≡ true → is_of service cid g ≡ false) grants
not_held c d service cid [] unique differs holds = tt
not_held c d service cid (g ∷ grants) unique differs holds =
    let Goal : Type 0 = AllByRecursion (λ g. (g.conn == c) ≡ true → is_of service cid g ≡ false) (g ∷ grants) in
    let step : (of : Bool) → is_of service cid g ≡ of → is_other d (if of then Some g.conn else holder_in service cid grants) ≡ false → Goal =
    λ of. elim of as (λ of. is_of service cid g ≡ of → is_other d (if of then Some g.conn else holder_in service cid grants) ≡ false → Goal) [
      | true ↦ λ is theirs. (
        (λ mine. absurd (let same : (g.conn == d) ≡ true = elim (g.conn == d) as (λ b. not b ≡ false → b ≡ true) [ true ↦ λ e. refl | false ↦ λ e. absurd (cc) ] theirs in
            let clash : (d == c) ≡ true = grind (arith, nat_tests, same, mine) in let no : true ≡ false = sym clash ∙ differs in cc)),
        weaken grants (none_behind service cid g grants is unique.0),
      )
      | false ↦ λ is theirs. ((λ mine. is), not_held c d service cid grants unique.1 differs theirs)
    ]
    in step (is_of service cid g) refl holds
  where
    weaken : (hs : List Grant) → AllByRecursion (λ h. is_of service cid h ≡ false) hs → AllByRecursion (λ g. (g.conn == c) ≡ true → is_of service cid g ≡ false) hs
    weaken [] all = tt
    weaken (h ∷ hs) all = ((λ mine. all.0), weaken hs all.1)
