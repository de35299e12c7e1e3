-- What a hub recorded of its opening for several devices, and whether some of them are nodes.
use Rattle.std.proofs.Common.{◌≡◌, ℕ, ◌<◌, ◌==◌, Bool, true, false, List, [], ◌∷◌, length, map, Option, refl, ap, ◌∙◌, subst, arith}
use Rattle.std.proofs.lemmas.Bool.Decides.{nat_tests}
use Rattle.std.proofs.lemmas.List.{length-map}
use Rattle.hub_io.specs.Record.{Since, Records}
use Rattle.hub_io.proofs.Record.{since-starts, since-grows}
use Rattle.link_io.specs.Target.{address_of}
use Rattle.link_io.specs.declared.link.Target.{Target}
use Rattle.many_io.specs.Record.{ManyCall, Opened}
use Rattle.modem_routes.specs.Routes.{words_in}
use Rattle.modem_routes.specs.declared.route.Pumps.{Pumps}

-- one call more was recorded
pub one_more : (old before now : Option (List ManyCall)) (call : ManyCall) (earlier : List ManyCall) → Since old before (λ calls. calls ≡ earlier) → Records before call now → Since old now (λ calls. calls ≡ call ∷ earlier)
one_more old before now call earlier since records =
    since-grows old before now call (λ calls. calls ≡ earlier) (λ calls. calls ≡ call ∷ earlier) (λ calls are. ap (λ (l : List ManyCall). call ∷ l) are) since records

-- one call was
pub once : (old now : Option (List ManyCall)) (call : ManyCall) → Records old call now → Since old now (λ calls. calls ≡ call ∷ [])
once old now call records = (let None : List ManyCall → Type 0 = λ calls. calls ≡ [] in one_more old old now call [] (since-starts old None refl) records)

-- the opening was
pub opened_once : (old now : Option (List ManyCall)) (socket : List ℕ) (given targets : List Target) (ok : Bool) → given ≡ targets → Records old (Opened socket (map address_of given) ok) now → Since old now (λ calls. calls ≡ Opened socket (map address_of targets) ok ∷ [])
opened_once old now socket given targets ok same records = once old now (Opened socket (map address_of targets) ok) (subst (λ (l : List Target). Records old (Opened socket (map address_of l) ok) now) same records)

-- ---- whether there are nodes ----

none_of : (pumps : List Pumps) → (length pumps == 0) ≡ true → map words_in pumps ≡ []
none_of [] is = refl
none_of (node ∷ pumps) is = absurd (let none : length (node ∷ pumps) ≡ 0 = grind (arith, nat_tests, is) in omega (arith, none))

pub no_nodes : (pumps : List Pumps) (len : ℕ) → length pumps ≡ len → (len == 0) ≡ true → map words_in pumps ≡ []
no_nodes pumps len same is = none_of pumps (ap (λ (n : ℕ). n == 0) same ∙ is)

pub some_nodes : (pumps : List Pumps) (len : ℕ) → length pumps ≡ len → (len == 0) ≡ false → 0 < length (map words_in pumps)
some_nodes pumps len same is = (let some : 0 < len = grind (arith, nat_tests, is) in omega (arith, some, same, length-map pumps words_in))
