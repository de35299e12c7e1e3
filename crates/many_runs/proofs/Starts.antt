-- Pumps are started one node behind the other.
use Rattle.std.proofs.Common.{◌≡◌, ℕ, ◌+◌, ◌<◌, Bool, true, false, List, [], ◌∷◌, ◌++◌, length, map, take, drop, get_or, refl, ap, sym, ◌∙◌, subst, append_assoc, append-nil, Option}
use Rattle.std.proofs.lemmas.List.{map-append, map_push, take_more, take-append-drop}
use Rattle.kit_io.specs.Growth.{Grows}
use Rattle.kit_io.proofs.Growth.{Grows-none, Grows-append}
use Rattle.child_io.specs.Calls.{Call}
use Rattle.child_io.specs.Alive.{StandsFor}
use Rattle.modem_routes.specs.Routes.{PumpWords, words_in}
use Rattle.modem_routes.specs.declared.route.Pumps.{Pumps}
use Rattle.modem_routes.specs.Reaching.{StartsBy, StartsMore, StartsPumps}
use Rattle.many_runs.specs.Running.{StartsEach, StartsFirst, went, failed}

-- ---- the calls ----

each_next : (pumps : List PumpWords) (node : PumpWords) (ok : Bool) (first later : List Call) → StartsEach pumps true first → StartsPumps node ok later → StartsEach (pumps ++ node ∷ []) ok (first ++ later)
each_next [] node ok first later begun starts = by ok starts
  where
    by : (b : Bool) → StartsPumps node b later → StartsFirst node (StartsEach []) b (first ++ later)
    by true starts = went later [] (ap (λ (l : List Call). l ++ later) begun.1 ∙ sym (append-nil later)) starts (refl, refl)
    by false starts = failed refl (subst (λ (l : List Call). StartsPumps node false (l ++ later)) (sym begun.1) starts)
each_next (other ∷ pumps) node ok first later (went front rest is starts_other others) starts =
    went front (rest ++ later) (ap (λ (l : List Call). l ++ later) is ∙ append_assoc front rest later) starts_other (each_next pumps node ok rest later others starts)
each_next (other ∷ pumps) node ok first later (failed over starts_other) starts = absurd (cc)

each_cut : (pumps more : List PumpWords) (starts : List Call) → StartsEach pumps false starts → StartsEach (pumps ++ more) false starts
each_cut [] more starts begun = absurd (let clash : false ≡ true = begun.0 in cc)
each_cut (node ∷ pumps) more starts (went front rest is starts_node others) = went front rest is starts_node (each_cut pumps more rest others)
each_cut (node ∷ pumps) more starts (failed over starts_node) = failed over starts_node

-- ---- as a spawner records them ----

pub none_started : {calls : Option (List Call)} {kept : List ℕ} → kept ≡ [] → StartsBy (StartsEach [] true) calls kept calls
none_started {calls = calls} none = record { starts = []; are = (refl, refl); grows = Grows-none calls; stands = none }

pub next_started : (pumps : List PumpWords) {node : PumpWords} {ok : Bool} {old mid new : Option (List Call)} {kept after : List ℕ} → StartsBy (StartsEach pumps true) old kept mid → StartsMore (StartsPumps node ok) mid kept after new → StartsBy (StartsEach (pumps ++ node ∷ []) ok) old after new
next_started pumps {node = node} {ok = ok} begun more = record {
  starts = begun.starts ++ more.starts;
  are = each_next pumps node ok begun.starts more.starts begun.are more.are;
  grows = Grows-append begun.grows more.grows;
  stands = more.stands begun.starts begun.stands;
}

pub cut_short : (pumps more : List PumpWords) {old new : Option (List Call)} {kept : List ℕ} → StartsBy (StartsEach pumps false) old kept new → StartsBy (StartsEach (pumps ++ more) false) old kept new
cut_short pumps more begun = record { starts = begun.starts; are = each_cut pumps more begun.starts begun.are; grows = begun.grows; stands = begun.stands }

-- ---- the nodes in their order ----

module _ (pumps : List Pumps) (at : ℕ) (node : Pumps) (within : at < length pumps) (is : node ≡ get_or pumps at node) where
  pub pumps_next : map words_in (take (at + 1) pumps) ≡ map words_in (take at pumps) ++ words_in node ∷ []
  pumps_next = ap (map words_in) (take_more pumps at node within ∙ ap (λ (p : Pumps). take at pumps ++ p ∷ []) (sym is)) ∙ map_push words_in (take at pumps) node

  pub pumps_cut : map words_in pumps ≡ (map words_in (take at pumps) ++ words_in node ∷ []) ++ map words_in (drop (at + 1) pumps)
  pumps_cut =
      ap (map words_in) (sym (take-append-drop (at + 1) pumps))
      ∙ map-append words_in (take (at + 1) pumps) (drop (at + 1) pumps)
      ∙ ap (λ (l : List PumpWords). l ++ map words_in (drop (at + 1) pumps)) pumps_next
