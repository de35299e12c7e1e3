-- One who isn't there waits for nothing.
use Rattle.std.proofs.Common.{◌≡◌, ℕ, ◌≤◌, Bool, true, false, cond, ◌||◌, ◌==◌, List, [], ◌∷◌, map, filter, refl, ap, sym, ◌∙◌, subst, arith}
use Rattle.std.specs.List.{AllByRecursion}
use Rattle.std.proofs.lemmas.Bool.Decides.{nat_tests}
use Rattle.std.proofs.lemmas.Bool.{eqb-true, true≢false}
use Rattle.std.proofs.lemmas.List.Elements.{recursion_from_All}
use Rattle.kit_bytes.proofs.Lists.{all_weaker}
use Rattle.proxy_history.specs.Limits.{Limits}
use Rattle.proxy_history.specs.Facts.{Fact, Request, Why, Ended}
use Rattle.proxy_history.specs.Connections.{present, contains}
use Rattle.proxy_history.specs.Requests.{pending}
use Rattle.proxy_history.specs.Sound.{IsParty, IsSound}
use Rattle.proxy_history.proofs.SoundLaws.{waiting_are_parties}
use Rattle.proxy_state.specs.Requests.{RequestInUse, requests_in_use, silenced_if}
use Rattle.proxy_state.proofs.InUse.{request_in, waits_in, waiting, pending_is}

module _ (c : ℕ) where
  silences_none : (list : List RequestInUse) → AllByRecursion (λ (r : Request). (c == r.conn) ≡ false) (waiting list) → map (λ a. silenced_if (c == a.request.conn) a) list ≡ list
  silences_none [] all = refl
  silences_none (a ∷ list) all =
      let step : (w : Bool) → a.waits ≡ w → AllByRecursion (λ (r : Request). (c == r.conn) ≡ false) (map request_in (cond w (a ∷ filter waits_in list) (filter waits_in list))) → silenced_if (c == a.request.conn) a ∷ map (λ a. silenced_if (c == a.request.conn) a) list ≡ a ∷ list =
      λ w. elim w as (λ w. a.waits ≡ w → AllByRecursion (λ (r : Request). (c == r.conn) ≡ false) (map request_in (cond w (a ∷ filter waits_in list) (filter waits_in list))) → silenced_if (c == a.request.conn) a ∷ map (λ a. silenced_if (c == a.request.conn) a) list ≡ a ∷ list) [
        | true ↦ λ e others. ap (λ (b : Bool). silenced_if b a ∷ map (λ (a : RequestInUse). silenced_if (c == a.request.conn) a) list) others.0 ∙ ap (λ (l : List RequestInUse). a ∷ l) (silences_none list others.1)
        | false ↦ λ e others. ap (λ (x : RequestInUse). x ∷ map (λ (a : RequestInUse). silenced_if (c == a.request.conn) a) list) (silent (c == a.request.conn) e) ∙ ap (λ (l : List RequestInUse). a ∷ l) (silences_none list others)
      ]
      in step a.waits refl all
    where
      silent : (b : Bool) → a.waits ≡ false → silenced_if b a ≡ a
      silent true e = ap (λ (w : Bool). let x : RequestInUse = record { request = a.request; waits = w } in x) (sym e)
      silent false e = refl

  pub not_party : (past : List Fact) (d : ℕ) → 1 ≤ c → contains c (present past) ≡ false → IsParty d past → (c == d) ≡ false
  not_party past d some absent party =
      let step : (b : Bool) → (c == d) ≡ b → b ≡ false =
      λ b. elim b as (λ b. (c == d) ≡ b → b ≡ false) [
        | true ↦ λ e. absurd (true≢false (sym (subst (λ (n : ℕ). (n == 0 || contains n (present past)) ≡ true) (sym (eqb-true c d e)) party) ∙ nobody))
        | false ↦ λ e. refl
      ]
      in step (c == d) refl
    where
      nobody : (c == 0 || contains c (present past)) ≡ false
      nobody = let positive : (c == 0) ≡ false = grind (arith, nat_tests, some) in ap (λ (b : Bool). b || contains c (present past)) positive ∙ absent

-- its end ends nobody's waiting
pub requests_of_stranger : (limits : Limits) (past : List Fact) (c : ℕ) (why : Why) → 1 ≤ c → contains c (present past) ≡ false → IsSound limits past → requests_in_use (Ended c why ∷ past) ≡ requests_in_use past
unfolding requests_in_use
requests_of_stranger limits past c why some absent sound =
    silences_none c (requests_in_use past)
    (subst (AllByRecursion (λ (r : Request). (c == r.conn) ≡ false)) (pending_is past)
    (all_weaker (λ (r : Request). IsParty r.conn past) (λ (r : Request). (c == r.conn) ≡ false) (λ r party. not_party c past r.conn some absent party) (pending past)
    (recursion_from_All (λ (r : Request). IsParty r.conn past) (pending past) (waiting_are_parties limits past sound))))
