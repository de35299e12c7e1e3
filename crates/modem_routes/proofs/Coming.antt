-- What is there comes, or doesn't.
use Rattle.std.proofs.Common.{◌≡◌, ◌+◌, ℕ, true, false, List, [], ◌∷◌, ◌++◌, Option, Result, Ok, Err, OnErr, is_ok, refl, ap, subst}
use Rattle.std.proofs.lemmas.List.{replicate_more}
use Rattle.kit_io.specs.Growth.{Grows}
use Rattle.kit_io.proofs.Growth.{Grows-none, Grows-append}
use Rattle.link_io.specs.Target.{Address}
use Rattle.link_io.specs.Calls as link
use Rattle.child_io.specs.Calls as child
use Rattle.child_io.specs.Alive.{StandsFor}
use Rattle.modem_routes.specs.Reaching.{ReachesBy, ReachesAtOnce, ReachesByProxy, reached, not_there, came, never_came, refused, OpensInTime}
use Rattle.modem_routes.specs.declared.reaching.ReachFault.{ReachFault}
use Rattle.modem_routes.specs.declared.reaching.ReachFault.TheVariants as fault

-- one opening more failed
pub one_more : {address : Address} {old mid new : Option (List link.Call)} (times : ℕ) → Grows old (refused times address) mid → Grows mid (link.Opened address false ∷ []) new → Grows old (refused (times + 1) address) new
one_more {address = address} {old = old} {new = new} times first next = subst (λ (l : List link.Call). Grows old l new) (replicate_more times (link.Opened address false)) (Grows-append first next)

pub came_at_once : {address : Address} {link_old link_new : Option (List link.Call)} {spawner : Option (List child.Call)} {kept : List ℕ} (result : Result (Unit {0}) ReachFault) → OnErr result (result ≡ Err fault.LinkFault)
    → Grows link_old (link.Opened address (is_ok result) ∷ []) link_new → kept ≡ [] → ReachesBy (ReachesAtOnce address result) link_old spawner kept link_new spawner
came_at_once {address = address} {spawner = spawner} (Ok t) error opens none = record { on_link = link.Opened address true ∷ []; starts = []; are = reached refl refl refl; link_grows = opens; spawner_grows = Grows-none spawner; stands = none }
came_at_once {address = address} {spawner = spawner} (Err why) error opens none = record { on_link = link.Opened address false ∷ []; starts = []; are = not_there error refl refl; link_grows = opens; spawner_grows = Grows-none spawner; stands = none }

module _ {address : Address} {words : List (List ℕ)} {proxy : ℕ} {link_old link_mid link_new : Option (List link.Call)} {spawner_old spawner_new : Option (List child.Call)} {kept : List ℕ} where
  pub came_in_time : (result : Result (Unit {0}) ReachFault) → Grows link_old (refused 1 address) link_mid → OpensInTime address result link_mid link_new
      → Grows spawner_old (child.Started words proxy ∷ []) spawner_new → StandsFor (child.Started words proxy ∷ []) kept
      → ReachesBy (ReachesByProxy address words result) link_old spawner_old kept link_new spawner_new
  came_in_time (Ok t) first opens started stands = record {
    on_link = refused 1 address ++ refused opens.0 address ++ link.Opened address true ∷ [];
    starts = child.Started words proxy ∷ [];
    are = came proxy opens.0 refl opens.1 refl refl;
    link_grows = Grows-append first opens.2;
    spawner_grows = started;
    stands = stands;
  }
  came_in_time (Err why) first opens started stands = record {
    on_link = refused 1 address ++ refused 19 address;
    starts = child.Started words proxy ∷ [];
    are = never_came proxy (ap (λ (fault : ReachFault). Err fault) opens.0) refl refl;
    link_grows = Grows-append first opens.1;
    spawner_grows = started;
    stands = stands;
  }
