-- Where a client is alone the proxy asks the modem for no list by itself. Lists of facts have the newest first.
use Rattle.std.proofs.Common.{◌≡◌, ◌≢◌, ℕ, ◌≤◌, ⊎_elim, arith, Bool, true, false, not, ◌&&◌, cond, List, [], ◌∷◌, map, filter, None, refl, ap, sym, ◌∙◌}
use Rattle.std.specs.List.{list_any}
use Rattle.kit_bytes.specs.Services.{starting_list}
use Rattle.kit_bytes.specs.Subscriptions.{Pair, merge}
use Rattle.proxy_history.specs.Facts.{Fact}
use Rattle.proxy_history.specs.Connections.{contains, present, is_present}
use Rattle.proxy_history.specs.Requests.{pending}
use Rattle.proxy_history.specs.View.{view}
use Rattle.mbim_proxy.specs.Known.{Known}
use Rattle.mbim_proxy.specs.Step.{known_from, known_now}
use Rattle.mbim_proxy.specs.ModemStates.{ModemState, IsAway, IsShut, IsOpening, IsReady, is_own, is_ready, state}
use Rattle.mbim_proxy.specs.Lists.{list_of, merged, last_list}
use Rattle.mbim_proxy.specs.OwnList.{number_of_list}
use Rattle.mbim_solo.specs.Part.{part}
use Rattle.mbim_solo.proofs.Views.{known_view, known-part}
use Rattle.mbim_solo.proofs.Wanting.{busy_none, asked_none}
use Rattle.mbim_solo.proofs.Taking.{was_taken}
use Rattle.mbim_solo.proofs.Relation.{IsOrderly}
use Rattle.mbim_solo.proofs.Standing.{there_alike}
use Rattle.rig_runs.specs.Mbim.{setup}
use Rattle.rig_laws.proofs.Lists.{in_range}
use Rattle.rig_laws_mbim.proofs.Harmless.{steady}
use Rattle.rig_laws_mbim.proofs.Calm.{Calm}
use Rattle.rig_laws_mbim.proofs.Trail.{Standing}
use Rattle.trace_laws_mbim.proofs.Kept.{IsAlone, HasStartingList}

-- a modem that is open has the list of all clients together
abbrev pub IsContent : List Fact → Type 0
IsContent facts = state false facts ≡ IsReady → (merged setup facts ≡ starting_list) × (last_list facts ≡ starting_list)

pub none_wanted : (facts : List Fact) → IsContent facts → number_of_list setup (merged setup facts) facts ≡ None
none_wanted facts content = by (state false facts) refl
  where
    by : (modem : ModemState) → state false facts ≡ modem → number_of_list setup (merged setup facts) facts ≡ None
    by IsReady is = let both = content is in asked_none setup (merged setup facts) facts (both.1 ∙ sym both.0)
    by IsAway is = busy_none setup (merged setup facts) facts (ap (λ (m : ModemState). is_ready m && not (list_any is_own (pending facts))) is)
    by IsShut is = busy_none setup (merged setup facts) facts (ap (λ (m : ModemState). is_ready m && not (list_any is_own (pending facts))) is)
    by IsOpening is = busy_none setup (merged setup facts) facts (ap (λ (m : ModemState). is_ready m && not (list_any is_own (pending facts))) is)

pub taken_content : (count : ℕ) (facts : List Fact) → IsContent facts → IsContent (was_taken count facts)
unfolding state last_list present view
taken_content count facts content = content

-- while it isn't open
pub shut_content : (facts : List Fact) → (state false facts ≡ IsReady → ⊥) → IsContent facts
shut_content facts other is = absurd (other is)

-- ---- as the client is beside the others ----

module _ (c : ℕ) (client : c ≢ 0) (low : 1 ≤ c) (now : Standing) (past facts : List Fact) (calm : Calm now.progress now.requests now.queue past)
    (O : IsOrderly setup c past) (G : IsOrderly setup c facts) (same : part c past ≡ part c facts) where
  pub known_same : known_now setup c past ≡ known_now setup c facts
  known_same = sym (known-part setup c past O.fit.once) ∙ ap (λ (l : List Fact). known_from setup (known_view setup c l)) same ∙ known-part setup c facts G.fit.once

  pub is_there : c ≤ now.progress.joined → is_present c past ≡ true
  is_there high = ap (contains c) calm.there ∙ in_range now.progress.joined 1 c low (omega (arith, high))

  only_one : is_present c past ≡ true → IsAlone c (present facts) → present facts ≡ c ∷ []
  only_one there alone =
      ⊎_elim
      (λ (none : present facts ≡ []). absurd (let no : true ≡ false = sym there ∙ there_alike setup c client past facts same ∙ ap (contains c) none in cc))
      (λ (one : present facts ≡ c ∷ []). one)
      alone

  list_is : list_of setup c facts ≡ starting_list
  list_is = ap (λ (k : Known). k.list) (sym known_same) ∙ (steady c past calm.harmless).list

  abbrev merged_of : List ℕ → List Pair
  merged_of conns = merge (map (λ d. list_of setup d facts) (filter (λ d. (known_now setup d facts).opened) conns))

  merged_is : IsAlone c (present facts) → c ≤ now.progress.opened → merged setup facts ≡ starting_list
  merged_is alone high =
      ap merged_of (only_one (is_there (let order = calm.order in omega (arith, high, order))) alone)
      ∙ ap (λ (b : Bool). merge (map (λ d. list_of setup d facts) (cond b (c ∷ []) []))) (ap (λ (k : Known). k.opened) (sym known_same) ∙ (calm.knows c).opened low high)
      ∙ ap (λ (list : List Pair). merge (list ∷ [])) list_is

  pub is_content : IsAlone c (present facts) → HasStartingList facts → (state false facts ≡ IsReady → c ≤ now.progress.opened) → IsContent facts
  is_content alone has opened is = (merged_is alone (opened is), has is)
