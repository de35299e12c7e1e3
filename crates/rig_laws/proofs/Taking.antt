-- Behind an event each client and the modem take all that waits for them. Lists of events have the newest first.
use Rattle.std.proofs.Common.{◌≡◌, ℕ, zero, suc, ◌≤◌, ◌⊎◌, Bool, true, false, ◌||◌, ◌==◌, if◌then◌else◌, List, [], ◌∷◌, length, refl, ap, sym, ◌∙◌, arith, subst, inl, inr, ⊎_elim, drop_of_length-le, le_of_eq}
use Rattle.std.specs.List.{range_with_len}
use Rattle.std.proofs.lemmas.Bool.{eqb-true}
use Rattle.hub_io.specs.Record.{taking}
use Rattle.proxy_history.specs.Events.{Event, Took, ModemTook}
use Rattle.proxy_history.specs.Facts.{Request}
use Rattle.proxy_history.specs.Connections.{contains, is_present}
use Rattle.proxy_history.specs.Modem.{modem_queue}
use Rattle.proxy_history.specs.Rendering.{Rendering}
use Rattle.qmi_proxy.specs.Setup.{Setup}
use Rattle.qmi_proxy.specs.Clients.{wire}
use Rattle.qmi_proxy.specs.Proxy.{proxy_of}
use Rattle.qmi_proxy.specs.History.{history, text_for}
use Rattle.qmi_proxy.proofs.Growing.{taking_takes_the_first}
use Rattle.qmi_proxy.proofs.Lawful.{proxies_are_lawful}
use Rattle.rig_runs.specs.Stage.{queued_for, clients_take, modem_takes}
use Rattle.rig_laws.proofs.Lists.{in_range, within_range, is_empty}
use Rattle.rig_laws.proofs.Calm.{queue_is}
use Rattle.rig_laws.proofs.Events.{Going, IsServed, AllAreServed, taken, modem_taken}

there_from : (b : Bool) (waiting n : ℕ) → (if b then waiting else 0) ≡ suc n → b ≡ true
there_from true waiting n e = refl
there_from false waiting n e = absurd (omega arith)

module _ (s : Setup) (joined opened : ℕ) (requests : List Request) where
  -- ---- one client ----

  record HasTaken (queue : List ℕ) (c : ℕ) (before after : List Event) : Type 0 where
    going : Going s joined opened requests queue after
    served : IsServed s c after
    others : (d : ℕ) → IsServed s d before → IsServed s d after

  one_takes : (queue : List ℕ) (c : ℕ) (events : List Event) → Going s joined opened requests queue events → (count : ℕ) → queued_for (proxy_of s) c events ≡ count → HasTaken queue c events (taking (λ n. Took c n) count events)
  one_takes queue c events going zero is = record {
    going = going;
    served = λ there.
        let none : length (text_for s c events).waiting ≡ 0 = ap (λ (b : Bool). if b then length (text_for s c events).waiting else 0) (sym there) ∙ is in
        is_empty (text_for s c events).waiting none;
    others = λ d served. served;
  }
  one_takes queue c events going (suc n) is =
      let there : is_present c (history s events) ≡ true = there_from (is_present c (history s events)) (length (text_for s c events).waiting) n is in
      let long : length (text_for s c events).waiting ≡ suc n = ap (λ (b : Bool). if b then length (text_for s c events).waiting else 0) (sym there) ∙ is in
      let served : IsServed s c (Took c (suc n) ∷ events) =
      λ still. ap (λ (r : Rendering). r.waiting) (taking_takes_the_first s c (suc n) events there) ∙ drop_of_length-le (text_for s c events).waiting {i = suc n} (omega (arith, long)) in
      let laws = proxies_are_lawful s in
      record {
        going = taken s c (suc n) going (le_of_eq (sym is));
        served = served;
        others = λ d old.
            let step : (b : Bool) → (c == d) ≡ b → IsServed s d (Took c (suc n) ∷ events) =
            λ b. elim b as (λ b. (c == d) ≡ b → IsServed s d (Took c (suc n) ∷ events)) [
              | true ↦ λ e. subst (λ (x : ℕ). IsServed s x (Took c (suc n) ∷ events)) (eqb-true c d e) served
              | false ↦ λ e still. laws.took_other c (suc n) d events e ∙ old (ap (contains d) (sym (laws.took_present c (suc n) events)) ∙ still)
            ]
            in step (c == d) refl;
      }

  -- ---- each client ----

  record HaveTaken (queue : List ℕ) (clients : List ℕ) (before after : List Event) : Type 0 where
    going : Going s joined opened requests queue after
    served : (d : ℕ) → (contains d clients ≡ true) ⊎ IsServed s d before → IsServed s d after

  each_takes : (queue : List ℕ) (clients : List ℕ) (events : List Event) → Going s joined opened requests queue events → HaveTaken queue clients events (clients_take (proxy_of s) clients events)
  unfolding clients_take
  each_takes queue [] events going = record { going = going; served = λ d which. ⊎_elim (λ (at : false ≡ true). absurd (cc)) (λ (served : IsServed s d events). served) which }
  each_takes queue (c ∷ clients) events going =
      let after : List Event = taking (λ n. Took c n) (queued_for (proxy_of s) c events) events in
      let one : HasTaken queue c events after = one_takes queue c events going (queued_for (proxy_of s) c events) refl in
      let rest : HaveTaken queue clients after (clients_take (proxy_of s) clients after) = each_takes queue clients after one.going in
      record {
        going = rest.going;
        served = λ d which. rest.served d (⊎_elim
            (λ (at : (d == c || contains d clients) ≡ true).
            let step : (b : Bool) → (d == c) ≡ b → (b || contains d clients) ≡ true → (contains d clients ≡ true) ⊎ IsServed s d after =
            λ b. elim b as (λ b. (d == c) ≡ b → (b || contains d clients) ≡ true → (contains d clients ≡ true) ⊎ IsServed s d after) [
              | true ↦ λ e at. inr (subst (λ (x : ℕ). IsServed s x after) (sym (eqb-true d c e)) one.served)
              | false ↦ λ e at. inl at
            ]
            in step (d == c) refl at)
            (λ (served : IsServed s d events). inr (one.others d served)) which);
      }

  -- so nothing waits for anybody
  pub record AreServed (queue : List ℕ) (events : List Event) : Type 0 where
    pub going : Going s joined opened requests queue events
    pub served : AllAreServed s events

  pub clients_are_served : (queue : List ℕ) (clients : ℕ) (events : List Event) → joined ≤ clients → Going s joined opened requests queue events → AreServed queue (clients_take (proxy_of s) (range_with_len 1 clients) events)
  clients_are_served queue clients events within going =
      let all = each_takes queue (range_with_len 1 clients) events going in
      record {
        going = all.going;
        served = λ d there.
            let one = within_range joined 1 d (ap (contains d) (sym all.going.calm.there) ∙ there) in
            all.served d (inl (in_range clients 1 d one.0 (omega (arith, one.1, within)))) there;
      }

  -- ---- the modem ----

  pub modem_is_served : (queue : List ℕ) (events : List Event) → AreServed queue events → AreServed [] (modem_takes (proxy_of s) events)
  modem_is_served queue events all = by (length (modem_queue wire (history s events))) (ap length (queue_is s all.going.calm))
    where
      by : (count : ℕ) → count ≡ length queue → AreServed [] (taking (λ n. ModemTook n) count events)
      by zero is = record { going = subst (λ (q : List ℕ). Going s joined opened requests q events) (is_empty queue (sym is)) all.going; served = all.served }
      by (suc n) is =
          let laws = proxies_are_lawful s in
          record {
            going = modem_taken s (suc n) all.going is;
            served = λ d there. laws.modem_took_other (suc n) d events ∙ all.served d (ap (contains d) (sym (laws.modem_took_present (suc n) events)) ∙ there);
          }
