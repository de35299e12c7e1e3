-- One who isn't there waits for nothing and holds nothing.
use Rattle.std.proofs.Common.{◌≡◌, ℕ, ◌≤◌, Bool, false, not, cond, ◌==◌, List, [], ◌∷◌, filter, refl, ap, ◌∙◌}
use Rattle.std.specs.List.{AllByRecursion}
use Rattle.kit_bytes.proofs.Lists.{all_weaker}
use Rattle.proxy_history.specs.Facts.{Fact, Why, Ended}
use Rattle.proxy_history.specs.Connections.{present, contains}
use Rattle.proxy_history.specs.Requests.{last_number}
use Rattle.proxy_history.specs.ClientIds.{Grant}
use Rattle.proxy_history.specs.Modem.{now, to_modem, modem_taken_count, modem_queue}
use Rattle.proxy_history.specs.Sound.{IsParty}
use Rattle.qmi_proxy.specs.Spaces.{control_space, service_space, limit_of, top_of}
use Rattle.qmi_proxy.specs.Clients.{wire}
use Rattle.qmi_proxy.specs.Limits.{qmi_limits}
use Rattle.qmi_proxy.specs.Regular.{Regular}
use Rattle.holders.specs.Kept.{all_kept_from}
use Rattle.proxy_state.specs.Requests.{RequestInUse, requests_in_use}
use Rattle.qmi_state.specs.Traffic.{Traffic, rows_of, traffic_of, ids, kept_ids}
use Rattle.proxy_state.proofs.Strangers.{not_party, requests_of_stranger}
use Rattle.qmi_state.proofs.Ids.{ids_are_parties}

holds_none : (c : ℕ) (grants : List Grant) → AllByRecursion (λ (g : Grant). (c == g.conn) ≡ false) grants → filter (λ g. not (c == g.conn)) grants ≡ grants
holds_none c [] all = refl
holds_none c (g ∷ grants) all = ap (λ (b : Bool). cond (not b) (g ∷ filter (λ (g : Grant). not (c == g.conn)) grants) (filter (λ (g : Grant). not (c == g.conn)) grants)) all.0 ∙ ap (λ (l : List Grant). g ∷ l) (holds_none c grants all.1)

has_none : (c : ℕ) (grants : List Grant) → AllByRecursion (λ (g : Grant). (c == g.conn) ≡ false) grants → filter (λ g. c == g.conn) grants ≡ []
has_none c [] all = refl
has_none c (g ∷ grants) all = ap (λ (b : Bool). cond b (g ∷ filter (λ (g : Grant). c == g.conn) grants) (filter (λ (g : Grant). c == g.conn) grants)) all.0 ∙ has_none c grants all.1

pub traffic_of_stranger : (past : List Fact) (c : ℕ) (why : Why) → 1 ≤ c → contains c (present past) ≡ false → Regular past → traffic_of (Ended c why ∷ past) ≡ traffic_of past
unfolding requests_in_use last_number ids kept_ids to_modem modem_taken_count
traffic_of_stranger past c why some absent R =
    let none : requests_in_use (Ended c why ∷ past) ≡ requests_in_use past = requests_of_stranger qmi_limits past c why some absent R.sound in
    let others : AllByRecursion (λ (g : Grant). (c == g.conn) ≡ false) (ids past) =
    (all_weaker (λ (g : Grant). IsParty g.conn past) (λ (g : Grant). (c == g.conn) ≡ false) (λ g party. not_party c past g.conn some absent party) (ids past)
    (ids_are_parties past R.sound))
    in
    let unheld : filter (λ (g : Grant). not (c == g.conn)) (ids past) ≡ ids past = holds_none c (ids past) others in
    let unkept : filter (λ (g : Grant). c == g.conn) (ids past) ≡ [] = has_none c (ids past) others in
    ap (λ (list : List RequestInUse). let d : Traffic = record {
      control = record { rows = rows_of control_space list; last = last_number control_space past; limit = limit_of control_space; top = top_of control_space };
      services = record { rows = rows_of service_space list; last = last_number service_space past; limit = limit_of service_space; top = top_of service_space };
      held = filter (λ (g : Grant). not (c == g.conn)) (ids past);
      kept = all_kept_from (now past) (filter (λ (g : Grant). c == g.conn) (ids past)) (kept_ids past);
      waiting = modem_queue wire past;
    } in d) none
    ∙ ap (λ (grants : List Grant). let d : Traffic = record (traffic_of past) { held = grants; kept = all_kept_from (now past) (filter (λ (g : Grant). c == g.conn) (ids past)) (kept_ids past) } in d) unheld
    ∙ ap (λ (grants : List Grant). let d : Traffic = record (traffic_of past) { kept = all_kept_from (now past) grants (kept_ids past) } in d) unkept
