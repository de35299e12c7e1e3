-- What an indication makes of a core: each receiver gets it, or is dropped.
use Rattle.std.proofs.Common.{◌≡◌, ℕ, Bool, true, false, cond, ◌||◌, ◌==◌, List, [], ◌∷◌, map, filter, refl, ap, sym, ◌∙◌, subst, Option, Some, None, if◌then◌else◌}
use Rattle.std.specs.List.{AllByRecursion, IsDistinct}
use Rattle.std.proofs.lemmas.Bool.{eqb-true}
use Rattle.std.proofs.lemmas.List.{map-id}
use Rattle.std.proofs.lemmas.List.Elements.{All-from_recursion, filter_agree}
use Rattle.std.proofs.lemmas.Simd.{map-map}
use Rattle.connections.specs.Table.{Connection}
use Rattle.qmux_frame.specs.Head.{service_of, is_control, cid_of}
use Rattle.proxy_history.specs.Facts.{Fact, Indicated}
use Rattle.proxy_history.specs.Connections.{present, dropped, contains}
use Rattle.proxy_history.specs.Requests.{last_number}
use Rattle.proxy_history.specs.ClientIds.{held, holder, holder_in, is_holder, holds_some}
use Rattle.proxy_history.specs.Modem.{now, is_away, to_modem, modem_taken_count}
use Rattle.proxy_history.specs.Noting.{end_overfull}
use Rattle.proxy_history.proofs.Lists.{filter-none}
use Rattle.proxy_state.specs.Stands.{Streams, connection_of}
use Rattle.proxy_state.specs.Telling.{tell_to, tell_each}
use Rattle.proxy_state.proofs.Lists.{filter_map_is}
use Rattle.proxy_state.proofs.Names.{distinct_filter}
use Rattle.proxy_state.proofs.Keeping.{found_absent}
use Rattle.proxy_state.proofs.Telling.{AreThere, chosen_there, told_each}
use Rattle.qmi_proxy.specs.Limits.{qmi_limits}
use Rattle.qmi_proxy.specs.Setup.{Setup}
use Rattle.qmi_proxy.specs.OwnReplies.{is_open}
use Rattle.qmi_proxy.specs.Text.{view_of, qmi_wording}
use Rattle.qmi_proxy.specs.FromModem.{open_ones, tell as tell_holders}
use Rattle.qmi_proxy.specs.History.{qmi_protocol}
use Rattle.qmi_proxy.specs.Regular.{Regular}
use Rattle.qmi_proxy.proofs.Regulars.{regular_more}
use Rattle.qmi_state.specs.declared.client.Client.{Client}
use Rattle.proxy_state.specs.Requests.{requests_in_use}
use Rattle.qmi_state.specs.Traffic.{Traffic, ids, kept_ids}
use Rattle.qmi_state.specs.Core.{QmiState, kept_of}
use Rattle.qmi_state.specs.Transitions.{give_up, tell, tell_all, names_in, opened_ones, holders_of, tells_holder, indicates, qmi_handlers}
use Rattle.qmi_state.proofs.Ids.{holder_is, some_is}
use Rattle.qmi_state.proofs.ClientStates.{indicated_is}
use Rattle.qmi_state.proofs.Keeping as keeping
use Rattle.qmi_state.proofs.Keeping.{follows_connections, traffic_is}

module _ (s : Setup) (streams : Streams) where
  abbrev Kept : List Fact → QmiState → Type 0
  Kept past x = keeping.Kept s streams past x

  module _ (m : List ℕ) where
    abbrev told_facts : List ℕ → List Fact → List Fact
    told_facts cs past = end_overfull qmi_limits (qmi_wording s.device) cs (Indicated m cs ∷ past)

    kept_all : (p : ℕ → Bool) (past : List Fact) (x : QmiState) → Kept past x → Kept (told_facts (filter p (present past)) past) (tell_all m (filter p (present past)) x)
    unfolding present dropped now is_away requests_in_use last_number ids kept_ids to_modem modem_taken_count
    kept_all p past x K =
        let cs : List ℕ = filter p (present past) in
        let there : AreThere (present past) cs = chosen_there p (present past) in
        told_each (qmi_protocol s) (kept_of s) qmi_handlers Regular (follows_connections s) streams (λ client. m) (λ client. client) (Indicated m cs ∷ past) past x x.beside refl refl K.holds.beside
        (regular_more (Indicated m cs) past (All-from_recursion (λ c. contains c (present past) ≡ true) cs there) tt tt K.fine) K
        cs there (distinct_filter p (present past) K.holds.names.distinct) (λ d. indicated_is s.device past m cs d (contains d cs) refl)

    -- ---- those that are open ----

    opened_is : (past : List Fact) (x : QmiState) → Kept past x → opened_ones x.table.present ≡ open_ones s.device past
    unfolding connection_of
    opened_is past x K =
        ap opened_ones K.holds.connections
        ∙ ap (map (λ (t : Connection Client). t.name)) (filter_map_is (λ (t : Connection Client). t.client.opened) (connection_of (qmi_protocol s) (kept_of s) streams.rests past) (present past))
        ∙ map-map (λ (t : Connection Client). t.name) (connection_of (qmi_protocol s) (kept_of s) streams.rests past) (filter (λ (c : ℕ). is_open s.device (view_of c past)) (present past))
        ∙ map-id (filter (λ (c : ℕ). is_open s.device (view_of c past)) (present past))

    -- ---- those that hold an id of the service ----

    names_are : (past : List Fact) (x : QmiState) → Kept past x → names_in x.table.present ≡ present past
    unfolding connection_of
    names_are past x K = ap (map (λ (t : Connection Client). t.name)) K.holds.connections ∙ map-map (λ (t : Connection Client). t.name) (connection_of (qmi_protocol s) (kept_of s) streams.rests past) (present past) ∙ map-id (present past)

    holders_are : (service : ℕ) (past : List Fact) (x : QmiState) → Kept past x → holders_of service x.beside.traffic.held x.table.present ≡ filter (λ c. holds_some c service (held past)) (present past)
    holders_are service past x K =
        ap (λ (d : Traffic). holders_of service d.held x.table.present) (traffic_is s streams past x K) ∙ ap (filter (λ (c : ℕ). holds_some c service (ids past))) (names_are past x K)
        ∙ filter_agree (λ c. holds_some c service (ids past)) (λ c. holds_some c service (held past)) (λ c. some_is c service past) (present past)

    -- ---- the one that holds the id ----

    one_of : (d : ℕ) (xs : List ℕ) → IsDistinct (λ c e. c == e) xs → filter (λ c. d == c) xs ≡ (if contains d xs then d ∷ [] else [])
    unfolding IsDistinct
    one_of d [] distinct = refl
    one_of d (x ∷ xs) distinct =
        let step : (b : Bool) → (d == x) ≡ b → cond b (x ∷ filter (λ c. d == c) xs) (filter (λ c. d == c) xs) ≡ (if b || contains d xs then d ∷ [] else []) =
        λ b. elim b as (λ b. (d == x) ≡ b → cond b (x ∷ filter (λ c. d == c) xs) (filter (λ c. d == c) xs) ≡ (if b || contains d xs then d ∷ [] else [])) [
          | true ↦ λ e. let same : d ≡ x = eqb-true d x e in ap (λ (l : List ℕ). x ∷ l) (no_more xs (subst (λ (n : ℕ). AllByRecursion (λ y. (n == y) ≡ false) xs) (sym same) distinct.0)) ∙ ap (λ (n : ℕ). n ∷ []) (sym same)
          | false ↦ λ e. one_of d xs distinct.1
        ]
        in step (d == x) refl
      where
        no_more : (ys : List ℕ) → AllByRecursion (λ y. (d == y) ≡ false) ys → filter (λ c. d == c) ys ≡ []
        no_more [] all = refl
        no_more (y ∷ ys) all = ap (λ (b : Bool). cond b (y ∷ filter (λ c. d == c) ys) (filter (λ c. d == c) ys)) all.0 ∙ no_more ys all.1

    nobody_told : (x : QmiState) → tell_all m [] x ≡ x
    unfolding tell_each
    nobody_told x = refl

    one_told : (d : ℕ) (x : QmiState) → tell_all m (d ∷ []) x ≡ tell d m x
    unfolding tell_each
    one_told d x = refl

    told_one : (d : ℕ) (past : List Fact) (x : QmiState) → Kept past x → tell_all m (if contains d (present past) then d ∷ [] else []) x ≡ tell d m x
    told_one d past x K =
        let step : (b : Bool) → contains d (present past) ≡ b → tell_all m (if b then d ∷ [] else []) x ≡ tell d m x =
        λ b. elim b as (λ b. contains d (present past) ≡ b → tell_all m (if b then d ∷ [] else []) x ≡ tell d m x) [
          | true ↦ λ there. one_told d x
          | false ↦ λ absent. nobody_told x ∙ sym (ap (λ (o : Option (Connection Client)). tell_to give_up (λ client. m) (λ client. client) o d x) (found_absent (qmi_protocol s) (kept_of s) streams past x d K.holds absent))
        ]
        in step (contains d (present past)) refl

    holder_told : (o : Option ℕ) (past : List Fact) (x : QmiState) → Kept past x → tell_all m (filter (λ c. is_holder c o) (present past)) x ≡ tells_holder o m x
    holder_told None past x K = ap (λ (l : List ℕ). tell_all m l x) (filter-none (present past)) ∙ nobody_told x
    holder_told (Some d) past x K = ap (λ (l : List ℕ). tell_all m l x) (one_of d (present past) K.holds.names.distinct) ∙ told_one d past x K

    -- ---- an indication ----

    pub kept_indicated : (past : List Fact) (x : QmiState) → Kept past x → Kept (tell_holders s.device m past) (indicates m x)
    kept_indicated past x K =
        let held_now : holder_in (service_of m) (cid_of m) x.beside.traffic.held ≡ holder (service_of m) (cid_of m) past = ap (λ (d : Traffic). holder_in (service_of m) (cid_of m) d.held) (traffic_is s streams past x K) ∙ holder_is (service_of m) (cid_of m) past in
        let holders : Kept (told_facts (filter (λ c. is_holder c (holder (service_of m) (cid_of m) past)) (present past)) past) (tells_holder (holder_in (service_of m) (cid_of m) x.beside.traffic.held) m x) =
        subst (λ (o : Option ℕ). Kept (told_facts (filter (λ c. is_holder c (holder (service_of m) (cid_of m) past)) (present past)) past) (tells_holder o m x)) (sym held_now)
        (subst (Kept (told_facts (filter (λ c. is_holder c (holder (service_of m) (cid_of m) past)) (present past)) past)) (holder_told (holder (service_of m) (cid_of m) past) past x K)
        (kept_all (λ c. is_holder c (holder (service_of m) (cid_of m) past)) past x K))
        in
        let everybody : Kept (told_facts (filter (λ c. holds_some c (service_of m) (held past)) (present past)) past) (tell_all m (holders_of (service_of m) x.beside.traffic.held x.table.present) x) =
        subst (λ (l : List ℕ). Kept (told_facts (filter (λ c. holds_some c (service_of m) (held past)) (present past)) past) (tell_all m l x)) (sym (holders_are (service_of m) past x K))
        (kept_all (λ c. holds_some c (service_of m) (held past)) past x K)
        in
        let opened : Kept (told_facts (open_ones s.device past) past) (tell_all m (opened_ones x.table.present) x) =
        subst (λ (l : List ℕ). Kept (told_facts (open_ones s.device past) past) (tell_all m l x)) (sym (opened_is past x K)) (kept_all (λ c. is_open s.device (view_of c past)) past x K)
        in
        elim (is_control m) as (λ control. Kept
        (told_facts (if control then open_ones s.device past else if cid_of m == 255 then filter (λ c. holds_some c (service_of m) (held past)) (present past) else filter (λ c. is_holder c (holder (service_of m) (cid_of m) past)) (present past)) past)
        (if control then tell_all m (opened_ones x.table.present) x else if cid_of m == 255 then tell_all m (holders_of (service_of m) x.beside.traffic.held x.table.present) x else tells_holder (holder_in (service_of m) (cid_of m) x.beside.traffic.held) m x)) [
          | true ↦ opened
          | false ↦ elim (cid_of m == 255) as (λ all. Kept
              (told_facts (if all then filter (λ c. holds_some c (service_of m) (held past)) (present past) else filter (λ c. is_holder c (holder (service_of m) (cid_of m) past)) (present past)) past)
              (if all then tell_all m (holders_of (service_of m) x.beside.traffic.held x.table.present) x else tells_holder (holder_in (service_of m) (cid_of m) x.beside.traffic.held) m x)) [ true ↦ everybody | false ↦ holders ]
        ]
