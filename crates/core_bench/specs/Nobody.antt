-- For a connection that isn't there nothing waits, once whoever was dropped was asked for.
use Rattle.std.proofs.Common.{◌≡◌, ℕ, Bool, true, false, cond, ◌||◌, ◌==◌, List, [], ◌∷◌, map, refl, ap, ◌∙◌, Some, None}
use Rattle.connections.specs.Table.{Connection, Dropped, connection_in, left_for, waiting_or}
use Rattle.proxy_history.specs.Connections.{contains}
use Rattle.proxy_state.specs.State.{Core}
use Rattle.proxy_state.specs.Stands.{names_of, waiting_for}

not_found : {T : Type 0} (c : ℕ) (present : List (Connection T)) → contains c (map (λ k. k.name) present) ≡ false → connection_in c present ≡ None
not_found c [] absent = refl
not_found {T} c (k ∷ present) absent =
    let Found : Bool → Type 0 = λ (b : Bool). (b || contains c (map (λ (l : Connection T). l.name) present)) ≡ false → cond b (Some k) (connection_in c present) ≡ None in
    let step : (b : Bool) → Found b = λ b. elim b as Found [ true ↦ λ e. absurd cc | false ↦ λ e. not_found c present e ]
    in step (c == k.name) absent

none_left : (c : ℕ) (dropped : List Dropped) → map (λ (d : Dropped). d.name) dropped ≡ [] → left_for c dropped ≡ []
none_left c [] none = refl
none_left c (d ∷ dropped) none = absurd cc

pub nothing_waits : {T S : Type 0} (c : ℕ) (core : Core T S) → contains c (names_of core) ≡ false → map (λ (d : Dropped). d.name) core.state.table.dropped ≡ [] → waiting_for c core ≡ []
nothing_waits c core absent none = ap (waiting_or (left_for c core.state.table.dropped)) (not_found c core.state.table.present absent) ∙ none_left c core.state.table.dropped none
