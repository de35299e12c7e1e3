-- Bytes for those of the connections that are chosen, from one place to the next.
use Rattle.std.specs.Prelude.{◌≡◌, ℕ, Bool, List, drop, map, filter, get_or}
use Rattle.connections.specs.Table.{Connection}
use Rattle.proxy_state.specs.State.{State}
use Rattle.proxy_state.specs.Telling.{tell_each}

-- the connection stands at this place
abbrev pub StandsAt : {T : Type 0} → Connection T → List (Connection T) → ℕ → Type 0
StandsAt k present index = k ≡ get_or present index k

abbrev pub names_in : {T : Type 0} → List (Connection T) → List ℕ
names_in present = map (λ k. k.name) present

-- `is_chosen` says whether bytes are for a connection
abbrev pub chosen : {T S : Type 0} → (is_chosen : S → Connection T → Bool) → S → List (Connection T) → List ℕ
chosen is_chosen beside present = names_in (filter (is_chosen beside) present)

-- those from this place on that are chosen are told
unfoldable pub tell_from : {T S : Type 0} → (give_up : ℕ → S → S) → (text : T → List ℕ) → (change : T → T) → (is_chosen : S → Connection T → Bool) → ℕ → State T S → State T S
tell_from give_up text change is_chosen i x = tell_each give_up text change (chosen is_chosen x.beside (drop i x.table.present)) x
