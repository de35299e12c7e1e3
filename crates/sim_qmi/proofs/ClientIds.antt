-- The least client id that isn't given.
use Rattle.std.proofs.Common.{◌≡◌, ℕ, ◌+◌, ◌-◌, ◌<◌, suc, Bool, true, false, List, Option, Some, None, refl, ◌∙◌, ap, arith}
use Rattle.std.specs.Prelude.{find, not, cond}
use Rattle.std.specs.List.{range_with_len}
use Rattle.sim_qmi.specs.declared.client_id.ClientId.{ClientId}
use Rattle.sim_qmi.specs.Ctl.{releases}
use Rattle.sim_qmi.specs.State.{State, client_ids, free_id, is_given, without_client}

-- the least from this one on
unfoldable pub free_from : List ClientId → (service id : ℕ) → Option ℕ
free_from clients service id = find (λ id. not (is_given clients service id)) (range_with_len id (255 - id))

pub first_free : (clients : List ClientId) (service : ℕ) → free_id clients service ≡ free_from clients service 1
unfolding free_from client_ids
first_free clients service = refl

step : (clients : List ClientId) (service id : ℕ) → id < 255 → (given : Bool) → is_given clients service id ≡ given
    → free_from clients service id ≡ cond (not given) (Some id) (free_from clients service (id + 1))
unfolding free_from
step clients service id below given is =
    let more : 255 - id ≡ suc (255 - (id + 1)) = omega arith in
    ap (λ (count : ℕ). find (λ id. not (is_given clients service id)) (range_with_len id count)) more
    ∙ ap (λ (b : Bool). cond (not b) (Some id) (find (λ id. not (is_given clients service id)) (range_with_len (id + 1) (255 - (id + 1))))) is

pub given_isnt_free : (clients : List ClientId) (service id : ℕ) → id < 255 → is_given clients service id ≡ true → free_from clients service id ≡ free_from clients service (id + 1)
given_isnt_free clients service id below is = step clients service id below true is

pub free_here : (clients : List ClientId) (service id : ℕ) → id < 255 → is_given clients service id ≡ false → free_from clients service id ≡ Some id
free_here clients service id below is = step clients service id below false is

pub none_free : (clients : List ClientId) (service : ℕ) → free_from clients service 255 ≡ None
unfolding free_from
none_free clients service = refl

pub releases-given : (state : State) (service id : ℕ) → is_given state.clients service id ≡ true → (releases state service id).state ≡ without_client state service id
releases-given state service id given = rw given refl
