use Rattle.std.proofs.Common.{ℕ, nat_lt, if◌then◌else◌, length, Some, None, refl, ap}
use Rattle.proxy_history.specs.Requests.{free_from}
use Rattle.proxy_examples.proofs.Numbers.{found}
use Rattle.proxy_examples.proofs.limits.service_numbers_go_round.Goals as goal

pub returns : goal.returns
unfolding free_from
returns c = record {
  full = λ used many. ap (λ (count : ℕ). if nat_lt count 1024 then Some (free_from count 65535 used 8) else None) many;
  nearly_full = λ used many. found (nat_lt (length used) 1024) (free_from (length used) 65535 used 8) (ap (λ (count : ℕ). nat_lt count 1024) many);
  last = refl;
  first = refl;
  first_free = refl;
}
