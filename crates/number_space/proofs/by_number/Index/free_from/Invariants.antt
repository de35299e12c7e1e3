use Rattle.std.proofs.Common.{◌≡◌, ◌-◌, length}
use Rattle.proxy_history.specs.Requests.{free_from}
use Rattle.number_space.specs.Index.{numbers_of, IsPlaceOf}
use Rattle.number_space.proofs.by_number.Index.free_from.Given as goal

abbrev pub invariant-loop : goal.invariant-loop
invariant-loop l = record {
  all : l.end ≡ length l.self.entries;
  rest : free_from (l.end - l.counter) l.top (numbers_of l.self.entries) l.number ≡ free_from l.end l.top (numbers_of l.self.entries) l.first;
  place : IsPlaceOf l.number l.self.entries l.place;
}
