use Rattle.std.proofs.Common.{◌≡◌, false, ap, sym, ◌∙◌, arith, length}
use Rattle.proxy_history.specs.Connections.{contains}
use Rattle.proxy_history.specs.Requests.{free_from}
use Rattle.number_space.specs.Index.{numbers_of, IsPlaceOf}
use Rattle.number_space.proofs.InUse.{free_stops}
use Rattle.number_space.proofs.Index.{absent}
use Rattle.number_space.proofs.by_number.Index.next_free.Goals as goal

pub returns-then-is_above_all-clause-number : goal.returns-then-is_above_all-clause-number
returns-then-is_above_all-clause-number c =
    let place : IsPlaceOf c.following-number.result c.args.self.now.entries (length c.args.self.now.entries) = rw c.if-is_above_all.true at c.is_above_all.ensures in
    let free : contains c.following-number.result (numbers_of c.args.self.now.entries) ≡ false = absent c.following-number.result c.args.self.now.entries (length c.args.self.now.entries) c.requires place (λ at. omega (arith, at.within)) in
    sym (free_stops (length c.args.self.now.entries) c.args.top (numbers_of c.args.self.now.entries) c.following-number.result free)
    ∙ ap (free_from (length c.args.self.now.entries) c.args.top (numbers_of c.args.self.now.entries)) c.following-number.ensures
