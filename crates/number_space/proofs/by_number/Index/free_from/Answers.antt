use Rattle.std.proofs.Common.{◌≡◌, ◌-◌, ◌+◌, ℕ, false, true, ap, sym, ◌∙◌, arith}
use Rattle.proxy_history.specs.Requests.{free_from}
use Rattle.proxy_history.specs.Connections.{contains}
use Rattle.number_space.specs.Index.{numbers_of, NumberAt}
use Rattle.number_space.proofs.InUse.{free_stops, free_goes_on, free_ends}
use Rattle.number_space.proofs.Index.{there, absent, next_place, follows}
use Rattle.number_space.proofs.by_number.Index.free_from.Goals as goal

pub loop-init : goal.loop-init
loop-init c = record {
  all = omega arith;
  rest =
      let whole : c.len-end.result - 0 ≡ c.len-end.result = omega arith in
      ap (λ (k : ℕ). free_from k c.args.top (numbers_of c.args.self.now.entries) c.args.first) whole;
  place = c.place_of-place.ensures;
}

pub returns-then-not-is_at-clause-number : goal.returns-then-not-is_at-clause-number
returns-then-not-is_at-clause-number c =
    let free : contains c.loop.number (numbers_of c.args.self.now.entries) ≡ false = absent c.loop.number c.args.self.now.entries c.loop.place c.requires c.loop.invariant.place (rw c.if-not-is_at.true at c.is_at.ensures.other) in
    sym (free_stops (c.len-end.result - c.loop.counter) c.args.top (numbers_of c.args.self.now.entries) c.loop.number free) ∙ c.loop.invariant.rest
    ∙ ap (λ (k : ℕ). free_from k c.args.top (numbers_of c.args.self.now.entries) c.args.first) c.loop.invariant.all

pub overflow_add-behind : goal.overflow_add-behind
overflow_add-behind c = let at : NumberAt c.loop.number c.args.self.now.entries c.loop.place = rw c.if-not-is_at.false at c.is_at.ensures.there in omega (arith, at.within, c.loop.invariant.all)

pub next_place-place-requires-clause-behind : goal.next_place-place-requires-clause-behind
next_place-place-requires-clause-behind c = λ less.
    next_place c.loop.number c.following-next.result c.args.self.now.entries c.loop.place c.requires c.loop.invariant.place (rw c.if-not-is_at.false at c.is_at.ensures.there)
    (follows c.args.top c.loop.number c.following-next.result c.following-next.ensures less)

pub loop-preserved : goal.loop-preserved
loop-preserved c =
    let taken : contains c.loop.number (numbers_of c.args.self.now.entries) ≡ true = there c.loop.number c.args.self.now.entries c.loop.place (rw c.if-not-is_at.false at c.is_at.ensures.there) in
    record {
      all = c.loop.invariant.all;
      rest =
          ap (λ (n : ℕ). free_from (c.len-end.result - (c.loop.counter + 1)) c.args.top (numbers_of c.args.self.now.entries) n) c.following-next.ensures
          ∙ sym (free_goes_on (c.len-end.result - c.loop.counter) (c.len-end.result - (c.loop.counter + 1)) c.args.top (numbers_of c.args.self.now.entries) c.loop.number (omega arith) taken)
          ∙ c.loop.invariant.rest;
      place = c.next_place-place.ensures;
    }

pub returns-clause-number : goal.returns-clause-number
returns-clause-number c =
    sym (free_ends (c.len-end.result - c.loop.counter) c.args.top (numbers_of c.args.self.now.entries) c.loop.number (omega arith)) ∙ c.loop.invariant.rest
    ∙ ap (λ (k : ℕ). free_from k c.args.top (numbers_of c.args.self.now.entries) c.args.first) c.loop.invariant.all
