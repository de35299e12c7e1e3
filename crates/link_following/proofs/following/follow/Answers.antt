use Rattle.std.proofs.Common.{arith}
use Rattle.std.proofs.lemmas.Result.{err_from_is_err_and}
use Rattle.link_following.proofs.Coming.{Followed-more, Followed-none, FollowsTo-fails, FollowsTo-spent, FollowsTo-stops}
use Rattle.link_following.proofs.following.follow.Goals as goal

pub loop-init : goal.loop-init
loop-init g c = record {
  followed = λ heard stands. Followed-none g.F.Framing.size (g.S.Shows.shown c.args.shows.now) _ _ stands;
  within = omega arith;
  later = omega arith;
  later_open = omega arith;
  later_write = omega arith;
}

pub returns-in_err-stop-clause-follows : goal.returns-in_err-stop-clause-follows
returns-in_err-stop-clause-follows g c = λ heard stands.
    let so_far = c.loop.invariant.followed heard stands in
    let p = err_from_is_err_and c.from_residual.result c.from_residual.ensures.1 in
    rw (p.1, p.2) (FollowsTo-fails _ _ so_far c.loop-test.true c.in_err-stop.field-0.0 (c.in_err-stop.ensures.turns so_far.now so_far.stands))

pub returns-in-Some-clause-follows : goal.returns-in-Some-clause-follows
returns-in-Some-clause-follows g c = λ heard stands.
    let so_far = c.loop.invariant.followed heard stands in
    FollowsTo-stops _ _ so_far c.loop-test.true c.in-Some.end (rw c.in-Some.is at (c.in_ok-stop.ensures.turns so_far.now so_far.stands))

pub loop-preserved : goal.loop-preserved
loop-preserved g c = record {
  followed = λ heard stands.
      let so_far = c.loop.invariant.followed heard stands in Followed-more _ _ so_far (rw c.in-None.is at (c.in_ok-stop.ensures.turns so_far.now so_far.stands));
  within = omega (arith, c.loop-test.true);
  later = omega (arith, c.loop.invariant.later, c.in_ok-stop.ensures.later);
  later_open = omega (arith, c.loop.invariant.later_open, c.in_ok-stop.ensures.later_open);
  later_write = omega (arith, c.loop.invariant.later_write, c.in_ok-stop.ensures.later_write);
}

pub returns-clause-follows : goal.returns-clause-follows
returns-clause-follows g c = λ heard stands.
    FollowsTo-spent _ _ (c.loop.invariant.followed heard stands) (omega (arith, c.loop.invariant.within, c.loop-test.false))
