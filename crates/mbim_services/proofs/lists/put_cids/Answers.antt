use Rattle.std.proofs.Common.{ℕ, ◌+◌, ◌++◌, List, drop, arith, flat_map, sym, ◌∙◌, ap, subst}
use Rattle.kit_bytes.specs.Subscriptions.{Pair, cids_of}
use Rattle.kit_bytes.specs.Numbers.{number_bytes}
use Rattle.mbim_services.specs.Writing.{cids_in}
use Rattle.mbim_services.proofs.Runs.{PutsOn, PutsOn-more, PutsOn-all, numbers-length, cids-step, cids-none, cids_of-few}
use Rattle.mbim_services.proofs.lists.put_cids.Goals as goal

pub loop-pair-preserved : goal.loop-pair-preserved
loop-pair-preserved c =
    let pairs = c.args.pairs.now in
    let i = c.loop-pair.pair-index in
    let cids = cids_of c.pair-item.result.1 in
    let rest = flat_map (number_bytes 4) (cids_in (drop (i + 1) pairs)) in
    let step = cids-step pairs i c.pair-item.result c.loop-pair-test.true ∙ ap (λ (pair : Pair). flat_map (number_bytes 4) (cids_of pair.1) ++ rest) (sym c.pair-item.is) in
    let on = subst (λ (bytes : List ℕ). PutsOn c.args.at (flat_map (number_bytes 4) (cids_in pairs)) bytes c.loop-pair.end c.args.into.now c.loop-pair.into) step c.loop-pair.invariant.0 in (
      PutsOn-more c.args.at (flat_map (number_bytes 4) (cids_in pairs)) (flat_map (number_bytes 4) cids) rest c.loop-pair.end c.put_cid-end.result c.args.into.now c.loop-pair.into c.put_cid-end.new.into on c.put_cid-end.ensures.put
          (omega (arith, c.put_cid-end.ensures.end, numbers-length cids)),
      omega (arith, c.loop-pair.invariant.1, c.put_cid-end.ensures.end, cids_of-few c.pair-item.result.1),
    )

pub returns-clause-end : goal.returns-clause-end
returns-clause-end c =
    let done = PutsOn-all c.args.at _ _ c.loop-pair.end c.args.into.now c.loop-pair.into c.loop-pair.invariant.0 (cids-none c.args.pairs.now c.loop-pair.pair-index c.loop-pair-test.false) in
    omega (arith, done.1, numbers-length (cids_in c.args.pairs.now))

pub returns-clause-put : goal.returns-clause-put
returns-clause-put c = (PutsOn-all c.args.at _ _ c.loop-pair.end c.args.into.now c.loop-pair.into c.loop-pair.invariant.0 (cids-none c.args.pairs.now c.loop-pair.pair-index c.loop-pair-test.false)).0
