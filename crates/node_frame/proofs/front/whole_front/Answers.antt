use Rattle.std.proofs.Common.{sym, ◌∙◌, inl, inr, arith}
use Rattle.node_frame.proofs.WholeFront.{IsFront-more, IsFront-open, IsFront-short}
use Rattle.node_frame.proofs.front.whole_front.Goals as goal

pub returns-in-Unknown : goal.returns-in-Unknown
returns-in-Unknown c = record {
  whole = IsFront-open c.loop-count.invariant.front c.loop-count.invariant.within (elim c.in-Unknown.is [ inl unknown ↦ inl (sym c.size.ensures ∙ unknown) | inr bad ↦ inr (sym c.size.ensures ∙ bad) ]);
  within = c.loop-count.invariant.within;
}

pub returns-then-bytes-at-clause-whole : goal.returns-then-bytes-at-clause-whole
returns-then-bytes-at-clause-whole c =
    IsFront-short c.loop-count.invariant.front c.in-Known.count c.loop-count.invariant.within (sym c.size.ensures ∙ c.in-Known.is) c.if-bytes-at.true

pub loop-count-preserved : goal.loop-count-preserved
loop-count-preserved c = record {
  front = IsFront-more c.loop-count.invariant.front c.in-Known.count c.loop-count.invariant.within (sym c.size.ensures ∙ c.in-Known.is) c.if-bytes-at.false;
  within = omega (arith, c.loop-count.invariant.within, c.if-bytes-at.false);
}
