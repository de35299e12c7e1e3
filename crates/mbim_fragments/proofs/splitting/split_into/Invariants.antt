use Rattle.std.proofs.Common.{◌≡◌, ◌*◌, ◌≤◌, drop, vec_capacity}
use Rattle.mbim_fragments.proofs.Sizes.{pieces_before}
use Rattle.mbim_fragments.proofs.splitting.split_into.Given as goal

abbrev pub invariant-loop-current : goal.invariant-loop-current
invariant-loop-current l = record {
  behind : l.rest ≡ drop (l.current * l.size) l.body;
  written : l.into.items ≡ pieces_before l.kind l.number l.size l.body l.current;
  capacity : vec_capacity l.fn.into ≤ vec_capacity l.into;
}
