use Rattle.std.proofs.Common.{arith}
use Rattle.number_space.proofs.Index.{place_end, place_start}
use Rattle.number_space.proofs.by_number.Index.place_of.Goals as goal

pub returns-then-is_below_at : goal.returns-then-is_below_at
returns-then-is_below_at c =
    place_end c.args.number c.args.self.now.entries c.saturating_sub.result c.len-len.result c.requires (omega arith) (omega arith) (rw c.if-is_below_at.true at c.is_below_at.ensures.there)

pub returns-then-not-is_below_at : goal.returns-then-not-is_below_at
returns-then-not-is_below_at c = place_start c.args.number c.args.self.now.entries c.requires (rw c.if-not-is_below_at.true at c.is_below_at-2.ensures.other)
