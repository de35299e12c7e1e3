use Rattle.std.proofs.Common.{length, ap, arith}
use Rattle.std.proofs.lemmas.List.{length-take-le}
use Rattle.qmux_frame.proofs.Padding.{IsPadded-put}
use Rattle.qmux_frame.proofs.short.ShortBytes.push.Goals as goal

pub invariant_of-self : goal.invariant_of-self
invariant_of-self c =
    let count = length-take-le c.self.inside.count c.self.inside.bytes c.self.invariant.within in
    let same = ap length c.self.view_is in
    let fits = c.requires in
    let long = c.self.told in
    IsPadded-put _ _ _ _ c.self.invariant (ap length c.copy_from_slice.ensures.after) (omega arith)
