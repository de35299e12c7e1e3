use Rattle.std.proofs.Common.{arith, rules, length-append, ap, length}
use Rattle.kit_io.proofs.Logs.{Notes-pushed}
use Rattle.kit_io.proofs.log.Log.note.Goals as goal

pub returns : goal.returns
returns g c =
    rw (← c.self.view_is, c.push_reserved.ensures.items, c.append.ensures.items)
    (Notes-pushed c.self.inside.tells c.self.inside.bytes.items c.args.bytes.now c.self.inside.notes.items c.args.kind c.len-start.result c.len-end.result _ _ _ _
    c.self.invariant (search rules) (search rules) (omega (arith, c.push_reserved.ensures.len)) (omega (arith, ap length c.append.ensures.items, length-append c.self.inside.bytes.items c.args.bytes.now)))
