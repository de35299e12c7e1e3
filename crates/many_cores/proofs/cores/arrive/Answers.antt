use Rattle.std.proofs.Common.{ap, ◌∙◌}
use Rattle.proxy_history.specs.Events.{Piece}
use Rattle.many_history.specs.Many.{in_pieces}
use Rattle.many_cores.specs.Cores.{met, said}
use Rattle.many_cores.proofs.Saying.{arrived}
use Rattle.many_cores.proofs.cores.arrive.Goals as goal

pub returns : goal.returns
returns c =
    let name = c.args.name in
    c.meet-2.ensures.met ∙ ap (met (Piece name c.args.piece.now)) (c.say.ensures ∙ ap (said name (in_pieces c.args.before.now)) c.meet.ensures.met) ∙ arrived c.args.core.now name c.args.before.now c.args.piece.now
