use Rattle.std.proofs.Common.{◌≡◌, length, ap, sym, ◌∙◌, rules}
use Rattle.std.proofs.lemmas.List.FromFn.{length-range_with_len}
use Rattle.rig_runs.specs.Rig as rig
use Rattle.rig_stage.proofs.Stopping.{also_on_err}
use Rattle.rig_play.specs.Play.{script_of}
use Rattle.rig_play.proofs.Taking.{takes_as}
use Rattle.rig_play.proofs.Halting.{halts_as}
use Rattle.rig_play.proofs.Turning.{turn_is}
use Rattle.rig_play.proofs.players.Players.turn.Given.{Over}
use Rattle.rig_play.proofs.players.Players.turn.Goals as goal

abbrev script : Over → rig.Script
script g = script_of g.P.Protocol.first g.P.Protocol.second g.P.Protocol.asks g.P.Protocol.FIRST_NUMBER

pub returns-clause-takes : goal.returns-clause-takes
returns-clause-takes g c =
    takes_as (script g) c.in_ok-act.ensures.takes
    (λ cast opened earlier stage it.
    let clients : c.args.self.now.world.clients ≡ length cast.clients = sym (ap length it.stands.clients ∙ length-range_with_len 1 c.args.self.now.world.clients) in
    ap (rig.play cast (script g) stage) (turn_is (length cast.clients) c.args.self.now.world.clients c.below-index.result c.below-choice.result c.args.draws.now.x c.below-index.new.self.x c.below-choice.new.self.x clients (search rules) (search rules) (search rules) (search rules)))

pub returns-in_err-act-clause-stops : goal.returns-in_err-act-clause-stops
returns-in_err-act-clause-stops g c =
    also_on_err c.from_residual.result
    (halts_as (script g) c.in_err-act.ensures.stops
    (λ cast opened earlier stage it.
    let clients : c.args.self.now.world.clients ≡ length cast.clients = sym (ap length it.stands.clients ∙ length-range_with_len 1 c.args.self.now.world.clients) in
    ap (rig.play cast (script g) stage) (turn_is (length cast.clients) c.args.self.now.world.clients c.below-index.result c.below-choice.result c.args.draws.now.x c.below-index.new.self.x c.below-choice.new.self.x clients (search rules) (search rules) (search rules) (search rules))))
