use Rattle.std.proofs.Common.{refl, ap}
use Rattle.hub_io.specs.Events.{event_of}
use Rattle.proxy_history.specs.Events.{Joined, Piece, Left, ModemGone, ModemBack, Now, Took}
use Rattle.sim_serving.proofs.Steps.{step_as, goes_joined, goes_brought, goes_left, goes_took, goes_modem_piece, goes_modem_gone, goes_modem_back, goes_now, goes_modem_took}
use Rattle.sim_serving.proofs.sim_core.SimCore.step.Goals as goal

pub returns-in_ok-join-in-Joined-clause-stands : goal.returns-in_ok-join-in-Joined-clause-stands
returns-in_ok-join-in-Joined-clause-stands g c = step_as g.S.Framing.Framing.size g.S.ServedSim.keeps (event_of c.args.event) (Joined c.in-Joined.name) c.args.self.now c.join.new.self _ (ap event_of c.in-Joined.is) c.in_ok-join-in-Joined.ensures c.requires (goes_joined g.S.Framing.Framing.size g.S.ServedSim.keeps c.args.self.now c.in-Joined.name)

pub returns-in_ok-bring-in-Piece-clause-stands : goal.returns-in_ok-bring-in-Piece-clause-stands
returns-in_ok-bring-in-Piece-clause-stands g c = step_as g.S.Framing.Framing.size g.S.ServedSim.keeps (event_of c.args.event) (Piece c.in-Piece.name c.in-Piece.piece.now) c.args.self.now c.bring.new.self _ (ap event_of c.in-Piece.is) refl c.requires (goes_brought g.S.Framing.Framing.size g.S.ServedSim.keeps c.args.self.now c.in-Piece.name c.in-Piece.piece.now c.bring.new.self c.in_ok-bring-in-Piece.ensures.brought)

pub returns-in-Left-clause-stands : goal.returns-in-Left-clause-stands
returns-in-Left-clause-stands g c = step_as g.S.Framing.Framing.size g.S.ServedSim.keeps (event_of c.args.event) (Left c.in-Left.name) c.args.self.now c.leave.new.self _ (ap event_of c.in-Left.is) c.leave.ensures c.requires (goes_left g.S.Framing.Framing.size g.S.ServedSim.keeps c.args.self.now c.in-Left.name)

pub returns-in-Took-clause-stands : goal.returns-in-Took-clause-stands
returns-in-Took-clause-stands g c = step_as g.S.Framing.Framing.size g.S.ServedSim.keeps (event_of c.args.event) (Took c.in-Took.name c.in-Took.count) c.args.self.now c.take.new.self _ (ap event_of c.in-Took.is) c.take.ensures c.requires (goes_took g.S.Framing.Framing.size g.S.ServedSim.keeps c.args.self.now c.in-Took.name c.in-Took.count)

pub returns-in-ModemPiece-clause-stands : goal.returns-in-ModemPiece-clause-stands
returns-in-ModemPiece-clause-stands g c = step_as g.S.Framing.Framing.size g.S.ServedSim.keeps (event_of c.args.event) _ c.args.self.now c.args.self.now _ (ap event_of c.in-ModemPiece.is) refl c.requires (goes_modem_piece g.S.Framing.Framing.size g.S.ServedSim.keeps c.args.self.now _)

pub returns-in-ModemGone-clause-stands : goal.returns-in-ModemGone-clause-stands
returns-in-ModemGone-clause-stands g c = step_as g.S.Framing.Framing.size g.S.ServedSim.keeps (event_of c.args.event) ModemGone c.args.self.now c.args.self.now _ (ap event_of c.in-ModemGone.is) refl c.requires (goes_modem_gone g.S.Framing.Framing.size g.S.ServedSim.keeps c.args.self.now)

pub returns-in-ModemBack-clause-stands : goal.returns-in-ModemBack-clause-stands
returns-in-ModemBack-clause-stands g c = step_as g.S.Framing.Framing.size g.S.ServedSim.keeps (event_of c.args.event) ModemBack c.args.self.now c.args.self.now _ (ap event_of c.in-ModemBack.is) refl c.requires (goes_modem_back g.S.Framing.Framing.size g.S.ServedSim.keeps c.args.self.now)

pub returns-in_ok-tick-in-Now-clause-stands : goal.returns-in_ok-tick-in-Now-clause-stands
returns-in_ok-tick-in-Now-clause-stands g c = step_as g.S.Framing.Framing.size g.S.ServedSim.keeps (event_of c.args.event) (Now _) c.args.self.now c.tick.new.self _ (ap event_of c.in-Now.is) refl c.requires (goes_now g.S.Framing.Framing.size g.S.ServedSim.keeps c.args.self.now _ c.tick.new.self c.in_ok-tick-in-Now.ensures.ticked)

pub returns-in-ModemTook-clause-stands : goal.returns-in-ModemTook-clause-stands
returns-in-ModemTook-clause-stands g c = step_as g.S.Framing.Framing.size g.S.ServedSim.keeps (event_of c.args.event) _ c.args.self.now c.args.self.now _ (ap event_of c.in-ModemTook.is) refl c.requires (goes_modem_took g.S.Framing.Framing.size g.S.ServedSim.keeps c.args.self.now _)
