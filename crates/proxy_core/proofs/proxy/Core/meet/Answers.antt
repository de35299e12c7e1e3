use Rattle.std.proofs.Common.{ap}
use Rattle.hub_io.specs.Events.{event_of}
use Rattle.proxy_history.specs.Events.{Joined, Piece, Left, ModemPiece, ModemGone, ModemBack, Now, Took, ModemTook}
use Rattle.proxy_core.proofs.Events.{met_as}
use Rattle.proxy_core.proofs.proxy.Core.meet.Goals as goal

pub returns-in-Joined : goal.returns-in-Joined
returns-in-Joined g c = met_as g.P.Protocol.meaning g.P.Client.Renews.fresh g.P.Frame.Framing.size g.met.P.Protocol.lawful _ (Joined c.in-Joined.name) c.args.self.now _ (ap event_of c.in-Joined.is) c.join.ensures

pub returns-in-Piece : goal.returns-in-Piece
returns-in-Piece g c = met_as g.P.Protocol.meaning g.P.Client.Renews.fresh g.P.Frame.Framing.size g.met.P.Protocol.lawful _ (Piece c.in-Piece.name c.in-Piece.piece.now) c.args.self.now _ (ap event_of c.in-Piece.is) c.bring.ensures

pub returns-in-Left : goal.returns-in-Left
returns-in-Left g c = met_as g.P.Protocol.meaning g.P.Client.Renews.fresh g.P.Frame.Framing.size g.met.P.Protocol.lawful _ (Left c.in-Left.name) c.args.self.now _ (ap event_of c.in-Left.is) c.leave.ensures

pub returns-in-Now : goal.returns-in-Now
returns-in-Now g c = met_as g.P.Protocol.meaning g.P.Client.Renews.fresh g.P.Frame.Framing.size g.met.P.Protocol.lawful _ (Now c.in-Now.time) c.args.self.now _ (ap event_of c.in-Now.is) c.tick.ensures

pub returns-in-Took : goal.returns-in-Took
returns-in-Took g c = met_as g.P.Protocol.meaning g.P.Client.Renews.fresh g.P.Frame.Framing.size g.met.P.Protocol.lawful _ (Took c.in-Took.name c.in-Took.count) c.args.self.now _ (ap event_of c.in-Took.is) c.take.ensures

pub returns-in-ModemPiece : goal.returns-in-ModemPiece
returns-in-ModemPiece g c = met_as g.P.Protocol.meaning g.P.Client.Renews.fresh g.P.Frame.Framing.size g.met.P.Protocol.lawful _ (ModemPiece c.in-ModemPiece.piece.now) c.args.self.now _ (ap event_of c.in-ModemPiece.is) c.bring_modem.ensures

pub returns-in-ModemGone : goal.returns-in-ModemGone
returns-in-ModemGone g c = met_as g.P.Protocol.meaning g.P.Client.Renews.fresh g.P.Frame.Framing.size g.met.P.Protocol.lawful _ ModemGone c.args.self.now _ (ap event_of c.in-ModemGone.is) c.lose_modem.ensures

pub returns-in-ModemBack : goal.returns-in-ModemBack
returns-in-ModemBack g c = met_as g.P.Protocol.meaning g.P.Client.Renews.fresh g.P.Frame.Framing.size g.met.P.Protocol.lawful _ ModemBack c.args.self.now _ (ap event_of c.in-ModemBack.is) c.regain_modem.ensures

pub returns-in-ModemTook : goal.returns-in-ModemTook
returns-in-ModemTook g c = met_as g.P.Protocol.meaning g.P.Client.Renews.fresh g.P.Frame.Framing.size g.met.P.Protocol.lawful _ (ModemTook c.in-ModemTook.count) c.args.self.now _ (ap event_of c.in-ModemTook.is) c.take_modem.ensures
