use Rattle.std.proofs.Common.{◌≡◌, length}
use Rattle.framing.specs.Cutting.{cut}
use Rattle.proxy_state.specs.Step.{hear_all}
use Rattle.proxy_core.specs.Meaning.{Agrees, handlers_at, state_of}
use Rattle.proxy_core.proofs.proxy.hear_all.Given as goal

-- what is left to hear, heard, is what there was to hear, heard
abbrev pub invariant-loop-span : goal.invariant-loop-span
invariant-loop-span g l = record {
  heard :
      hear_all (handlers_at g.P.Protocol.meaning l.initial.side) g.P.Frame.Framing.size (cut g.P.Frame.Framing.size l.cutter.rest).messages (state_of l.connections l.side)
      ≡ hear_all (handlers_at g.P.Protocol.meaning l.initial.side) g.P.Frame.Framing.size (cut g.P.Frame.Framing.size l.initial.cutter.rest).messages (state_of l.initial.connections l.initial.side);
  lasting : g.P.Protocol.meaning.lasting l.side ≡ g.P.Protocol.meaning.lasting l.initial.side;
  agrees : Agrees g.P.Protocol.meaning l.connections l.side l.hand;
  rest : (cut g.P.Frame.Framing.size l.cutter.rest).rest ≡ (cut g.P.Frame.Framing.size l.initial.cutter.rest).rest;
}

abbrev pub decreases-loop-span : goal.decreases-loop-span
decreases-loop-span g l = length l.cutter.rest
