use Rattle.std.proofs.Common.{refl}
use Rattle.framing.specs.Cutting.{cut_from}
use Rattle.proxy_history.specs.Streams.{stream}
use Rattle.sim_serving.specs.Clients.{heeded, hangs_up, asks, session, owed, promised, text, waiting}
use Rattle.sim_serving.proofs.examples.who_left_gets_nothing.Goals as goal

pub returns : goal.returns
unfolding cut_from stream heeded hangs_up asks session owed promised text waiting
returns c = record {
  first = refl;
  second = refl;
  there = refl;
  hung_up = refl;
}
