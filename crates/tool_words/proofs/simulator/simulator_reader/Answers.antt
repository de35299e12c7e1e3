use Rattle.tool_words.specs.Simulator.{simulator_app}
use Rattle.tool_words.proofs.simulator.simulator_reader.Goals as goal

pub returns : goal.returns
unfolding simulator_app
returns c = rw (c.without_options.ensures, c.options.ensures) at c.add_options.ensures
