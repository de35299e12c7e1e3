use Rattle.tool_words.specs.Rig.{rig_app}
use Rattle.tool_words.proofs.rig.rig_reader.Goals as goal

pub returns : goal.returns
unfolding rig_app
returns c = rw (c.without_options.ensures, c.options.ensures) at c.add_options.ensures
