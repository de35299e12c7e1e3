use Rattle.mbim_fragments.specs.Runs.{run_from}
use Rattle.dissect.proofs.mbim.MbimLines.open.Goals as goal

pub returns : goal.returns
unfolding run_from
returns c = record { commands = c.in_ok-open.ensures; answers = c.in_ok-open-2.ensures; indications = c.in_ok-open-3.ensures }
