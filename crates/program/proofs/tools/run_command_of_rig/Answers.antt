use Rattle.program.proofs.tools.run_command_of_rig.Goals as goal

pub returns-in-Transparency-clause-runs : goal.returns-in-Transparency-clause-runs
returns-in-Transparency-clause-runs g c = rw c.in-Transparency.is c.print_transparency.ensures.shows
