use Rattle.program.proofs.tools.run_command_of_tool.Goals as goal

pub returns-in-Request-clause-runs : goal.returns-in-Request-clause-runs
returns-in-Request-clause-runs g c = rw c.in-Request.is c.ask_by_tables.ensures.asks
