use Rattle.program.proofs.tools.run_command_of_pump.Goals as goal

pub returns-in-Pump-clause-runs : goal.returns-in-Pump-clause-runs
returns-in-Pump-clause-runs g c = rw c.in-Pump.is c.pump_bytes.ensures.pumps
