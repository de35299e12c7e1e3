use Rattle.std.proofs.Common.{inl}
use Rattle.program.proofs.dispatch.run_command.Goals as goal

pub returns-in-Qmicli-clause-write_fault : goal.returns-in-Qmicli-clause-write_fault
returns-in-Qmicli-clause-write_fault g c = λ e. inl (c.run_command_of_tool.ensures.write_fault e)

pub returns-in-Pump-clause-runs : goal.returns-in-Pump-clause-runs
returns-in-Pump-clause-runs g c = rw c.in-Pump.is (rw c.in-Pump.is at c.run_command_of_pump.ensures.runs)
