use Rattle.program.proofs.tool.ask_in_form.Goals as goal

-- the answer is printed in the form that the words want
pub returns-in-Lines-clause-asks : goal.returns-in-Lines-clause-asks
returns-in-Lines-clause-asks g c = rw c.in-Lines.is c.ask_device.ensures.asks

pub returns-in-Decoded-clause-asks : goal.returns-in-Decoded-clause-asks
returns-in-Decoded-clause-asks g c = rw c.in-Decoded.is c.ask_device-in-Decoded.ensures.asks

pub returns-in-Json-clause-asks : goal.returns-in-Json-clause-asks
returns-in-Json-clause-asks g c = rw c.in-Json.is c.ask_device-in-Json.ensures.asks
