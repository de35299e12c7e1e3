use Rattle.std.proofs.Common.{inl}
use Rattle.modem_rules.specs.Reading.{rules_in}
use Rattle.sim_runs.proofs.Refused.{refused}
use Rattle.sim_runs.proofs.by_rules.by_text.Goals as goal

pub returns-in-Err-clause-simulates : goal.returns-in-Err-clause-simulates
returns-in-Err-clause-simulates g c =
    rw c.from.ensures
    (refused c.args.task.now.profile c.args.task.now.kind c.args.task.now.socket c.args.task.now.turns (record { files = g.F.Files.calls c.args.files.now; hub = g.H.Hub.calls c.args.hub.now })
    c.in-Err.fault (rules_in c.args.task.now.kind c.args.text.now) c.in-Err.ensures)

pub returns-in-Ok-clause-simulates : goal.returns-in-Ok-clause-simulates
returns-in-Ok-clause-simulates g c = rw c.in-Ok.ensures (inl c.simulate_so.ensures.simulates)
