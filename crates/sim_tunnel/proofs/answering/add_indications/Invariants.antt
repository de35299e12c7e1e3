use Rattle.std.proofs.Common.{◌≡◌, ◌++◌, length}
use Rattle.qmux_frame.specs.Frame.{qmux_cut}
use Rattle.sim_tunnel.specs.Carrying.{indications}
use Rattle.sim_tunnel.proofs.answering.add_indications.Given as goal

-- the messages that are left are those that weren't told yet
abbrev pub invariant-loop-count : goal.invariant-loop-count
invariant-loop-count l = l.text ++ indications l.longest (qmux_cut l.rest).messages ≡ l.initial.text ++ indications l.longest (qmux_cut l.initial.rest).messages

abbrev pub decreases-loop-count : goal.decreases-loop-count
decreases-loop-count l = length l.rest
