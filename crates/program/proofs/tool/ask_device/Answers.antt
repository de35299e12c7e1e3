use Rattle.std.proofs.Common.{inl, inr, refl}
use Rattle.kit_io.proofs.Growth.{Grows-none}
use Rattle.program.proofs.Told.{fails_behind}
use Rattle.program.proofs.tool.ask_device.Goals as goal

-- the modem on the route of the words was asked
pub returns-clause-asks : goal.returns-clause-asks
returns-clause-asks g c = rw (← c.in-Ok.ensures, ← c.watch_if.ensures.calls, ← c.watch_if.ensures.made) (inl c.ask_modem.ensures.asks)

pub returns-clause-link_fault : goal.returns-clause-link_fault
returns-clause-link_fault g c = λ e. rw (← c.in-Ok.ensures) (fails_behind _ _ _ _ _ _ c.watch_if.ensures.faults c.watch_if.ensures.open_faults (c.ask_modem.ensures.link_fault e))

-- or no memory was there for it
pub returns-in_default-clause-asks : goal.returns-in_default-clause-asks
returns-in_default-clause-asks g c = inr (refl, (rw c.watch_if.ensures.calls (Grows-none _), Grows-none _, Grows-none _))
