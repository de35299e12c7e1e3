use Rattle.kit_io.proofs.Growth.{Grows-none}
use Rattle.program.specs.Tables.{asked, asks_once, follows, not_asked}
use Rattle.program.proofs.tables.ask_by_tables.Goals as goal

-- the modem was asked with the request that the file gives
pub returns-in-Ok-clause-asks : goal.returns-in-Ok-clause-asks
returns-in-Ok-clause-asks g c = asks_once c.in-None.is (asked c.in-Ok.asked c.in-Ok.ensures.reads c.ask_with.ensures.asks)

-- or it gives none
pub returns-in-Err-clause-asks : goal.returns-in-Err-clause-asks
returns-in-Err-clause-asks g c = asks_once c.in-None.is (not_asked c.in-Err.none c.in-Err.ensures.reads c.from.ensures (Grows-none _, Grows-none _, Grows-none _))

-- or the modem was followed, as the words want it
pub returns-in-Some-clause-asks : goal.returns-in-Some-clause-asks
returns-in-Some-clause-asks g c = follows c.in-Some.turns c.in-Some.is c.follow_by_tables.ensures.follows
