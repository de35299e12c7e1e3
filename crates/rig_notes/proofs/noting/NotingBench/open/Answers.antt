use Rattle.rig_notes.proofs.Noted.{nothing_noted}
use Rattle.rig_notes.proofs.noting.NotingBench.open.Goals as goal

pub returns-clause-keeps : goal.returns-clause-keeps
returns-clause-keeps g c = record { kept = c.in_ok-open.ensures.keeps; noted = nothing_noted g.R.Reading.reading _ c.new.result c.new.ensures }
