use Rattle.std.proofs.Common.{sym}
use Rattle.rig_notes.proofs.Meeting.{comes, refused}
use Rattle.rig_notes.proofs.alone.come.Goals as goal

pub returns-then-not-fresh-clause-same : goal.returns-then-not-fresh-clause-same
returns-then-not-fresh-clause-same g c = refused (λ p own kept. sym c.if-not-fresh.true)

pub returns-clause-same : goal.returns-clause-same
returns-clause-same g c = comes (λ p own kept. sym c.if-not-fresh.false) c.meets.ensures.met
