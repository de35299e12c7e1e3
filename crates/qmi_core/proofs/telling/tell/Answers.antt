use Rattle.std.proofs.Common.{◌++◌, sym, ◌∙◌}
use Rattle.proxy_core.specs.Meaning.{state_of}
use Rattle.qmi_core.proofs.Tells.{stays_told}
use Rattle.qmi_core.proofs.telling.tell.Goals as goal

pub returns-then-tell-clause-told : goal.returns-then-tell-clause-told
returns-then-tell-clause-told c = stays_told c.args.name (c.args.head.now ++ c.args.rest.now) (state_of c.args.connections.now c.args.side.now) c.tell.new.self c.tell.ensures.told (sym c.tell.ensures.stays ∙ c.if-tell.true)
