use Rattle.std.proofs.Common.{ℕ, List, ap, ◌∙◌, append-nil}
use Rattle.connections.proofs.Tables.{told_none}
use Rattle.proxy_state.specs.Telling.{tell}
use Rattle.mbim_state.specs.Transitions.{give_up}
use Rattle.mbim_core.specs.State.{state_of}
use Rattle.mbim_core.proofs.Turns.{nobody_told}
use Rattle.mbim_core.proofs.teller.put.Goals as goal

pub returns-in-Some-clause-told : goal.returns-in-Some-clause-told
returns-in-Some-clause-told c =
    c.put_at.ensures.told
    ∙ ap (λ (l : List ℕ). tell give_up (λ _. l) (λ client. client) c.args.name (state_of c.args.connections.now c.args.side.now)) (append-nil c.args.bytes.now)

pub returns-in-None-clause-told : goal.returns-in-None-clause-told
returns-in-None-clause-told c = nobody_told give_up (λ _. c.args.bytes.now) c.args.name (state_of c.args.connections.now c.args.side.now) c.in-None.ensures.place

pub returns-in-None-clause-stays : goal.returns-in-None-clause-stays
returns-in-None-clause-stays c = (told_none c.args.connections.now c.args.name c.in-None.ensures.place c.args.bytes.now).1
