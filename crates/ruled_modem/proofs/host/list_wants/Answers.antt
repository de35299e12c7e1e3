use Rattle.std.proofs.Common.{List, Bool, ◌||◌, length, sym, ap, ◌∙◌, arith}
use Rattle.kit_bytes.specs.Indications.{wants}
use Rattle.kit_bytes.specs.Subscriptions.{Pair}
use Rattle.ruled_modem.proofs.host.list_wants.Goals as goal

pub events-smaller : goal.events-smaller
events-smaller c = omega (arith, ap (λ (l : List Pair). length l) c.in-Some-next.ensures.some)

pub events-preserved : goal.events-preserved
events-preserved c =
    sym (ap (λ (b : Bool). b || wants c.next.new.self c.args.service c.args.command) (sym c.asks.ensures ∙ c.if-asks.false))
    ∙ sym (ap (λ (l : List Pair). wants l c.args.service c.args.command) c.in-Some-next.ensures.some)
    ∙ c.events.invariant
