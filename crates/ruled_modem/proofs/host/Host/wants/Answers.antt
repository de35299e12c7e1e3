use Rattle.std.proofs.Common.{ℕ, List, [], Option, unwrap_or, sym, ap, ◌∙◌}
use Rattle.kit_bytes.specs.Indications.{wants}
use Rattle.mbim_services.specs.SubscribeLists.{list_of_buffer}
use Rattle.ruled_modem.specs.Host.{Host, pairs_of}
use Rattle.ruled_modem.proofs.host.Host.wants.Goals as goal

pub returns-in-Some : goal.returns-in-Some
returns-in-Some c =
    c.list_wants.ensures
    ∙ ap (λ (bytes : List ℕ). wants (unwrap_or (list_of_buffer bytes) []) c.args.service c.args.command) c.as_slice.ensures
    ∙ ap (λ (list : Option (List ℕ)). wants (pairs_of list) c.args.service c.args.command) (sym c.in-Some.is)
    ∙ ap (λ (host : Host). wants (pairs_of host.list) c.args.service c.args.command) c.self.view_is
