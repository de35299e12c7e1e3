use Rattle.std.proofs.Common.{Some, refl, sym, subst}
use Rattle.hub_io.specs.declared.hub.HubEvent.{HubEvent}
use Rattle.hub_io.specs.Hub.{FitsBuffer, NamesRise, ToldOfThose}
use Rattle.many_io.proofs.Recorded.{records_as}
use Rattle.many_io.proofs.one.AnyManyHub.next.Goals as goal

pub returns-in-Ok-clause-calls : goal.returns-in-Ok-clause-calls
returns-in-Ok-clause-calls g c = records_as _ _ _ _ (sym (c.of_the_only.ensures.call _)) c.in-Ok.ensures.calls

pub returns-in-Ok-clause-fits : goal.returns-in-Ok-clause-fits
returns-in-Ok-clause-fits g c = subst (λ (told : HubEvent). FitsBuffer told 16384) (sym c.of_the_only.ensures.without_device) c.in-Ok.ensures.fits

pub returns-in-Ok-clause-names : goal.returns-in-Ok-clause-names
returns-in-Ok-clause-names g c =
    let Rise : HubEvent → Type 0 = λ told. NamesRise (Some told) (g.H.Hub.greatest c.args.self.now) (g.H.Hub.greatest c.next.new.self) in
    subst Rise (sym c.of_the_only.ensures.without_device) c.in-Ok.ensures.names

pub returns-in-Ok-clause-clients : goal.returns-in-Ok-clause-clients
returns-in-Ok-clause-clients g c =
    let Those : HubEvent → Type 0 = λ told. ToldOfThose (Some told) (g.H.Hub.is_connected c.args.self.now) (g.H.Hub.is_connected c.next.new.self) in
    subst Those (sym c.of_the_only.ensures.without_device) c.in-Ok.ensures.clients

pub returns-in-Err-clause-calls : goal.returns-in-Err-clause-calls
returns-in-Err-clause-calls g c = records_as _ _ _ _ refl c.in-Err.ensures.calls
