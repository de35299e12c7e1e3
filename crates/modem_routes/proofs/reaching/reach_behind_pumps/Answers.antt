use Rattle.std.proofs.Common.{true, false, [], ◌∷◌, refl}
use Rattle.kit_io.proofs.Growth.{Grows-append}
use Rattle.link_io.specs.Calls.{Opened, Paired, Closed}
use Rattle.link_io.specs.Target.{address_of}
use Rattle.modem_routes.specs.Reaching.{paired, no_pump, not_paired}
use Rattle.modem_routes.proofs.reaching.reach_behind_pumps.Goals as goal

-- a pump wasn't started
pub returns-in-Err-start_pumps-clause-reaches : goal.returns-in-Err-start_pumps-clause-reaches
returns-in-Err-start_pumps-clause-reaches g c =
    let started = c.in-Err-start_pumps.ensures.starts in
    record {
      on_link = Opened (address_of c.args.target.now) true ∷ Closed ∷ [];
      starts = started.starts;
      are = no_pump refl refl started.are;
      link_grows = Grows-append c.in_default.ensures.calls c.close.ensures.calls;
      spawner_grows = started.grows;
      stands = started.stands;
    }

-- they weren't paired
pub returns-in-Err-pair-clause-reaches : goal.returns-in-Err-pair-clause-reaches
returns-in-Err-pair-clause-reaches g c =
    let started = c.in_default-start_pumps.ensures.starts in
    record {
      on_link = Opened (address_of c.args.target.now) true ∷ Paired false ∷ Closed ∷ [];
      starts = started.starts;
      are = not_paired refl refl started.are;
      link_grows = Grows-append (Grows-append c.in_default.ensures.calls c.in-Err-pair.ensures.calls) c.close-in-Err-pair.ensures.calls;
      spawner_grows = started.grows;
      stands = started.stands;
    }

-- they were
pub returns-clause-reaches : goal.returns-clause-reaches
returns-clause-reaches g c =
    let started = c.in_default-start_pumps.ensures.starts in
    record {
      on_link = Opened (address_of c.args.target.now) true ∷ Paired true ∷ [];
      starts = started.starts;
      are = paired refl refl started.are;
      link_grows = Grows-append c.in_default.ensures.calls c.in_default-pair.ensures.calls;
      spawner_grows = started.grows;
      stands = started.stands;
    }
