use Rattle.std.proofs.Common.{true, false, Some, [], ◌∷◌, refl}
use Rattle.kit_io.proofs.Growth.{Grows-none}
use Rattle.hub_io.specs.Record.{Opened, Paired}
use Rattle.link_io.specs.Target.{address_of}
use Rattle.program.specs.Serving.{paired, no_bridge, no_pump, not_paired}
use Rattle.program.proofs.Opened.{once, one_more}
use Rattle.program.proofs.opening.open_behind_pumps.Goals as goal

-- the hub wasn't opened
pub returns-in-Err-clause-opens : goal.returns-in-Err-clause-opens
returns-in-Err-clause-opens g c = record {
  starts = [];
  are = record { on_hub = Opened c.args.socket.now (Some (address_of c.args.target.now)) false ∷ []; are = no_bridge refl refl refl; grows = once _ _ _ c.in-Err.ensures.calls };
  grows = Grows-none (g.P.Spawner.calls c.args.spawner.now);
  stands = c.requires;
}

-- a pump wasn't started
pub returns-in-Err-start_pumps-clause-opens : goal.returns-in-Err-start_pumps-clause-opens
returns-in-Err-start_pumps-clause-opens g c =
    let started = c.in-Err-start_pumps.ensures.starts in
    record {
      starts = started.starts;
      are = record { on_hub = Opened c.args.socket.now (Some (address_of c.args.target.now)) true ∷ []; are = no_pump refl refl started.are; grows = once _ _ _ c.in_default.ensures.calls };
      grows = started.grows;
      stands = started.stands;
    }

-- they were paired
pub returns-in-Ok-clause-opens : goal.returns-in-Ok-clause-opens
returns-in-Ok-clause-opens g c =
    let started = c.in_default-start_pumps.ensures.starts in
    let opening = Opened c.args.socket.now (Some (address_of c.args.target.now)) true in
    record {
      starts = started.starts;
      are = record { on_hub = Paired true ∷ opening ∷ []; are = paired refl refl started.are; grows = one_more _ _ _ _ (opening ∷ []) (once _ _ _ c.in_default.ensures.calls) c.in-Ok.ensures.calls };
      grows = started.grows;
      stands = started.stands;
    }

-- they weren't
pub returns-in-Err-pair-clause-opens : goal.returns-in-Err-pair-clause-opens
returns-in-Err-pair-clause-opens g c =
    let started = c.in_default-start_pumps.ensures.starts in
    let opening = Opened c.args.socket.now (Some (address_of c.args.target.now)) true in
    record {
      starts = started.starts;
      are = record { on_hub = Paired false ∷ opening ∷ []; are = not_paired refl refl started.are; grows = one_more _ _ _ _ (opening ∷ []) (once _ _ _ c.in_default.ensures.calls) c.in-Err-pair.ensures.calls };
      grows = started.grows;
      stands = started.stands;
    }
