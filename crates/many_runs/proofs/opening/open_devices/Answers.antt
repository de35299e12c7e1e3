use Rattle.std.proofs.Common.{◌≡◌, ◌<◌, Bool, true, false, List, [], ◌∷◌, length, map, refl, sym, ap, ◌∙◌, subst, arith}
use Rattle.kit_io.proofs.Growth.{Grows-none}
use Rattle.link_io.specs.Target.{address_of}
use Rattle.modem_routes.specs.Routes.{PumpWords, words_in}
use Rattle.modem_routes.specs.declared.route.Pumps.{Pumps}
use Rattle.many_io.specs.Record.{Opened, Paired}
use Rattle.many_runs.specs.Running.{at_once, paired, not_opened, no_pump, not_paired, StartsEach}
use Rattle.many_runs.proofs.Opened.{one_more, opened_once, no_nodes, some_nodes}
use Rattle.many_runs.proofs.opening.open_devices.Goals as goal

-- the hub wasn't opened
pub returns-in-Err-clause-opens : goal.returns-in-Err-clause-opens
returns-in-Err-clause-opens g c =
    let devices = c.args.devices.now in
    record {
      starts = [];
      are = record {
        on_hub = Opened c.args.socket.now (map address_of devices.targets.items) false ∷ [];
        are = not_opened refl refl refl;
        grows = opened_once _ _ c.args.socket.now c.deref.result.now devices.targets.items false c.deref.ensures.value c.in-Err.ensures.calls;
      };
      grows = Grows-none (g.P.Spawner.calls c.args.spawner.now);
      stands = c.requires.none;
    }

-- a pump wasn't started
pub returns-in-Err-start_all-clause-opens : goal.returns-in-Err-start_all-clause-opens
returns-in-Err-start_all-clause-opens g c =
    let devices = c.args.devices.now in
    let started = c.in-Err-start_all.ensures.starts in
    record {
      starts = started.starts;
      are = record {
        on_hub = Opened c.args.socket.now (map address_of devices.targets.items) true ∷ [];
        are = no_pump refl refl (subst (λ (l : List Pumps). StartsEach (map words_in l) false started.starts) c.deref-2.ensures.value started.are);
        grows = opened_once _ _ c.args.socket.now c.deref.result.now devices.targets.items true c.deref.ensures.value c.in_default.ensures.calls;
      };
      grows = started.grows;
      stands = started.stands;
    }

-- there are no nodes
pub returns-then-is_empty-clause-opens : goal.returns-then-is_empty-clause-opens
returns-then-is_empty-clause-opens g c =
    let devices = c.args.devices.now in
    let started = c.in_default-start_all.ensures.starts in
    let len : length devices.pumps.items ≡ devices.pumps.len = omega (arith, c.deref-2.ensures.len, ap (λ (l : List Pumps). length l) c.deref-2.ensures.value) in
    let none : map words_in devices.pumps.items ≡ [] = no_nodes devices.pumps.items devices.pumps.len len (sym c.is_empty.ensures ∙ c.if-is_empty.true) in
    let each : StartsEach (map words_in devices.pumps.items) true started.starts = subst (λ (l : List Pumps). StartsEach (map words_in l) true started.starts) c.deref-2.ensures.value started.are in
    let no_starts : StartsEach [] true started.starts = subst (λ (l : List PumpWords). StartsEach l true started.starts) none each in
    record {
      starts = started.starts;
      are = record {
        on_hub = Opened c.args.socket.now (map address_of devices.targets.items) true ∷ [];
        are = at_once refl none refl no_starts.1;
        grows = opened_once _ _ c.args.socket.now c.deref.result.now devices.targets.items true c.deref.ensures.value c.in_default.ensures.calls;
      };
      grows = started.grows;
      stands = started.stands;
    }

-- they were paired
pub returns-in-Ok-clause-opens : goal.returns-in-Ok-clause-opens
returns-in-Ok-clause-opens g c =
    let devices = c.args.devices.now in
    let started = c.in_default-start_all.ensures.starts in
    let len : length devices.pumps.items ≡ devices.pumps.len = omega (arith, c.deref-2.ensures.len, ap (λ (l : List Pumps). length l) c.deref-2.ensures.value) in
    let opening = Opened c.args.socket.now (map address_of devices.targets.items) true in
    record {
      starts = started.starts;
      are = record {
        on_hub = Paired true ∷ opening ∷ [];
        are = paired refl (some_nodes devices.pumps.items devices.pumps.len len (sym c.is_empty.ensures ∙ c.if-is_empty.false)) refl (subst (λ (l : List Pumps). StartsEach (map words_in l) true started.starts) c.deref-2.ensures.value started.are);
        grows = one_more _ _ _ (Paired true) (opening ∷ []) (opened_once _ _ c.args.socket.now c.deref.result.now devices.targets.items true c.deref.ensures.value c.in_default.ensures.calls) c.in-Ok.ensures.calls;
      };
      grows = started.grows;
      stands = started.stands;
    }

-- they weren't
pub returns-in-Err-pair-clause-opens : goal.returns-in-Err-pair-clause-opens
returns-in-Err-pair-clause-opens g c =
    let devices = c.args.devices.now in
    let started = c.in_default-start_all.ensures.starts in
    let len : length devices.pumps.items ≡ devices.pumps.len = omega (arith, c.deref-2.ensures.len, ap (λ (l : List Pumps). length l) c.deref-2.ensures.value) in
    let opening = Opened c.args.socket.now (map address_of devices.targets.items) true in
    record {
      starts = started.starts;
      are = record {
        on_hub = Paired false ∷ opening ∷ [];
        are = not_paired refl (some_nodes devices.pumps.items devices.pumps.len len (sym c.is_empty.ensures ∙ c.if-is_empty.false)) refl (subst (λ (l : List Pumps). StartsEach (map words_in l) true started.starts) c.deref-2.ensures.value started.are);
        grows = one_more _ _ _ (Paired false) (opening ∷ []) (opened_once _ _ c.args.socket.now c.deref.result.now devices.targets.items true c.deref.ensures.value c.in_default.ensures.calls) c.in-Err-pair.ensures.calls;
      };
      grows = started.grows;
      stands = started.stands;
    }
