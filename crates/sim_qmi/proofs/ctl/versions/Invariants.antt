use Rattle.std.proofs.Common.{◌≡◌, [], ◌∷◌, map, take}
use Rattle.qmi_values.specs.View.{val_view}
use Rattle.sim_qmi.specs.Ctl.{version}
use Rattle.sim_qmi.proofs.ctl.versions.Given as goal

abbrev pub invariant-loop-service : goal.invariant-loop-service
invariant-loop-service l = record {
  services : l.service-items ≡ 0 ∷ 1 ∷ 2 ∷ 3 ∷ 5 ∷ [];
  made : map val_view l.versions.items ≡ map version (take l.service-index l.service-items);
}
