use Rattle.std.proofs.Common.{◌≡◌, map, take}
use Rattle.std.specs.List.{filter_map, enumerate_from}
use Rattle.qmi_values.specs.View.{val_view}
use Rattle.sim_qmi.specs.Wms.{listed}
use Rattle.sim_qmi.proofs.wms.listing.Given as goal

abbrev pub invariant-loop-index : goal.invariant-loop-index
invariant-loop-index l = map val_view l.entries.items ≡ filter_map listed (enumerate_from 0 (take l.index l.messages))
