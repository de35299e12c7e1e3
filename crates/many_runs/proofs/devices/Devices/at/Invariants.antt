use Rattle.std.proofs.Common.{map, take}
use Rattle.std.specs.Str.{encode_utf8_all}
use Rattle.many_runs.specs.Places.{places_of, StandFor}
use Rattle.many_runs.proofs.devices.Devices.at.Given as goal

abbrev pub invariant-loop-device : goal.invariant-loop-device
invariant-loop-device l = StandFor (places_of (map encode_utf8_all (take l.device l.paths)) l.bridge) l.devices
