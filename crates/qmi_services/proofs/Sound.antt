-- The table is sound.
use Rattle.std.proofs.Common.{◌≡◌, rules, refl}
use Rattle.std.specs.List.{AllByRecursion}
use Rattle.message_tables.specs.WellMade.{IsSoundMessage, AreSound, again_behind}
use Rattle.std.specs.Prelude.{[], false}
use Rattle.qmi_services.specs.BuiltIn.{built_in}

once : again_behind [] built_in ≡ false
once = refl

each : AllByRecursion IsSoundMessage built_in
each = search rules

pub sound : AreSound built_in
sound = record { each = each; once = once }
