-- A pump that begins and goes on.
use Rattle.std.proofs.Common.{ℕ, List, ◌++◌, Option, Ok, Err, refl}
use Rattle.kit_io.proofs.Growth.{Grows-append}
use Rattle.link_io.specs.Target.{Address}
use Rattle.link_io.specs.Calls as link
use Rattle.file_io.specs.Calls as file
use Rattle.file_io.specs.declared.files.Side.{Side}
use Rattle.pump.specs.declared.ending.PumpEnd.{PumpEnd}
use Rattle.pump.specs.Beginning.{Begins, Pumps, GrowBy, not_begun, went_on}

module _ {bridge : Address} {node : List ℕ} {side : Side} {letter : List ℕ} {GoesOn : List link.Call → List file.Call → Type 0} {end : PumpEnd} {link_old link_new : Option (List link.Call)} {files_old files_new : Option (List file.Call)} where
  pub pumps_not : GrowBy (Begins bridge node side letter (Err end)) link_old files_old link_new files_new → GrowBy (Pumps bridge node side letter GoesOn end) link_old files_old link_new files_new
  pumps_not first = record { on_link = first.on_link; on_files = first.on_files; are = not_begun first.are; link_grows = first.link_grows; files_grow = first.files_grow }

  pub pumps_on : {link_mid : Option (List link.Call)} {files_mid : Option (List file.Call)} → GrowBy (Begins bridge node side letter (Ok tt)) link_old files_old link_mid files_mid
      → GrowBy GoesOn link_mid files_mid link_new files_new → GrowBy (Pumps bridge node side letter GoesOn end) link_old files_old link_new files_new
  pumps_on first more = record {
    on_link = first.on_link ++ more.on_link;
    on_files = first.on_files ++ more.on_files;
    are = went_on first.on_link more.on_link first.on_files more.on_files first.are more.are refl refl;
    link_grows = Grows-append first.link_grows more.link_grows;
    files_grow = Grows-append first.files_grow more.files_grow;
  }
