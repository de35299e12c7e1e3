-- How a pump begins: the calls that it makes on the link and on the files, the oldest first.
use Rattle.std.specs.Prelude.{◌≡◌, ℕ, true, false, List, [], ◌∷◌, ◌++◌, Option, Result, Ok, Err}
use Rattle.kit_io.specs.Growth.{Grows}
use Rattle.link_io.specs.Target.{Address}
use Rattle.link_io.specs.Calls as link
use Rattle.file_io.specs.Calls as file
use Rattle.file_io.specs.declared.files.Side.{Side}
use Rattle.pump.specs.declared.ending.PumpEnd.{PumpEnd}
use Rattle.pump.specs.declared.ending.PumpEnd.TheVariants.{LinkFault, ReadFault}

-- the bridge is opened, then the node, and then a letter is sent, of which a front where the sending failed
pub data Begins (bridge : Address) (node : List ℕ) (side : Side) (letter : List ℕ) (result : Result (Unit {0}) PumpEnd) (on_link : List link.Call) (on_files : List file.Call) : Type 0 where
  no_bridge : result ≡ Err LinkFault → on_link ≡ link.Opened bridge false ∷ [] → on_files ≡ [] → Begins bridge node side letter result on_link on_files
  no_node : result ≡ Err ReadFault → on_link ≡ link.Opened bridge true ∷ [] → on_files ≡ file.Opened node side false ∷ [] → Begins bridge node side letter result on_link on_files
  no_letter : (front rest : List ℕ) → letter ≡ front ++ rest → result ≡ Err LinkFault
      → on_link ≡ link.Opened bridge true ∷ link.Sent front false ∷ [] → on_files ≡ file.Opened node side true ∷ [] → Begins bridge node side letter result on_link on_files
  begun : result ≡ Ok tt → on_link ≡ link.Opened bridge true ∷ link.Sent letter true ∷ [] → on_files ≡ file.Opened node side true ∷ [] → Begins bridge node side letter result on_link on_files

-- a pump that begins, and goes on like this where it could begin
pub data Pumps (bridge : Address) (node : List ℕ) (side : Side) (letter : List ℕ) (GoesOn : List link.Call → List file.Call → Type 0) (end : PumpEnd) (on_link : List link.Call) (on_files : List file.Call) : Type 0 where
  not_begun : Begins bridge node side letter (Err end) on_link on_files → Pumps bridge node side letter GoesOn end on_link on_files
  went_on : (first_link more_link : List link.Call) (first_files more_files : List file.Call) → Begins bridge node side letter (Ok tt) first_link first_files → GoesOn more_link more_files
      → on_link ≡ first_link ++ more_link → on_files ≡ first_files ++ more_files → Pumps bridge node side letter GoesOn end on_link on_files

-- the calls of both sides have grown by some like these
pub record GrowBy (Like : List link.Call → List file.Call → Type 0) (link_old : Option (List link.Call)) (files_old : Option (List file.Call)) (link_new : Option (List link.Call)) (files_new : Option (List file.Call)) : Type 0 where
  pub on_link : List link.Call
  pub on_files : List file.Call
  pub are : Like on_link on_files
  pub link_grows : Grows link_old on_link link_new
  pub files_grow : Grows files_old on_files files_new

-- nothing was called
pub record Untouched (link_old : Option (List link.Call)) (files_old : Option (List file.Call)) (link_new : Option (List link.Call)) (files_new : Option (List file.Call)) : Type 0 where
  pub on_link : Grows link_old [] link_new
  pub on_files : Grows files_old [] files_new

-- the calls of both sides have grown by some like these of the end, unless no memory was there
abbrev pub GrowByEnd : {E : Type 0} → (Like : PumpEnd → List link.Call → List file.Call → Type 0) → Option (List link.Call) → Option (List file.Call) → Result PumpEnd E → Option (List link.Call) → Option (List file.Call) → Type 0
GrowByEnd Like link_old files_old (Ok end) link_new files_new = GrowBy (Like end) link_old files_old link_new files_new
GrowByEnd Like link_old files_old (Err e) link_new files_new = Untouched link_old files_old link_new files_new
