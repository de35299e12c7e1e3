-- What a file gives.
use Rattle.std.specs.Prelude.{◌≡◌, ℕ, List, Option, Result, Ok, Err}
use Rattle.file_io.specs.Calls.{Call}
use Rattle.file_io.specs.Reading.{GrowsByFile}
use Rattle.file_io.specs.declared.reading.FileFault.{FileFault}
use Rattle.table_requests.specs.Requests.{Asked, request_by}
use Rattle.table_requests.specs.declared.fault.NoRequest.{NoRequest}
use Rattle.table_requests.specs.declared.fault.NoRequest.TheVariants.{OutOfMemory}
use Rattle.table_requests.specs.Faults.{no_file, no_request}

abbrev pub or_none : {A E : Type 0} → (E → NoRequest) → Result A E → Result A NoRequest
or_none none (Ok found) = Ok found
or_none none (Err why) = Err (none why)

-- the request of the message of a name that tables describe, with the values that JSON gives
abbrev pub request_in : List ℕ → List ℕ → List ℕ → Result Asked NoRequest
request_in name input tables = or_none no_request (request_by tables name input)

-- what is stated is answered; only want of memory is free
abbrev pub Gives : {T A : Type 0} → (T → A) → Result A NoRequest → Result T NoRequest → Type 0
Gives seen stated (Ok found) = stated ≡ Ok (seen found)
Gives seen stated (Err OutOfMemory) = Unit {0}
Gives seen stated (Err none) = stated ≡ Err none

-- from what was read of a file
abbrev pub GivesFrom : {T A : Type 0} → (T → A) → (List ℕ → Result A NoRequest) → Result (List ℕ) FileFault → Result T NoRequest → Type 0
GivesFrom seen stated (Ok text) result = Gives seen (stated text) result
GivesFrom seen stated (Err why) result = result ≡ Err (no_file why)

-- the file at a path was read, and this is what its text gives
pub record OfFile {T A : Type 0} (seen : T → A) (stated : List ℕ → Result A NoRequest) (path : List ℕ) (before : Option (List Call)) (result : Result T NoRequest) (after : Option (List Call)) : Type 0 where
  pub read : Result (List ℕ) FileFault
  pub reads : GrowsByFile path before read after
  pub gives : GivesFrom seen stated read result
