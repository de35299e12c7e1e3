-- What is printed of requests that are run twice, and what is run on a bench for them. Lists of runs have the newest first.
use Rattle.std.specs.Prelude.{◌≡◌, ℕ, List, [], ◌∷◌, ◌++◌, Option, codes, decimal, map, reverse}
use Rattle.core_bench.specs.Runs.{Run}
use Rattle.rig_stage.specs.Running.{AreRecorded}
use Rattle.printed_ends.specs.declared.printed.Printed.{Printed}
use Rattle.transparency.specs.declared.lines.NamedRequest.{NamedRequest}
use Rattle.transparency.specs.Trial.{Trial}

-- a request, and the name of the option that gives it
pub record Named (R : Type 0) : Type 0 where
  pub option : List ℕ
  pub asked : R

-- what the code's request says
abbrev pub named_view : {R : Type 0} → NamedRequest R → Named R
named_view named = record { option = named.option.now; asked = named.request }

-- ---- a request ----

-- --OPTION: COMPARED, status S
unfoldable pub line_of : (option compared : List ℕ) → (status : ℕ) → List ℕ
line_of option compared status = codes "--" ++ option ++ codes ": " ++ compared ++ codes ", status " ++ decimal status ++ codes "\n"

-- the word for how what is printed at a modem itself compares with what is printed elsewhere
pub data Compares (direct through : Printed) (word : List ℕ) : Type 0 where
  equal : direct ≡ through → word ≡ codes "equal" → Compares direct through word
  different : (direct ≡ through → ⊥) → word ≡ codes "different" → Compares direct through word

-- the line compares what the request prints at a simulated modem itself with what it prints in one of the other ways; where that is the same, it is what it prints in each of them, and it is the same where it is a command of the tool
pub record IsLine {R : Type 0} (trial : Trial R) (named : Named R) (line : List ℕ) : Type 0 where
  pub direct : Printed
  pub through : Printed
  pub word : List ℕ
  pub prints_direct : trial.PrintsDirect named.asked direct
  pub prints_somewhere : trial.PrintsSomewhere named.asked through
  pub prints_elsewhere : direct ≡ through → trial.PrintsElsewhere named.asked through
  pub same : trial.IsCommand named.asked → direct ≡ through
  pub compares : Compares direct through word
  pub line_is : line ≡ line_of named.option word direct.status

-- ---- requests in turn ----

-- a line and more lines behind it
pub record Joins (First Rest : List ℕ → Type 0) (lines : List ℕ) : Type 0 where
  pub line : List ℕ
  pub more : List ℕ
  pub first : First line
  pub rest : Rest more
  pub lines_are : lines ≡ line ++ more

-- these are the lines of the requests, if a line of one is as this says
abbrev pub AreLines : {R : Type 0} → (Is : Named R → List ℕ → Type 0) → List (Named R) → (lines : List ℕ) → Type 0
AreLines Is [] lines = lines ≡ []
AreLines Is (named ∷ requests) lines = Joins (Is named) (AreLines Is requests) lines

abbrev pub runs_for : {R : Type 0} → Trial R → List (Named R) → List Run
runs_for trial requests = reverse (map (λ named. trial.run_of named.asked) requests)

-- where a bench tells its runs, it ran each
abbrev pub AreRun : {R : Type 0} → Trial R → List (Named R) → (old new : Option (List Run)) → Type 0
AreRun trial requests old new = (earlier : List Run) → AreRecorded old earlier → AreRecorded new (runs_for trial requests ++ earlier)

-- these are the lines of the requests, and each was run
pub record Shown {R : Type 0} (trial : Trial R) (requests : List (Named R)) (lines : List ℕ) (old new : Option (List Run)) : Type 0 where
  pub lines_are : AreLines (IsLine trial) requests lines
  pub ran : AreRun trial requests old new

-- behind the old lines there is the line of a request more, and it was run
pub record Adds {R : Type 0} (trial : Trial R) (named : Named R) (lines_old lines_new : List ℕ) (old new : Option (List Run)) : Type 0 where
  pub line : List ℕ
  pub is_line : IsLine trial named line
  pub lines_are : lines_new ≡ lines_old ++ line
  pub ran : (earlier : List Run) → AreRecorded old earlier → AreRecorded new (trial.run_of named.asked ∷ earlier)
