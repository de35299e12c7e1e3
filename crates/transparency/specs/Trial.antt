-- What is said of the requests of a tool that are run twice, on simulated modems of the default profile.
use Rattle.core_bench.specs.Runs.{Run}
use Rattle.printed_ends.specs.declared.printed.Printed.{Printed}

-- what a request prints at a modem itself, in one of the other ways that it can be run, and in each of these; whether it is a command of the tool; and what is run on a bench for it
pub record Trial (R : Type 0) : Type 1 where
  pub PrintsDirect : R → Printed → Type 0
  pub PrintsSomewhere : R → Printed → Type 0
  pub PrintsElsewhere : R → Printed → Type 0
  pub IsCommand : R → Type 0
  pub run_of : R → Run
