-- What the program does as a rig: what it runs on its bench, and the lines that it prints. Lists of runs have the newest first.
use Rattle.std.specs.Prelude.{◌≡◌, ℕ, List, [], Option}
use Rattle.kit_bytes.specs.declared.Kind.{Kind}
use Rattle.kit_io.specs.Growth.{Grows, GrowsByFront}
use Rattle.core_bench.specs.Runs.{Run}
use Rattle.rig.specs.Lines.{rig_lines, runs_of}
use Rattle.rig.specs.Playing.{AddsRuns}
use Rattle.rig.specs.Begun.{AddsFirst}
use Rattle.transparency.specs.Tools.{ShownOf}
use Rattle.program.specs.declared.status.Status.{Status}
use Rattle.program.specs.declared.status.Status.TheVariants as status

-- a core was run with all these clients, and then with each of them alone, and the lines of it were printed, up to a write that failed; or memory ran out, behind the first of these runs, of which the last may be cut short
pub data RigsTo (kind : Kind) (clients turns number : ℕ) (bench_old : Option (List Run)) (out_old : Option (List ℕ)) (result : Status) (bench_new : Option (List Run)) (out_new : Option (List ℕ)) : Type 0 where
  done : AddsRuns bench_old (runs_of kind clients turns number) bench_new → Grows out_old (rig_lines kind clients turns number) out_new → result ≡ status.Done → RigsTo kind clients turns number bench_old out_old result bench_new out_new
  not_written : AddsRuns bench_old (runs_of kind clients turns number) bench_new → GrowsByFront out_old (rig_lines kind clients turns number) out_new → result ≡ status.WriteFault → RigsTo kind clients turns number bench_old out_old result bench_new out_new
  no_memory : AddsFirst bench_old (runs_of kind clients turns number) bench_new → Grows out_old [] out_new → result ≡ status.OutOfMemory → RigsTo kind clients turns number bench_old out_old result bench_new out_new

-- each command without a value of the tool of a kind was run at a simulated modem itself and through a proxy, and the lines of it were printed, up to a write that failed; or memory ran out, and nothing was printed
pub data ShowsTransparency (kind : Kind) (bench_old : Option (List Run)) (out_old : Option (List ℕ)) (result : Status) (bench_new : Option (List Run)) (out_new : Option (List ℕ)) : Type 0 where
  shown : (lines : List ℕ) → ShownOf kind lines bench_old bench_new → Grows out_old lines out_new → result ≡ status.Done → ShowsTransparency kind bench_old out_old result bench_new out_new
  not_shown : (lines : List ℕ) → ShownOf kind lines bench_old bench_new → GrowsByFront out_old lines out_new → result ≡ status.WriteFault → ShowsTransparency kind bench_old out_old result bench_new out_new
  out_of_memory : Grows out_old [] out_new → result ≡ status.OutOfMemory → ShowsTransparency kind bench_old out_old result bench_new out_new
