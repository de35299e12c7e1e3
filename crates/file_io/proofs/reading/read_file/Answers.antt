use Rattle.std.proofs.Common.{refl}
use Rattle.kit_io.proofs.Growth.{Grows-append}
use Rattle.file_io.specs.Reading.{opened}
use Rattle.file_io.proofs.reading.read_file.Goals as goal

pub returns-clause-calls : goal.returns-clause-calls
returns-clause-calls g c =
    let read = c.read_to_end-read.ensures.calls in
    record { calls = _; reads = opened read.calls read.reads refl; grows = Grows-append (Grows-append c.in_ok-open.ensures.calls read.grows) c.close.ensures.calls }
