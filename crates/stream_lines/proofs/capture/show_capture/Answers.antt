use Rattle.std.proofs.Common.{[], ◌∷◌, false, refl, ap}
use Rattle.kit_io.proofs.Growth.{Grows-none, Grows-append}
use Rattle.file_io.specs.declared.files.Side.TheVariants.{Read}
use Rattle.file_io.specs.Calls.{Opened}
use Rattle.stream_lines.specs.Capture.{no_room, not_opened, opened}
use Rattle.stream_lines.proofs.ReadPieces.{Stands-none}
use Rattle.stream_lines.proofs.capture.show_capture.Goals as goal

pub returns-in-Err-clause-shows : goal.returns-in-Err-clause-shows
returns-in-Err-clause-shows g c = λ shown kept. record { calls = []; taken = []; holds = no_room refl refl refl; calls_grow = Grows-none _; taken_grow = Grows-none _ }

pub returns-in-Err-open-clause-shows : goal.returns-in-Err-open-clause-shows
returns-in-Err-open-clause-shows g c = λ shown kept.
    record { calls = Opened c.args.path.now Read false ∷ []; taken = []; holds = not_opened refl refl refl; calls_grow = c.in-Err-open.ensures.calls; taken_grow = Grows-none _ }

pub returns-clause-shows : goal.returns-clause-shows
returns-clause-shows g c = λ shown kept.
    let reads = c.show_reads-end.ensures.shows shown (Stands-none g.S.Frames.Framing.size g.S.Shows.shows shown _ _ (ap (λ r. r.rest) c.in-Ok.ensures) kept) in
    record {
      calls = _;
      taken = reads.taken;
      holds = opened reads.calls reads.holds refl;
      calls_grow = Grows-append (Grows-append c.in_default.ensures.calls reads.calls_grow) c.close.ensures.calls;
      taken_grow = reads.taken_grow;
    }
