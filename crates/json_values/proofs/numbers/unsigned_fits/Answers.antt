use Rattle.std.proofs.Common.{◌*◌, arith}
use Rattle.std.proofs.lemmas.Bool.Decides.{nat_tests}
use Rattle.json_values.proofs.Widths.{has_room, wide_enough}
use Rattle.json_values.proofs.numbers.unsigned_fits.Goals as goal

pub returns-then-size-ge8 : goal.returns-then-size-ge8
returns-then-size-ge8 c =
    let wide = wide_enough c.args.number 64 (8 * c.args.size) c.ranges.number.fits (omega (arith, c.if-size-ge8.true)) in
    rw wide (grind (arith, nat_tests, c.if-size-ge8.true))

pub returns-else-size-ge8 : goal.returns-else-size-ge8
returns-else-size-ge8 c = rw (c.from.ensures) (has_room c.args.number (8 * c.args.size))
