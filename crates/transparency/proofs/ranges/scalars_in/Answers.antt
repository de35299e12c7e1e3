use Rattle.std.proofs.Common.{sym}
use Rattle.std.proofs.lemmas.Str.{chars_from_encodes, scalars-chars}
use Rattle.transparency.proofs.ranges.scalars_in.Goals as goal

pub returns : goal.returns
returns c =
    let chars = chars_from_encodes c.args.text.now _ c.as_str.utf8 (sym c.as_str.ensures) in
    rw (← chars) at (scalars-chars c.as_str.result.now c.as_str.utf8)
