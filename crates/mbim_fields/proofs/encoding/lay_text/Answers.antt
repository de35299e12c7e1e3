use Rattle.std.proofs.Common.{sym}
use Rattle.std.proofs.lemmas.Str.{chars_from_encodes, scalars-chars}
use Rattle.mbim_fields.proofs.Writings.{lay_text-is}
use Rattle.mbim_fields.proofs.encoding.lay_text.Goals as goal

pub returns-clause-ok : goal.returns-clause-ok
returns-clause-ok c =
    let chars = chars_from_encodes c.args.text.now _ c.as_str-scalars.utf8 (sym c.as_str-scalars.ensures) in
    let are = rw (← chars) at (scalars-chars c.as_str-scalars.result.now c.as_str-scalars.utf8) in
    rw (lay_text-is c.args.begin c.args.laid.now c.args.text.now are, ← c.in_ok-bytes.ensures, ← c.as_slice.ensures) c.point.ensures.ok
