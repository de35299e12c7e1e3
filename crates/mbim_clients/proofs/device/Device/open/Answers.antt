use Rattle.std.proofs.Common.{sym}
use Rattle.std.proofs.lemmas.Str.{chars_from_encodes, scalars-chars}
use Rattle.mbim_clients.proofs.device.Device.open.Goals as goal

pub invariant_of-result : goal.invariant_of-result
invariant_of-result c =
    let text = c.as_str-utf8 in
    let chars = chars_from_encodes c.args.text _ text.utf8 (sym text.ensures) in
    record {
      path = c.in_ok-path.ensures;
      scalars = rw (← chars) at (scalars-chars text.result.now text.utf8);
    }
