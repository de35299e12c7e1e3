use Rattle.std.proofs.Common.{refl}
use Rattle.hex.specs.Hex.{decode_pairs}
use Rattle.json_values.specs.Texts.{digits_in, hex_in, octets_in}
use Rattle.json_values.proofs.examples.bytes_are_given_alike.Goals as goal

pub returns : goal.returns
unfolding digits_in hex_in octets_in decode_pairs
returns c = refl
