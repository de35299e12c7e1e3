use Rattle.std.proofs.Common.{refl}
use Rattle.json_values.specs.Texts.{digits_in, hex_in, octets_in}
use Rattle.table_requests.specs.Requests.{request_of}
use Rattle.table_requests.proofs.examples.number_is_refused.Goals as goal

pub returns : goal.returns
unfolding request_of digits_in hex_in octets_in lib.Utf8.encode
returns c = refl
