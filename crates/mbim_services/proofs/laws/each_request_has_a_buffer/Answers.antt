use Rattle.mbim_services.proofs.Encoded.{encoded}
use Rattle.mbim_services.proofs.laws.each_request_has_a_buffer.Goals as goal

pub returns : goal.returns
returns c = encoded
