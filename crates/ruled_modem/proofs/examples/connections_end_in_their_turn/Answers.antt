use Rattle.std.proofs.Common.{refl}
use Rattle.ruled_modem.proofs.examples.connections_end_in_their_turn.Goals as goal

pub returns : goal.returns
returns c = record { first = refl; second = refl; third = refl; silent = refl; reaches = refl; response = refl; refuses = refl; silence = refl }
