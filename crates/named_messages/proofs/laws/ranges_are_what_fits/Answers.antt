use Rattle.named_messages.proofs.Ranges.{are_what_fits}
use Rattle.named_messages.proofs.laws.ranges_are_what_fits.Goals as goal

pub returns : goal.returns
returns c = are_what_fits
