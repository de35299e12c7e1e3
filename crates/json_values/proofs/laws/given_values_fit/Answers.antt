use Rattle.json_values.proofs.Fits.{fits_given}
use Rattle.json_values.proofs.laws.given_values_fit.Goals as goal

pub returns : goal.returns
returns c = fits_given
