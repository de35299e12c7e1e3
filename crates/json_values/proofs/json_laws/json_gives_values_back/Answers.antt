use Rattle.json_values.proofs.Back.{gives_back}
use Rattle.json_values.proofs.json_laws.json_gives_values_back.Goals as goal

pub returns : goal.returns
returns c = gives_back
