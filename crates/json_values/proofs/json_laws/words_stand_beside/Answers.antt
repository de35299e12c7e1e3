use Rattle.json_values.proofs.Beside.{words_beside}
use Rattle.json_values.proofs.json_laws.words_stand_beside.Goals as goal

pub returns : goal.returns
returns c = words_beside
