use Rattle.fields_json.proofs.Told.{json_tells}
use Rattle.fields_json.proofs.laws.json_tells_values.Goals as goal

pub returns : goal.returns
returns c = json_tells
