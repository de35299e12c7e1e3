use Rattle.fields_json.proofs.Shallow.{nests}
use Rattle.fields_json.proofs.laws.json_nests_as_its_layout.Goals as goal

pub returns-clause-nests : goal.returns-clause-nests
returns-clause-nests c = nests
