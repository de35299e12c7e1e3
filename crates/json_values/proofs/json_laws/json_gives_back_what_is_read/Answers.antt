use Rattle.json_values.proofs.Read.{gives_back_read}
use Rattle.json_values.proofs.json_laws.json_gives_back_what_is_read.Goals as goal

pub returns : goal.returns
returns c = gives_back_read
