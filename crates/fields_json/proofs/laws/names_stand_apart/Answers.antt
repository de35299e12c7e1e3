use Rattle.std.proofs.Common.{refl}
use Rattle.std.specs.Char.{encode_utf8}
use Rattle.std.specs.Str.{chars}
use Rattle.fields_json.proofs.laws.names_stand_apart.Goals as goal

-- by computation
pub returns : goal.returns
unfolding chars encode_utf8
returns c = refl
