use Rattle.std.proofs.Common.{◌∙◌, ap, map, string_bytes}
use Rattle.std.proofs.lemmas.List.{map_push}
use Rattle.sim_supervision.proofs.words.add.Goals as goal

pub returns : goal.returns
returns c = ap (map string_bytes) c.in_ok-push.ensures.items ∙ map_push string_bytes _ _
