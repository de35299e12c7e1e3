use Rattle.std.proofs.lemmas.Str.{encodes-chars}
use Rattle.kit_bytes.proofs.text.TextFromString.from.Goals as goal

pub invariant_of-result : goal.invariant_of-result
invariant_of-result c = rw c.as_str-utf8.ensures.value at (encodes-chars c.as_str-utf8.result.now c.as_str-utf8.utf8)

pub returns : goal.returns
returns c = invariant_of-result c
