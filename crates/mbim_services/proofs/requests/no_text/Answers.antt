use Rattle.std.proofs.Common.{[], ap, ◌∙◌}
use Rattle.std.proofs.lemmas.Str.{encodes_same}
use Rattle.mbim_fields.specs.Value.{text_of}
use Rattle.mbim_fields.proofs.Views.{view-TextOf}
use Rattle.mbim_services.proofs.requests.no_text.Goals as goal

pub returns : goal.returns
returns c = view-TextOf c.from.result ∙ ap text_of (encodes_same c.from.result [] (c.from.ensures ∙ c.new.ensures.bytes))
