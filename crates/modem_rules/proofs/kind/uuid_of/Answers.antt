use Rattle.std.proofs.Common.{◌∙◌}
use Rattle.uuid.specs.Text.{parsed}
use Rattle.modem_rules.proofs.Uuids.{ok-parsed}
use Rattle.modem_rules.proofs.kind.uuid_of.Goals as goal

pub returns : goal.returns
returns c = c.ok.ensures.value ∙ ok-parsed (parsed c.args.text.now) c.parse_str.result c.parse_str.ensures.ok c.parse_str.ensures.bytes
