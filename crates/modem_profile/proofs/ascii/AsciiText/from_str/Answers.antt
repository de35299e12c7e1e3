use Rattle.modem_profile.proofs.Texts.{IsShortAscii-from_test, same_from_test}
use Rattle.modem_profile.proofs.ascii.AsciiText.from_str.Goals as goal

pub invariant_of-result : goal.invariant_of-result
invariant_of-result c = rw (same_from_test c.in_ok-text.text c.args.text.now c.in_ok-text.ensures c.requires) (IsShortAscii-from_test c.args.text.now c.requires)

pub returns : goal.returns
returns c = same_from_test c.in_ok-text.text c.args.text.now c.in_ok-text.ensures c.requires
