use Rattle.std.proofs.Common.{◌<◌, ℕ, List, All, sym, subst, take}
use Rattle.gsm_text.proofs.Characters.{codes_are_small}
use Rattle.sms_pdu.proofs.data.codes_of_chars.Goals as goal

pub returns-clause-small : goal.returns-clause-small
returns-clause-small c = subst (λ (codes : List ℕ). All (λ (code : ℕ). code < 128) codes) (sym c.loop-char.invariant) (codes_are_small (take c.loop-char.char-index c.args.chars.now))
