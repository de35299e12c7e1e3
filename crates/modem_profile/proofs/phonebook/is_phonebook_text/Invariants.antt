use Rattle.std.proofs.Common.{◌≡◌, ◌^◌, ◌-◌, min}
use Rattle.modem_profile.specs.Limits.{utf16_length}
use Rattle.modem_profile.proofs.phonebook.is_phonebook_text.Given as goal

abbrev pub invariant-loop-char : goal.invariant-loop-char
invariant-loop-char l = l.units ≡ min (utf16_length l.yielded) (2 ^ 64 - 1)
