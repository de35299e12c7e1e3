use Rattle.std.proofs.Common.{refl}
use Rattle.print_text.specs.Lines.{line, front, heading, deeper}
use Rattle.named_messages.specs.Described.{id_digits, kind_word, title, unsigned_words, message_text}
use Rattle.named_messages.proofs.Decimals.{of_two_bytes, of_127, of_128}
use Rattle.named_messages.proofs.examples.list_is_described.Goals as goal

pub returns : goal.returns
unfolding id_digits kind_word title unsigned_words message_text line front heading deeper lib.Utf8.encode
returns c = rw (of_two_bytes, of_127, of_128) refl
