use Rattle.std.proofs.Common.{map, take, string_bytes}
use Rattle.kit_io.specs.Growth.{Grows}
use Rattle.child_io.specs.Made.{word_note}
use Rattle.child_io.proofs.memory.note_words.Given as goal

-- the words before this one have their notes
abbrev pub invariant-loop-word : goal.invariant-loop-word
invariant-loop-word l = Grows l.initial.log.recorded (map word_note (map string_bytes (take l.word-index l.words))) l.log.recorded
