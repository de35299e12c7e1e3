use Rattle.std.proofs.Common.{length, ◌+◌, ◌<◌, ◌≤◌, ◌⊎◌, inl, inr, arith}
use Rattle.kit_bytes.proofs.Spelling.{SpellsAt-one, SpellsAt-pair, ReadsCharAt-odd, ReadsCharAt-first, ReadsCharAt-second, second_of}
use Rattle.kit_bytes.proofs.utf16.char_at.Goals as goal

pub returns-then-left-lt2 : goal.returns-then-left-lt2
returns-then-left-lt2 c = ReadsCharAt-odd _ _ c.requires (omega arith)

pub returns-then-first-lt55296 : goal.returns-then-first-lt55296
returns-then-first-lt55296 c =
    let char = c.in_ok-from_u32.ensures.value.1 in
    rw char (SpellsAt-one _ _ _ (omega arith) (omega arith) (omega arith) (second_of c.then-first-lt55296.either))

pub returns-then-first-ge56320 : goal.returns-then-first-ge56320
returns-then-first-ge56320 c =
    let last = elim c.then-first-ge56320.either as (λ _. (56320 ≤ c.from-first.result) ⊎ (length c.args.bytes.now < c.args.place + 4)) [ inl low ↦ inl low | inr few ↦ inr (omega arith) ] in
    ReadsCharAt-first c.args.bytes.now c.args.place c.from-first.result (omega arith) (omega arith) c.if-first-lt55296.false c.if-first-ge57344.false last

pub returns-then-second-lt56320 : goal.returns-then-second-lt56320
returns-then-second-lt56320 c =
    ReadsCharAt-second c.args.bytes.now c.args.place c.from-first.result c.from-second.result (omega arith) (omega arith) (omega arith) c.if-first-lt55296.false c.if-first-ge57344.false (second_of c.then-second-lt56320.either)

pub returns : goal.returns
returns c =
    SpellsAt-pair _ _ _ _ _ (omega arith) (omega arith) (omega arith)
    (c.if-first-lt55296.false, c.if-first-ge56320.false, c.if-second-lt56320.false, c.if-second-ge57344.false)
    c.in_ok-from_u32-2.ensures.value.1
