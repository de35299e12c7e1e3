use Rattle.std.proofs.Common.{inl, inr, ◌∙◌}
use Rattle.program.proofs.watching.tell.Goals as goal

pub returns-in-Ok-clause-told : goal.returns-in-Ok-clause-told
returns-in-Ok-clause-told g c = λ none. inr (c.as_slice.result.now, c.write.ensures.text none, λ all is short. c.as_slice.ensures ∙ c.in-Ok.ensures all is short)

pub returns-in-Err-clause-told : goal.returns-in-Err-clause-told
returns-in-Err-clause-told g c = λ none. inl (c.write-in-Err.ensures.text none)
