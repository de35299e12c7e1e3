-- How an answer is printed, by the options that say so.
use Rattle.std.specs.Prelude.{Bool, true, false, Option, Some, None}
use Rattle.tool_words.specs.declared.form.AnswerForm.{AnswerForm}
use Rattle.tool_words.specs.declared.form.AnswerForm.TheVariants.{Lines, Decoded, Json}

-- what messages say isn't told in JSON
abbrev pub form_of : (decode json : Bool) → Option AnswerForm
form_of false false = Some Lines
form_of true false = Some Decoded
form_of false true = Some Json
form_of true true = None
