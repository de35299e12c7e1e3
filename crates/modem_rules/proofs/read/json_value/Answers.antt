use Rattle.std.proofs.Common.{◌≡◌, Bool, true, false, List, ℕ, None, refl, sym, true≢false}
use Rattle.std.specs.Str.{IsUtf8, is_utf8}
use Rattle.std.proofs.lemmas.Str.{IsUtf8-from_is_utf8, is_utf8-from_IsUtf8}
use Rattle.serde_json.specs.Read.{read}
use Rattle.modem_rules.specs.Reading.{value_of}
use Rattle.modem_rules.proofs.read.json_value.Goals as goal

value_of-none : (text : List ℕ) (b : Bool) → is_utf8 text ≡ b → (IsUtf8 text → read text ≡ None) → value_of text ≡ None
unfolding value_of
value_of-none text true is none = rw is (none (IsUtf8-from_is_utf8 text is))
value_of-none text false is none = rw is refl

pub returns-in-Ok : goal.returns-in-Ok
unfolding value_of
returns-in-Ok c = rw (is_utf8-from_IsUtf8 c.args.json.now c.in-Ok.ensures.ok.0) c.in-Ok.ensures.ok.1

pub returns-in-Err-2 : goal.returns-in-Err-2
returns-in-Err-2 c = value_of-none c.args.json.now _ refl (c.in-Err.ensures.err (λ memory. true≢false (sym (rw c.if-is_memory.false at (c.is_memory.ensures.1 memory)))))
