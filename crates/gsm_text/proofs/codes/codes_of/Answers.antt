use Rattle.std.proofs.Common.{◌≡◌, ◌<◌, All, ◌∙◌, ◌++◌, ℕ, List, true, sym, ap, subst, map-id, arith, length-append}
use Rattle.std.proofs.lemmas.Iterator.{YieldsList-from_chars}
use Rattle.std.proofs.lemmas.Iterator.Consumers.{YieldsList-end, YieldsList-so_far, YieldsList-turn}
use Rattle.std.proofs.lemmas.Str.{chars_from_encodes}
use Rattle.kit_bytes.proofs.Lists.{all_push}
use Rattle.gsm_text.specs.Alphabet.{char_codes, codes_of, has_codes}
use Rattle.gsm_text.proofs.Characters.{AllHaveCodes, codes_are_small, codes_of-push, inside, outside}
use Rattle.gsm_text.proofs.codes.codes_of.Goals as goal

pub loop-char-preserved : goal.loop-char-preserved
loop-char-preserved c = record {
  made = c.in_ok-push_char.ensures.added ∙ ap (λ (l : List ℕ). l ++ char_codes c.in-Some.char) c.loop-char.invariant.made ∙ sym (codes_of-push c.loop-char.yielded c.in-Some.char);
  index = omega (arith, c.loop-char.invariant.index, length-append {A = ℕ});
  each = all_push (λ char. has_codes char ≡ true) c.loop-char.yielded c.in-Some.char c.loop-char.invariant.each (sym c.in_ok-push_char.ensures.has ∙ c.if-not-branch.false);
}

pub returns-then-not-branch-clause-codes : goal.returns-then-not-branch-clause-codes
returns-then-not-branch-clause-codes c =
    let chars = chars_from_encodes c.args.text.now _ c.as_str.utf8 (sym c.as_str.ensures) in
    let road = YieldsList-from_chars c.as_str.result.now c.as_str.utf8 cc in
    let front = YieldsList-so_far road c.loop-char.yielded _ c.loop-char.yielded_by in
    let turn = YieldsList-turn road c.loop-char.yielded _ c.loop-char.yielded_by _ _ c.in-Some.char c.in-Some.is c.next.ensures.steps in
    rw chars (outside _ c.loop-char.yielded c.in-Some.char c.loop-char.index c.loop-char.invariant.index (sym (map-id _) ∙ front) turn.0 turn.1 c.loop-char.invariant.each (sym c.in_ok-push_char.ensures.has ∙ c.if-not-branch.true))

pub returns-clause-codes : goal.returns-clause-codes
returns-clause-codes c =
    let chars = chars_from_encodes c.args.text.now _ c.as_str.utf8 (sym c.as_str.ensures) in
    let yielded = YieldsList-end (YieldsList-from_chars c.as_str.result.now c.as_str.utf8 cc) c.loop-char.yielded _ c.loop-char.yielded_by _ _ c.in-None.is c.next.ensures.steps in
    let whole = sym (map-id _) ∙ yielded.0 ∙ sym chars in
    (inside _ (subst AllHaveCodes whole c.loop-char.invariant.each), c.from.ensures ∙ c.loop-char.invariant.made ∙ ap codes_of whole)

pub returns-clause-small : goal.returns-clause-small
returns-clause-small c = subst (λ (codes : List ℕ). All (λ (code : ℕ). code < 128) codes) (sym (c.from.ensures ∙ c.loop-char.invariant.made)) (codes_are_small c.loop-char.yielded)
