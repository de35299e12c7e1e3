-- How the text of a text grows, character by character.
use Rattle.std.proofs.Common.{◌≡◌, ℕ, List, [], ◌∷◌, ◌++◌, take, drop, sym, ◌∙◌, ap, encode_utf8_all, None}
use Rattle.std.specs.List.{flat_map}
use Rattle.std.specs.Char.Iter.{escape_rest, escape_steps}
use Rattle.std.specs.Iterator.{Yields}
use Rattle.std.proofs.lemmas.Grind.{flat_map-append}
use Rattle.std.proofs.lemmas.Str.{encodes-append}
use Rattle.std.proofs.lemmas.List.{append-nil}
use Rattle.print_text.specs.Texts.{escaped, escaped_text}

-- one character more
pub escaped_text-push : (chars : List ℕ) (char : ℕ) → escaped_text (chars ++ char ∷ []) ≡ escaped_text chars ++ encode_utf8_all (escaped char)
escaped_text-push chars char =
    ap encode_utf8_all (flat_map-append escaped chars (char ∷ []) ∙ ap (λ (l : List ℕ). flat_map escaped chars ++ l) (append-nil (escaped char))) ∙ encodes-append (flat_map escaped chars) (escaped char)

-- what comes of an escape is what is left of it
pub escape-drains : (xs : List ℕ) (s t u : _) → Yields escape_steps s xs t → escape_steps t None u → xs ≡ escape_rest s
escape-drains [] s t u is none = sym (ap escape_rest is ∙ ap (λ (n : ℕ). take n (drop t.from t.chars)) none.1.0)
escape-drains (x ∷ xs) s t u yields none = ap (λ (l : List ℕ). x ∷ l) (escape-drains xs yields.0 t u yields.2 none) ∙ sym yields.1.1.0
