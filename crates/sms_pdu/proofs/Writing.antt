-- Texts that are written character by character.
use Rattle.std.proofs.Common.{◌≡◌, ℕ, ◌+◌, ◌<◌, List, [], ◌∷◌, ◌++◌, length, take, get_or, encode_utf8, encode_utf8_all, ap, sym, ◌∙◌}
use Rattle.std.proofs.lemmas.Str.{encodes-append}
use Rattle.std.proofs.lemmas.List.{append-nil, take_more}

pub encodes-push : (chars : List ℕ) (char : ℕ) → encode_utf8_all (chars ++ char ∷ []) ≡ encode_utf8_all chars ++ encode_utf8 char
encodes-push chars char = encodes-append chars (char ∷ []) ∙ ap (λ (l : List ℕ). encode_utf8_all chars ++ l) (append-nil (encode_utf8 char))

pub encodes-take : (chars : List ℕ) (index char : ℕ) → index < length chars → char ≡ get_or chars index char → encode_utf8_all (take (index + 1) chars) ≡ encode_utf8_all (take index chars) ++ encode_utf8 char
encodes-take chars index char within is =
    ap encode_utf8_all (take_more chars index char within ∙ ap (λ (c : ℕ). take index chars ++ c ∷ []) (sym is)) ∙ encodes-push (take index chars) char
