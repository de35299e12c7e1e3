use Rattle.std.proofs.Common.{◌≡◌, ℕ, List, ◌++◌, ◌∙◌, ap, append_assoc, codes, decimal}
use Rattle.qmicli_print.specs.Answer.{kept_line}
use Rattle.qmicli_print.proofs.answer.push_kept_line.Goals as goal

-- three pieces behind a text are one
joined : (old a b c d e : List ℕ) → ((((old ++ a) ++ b) ++ c) ++ d) ++ e ≡ old ++ ((((a ++ b) ++ c) ++ d) ++ e)
joined old a b c d e =
    ap (λ (l : List ℕ). l ++ e)
    (ap (λ (l : List ℕ). l ++ d) (ap (λ (l : List ℕ). l ++ c) (append_assoc old a b) ∙ append_assoc old (a ++ b) c) ∙ append_assoc old ((a ++ b) ++ c) d)
    ∙ append_assoc old (((a ++ b) ++ c) ++ d) e

pub returns : goal.returns
unfolding kept_line
returns c =
    let service = c.in_ok-push_number.ensures ∙ ap (λ (n : ℕ). (c.args.text.now ++ codes "client id kept: service ") ++ decimal n) c.from.ensures in
    let id = c.in_ok-push_number-2.ensures ∙ ap (λ (n : ℕ). (c.push_number.new.text ++ codes ", id ") ++ decimal n) c.from-2.ensures in
    c.in_ok-extend_from_slice.ensures.ok
    ∙ ap (λ (l : List ℕ). l ++ codes "\n") (id ∙ ap (λ (l : List ℕ). (l ++ codes ", id ") ++ decimal c.args.id) service)
    ∙ joined c.args.text.now (codes "client id kept: service ") (decimal c.args.service) (codes ", id ") (decimal c.args.id) (codes "\n")
