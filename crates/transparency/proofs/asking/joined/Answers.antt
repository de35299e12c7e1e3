use Rattle.std.proofs.Common.{ℕ, ◌+◌, ◌≤◌, List, ◌++◌, length, drop, sym, ap, ◌∙◌, rules, append_assoc, drop_of_length-le}
use Rattle.std.proofs.lemmas.List.{append-nil}
use Rattle.std.specs.List.{concat}
use Rattle.peer_link.proofs.Leading.{next_is}
use Rattle.transparency.proofs.asking.joined.Goals as goal

pub loop-message-preserved : goal.loop-message-preserved
loop-message-preserved c =
    let messages : List (List ℕ) = c.args.messages.now in
    let place : ℕ = c.loop-message.message-index in
    let one : List ℕ = c.message-item.result in
    let bytes : List ℕ = c.loop-message.bytes in
    let next = next_is messages place one c.loop-message-test.true c.message-item.is in
    ap (λ (l : List ℕ). l ++ concat (drop (place + 1) messages)) (c.in_ok-extend_from_slice.ensures.ok ∙ ap (λ (m : List ℕ). bytes ++ m) c.as_slice.ensures)
    ∙ append_assoc bytes one (concat (drop (place + 1) messages))
    ∙ ap (λ (l : List (List ℕ)). bytes ++ concat l) (sym next)
    ∙ c.loop-message.invariant

pub returns : goal.returns
returns c =
    let messages : List (List ℕ) = c.args.messages.now in
    let all : length messages ≤ c.loop-message.message-index = search rules in
    sym (append-nil c.loop-message.bytes) ∙ ap (λ (l : List (List ℕ)). c.loop-message.bytes ++ concat l) (sym (drop_of_length-le messages all)) ∙ c.loop-message.invariant
