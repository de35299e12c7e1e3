use Rattle.std.proofs.Common.{◌≡◌, ℕ, List, ◌++◌, ap, ap₂, ◌∙◌, rules}
use Rattle.std.proofs.lemmas.Grind.{common_steps}
use Rattle.mbim_frame.specs.Bodies.{command_head_text, command_text}
use Rattle.mbim_fragments.specs.Splitting.{split}
use Rattle.mbim_services.specs.SubscribeLists.{list_buffer}
use Rattle.kit_bytes.specs.Subscriptions.{Pair}
use Rattle.mbim_clients.proofs.Written.{front_is}
use Rattle.mbim_clients.proofs.writer.Writer.list_set.Goals as goal

pub returns : goal.returns
returns c =
    let events = c.write_events-count in
    let whole : c.deref.result.now ≡ events.new.into = search (rules, common_steps) in
    let front : List ℕ = list_buffer c.pairs.result.now in
    let buffer = front_is front events.new.into c.deref_mut.result.now c.deref.result.now events.result events.ensures.length events.ensures.written whole in
    c.split_into.ensures.items
    ∙ ap (λ (k : ℕ). split k c.args.number 4096 c.deref-2.result.now) c.number-kind.ensures
    ∙ ap (λ (body : List ℕ). split 3 c.args.number 4096 body) (
    c.deref-2.ensures.value ∙ c.put_both.ensures.items
    ∙ ap₂ (λ (head rest : List ℕ). head ++ rest) (c.bytes.ensures ∙ ap (λ (n : ℕ). command_head_text c.args.head.now n) events.ensures.length) buffer
    ∙ ap (λ (list : List Pair). command_text c.args.head.now (list_buffer list)) c.pairs.ensures.pairs)
