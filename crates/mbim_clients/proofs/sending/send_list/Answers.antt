use Rattle.std.proofs.Common.{◌≡◌, ℕ, true, List, length, Some, ap, ap₂, sym, ◌∙◌, arith}
use Rattle.mbim_frame.specs.declared.kind.MessageKind.TheVariants as kind
use Rattle.mbim_frame.specs.Kinds.{kind_number}
use Rattle.mbim_frame.specs.Bodies.{command_text}
use Rattle.mbim_fragments.specs.Splitting.{split}
use Rattle.mbim_services.specs.SubscribeLists.{list_buffer}
use Rattle.mbim_proxy.specs.Services.{subscribe_list_cid}
use Rattle.number_space.specs.Table.{gives_number}
use Rattle.mbim_state.specs.declared.asked.Asked.TheVariants as asked
use Rattle.kit_bytes.specs.Subscriptions.{Pair}
use Rattle.mbim_clients.specs.Traffic.{Traffic, number_for, queues}
use Rattle.mbim_clients.proofs.Sent.{same_length}
use Rattle.mbim_clients.proofs.sending.send_list.Goals as goal

-- the command of a service with this UUID
abbrev text_for : List Pair → (uuid : List ℕ) → (number : ℕ) → List ℕ
text_for list uuid number = split (kind_number kind.Command) number 4096 (command_text (record { uuid = uuid; cid = subscribe_list_cid; set = true }) (list_buffer list))

pub queue-requires : goal.queue-requires
queue-requires c =
    let n : ℕ = c.in_ok-number.number in
    let list : List Pair = c.args.list.now in
    let long : length (text_for list c.uuid.result n) ≡ length (text_for list c.uuid.result 0) = same_length n 0 (command_text (record { uuid = c.uuid.result; cid = subscribe_list_cid; set = true }) (list_buffer list)) in
    let text : length c.text.result.now ≡ length c.text-count.result.now = ap length (c.text.ensures ∙ c.list_set-2.ensures) ∙ long ∙ sym (ap length (c.text-count.ensures ∙ c.list_set.ensures)) in
    let bytes = ap (λ (t : Traffic). length t.outbox.bytes) c.in_ok-number.ensures.given in
    omega (arith, text, bytes, c.in_ok-number.ensures.room)

pub returns-clause-number : goal.returns-clause-number
returns-clause-number c =
    c.in_ok-number.ensures.number
    ∙ ap (λ (text : List ℕ). number_for (length text) c.args.traffic.now) (c.text-count.ensures ∙ c.list_set.ensures ∙ ap (λ (uuid : List ℕ). text_for c.args.list.now uuid 0) c.uuid.ensures)

pub returns-clause-traffic : goal.returns-clause-traffic
returns-clause-traffic c =
    let n : ℕ = c.in_ok-number.number in
    let traffic : Traffic = c.args.traffic.now in
    c.queue.ensures
    ∙ ap₂ queues (c.text.ensures ∙ c.list_set-2.ensures) c.in_ok-number.ensures.given
    ∙ ap (λ (uuid : List ℕ). queues (text_for c.args.list.now uuid n) (record traffic { numbers = gives_number (Some n) 0 (asked.Command (record { number = 0; uuid = uuid; cid = subscribe_list_cid })) c.args.deadline traffic.numbers })) c.uuid.ensures
