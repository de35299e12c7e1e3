use Rattle.std.proofs.Common.{◌≡◌, ℕ, List, ap, ap₂, sym, ◌∙◌}
use Rattle.kit_bytes.specs.Subscriptions.{Pair}
use Rattle.outbox.specs.Queue.{has_room, queues}
use Rattle.mbim_frame.specs.declared.bodies.DoneHead.{DoneHead}
use Rattle.mbim_frame.specs.declared.kind.MessageKind.TheVariants.{CommandDone}
use Rattle.mbim_frame.specs.Kinds.{kind_number}
use Rattle.mbim_frame.specs.Bodies.{done_text}
use Rattle.mbim_fragments.specs.Splitting.{split}
use Rattle.mbim_services.specs.SubscribeLists.{list_buffer}
use Rattle.mbim_state.specs.Core.{Client}
use Rattle.mbim_clients.specs.declared.reply.Reply.{Reply}
use Rattle.mbim_clients.specs.declared.reply.Reply.TheVariants.{Listed}
use Rattle.mbim_clients.specs.Replies.{reply_text}
use Rattle.mbim_clients.proofs.reply.Reply.queue.Goals as goal

abbrev list_done : ℕ → DoneHead → ℕ → List Pair → List ℕ
list_done number head fragment list = split (kind_number CommandDone) number fragment (done_text head (list_buffer list))

text_is : (client : Client) (number : ℕ) (reply : Reply) (head : DoneHead) (fragment : ℕ) (list : List Pair) (written text : List ℕ)
    → reply ≡ Listed head → fragment ≡ client.fragment → list ≡ client.list → written ≡ list_done number head fragment list → text ≡ written → text ≡ reply_text client number reply
text_is client number reply head fragment list written text is fragment_is list_is written_is same =
    same ∙ written_is ∙ ap₂ (list_done number head) fragment_is list_is ∙ ap (reply_text client number) (sym is)

pub returns-in-Listed-clause-room : goal.returns-in-Listed-clause-room
returns-in-Listed-clause-room c =
    c.queue-in-Listed.ensures.fits
    ∙ ap (λ (l : List ℕ). has_room l c.args.outbox.now) (text_is c.args.client.now c.args.number c.args.self c.in-Listed.head _ _ _ _ c.in-Listed.is c.fragment-in-Listed.ensures.fragment c.list.ensures c.list_done.ensures c.text-in-Listed.ensures)

pub returns-in-Listed-clause-queue : goal.returns-in-Listed-clause-queue
returns-in-Listed-clause-queue c =
    c.queue-in-Listed.ensures.queue
    ∙ ap (λ (l : List ℕ). queues l c.args.outbox.now) (text_is c.args.client.now c.args.number c.args.self c.in-Listed.head _ _ _ _ c.in-Listed.is c.fragment-in-Listed.ensures.fragment c.list.ensures c.list_done.ensures c.text-in-Listed.ensures)
