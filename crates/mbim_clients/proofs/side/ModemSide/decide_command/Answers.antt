use Rattle.std.proofs.Common.{ℕ, List, refl, ap, ap₂, sym, ◌∙◌, Some, arith}
use Rattle.mbim_frame.specs.declared.head.MHead.{MHead}
use Rattle.mbim_frame.specs.declared.bodies.DoneHead.{DoneHead}
use Rattle.mbim_frame.specs.declared.kind.MessageKind.TheVariants as kind
use Rattle.mbim_frame.specs.Kinds.{kind_number}
use Rattle.mbim_frame.specs.Bodies.{uuid_of, cid_of}
use Rattle.mbim_fragments.specs.Runs.{More, Whole, OutOfSequence, TooLong}
use Rattle.mbim_fragments.specs.Assembling.{joining_behind}
use Rattle.mbim_fragments.specs.Splitting.{split}
use Rattle.mbim_state.specs.declared.asked.CommandName.{CommandName}
use Rattle.mbim_state.specs.declared.asked.Asked.TheVariants as asked
use Rattle.mbim_state.specs.Core.{Client, ModemSide}
use Rattle.mbim_clients.specs.declared.reply.Reply.TheVariants.{Done}
use Rattle.mbim_clients.specs.Commands.{sends}
use Rattle.mbim_clients.proofs.Heard.{heard_joined, heard_as}
use Rattle.mbim_clients.proofs.Whole.{is_out_of_sequence, is_too_long, is_more, is_whole, heard_own_reply, heard_unshared, heard_unsent, heard_sent, number_fits, beside}
use Rattle.mbim_clients.proofs.side.ModemSide.decide_command.Goals as goal

pub returns-in-OutOfSequence : goal.returns-in-OutOfSequence
returns-in-OutOfSequence c =
    let client : Client = c.args.client.now in
    let side : ModemSide = c.args.self.now in
    let same = is_out_of_sequence (joining_behind 65536 client.begun c.args.message.now) (sym c.take.ensures.told ∙ c.in-OutOfSequence.is) in
    heard_as c.args.name c.args.message.now client side _ _ _ _ _ _ (heard_joined c.args.name c.args.message.now client side c.requires.carries OutOfSequence same refl) refl c.take.ensures.left c.self.view_is

pub returns-in-TooLong : goal.returns-in-TooLong
returns-in-TooLong c =
    let client : Client = c.args.client.now in
    let side : ModemSide = c.args.self.now in
    let same = is_too_long (joining_behind 65536 client.begun c.args.message.now) (sym c.take.ensures.told ∙ c.in-TooLong.is) in
    heard_as c.args.name c.args.message.now client side _ _ _ _ _ _ (heard_joined c.args.name c.args.message.now client side c.requires.carries TooLong same refl) refl c.take.ensures.left c.self.view_is

pub returns-in-More : goal.returns-in-More
returns-in-More c =
    let client : Client = c.args.client.now in
    let side : ModemSide = c.args.self.now in
    let same = is_more (joining_behind 65536 client.begun c.args.message.now) (sym c.take.ensures.told ∙ c.in-More.is) in
    heard_as c.args.name c.args.message.now client side _ _ _ _ _ _ (heard_joined c.args.name c.args.message.now client side c.requires.carries More same refl) refl c.take.ensures.left c.self.view_is

-- the command that is kept with a number
abbrev name_by : (body : List ℕ) → MHead → CommandName
name_by body head = record { number = head.number; uuid = uuid_of body; cid = cid_of body }

pub returns-then-is_some : goal.returns-then-is_some
returns-then-is_some c =
    let client : Client = c.args.client.now in
    let same = is_whole (joining_behind 65536 client.begun c.args.message.now) c.self.inside.body (sym c.take.ensures.told ∙ c.in-Message.is) ∙ ap Whole (sym c.take.ensures.given) in
    beside c.args.name c.args.message.now client _ c.args.self.now _ _ _ c.self.view_is
    (heard_own_reply c.args.name c.args.message.now client _ c.requires.carries c.take.new.whole same c.take.new.self c.take.ensures.left _ c.own_reply-reply.ensures.reply _ c.own_reply-reply.ensures.client (sym c.is_some.ensures ∙ c.if-is_some.true))

pub returns-then-has_share : goal.returns-then-has_share
returns-then-has_share c =
    let client : Client = c.args.client.now in
    let body : List ℕ = c.take.new.whole in
    let same = is_whole (joining_behind 65536 client.begun c.args.message.now) c.self.inside.body (sym c.take.ensures.told ∙ c.in-Message.is) ∙ ap Whole (sym c.take.ensures.given) in
    heard_as c.args.name c.args.message.now client c.args.self.now _ _ _ _ _ _
    (beside c.args.name c.args.message.now client _ c.args.self.now _ _ _ c.self.view_is
    (heard_unshared c.args.name c.args.message.now client _ c.requires.carries body same c.take.new.self c.take.ensures.left _ c.own_reply-reply.ensures.reply _ c.own_reply-reply.ensures.client (sym c.is_some.ensures ∙ c.if-is_some.false)
    (sym c.has_share.ensures ∙ c.if-has_share.true)))
    (ap (λ (head : DoneHead). Some (Done head)) c.refused.ensures) refl refl

pub returns-then-is_some-2 : goal.returns-then-is_some-2
returns-then-is_some-2 c =
    let client : Client = c.args.client.now in
    let body : List ℕ = c.take.new.whole in
    let same = is_whole (joining_behind 65536 client.begun c.args.message.now) c.self.inside.body (sym c.take.ensures.told ∙ c.in-Message.is) ∙ ap Whole (sym c.take.ensures.given) in
    let kept = c.kept_of-kept.ensures ∙ ap (name_by body) c.read.ensures in
    let sent = c.send_command-sent.ensures.traffic ∙ ap₂ (λ (name : CommandName) (deadline : ℕ). sends c.send_command-sent.result c.args.name (asked.Command name) deadline (λ number. split (kind_number kind.Command) number 4096 body) c.self.inside.traffic) kept c.saturating_add-deadline.ensures in
    beside c.args.name c.args.message.now client _ c.args.self.now _ _ _ c.self.view_is
    (heard_sent c.args.name c.args.message.now client _ c.requires.carries body same c.take.new.self c.take.ensures.left _ c.own_reply-reply.ensures.reply _ c.own_reply-reply.ensures.client (sym c.is_some.ensures ∙ c.if-is_some.false)
    (sym c.has_share.ensures ∙ c.if-has_share.false) c.send_command-sent.result c.send_command-sent.ensures.number c.send_command-sent.new.traffic sent (sym c.is_some-2.ensures ∙ c.if-is_some-2.true) (number_fits c.args.message.now (λ i. omega (arith, c.type_inv.message i))))

pub returns : goal.returns
returns c =
    let client : Client = c.args.client.now in
    let body : List ℕ = c.take.new.whole in
    let same = is_whole (joining_behind 65536 client.begun c.args.message.now) c.self.inside.body (sym c.take.ensures.told ∙ c.in-Message.is) ∙ ap Whole (sym c.take.ensures.given) in
    heard_as c.args.name c.args.message.now client c.args.self.now _ _ _ _ _ _
    (beside c.args.name c.args.message.now client _ c.args.self.now _ _ _ c.self.view_is
    (heard_unsent c.args.name c.args.message.now client _ c.requires.carries body same c.take.new.self c.take.ensures.left _ c.own_reply-reply.ensures.reply _ c.own_reply-reply.ensures.client (sym c.is_some.ensures ∙ c.if-is_some.false)
    (sym c.has_share.ensures ∙ c.if-has_share.false) c.send_command-sent.result c.send_command-sent.ensures.number c.send_command-sent.new.traffic _ _ c.send_command-sent.ensures.traffic (sym c.is_some-2.ensures ∙ c.if-is_some-2.false)))
    (ap (λ (head : DoneHead). Some (Done head)) c.refused-2.ensures) refl refl
