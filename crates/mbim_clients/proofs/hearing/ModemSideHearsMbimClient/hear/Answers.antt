use Rattle.std.proofs.Common.{◌≡◌, ℕ, ◌≤◌, Bool, true, false, ◌||◌, List, length, refl, ap, sym, subst, ◌∙◌, Option, if◌then◌else◌, arith}
use Rattle.std.specs.Prelude.{nat_lt}
use Rattle.std.proofs.lemmas.Bool.Decides.{nat_tests}
use Rattle.framing.specs.declared.framing.Size.TheVariants.{Unknown, Known, Invalid}
use Rattle.framing.specs.Framing.{IsMessage}
use Rattle.outbox.specs.Queue.{has_room, queues}
use Rattle.mbim_frame.specs.declared.head.MHead.{MHead}
use Rattle.mbim_frame.specs.Numbers.{u32_at}
use Rattle.mbim_frame.specs.Frame.{size_of}
use Rattle.mbim_frame.specs.Head.{number_of}
use Rattle.mbim_clients.specs.declared.reply.Reply.{Reply}
use Rattle.mbim_clients.specs.Replies.{reply_text, heard_with}
use Rattle.mbim_clients.proofs.hearing.ModemSideHearsMbimClient.hear.Goals as goal

not_less : (n : ℕ) → nat_lt n 12 ≡ false → 12 ≤ n
not_less n is = grind (arith, nat_tests, is)

long_by : (short low high : Bool) (n count : ℕ) → nat_lt n 12 ≡ low → (if short then Unknown else if low || high then Invalid else Known n) ≡ Known count → 12 ≤ count
long_by true low high n count is said = absurd (cc)
long_by false true high n count is said = absurd (cc)
long_by false false true n count is said = absurd (cc)
long_by false false false n count is said =
    let same : n ≡ count = cc in
    subst (λ (count : ℕ). 12 ≤ count) same (not_less n is)

has_head : (m : List ℕ) → IsMessage size_of m → 12 ≤ length m
has_head m is = long_by (nat_lt (length m) 8) _ (nat_lt 65556 (u32_at m 4)) (u32_at m 4) (length m) refl is

pub read-number-requires : goal.read-number-requires
read-number-requires c = has_head c.args.message.now c.requires

pub decide-requires : goal.decide-requires
decide-requires c = has_head c.args.message.now c.requires

pub returns-in_default : goal.returns-in_default
returns-in_default c =
    let all = c.decide.ensures.heard c.args.outbox.now ∙ ap (λ (reply : Option Reply). heard_with (number_of c.args.message.now) reply c.decide.new.client c.args.outbox.now c.decide.new.self) c.in_default.is in
    record { room = sym (ap (λ h. h.has_room) all); client = sym (ap (λ h. h.client) all); outbox = sym (ap (λ h. h.outbox) all); beside = sym (ap (λ h. h.beside) all) }

pub returns : goal.returns
returns c =
    let all = c.decide.ensures.heard c.args.outbox.now ∙ ap (λ (reply : Option Reply). heard_with (number_of c.args.message.now) reply c.decide.new.client c.args.outbox.now c.decide.new.self) c.in-Some.is in
    let number = ap (λ (h : MHead). h.number) c.read-number.ensures in
    record {
      room = c.queue.ensures.room ∙ ap (λ (n : ℕ). has_room (reply_text c.decide.new.client n c.in-Some.reply) c.args.outbox.now) number ∙ sym (ap (λ h. h.has_room) all);
      client = sym (ap (λ h. h.client) all);
      outbox = c.queue.ensures.queue ∙ ap (λ (n : ℕ). queues (reply_text c.decide.new.client n c.in-Some.reply) c.args.outbox.now) number ∙ sym (ap (λ h. h.outbox) all);
      beside = c.self.view_is ∙ sym (ap (λ h. h.beside) all);
    }
