-- How the fragment is heard that completes a command.
use Rattle.std.proofs.Common.{◌≡◌, ℕ, ◌<◌, ◌≤◌, ◌^◌, Bool, true, false, not, List, length, get_or, refl, ap, sym, subst, ◌∙◌, Option, Some, None, is_some, if◌then◌else◌, arith}
use Rattle.std.specs.Prelude.{nat_lt}
use Rattle.std.proofs.lemmas.Bool.Decides.{nat_tests}
use Rattle.proxy_history.specs.Requests.{deadline_of}
use Rattle.mbim_frame.specs.declared.kind.MessageKind.TheVariants as kind
use Rattle.mbim_frame.specs.declared.status.TheConstants.{BUSY}
use Rattle.mbim_frame.specs.Kinds.{kind_number}
use Rattle.mbim_frame.specs.Head.{number_of}
use Rattle.mbim_frame.specs.Bodies.{uuid_of, cid_of}
use Rattle.mbim_fragments.specs.declared.assembly.Took.TheVariants as took
use Rattle.mbim_fragments.specs.Runs.{Joining, More, Whole, OutOfSequence, TooLong, told}
use Rattle.mbim_fragments.specs.Assembling.{Assembled, is_due_behind, joining_behind, assembled_after, body_given}
use Rattle.mbim_fragments.specs.Splitting.{split, split_size}
use Rattle.mbim_proxy.specs.OwnReplies.{OwnReply, reply_to_command, is_for_modem}
use Rattle.mbim_proxy.specs.Text.{SHARE_PASSED}
use Rattle.mbim_state.specs.declared.asked.Asked.{Asked}
use Rattle.mbim_state.specs.declared.asked.Asked.TheVariants as asked
use Rattle.mbim_state.specs.Core.{Client, known_by, ModemSide}
use Rattle.mbim_clients.specs.declared.request.Request.TheVariants.{Command}
use Rattle.mbim_clients.specs.declared.reply.Reply.{Reply}
use Rattle.mbim_clients.specs.declared.reply.Reply.TheVariants.{Done}
use Rattle.mbim_clients.specs.Requests.{request_of}
use Rattle.mbim_clients.specs.Replies.{done_head_to, reply_as, IsHeard}
use Rattle.mbim_clients.specs.Traffic.{Traffic, has_share, number_for}
use Rattle.mbim_clients.specs.Commands.{served, own_reply_to, replied_with, left_with, sends}
use Rattle.mbim_clients.proofs.Heard.{heard_joined, heard_passed, heard_busy, heard_forwarded, heard_as}
use Rattle.mbim_clients.proofs.Sent.{traffic_of, with_traffic, number_of_command, sent_command}

-- ---- what an assembly told ----

pub is_out_of_sequence : (j : Joining) → told j ≡ took.OutOfSequence → j ≡ OutOfSequence
is_out_of_sequence More is = absurd (cc)
is_out_of_sequence (Whole body) is = absurd (cc)
is_out_of_sequence OutOfSequence is = refl
is_out_of_sequence TooLong is = absurd (cc)

pub is_too_long : (j : Joining) → told j ≡ took.TooLong → j ≡ TooLong
is_too_long More is = absurd (cc)
is_too_long (Whole body) is = absurd (cc)
is_too_long OutOfSequence is = absurd (cc)
is_too_long TooLong is = refl

pub is_more : (j : Joining) → told j ≡ took.More → j ≡ More
is_more More is = refl
is_more (Whole body) is = absurd (cc)
is_more OutOfSequence is = absurd (cc)
is_more TooLong is = absurd (cc)

pub is_whole : (j : Joining) (before : List ℕ) → told j ≡ took.Message → j ≡ Whole (body_given j before)
is_whole More before is = absurd (cc)
is_whole (Whole body) before is = refl
is_whole OutOfSequence before is = absurd (cc)
is_whole TooLong before is = absurd (cc)

-- ---- its length ----

not_longer : (longest n : ℕ) → nat_lt longest n ≡ false → n ≤ longest
not_longer longest n is = grind (arith, nat_tests, is)

short_by : (due long last : Bool) (longest : ℕ) (b body : List ℕ) → nat_lt longest (length b) ≡ long
    → (if not due then OutOfSequence else if long then TooLong else if last then Whole b else More) ≡ Whole body → length body ≤ longest
short_by false long last longest b body is same = absurd (cc)
short_by true true last longest b body is same = absurd (cc)
short_by true false false longest b body is same = absurd (cc)
short_by true false true longest b body is same =
    let e : b ≡ body = cc in
    subst (λ (l : List ℕ). length l ≤ longest) e (not_longer longest (length b) is)

pub short_whole : (longest : ℕ) (a : Assembled) (fragment body : List ℕ) → joining_behind longest a fragment ≡ Whole body → length body ≤ longest
short_whole longest a fragment body same = short_by (is_due_behind a.progress fragment) _ _ longest _ body refl same

-- ---- its number ----

pub number_fits : (m : List ℕ) → ((i : ℕ) → get_or m i 0 < 256) → number_of m < 2 ^ 32
number_fits m bytes = omega (arith, bytes 8, bytes 9, bytes 10, bytes 11)

-- ---- by whether it is for the modem ----

own_by : (b : Bool) (reply : Reply) → is_some (if b then None else Some reply) ≡ true → b ≡ false
own_by true reply some = absurd (cc)
own_by false reply some = refl

modem_by : (b : Bool) (reply : Reply) → is_some (if b then None else Some reply) ≡ false → b ≡ true
modem_by true reply none = refl
modem_by false reply none = absurd (cc)

module _ (c : ℕ) (m : List ℕ) (client : Client) (side : ModemSide) (is : request_of m ≡ Command) (command : List ℕ) (same : joining_behind 65536 client.begun m ≡ Whole command) where
  abbrev pub joined : Client
  joined = record client { begun = assembled_after 65536 client.begun m }

  abbrev own : OwnReply
  own = reply_to_command (served side.device) (known_by joined) command

  -- what is told of the client with the fragment
  module _ (left : Client) (left_is : left ≡ joined) (told : Option Reply) (told_is : told ≡ own_reply_to side.device command left) (next : Client) (next_is : next ≡ left_with side.device command left) where
    told_of : told ≡ own_reply_to side.device command joined
    told_of = told_is ∙ ap (own_reply_to side.device command) left_is

    next_of : next ≡ left_with side.device command joined
    next_of = next_is ∙ ap (left_with side.device command) left_is

    pub heard_own_reply : is_some told ≡ true → IsHeard c m client side told next side
    heard_own_reply some =
        let none = own_by (is_for_modem (known_by joined) (Whole command)) (reply_as own) (ap is_some (sym told_of) ∙ some) in
        heard_as c m client side _ _ _ _ _ _ (heard_joined c m client side is (Whole command) same none)
        (told_of ∙ ap (λ (b : Bool). if b then None else Some (reply_as own)) none) (next_of ∙ ap (λ (b : Bool). if b then joined else replied_with own joined) none) refl

    module _ (none : is_some told ≡ false) where
      pub for_modem : is_for_modem (known_by client) (Whole command) ≡ true
      for_modem = modem_by (is_for_modem (known_by joined) (Whole command)) (reply_as own) (ap is_some (sym told_of) ∙ none)

      next_joined : next ≡ joined
      next_joined = next_of ∙ ap (λ (b : Bool). if b then joined else replied_with own joined) for_modem

      pub heard_unshared : has_share c side.numbers ≡ true → IsHeard c m client side (Some (Done (done_head_to command SHARE_PASSED))) next side
      heard_unshared passed = heard_as c m client side _ _ _ _ _ _ (heard_passed c m client side is command same for_modem passed) refl next_joined refl

      -- what is sent, under a number where one is given
      module _ (within : has_share c side.numbers ≡ false) (o : Option ℕ) (given : o ≡ number_for (split_size 4096 (length command)) (traffic_of side)) where
        pub heard_unsent : (traffic : Traffic) (request : Asked) (deadline : ℕ) → traffic ≡ sends o c request deadline (λ number. split (kind_number kind.Command) number 4096 command) (traffic_of side)
            → is_some o ≡ false → IsHeard c m client side (Some (Done (done_head_to command BUSY))) next (with_traffic side traffic)
        heard_unsent traffic request deadline sent unsent =
            let no_number = is_none_by o unsent in
            heard_as c m client side _ _ _ _ _ _ (heard_busy c m client side is command same for_modem within (number_of_command side (number_of m) command ∙ sym given ∙ no_number))
            refl next_joined (ap (with_traffic side) (sent ∙ ap (λ (o : Option ℕ). sends o c request deadline (λ number. split (kind_number kind.Command) number 4096 command) (traffic_of side)) no_number))
          where
            is_none_by : (o : Option ℕ) → is_some o ≡ false → o ≡ None
            is_none_by None e = refl
            is_none_by (Some n) e = absurd (cc)

      pub heard_sent : has_share c side.numbers ≡ false → (o : Option ℕ) → o ≡ number_for (split_size 4096 (length command)) (traffic_of side) → (traffic : Traffic)
          → traffic ≡ sends o c (asked.Command (record { number = number_of m; uuid = uuid_of command; cid = cid_of command })) (deadline_of side.time side.time_limit) (λ number. split (kind_number kind.Command) number 4096 command) (traffic_of side)
          → is_some o ≡ true → number_of m < 2 ^ 32 → IsHeard c m client side None next (with_traffic side traffic)
      heard_sent within None given traffic sent some fits = absurd (cc)
      heard_sent within (Some n) given traffic sent some fits =
          heard_as c m client side _ _ _ _ _ _ (heard_forwarded c m client side is command same for_modem within n (number_of_command side (number_of m) command ∙ sym given))
          refl next_joined (ap (with_traffic side) sent ∙ sent_command side c (number_of m) n command fits (short_whole 65536 client.begun m command same))

-- ---- beside the same ----

pub beside : (c : ℕ) (m : List ℕ) (client : Client) (was side : ModemSide) (told : Option Reply) (next : Client) (after : ModemSide) → was ≡ side → IsHeard c m client was told next after → IsHeard c m client side told next after
beside c m client was side told next after same is = subst (λ (s : ModemSide). IsHeard c m client s told next after) same is
