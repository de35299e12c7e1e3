-- The reply to a whole command, by what the command is.
use Rattle.std.proofs.Common.{◌≡◌, ℕ, ◌≤◌, Bool, true, false, not, ◌&&◌, nat_le, List, length, refl, ap, ap₂, sym, ◌∙◌, Option, Some, None, is_some, IfSome, if◌then◌else◌, arith}
use Rattle.std.specs.Prelude.{nat_lt}
use Rattle.std.proofs.lemmas.Bool.Decides.{nat_tests}
use Rattle.kit_bytes.specs.Subscriptions.{Pair, normal_form}
use Rattle.mbim_frame.specs.declared.bodies.CommandHead.{CommandHead}
use Rattle.mbim_frame.specs.Bodies.{is_command, read_command, command_head_of, is_set, buffer_of}
use Rattle.mbim_services.specs.SubscribeLists.{list_of_buffer}
use Rattle.mbim_proxy.specs.OwnReplies as own
use Rattle.mbim_proxy.specs.OwnReplies.{OwnReply, is_for_proxy, configures, reply_to_configuration, is_subscribe_list, reply_to_pairs, reply_to_subscribe_list}
use Rattle.mbim_state.specs.Core.{Client}
use Rattle.subscribe_lists.specs.ClientLists.{list_of_pairs, client_list}
use Rattle.mbim_clients.specs.declared.reply.Reply.{Reply}
use Rattle.mbim_clients.specs.declared.reply.Reply.TheVariants.{Error}
use Rattle.mbim_clients.specs.Replies.{reply_as}
use Rattle.mbim_clients.specs.Commands.{served, own_reply_to, replied_with, left_with}

-- ---- the head ----

head_by : (b : Bool) (head given : CommandHead) → (if b then Some head else None) ≡ Some given → (b ≡ true) × (given ≡ head)
head_by true head given is = (refl, cc)
head_by false head given is = absurd (cc)

no_head_by : (b : Bool) (head : CommandHead) → (if b then Some head else None) ≡ None → b ≡ false
no_head_by true head is = absurd (cc)
no_head_by false head is = refl

pub head_read : (command : List ℕ) (head : CommandHead) → read_command command ≡ Some head → (is_command command ≡ true) × (head ≡ command_head_of command)
head_read command head is = head_by (is_command command) (command_head_of command) head is

pub no_head_read : (command : List ℕ) → read_command command ≡ None → is_command command ≡ false
no_head_read command is = no_head_by (is_command command) (command_head_of command) is

-- ---- the reply ----

module _ (device command : List ℕ) (client : Client) where
  -- the tests: it is a command, for the proxy, of a client that is open, and sets a list
  abbrev reply_by : (b p o l : Bool) → OwnReply
  reply_by b p o l =
      if not b then own.Wrong 3
      else if p then reply_to_configuration (served device) command
      else if not o then own.Wrong 5
      else reply_to_subscribe_list (served device) command

  abbrev told_by : (b p o l : Bool) → Option Reply
  told_by b p o l = if b && not p && o && not l then None else Some (reply_as (reply_by b p o l))

  abbrev left_by : (b p o l : Bool) → Client
  left_by b p o l = if b && not p && o && not l then client else replied_with (reply_by b p o l) client

  -- this is the reply, and the client that it leaves
  pub record IsReply (told : Option Reply) (next : Client) : Type 0 where
    pub reply : told ≡ own_reply_to device command client
    pub left : next ≡ left_with device command client

  by_tests : (b p o l : Bool) → is_command command ≡ b → is_for_proxy command ≡ p → client.opened ≡ o → is_subscribe_list command ≡ l → IsReply (told_by b p o l) (left_by b p o l)
  by_tests b p o l is_b is_p is_o is_l = record {
    reply = sym (ap₂ (λ (b p : Bool). told_by b p client.opened (is_subscribe_list command)) is_b is_p ∙ ap₂ (λ (o l : Bool). told_by b p o l) is_o is_l);
    left = sym (ap₂ (λ (b p : Bool). left_by b p client.opened (is_subscribe_list command)) is_b is_p ∙ ap₂ (λ (o l : Bool). left_by b p o l) is_o is_l);
  }

  pub malformed : is_command command ≡ false → IsReply (Some (Error 3)) client
  malformed is = by_tests false (is_for_proxy command) client.opened (is_subscribe_list command) is refl refl refl

  pub for_proxy : is_command command ≡ true → is_for_proxy command ≡ true → IsReply (Some (reply_as (reply_to_configuration (served device) command))) (replied_with (reply_to_configuration (served device) command) client)
  for_proxy is proxy = by_tests true true client.opened (is_subscribe_list command) is proxy refl refl

  module _ (is : is_command command ≡ true) (others : is_for_proxy command ≡ false) where
    pub not_open : client.opened ≡ false → IsReply (Some (Error 5)) client
    not_open shut = by_tests true false false (is_subscribe_list command) is others shut refl

    pub sets_list : client.opened ≡ true → is_subscribe_list command ≡ true → IsReply (Some (reply_as (reply_to_subscribe_list (served device) command))) (replied_with (reply_to_subscribe_list (served device) command) client)
    sets_list opened list = by_tests true false true true is others opened list

    pub for_modem : client.opened ≡ true → is_subscribe_list command ≡ false → IsReply None client
    for_modem opened other = by_tests true false true false is others opened other

-- ---- a list ----

module _ (device command : List ℕ) where
  abbrev refused : OwnReply
  refused = own.Refuses command 21

  abbrev reply_if : (long : Bool) → List Pair → OwnReply
  reply_if long list = if long then refused else own.Subscribes command list

  long_is : (n : ℕ) → nat_lt 30 n ≡ not (nat_le n 30)
  long_is n = grind (arith, nat_tests)

  -- what the reply is to pairs, and how many there are, by whether they are few
  pairs_by : (pairs : List Pair) (few : Bool) → nat_le (length (normal_form pairs)) 30 ≡ few → reply_to_pairs (served device) command (Some pairs) ≡ reply_if (not few) (normal_form pairs)
  pairs_by pairs few is = ap (λ (b : Bool). reply_if b (normal_form pairs)) (long_is (length (normal_form pairs)) ∙ ap not is)

  few_pairs : (n : ℕ) → nat_le n 30 ≡ true → n ≤ 30
  few_pairs n is = grind (arith, nat_tests, is)

  module _ (into : List Pair) where
    -- it is the client's list, and short
    abbrev pub IsSet : OwnReply → Type 0
    IsSet reply = (reply ≡ own.Subscribes command into) × (length into ≤ 30)

    set_by : (pairs : List Pair) (few : Bool) → nat_le (length (normal_form pairs)) 30 ≡ few → is_some (if few then Some (normal_form pairs) else None) ≡ true → IfSome (if few then Some (normal_form pairs) else None) (λ list. into ≡ list)
        → IsSet (reply_to_pairs (served device) command (Some pairs))
    set_by pairs true is some same = (pairs_by pairs true is ∙ ap (own.Subscribes command) (sym same), omega (arith, few_pairs (length (normal_form pairs)) is, ap length same))
    set_by pairs false is some same = absurd (cc)

    set_from : (pairs : Option (List Pair)) → is_some (list_of_pairs pairs) ≡ true → IfSome (list_of_pairs pairs) (λ list. into ≡ list) → IsSet (reply_to_pairs (served device) command pairs)
    set_from None some same = absurd (cc)
    set_from (Some pairs) some same = set_by pairs (nat_le (length (normal_form pairs)) 30) refl some same

    pub list_set : is_set command ≡ true → is_some (client_list (buffer_of command)) ≡ true → IfSome (client_list (buffer_of command)) (λ list. into ≡ list) → IsSet (reply_to_subscribe_list (served device) command)
    list_set set some same =
        let read = set_from (list_of_buffer (buffer_of command)) some same in
        (ap (λ (b : Bool). if b then reply_to_pairs (served device) command (list_of_buffer (buffer_of command)) else refused) set ∙ read.0, read.1)

  refused_by : (pairs : List Pair) (few : Bool) → nat_le (length (normal_form pairs)) 30 ≡ few → is_some (if few then Some (normal_form pairs) else None) ≡ false → reply_to_pairs (served device) command (Some pairs) ≡ refused
  refused_by pairs true is none = absurd (cc)
  refused_by pairs false is none = pairs_by pairs false is

  refused_from : (pairs : Option (List Pair)) → is_some (list_of_pairs pairs) ≡ false → reply_to_pairs (served device) command pairs ≡ refused
  refused_from None none = refl
  refused_from (Some pairs) none = refused_by pairs (nat_le (length (normal_form pairs)) 30) refl none

  pub no_list : is_some (client_list (buffer_of command)) ≡ false → reply_to_subscribe_list (served device) command ≡ refused
  no_list none = by_set (is_set command)
    where
      by_set : (b : Bool) → (if b then reply_to_pairs (served device) command (list_of_buffer (buffer_of command)) else refused) ≡ refused
      by_set true = refused_from (list_of_buffer (buffer_of command)) none
      by_set false = refl

  pub no_set : is_set command ≡ false → reply_to_subscribe_list (served device) command ≡ refused
  no_set none = ap (λ (b : Bool). if b then reply_to_pairs (served device) command (list_of_buffer (buffer_of command)) else refused) none

-- ---- a configuration ----

pub named : (device command : List ℕ) (b : Bool) → configures (served device) command ≡ b → reply_to_configuration (served device) command ≡ (if b then own.Configures command else own.Refuses command 21)
named device command b is = ap (λ (b : Bool). if b then own.Configures command else own.Refuses command 21) is
