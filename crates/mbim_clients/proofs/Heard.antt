-- How a client's message is heard, by what it asks for.
use Rattle.std.proofs.Common.{◌≡◌, ℕ, ◌+◌, Bool, true, false, not, ◌&&◌, List, [], refl, ap, ap₂, sym, subst, ◌∙◌, Option, Some, None, if◌then◌else◌}
use Rattle.outbox.specs.Queue.{Queue}
use Rattle.mbim_frame.specs.declared.kind.MessageKind.TheVariants as kind
use Rattle.mbim_frame.specs.declared.status.TheConstants.{SUCCESS, BUSY, FAILURE}
use Rattle.mbim_frame.specs.Kinds.{kind_number}
use Rattle.mbim_frame.specs.Numbers.{u32_at}
use Rattle.mbim_frame.specs.Head.{is_kind, number_of}
use Rattle.mbim_frame.specs.Writing.{open_done, unsplit}
use Rattle.mbim_fragments.specs.Runs.{Joining, Whole}
use Rattle.mbim_fragments.specs.Assembling.{joining_behind, assembled_after}
use Rattle.proxy_history.specs.Facts.{Own, Share}
use Rattle.proxy_history.specs.Decision.{Decision, Replies, forwards_under}
use Rattle.mbim_proxy.specs.Setup.{Setup, fragment_for}
use Rattle.mbim_proxy.specs.Known.{Known}
use Rattle.mbim_proxy.specs.OwnReplies as own
use Rattle.mbim_proxy.specs.OwnReplies.{OwnReply, reply_to_joining, is_command_fragment, may_open, is_for_modem, view_decides}
use Rattle.mbim_proxy.specs.Step.{whole_body, command_with, with_reply, with_message}
use Rattle.mbim_proxy.specs.Text as text
use Rattle.mbim_proxy.specs.Text.{SHARE_PASSED}
use Rattle.mbim_proxy.specs.ModemStates.{ModemState, IsAway, IsShut, IsOpening, IsReady}
use Rattle.mbim_proxy.specs.Forwarding.{own_open}
use Rattle.mbim_proxy.specs.Clients.{opening_decision, command_message}
use Rattle.mbim_state.specs.Core.{Client, client_of, known_by, ModemSide, setup_of}
use Rattle.mbim_state.specs.Transitions.{number_at, asked_last, forwards, opens as opens_modem, asks_modem, act_on, hear_client}
use Rattle.mbim_clients.specs.declared.request.Request.{Request}
use Rattle.mbim_clients.specs.declared.request.Request.TheVariants.{Open, Command}
use Rattle.mbim_clients.specs.declared.reply.Reply.{Reply}
use Rattle.mbim_clients.specs.declared.reply.Reply.TheVariants.{Silent, Opened, Done}
use Rattle.mbim_clients.specs.Requests.{request_of, opens, carries}
use Rattle.mbim_clients.specs.Replies.{done_head_to, reply_as, reply_text, says, heard_with, IsHeard}
use Rattle.mbim_clients.specs.Traffic.{has_share}
use Rattle.mbim_clients.proofs.Requests.{opens_it, carries_it, kind_of_opening, kind_of_command, length_asked, own_for, own_is, decides_for, decides_is}

module _ (c : ℕ) (m : List ℕ) (client : Client) (side : ModemSide) where
  abbrev s : Setup
  s = setup_of side

  abbrev known : Known
  known = known_by client

  abbrev joining : Joining
  joining = joining_behind 65536 client.begun m

  -- the client as the message leaves it, whatever comes of it: whether it opens the modem, with fragments of what length, and whether it carries a part of a command
  abbrev pub left_by : (opening : Bool) → (asked : ℕ) → (fragment : Bool) → Client
  left_by o asked f = record client { begun = if f then assembled_after 65536 client.begun m else client.begun; fragment = if o then fragment_for s asked else client.fragment }

  abbrev known_left : (opening : Bool) → (asked : ℕ) → (fragment : Bool) → Known
  known_left o asked f = record known { sent = known.sent + 1; begun = if f then assembled_after 65536 client.begun m else client.begun; fragment = if o then fragment_for s asked else client.fragment }

  -- the tests: the client's own view decides, the modem is to be opened, the client has its share
  abbrev decided_by : (own opening passed : Bool) → Decision
  decided_by own opening passed =
      if not own && not opening && passed then Replies Share
      else if own then Replies Own
      else if opening then opening_decision side.modem (number_at s (own_open s) side)
      else forwards_under (number_at s (command_message s known m) side)

  decided : (outbox : Queue) (own : Bool) → view_decides s known m ≡ own → hear_client s c m client outbox side ≡ act_on s c m (decided_by own (is_kind kind.Open m) (has_share c side.numbers)) client outbox side
  decided outbox own is = ap (λ (b : Bool). act_on s c m (decided_by b (is_kind kind.Open m) (has_share c side.numbers)) client outbox side) is

  module _ (r : Request) (is : request_of m ≡ r) where
    abbrev pub left : (asked : ℕ) → Client
    left asked = left_by (opens r) asked (carries r)

    with_message_is : with_message s m known ≡ known_left (opens r) (u32_at m 12) (carries r)
    with_message_is =
        ap (λ (o : Bool). known_left o (u32_at m 12) (is_command_fragment m)) (opens_it m r is)
        ∙ ap (λ (f : Bool). known_left (opens r) (u32_at m 12) f) (carries_it m r is)

    -- ---- the client's own view decides ----

    client_replied : (reply : OwnReply) (asked : ℕ) → client_of (with_reply reply (known_left (opens r) asked (carries r))) ≡ client_of (with_reply reply (known_by (left asked)))
    client_replied own.Silent asked = refl
    client_replied (own.Wrong code) asked = refl
    client_replied (own.NotOpened status) asked = refl
    client_replied own.Closes asked = refl
    client_replied (own.Refuses command status) asked = refl
    client_replied (own.Configures command) asked = refl
    client_replied (own.Subscribes command list) asked = refl

    -- the reply's bytes are those for the client that the message leaves
    text_is : (reply : OwnReply) (number asked : ℕ) (fragment : Bool) → text.reply_text known number reply ≡ reply_text (client_of (with_reply reply (known_by (left_by false asked fragment)))) number (reply_as reply)
    text_is own.Silent number asked fragment = refl
    text_is (own.Wrong code) number asked fragment = refl
    text_is (own.NotOpened status) number asked fragment = refl
    text_is own.Closes number asked fragment = refl
    text_is (own.Refuses command status) number asked fragment = refl
    text_is (own.Configures command) number asked fragment = refl
    text_is (own.Subscribes command list) number asked fragment = refl

    heard_own : decides_for s known joining r ≡ true → (reply : OwnReply) → own_for s known joining r ≡ reply → (outbox : Queue)
        → hear_client s c m client outbox side ≡ says (text.reply_text known (number_of m) reply) (client_of (with_reply reply (known_by (left (u32_at m 12))))) outbox side
    heard_own decides reply same outbox =
        decided outbox true (decides_is s known m r is ∙ decides)
        ∙ ap (λ (reply : OwnReply). says (text.reply_text known (number_of m) reply) (client_of (with_reply reply (with_message s m known))) outbox side) (own_is s known m r is ∙ same)
        ∙ ap (λ (k : Known). says (text.reply_text known (number_of m) reply) (client_of (with_reply reply k)) outbox side) with_message_is
        ∙ ap (λ (k : Client). says (text.reply_text known (number_of m) reply) k outbox side) (client_replied reply (u32_at m 12))

    -- ---- what all clients share decides ----

    heard_shared : decides_for s known joining r ≡ false → (opening : Bool) → is_kind kind.Open m ≡ opening → (decision : Decision) → decided_by false opening (has_share c side.numbers) ≡ decision
        → (outbox : Queue) → hear_client s c m client outbox side ≡ act_on s c m decision client outbox side
    heard_shared decides kind of_kind decision same outbox =
        decided outbox false (decides_is s known m r is ∙ decides)
        ∙ ap (λ (b : Bool). act_on s c m (decided_by false b (has_share c side.numbers)) client outbox side) of_kind
        ∙ ap (λ (d : Decision). act_on s c m d client outbox side) same

  -- ---- requests that neither open the modem nor carry a part of a command ----

  pub heard_plain : (r : Request) → request_of m ≡ r → opens r ≡ false → carries r ≡ false → (reply : OwnReply) → own_for s known joining r ≡ reply → IsHeard c m client side (Some (reply_as reply)) (client_of (with_reply reply known)) side
  heard_plain r is no_opening no_fragment reply same = record {
    heard = λ outbox.
        heard_own r is (ap₂ (λ (o f : Bool). not (o && may_open known) && not (f && is_for_modem known joining)) no_opening no_fragment) reply same outbox
        ∙ ap₂ (λ (o f : Bool). says (text.reply_text known (number_of m) reply) (client_of (with_reply reply (known_by (left_by o (u32_at m 12) f)))) outbox side) no_opening no_fragment
        ∙ ap (λ (l : List ℕ). says l (client_of (with_reply reply known)) outbox side) (text_is r is reply (number_of m) (u32_at m 12) false);
  }

  -- ---- requests to open the modem ----

  module _ (asked : ℕ) (is : request_of m ≡ Open asked) where
    abbrev pub opener : Client
    opener = record client { fragment = fragment_for s asked }

    abbrev known_opener : Known
    known_opener = record known { sent = known.sent + 1; fragment = fragment_for s asked }

    opener_left : with_message s m known ≡ known_opener
    opener_left = with_message_is (Open asked) is ∙ ap (λ (n : ℕ). known_left true n false) (length_asked m asked is)

    pub heard_not_opened : may_open known ≡ false → (status : ℕ) → own.reply_to_open known ≡ own.NotOpened status → IsHeard c m client side (Some (Opened status)) opener side
    heard_not_opened may_not status same = record {
      heard = λ outbox.
          heard_own (Open asked) is (ap (λ (b : Bool). not b && true) may_not) (own.NotOpened status) same outbox
          ∙ ap (λ (n : ℕ). says (text.reply_text known (number_of m) (own.NotOpened status)) (left_by true n false) outbox side) (length_asked m asked is);
    }

    abbrev number : Option ℕ
    number = number_at s (own_open s) side

    abbrev asks_last : ModemSide → ModemSide
    asks_last beside = record beside { askers = asked_last 64 c beside.askers }

    module _ (may : may_open known ≡ true) where
      by_modem : (modem : ModemState) → side.modem ≡ modem → (outbox : Queue) → hear_client s c m client outbox side ≡ act_on s c m (opening_decision modem number) client outbox side
      by_modem modem same outbox =
          heard_shared (Open asked) is (ap (λ (b : Bool). not b && true) may) true (kind_of_opening m (Open asked) is refl) (opening_decision modem number)
          (ap (λ (state : ModemState). opening_decision state number) same) outbox

      pub heard_away : side.modem ≡ IsAway → IsHeard c m client side (Some (Opened FAILURE)) opener side
      heard_away away = record {
        heard = λ outbox. by_modem IsAway away outbox ∙ ap (λ (k : Known). says (reply_text client (number_of m) (Opened FAILURE)) (client_of k) outbox side) opener_left;
      }

      pub heard_ready : side.modem ≡ IsReady → IsHeard c m client side (Some (Opened SUCCESS)) (record opener { opened = true }) side
      heard_ready ready = record {
        heard = λ outbox. by_modem IsReady ready outbox ∙ ap (λ (k : Known). says (reply_text client (number_of m) (Opened SUCCESS)) (client_of (record k { opened = true })) outbox side) opener_left;
      }

      pub heard_waiting : side.modem ≡ IsOpening → IsHeard c m client side (Some Silent) (record opener { waits = Some (number_of m) }) (asks_last side)
      heard_waiting opening = record {
        heard = λ outbox. by_modem IsOpening opening outbox ∙ ap (λ (k : Known). says [] (client_of (record k { waits = Some (number_of m) })) outbox (asks_last side)) opener_left;
      }

      pub heard_full : side.modem ≡ IsShut → number ≡ None → IsHeard c m client side (Some (Opened BUSY)) opener side
      heard_full shut none = record {
        heard = λ outbox.
            by_modem IsShut shut outbox
            ∙ ap (λ (n : Option ℕ). act_on s c m (forwards_under n) client outbox side) none
            ∙ ap (λ (b : Bool). says (if b then open_done (number_of m) BUSY else text.done_to known (number_of m) (command_with s known m) BUSY []) (client_of (with_message s m known)) outbox side) (kind_of_opening m (Open asked) is refl)
            ∙ ap (λ (k : Known). says (reply_text client (number_of m) (Opened BUSY)) (client_of k) outbox side) opener_left;
      }

      pub heard_asking : side.modem ≡ IsShut → (n : ℕ) → number ≡ Some n → IsHeard c m client side None (record opener { waits = Some (number_of m) }) (asks_last (opens_modem s n side))
      heard_asking shut n some = record {
        heard = λ outbox.
            by_modem IsShut shut outbox
            ∙ ap (λ (n : Option ℕ). act_on s c m (forwards_under n) client outbox side) some
            ∙ ap (λ (b : Bool). asks_modem b s c m n client outbox side) (kind_of_opening m (Open asked) is refl)
            ∙ ap (λ (k : Known). heard_with (number_of m) None (client_of (record k { waits = Some (number_of m) })) outbox (asks_last (opens_modem s n side))) opener_left;
      }

  -- ---- fragments of commands ----

  module _ (is : request_of m ≡ Command) where
    abbrev pub joiner : Client
    joiner = record client { begun = assembled_after 65536 client.begun m }

    pub heard_joined : (j : Joining) → joining ≡ j → is_for_modem known j ≡ false → IsHeard c m client side (Some (reply_as (reply_to_joining s known j))) (client_of (with_reply (reply_to_joining s known j) (known_by joiner))) side
    heard_joined j same not_for_modem = record {
      heard = λ outbox.
          heard_own Command is (ap (λ (j : Joining). not (is_for_modem known j)) same ∙ ap not not_for_modem) (reply_to_joining s known j) (ap (reply_to_joining s known) same) outbox
          ∙ ap (λ (l : List ℕ). says l (client_of (with_reply (reply_to_joining s known j) (known_by joiner))) outbox side) (text_is Command is (reply_to_joining s known j) (number_of m) 0 true);
    }

    module _ (command : List ℕ) (same : joining ≡ Whole command) (for_modem : is_for_modem known (Whole command) ≡ true) where
      abbrev message : List ℕ
      message = unsplit (kind_number kind.Command) (number_of m) command

      by_decision : (decision : Decision) → decided_by false false (has_share c side.numbers) ≡ decision → (outbox : Queue) → hear_client s c m client outbox side ≡ act_on s c m decision client outbox side
      by_decision decision decides outbox = heard_shared Command is (ap (λ (j : Joining). not (is_for_modem known j)) same ∙ ap not for_modem) false (kind_of_command m Command is refl) decision decides outbox

      -- the reply that it gets with such a status
      refused_with : (status : ℕ) (outbox : Queue) → says (text.done_to known (number_of m) (command_with s known m) status []) (client_of (with_message s m known)) outbox side
          ≡ says (reply_text client (number_of m) (Done (done_head_to command status))) joiner outbox side
      refused_with status outbox =
          ap (λ (j : Joining). says (text.done_to known (number_of m) (whole_body j) status []) (client_of (with_message s m known)) outbox side) same
          ∙ ap (λ (k : Known). says (reply_text client (number_of m) (Done (done_head_to command status))) (client_of k) outbox side) (with_message_is Command is)

      pub heard_passed : has_share c side.numbers ≡ true → IsHeard c m client side (Some (Done (done_head_to command SHARE_PASSED))) joiner side
      heard_passed passed = record {
        heard = λ outbox. by_decision (Replies Share) (ap (decided_by false false) passed) outbox ∙ refused_with SHARE_PASSED outbox;
      }

      module _ (within : has_share c side.numbers ≡ false) where
        asking : (number : Option ℕ) → number_at s message side ≡ number → (outbox : Queue) → hear_client s c m client outbox side ≡ act_on s c m (forwards_under number) client outbox side
        asking number given outbox =
            by_decision (forwards_under number)
            (ap (decided_by false false) within ∙ ap (λ (j : Joining). forwards_under (number_at s (unsplit (kind_number kind.Command) (number_of m) (whole_body j)) side)) same ∙ ap forwards_under given) outbox

        pub heard_busy : number_at s message side ≡ None → IsHeard c m client side (Some (Done (done_head_to command BUSY))) joiner side
        heard_busy none = record {
          heard = λ outbox.
              asking None none outbox
              ∙ ap (λ (b : Bool). says (if b then open_done (number_of m) BUSY else text.done_to known (number_of m) (command_with s known m) BUSY []) (client_of (with_message s m known)) outbox side) (kind_of_command m Command is refl)
              ∙ refused_with BUSY outbox;
        }

        pub heard_forwarded : (n : ℕ) → number_at s message side ≡ Some n → IsHeard c m client side None joiner (forwards s c message n side)
        heard_forwarded n some = record {
          heard = λ outbox.
              asking (Some n) some outbox
              ∙ ap (λ (b : Bool). asks_modem b s c m n client outbox side) (kind_of_command m Command is refl)
              ∙ ap (λ (j : Joining). heard_with (number_of m) None (client_of (with_message s m known)) outbox (forwards s c (unsplit (kind_number kind.Command) (number_of m) (whole_body j)) n side)) same
              ∙ ap (λ (k : Known). heard_with (number_of m) None (client_of k) outbox (forwards s c message n side)) (with_message_is Command is);
        }

-- ---- the same with other names for what comes of it ----

pub heard_as : (c : ℕ) (m : List ℕ) (client : Client) (side : ModemSide) (reply told : Option Reply) (left next : Client) (beside after : ModemSide) → IsHeard c m client side reply left beside
    → told ≡ reply → next ≡ left → after ≡ beside → IsHeard c m client side told next after
heard_as c m client side reply told left next beside after is told_is next_is after_is =
    subst (λ (t : Option Reply). IsHeard c m client side t next after) (sym told_is)
    (subst (λ (k : Client). IsHeard c m client side reply k after) (sym next_is)
    (subst (λ (b : ModemSide). IsHeard c m client side reply left b) (sym after_is) is))
