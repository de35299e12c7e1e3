use Rattle.std.proofs.Common.{◌≡◌, ℕ, ◌+◌, ◌≤◌, true, ◌&&◌, ◌==◌, nat_le, bytes_eq, List, length, ap, sym, ◌∙◌, Some, arith}
use Rattle.std.proofs.lemmas.Bool.{and_parts}
use Rattle.std.proofs.lemmas.Bool.Decides.{nat_tests}
use Rattle.kit_bytes.specs.declared.services.TheConstants.{BASIC_CONNECT}
use Rattle.mbim_frame.specs.declared.bodies.CommandHead.{CommandHead}
use Rattle.mbim_frame.specs.Numbers.{u32_at}
use Rattle.mbim_frame.specs.Bodies.{is_command, read_command}
use Rattle.mbim_proxy.specs.Services.{proxy_control, subscribe_list_cid}
use Rattle.mbim_proxy.specs.OwnReplies.{reply_to_configuration, reply_to_subscribe_list}
use Rattle.mbim_clients.specs.Replies.{reply_as}
use Rattle.mbim_clients.specs.Commands.{served, replied_with}
use Rattle.mbim_clients.proofs.Commands.{head_read, no_head_read, malformed, for_proxy, not_open, sets_list, for_modem}
use Rattle.mbim_clients.proofs.command.own_reply.Goals as goal

long_by : (command : List ℕ) → is_command command ≡ true → 28 ≤ length command
long_by command is =
    let long = (and_parts (nat_le 28 (length command)) (nat_le (u32_at command 20) 1) (and_parts (nat_le 28 (length command) && nat_le (u32_at command 20) 1) (28 + u32_at command 24 == length command) is).0).0 in
    grind (arith, nat_tests, long)

pub returns-in_default : goal.returns-in_default
returns-in_default c =
    let r = malformed c.args.device.now c.args.body.now c.args.client.now (no_head_read c.args.body.now (ap read_command (sym c.as_slice-command.ensures.bytes) ∙ sym c.read.ensures ∙ c.in_default.is)) in
    record { reply = r.reply; client = r.left; long = λ none. absurd (cc) }

pub returns-then-is_for_proxy : goal.returns-then-is_for_proxy
returns-then-is_for_proxy c =
    let body : List ℕ = c.args.body.now in
    let device : List ℕ = c.args.device.now in
    let bytes = c.as_slice-command.ensures.bytes in
    let head = head_read body c.in-Some.head (ap read_command (sym bytes) ∙ sym c.read.ensures ∙ c.in-Some.is) in
    let proxy = ap (λ (h : CommandHead). bytes_eq h.uuid proxy_control) (sym head.1) ∙ sym c.is_for_proxy.ensures ∙ c.if-is_for_proxy.true in
    let r = for_proxy device body c.args.client.now head.0 proxy in
    record {
      reply = ap Some (c.configure.ensures.reply ∙ ap (λ (l : List ℕ). reply_as (reply_to_configuration (served device) l)) bytes) ∙ r.reply;
      client = c.configure.ensures.client ∙ ap (λ (l : List ℕ). replied_with (reply_to_configuration (served device) l) c.args.client.now) bytes ∙ r.left;
      long = λ none. absurd (cc);
    }

pub returns-then-not-opened : goal.returns-then-not-opened
returns-then-not-opened c =
    let body : List ℕ = c.args.body.now in
    let head = head_read body c.in-Some.head (ap read_command (sym c.as_slice-command.ensures.bytes) ∙ sym c.read.ensures ∙ c.in-Some.is) in
    let others = ap (λ (h : CommandHead). bytes_eq h.uuid proxy_control) (sym head.1) ∙ sym c.is_for_proxy.ensures ∙ c.if-is_for_proxy.false in
    let r = not_open c.args.device.now body c.args.client.now head.0 others (sym c.opened.ensures ∙ c.if-not-opened.true) in
    record { reply = r.reply; client = r.left; long = λ none. absurd (cc) }

pub returns-then-is_subscribe_list : goal.returns-then-is_subscribe_list
returns-then-is_subscribe_list c =
    let body : List ℕ = c.args.body.now in
    let device : List ℕ = c.args.device.now in
    let bytes = c.as_slice-command.ensures.bytes in
    let head = head_read body c.in-Some.head (ap read_command (sym bytes) ∙ sym c.read.ensures ∙ c.in-Some.is) in
    let others = ap (λ (h : CommandHead). bytes_eq h.uuid proxy_control) (sym head.1) ∙ sym c.is_for_proxy.ensures ∙ c.if-is_for_proxy.false in
    let list = ap (λ (h : CommandHead). bytes_eq h.uuid BASIC_CONNECT && h.cid == subscribe_list_cid) (sym head.1) ∙ sym c.is_subscribe_list.ensures ∙ c.if-is_subscribe_list.true in
    let r = sets_list device body c.args.client.now head.0 others (sym c.opened.ensures ∙ c.if-not-opened.false) list in
    record {
      reply = ap Some (c.subscribe.ensures.reply device ∙ ap (λ (l : List ℕ). reply_as (reply_to_subscribe_list (served device) l)) bytes) ∙ r.reply;
      client = c.subscribe.ensures.client device ∙ ap (λ (l : List ℕ). replied_with (reply_to_subscribe_list (served device) l) c.args.client.now) bytes ∙ r.left;
      long = λ none. absurd (cc);
    }

pub returns : goal.returns
returns c =
    let body : List ℕ = c.args.body.now in
    let head = head_read body c.in-Some.head (ap read_command (sym c.as_slice-command.ensures.bytes) ∙ sym c.read.ensures ∙ c.in-Some.is) in
    let others = ap (λ (h : CommandHead). bytes_eq h.uuid proxy_control) (sym head.1) ∙ sym c.is_for_proxy.ensures ∙ c.if-is_for_proxy.false in
    let other = ap (λ (h : CommandHead). bytes_eq h.uuid BASIC_CONNECT && h.cid == subscribe_list_cid) (sym head.1) ∙ sym c.is_subscribe_list.ensures ∙ c.if-is_subscribe_list.false in
    let r = for_modem c.args.device.now body c.args.client.now head.0 others (sym c.opened.ensures ∙ c.if-not-opened.false) other in
    record { reply = r.reply; client = r.left; long = λ none. long_by body head.0 }
