use Rattle.std.proofs.Common.{◌≡◌, ℕ, Bool, true, false, ◌||◌, List, Some, None, ap, sym, ◌∙◌}
use Rattle.outbox.specs.Queue.{Queue}
use Rattle.connections.specs.Hearing.{Hearing}
use Rattle.qmux_frame.specs.Reply.{result_reply}
use Rattle.proxy_history.specs.Facts.{Own}
use Rattle.proxy_history.specs.View.{Said}
use Rattle.qmi_proxy.specs.Clients.{deadline_of}
use Rattle.qmi_proxy.specs.OwnReplies.{view_decides, own_error, is_opening, step}
use Rattle.qmi_state.specs.Traffic.{Traffic}
use Rattle.qmi_state.specs.Transitions.{shared_of, refusal_of, forwards_as, replied, hear_client}
use Rattle.qmi_state.specs.declared.client.Client.{Client}
use Rattle.qmi_state.specs.Core.{ModemSide}
use Rattle.qmi_core.proofs.Forwards.{heard_own, heard_refused, heard_forwarded}
use Rattle.qmi_core.proofs.hearing.ModemSideHearsQmuxClient.hear.Goals as goal

pub returns-in-Some : goal.returns-in-Some
returns-in-Some c =
    let m : List ℕ = c.args.message.now in
    let client : Client = c.args.client.now in
    let outbox : Queue = c.args.outbox.now in
    let side : ModemSide = record { device = c.self.inside.device; time_limit = c.self.inside.time_limit; release = c.self.inside.release; time = c.self.inside.time; away = c.self.inside.away; traffic = c.self.inside.traffic } in
    let error : ℕ = c.in-Some.error in
    let read : c.read-message.result ≡ m = c.read-message.ensures in
    let own : true ≡ view_decides client.opened m = c.in-Some.ensures.own ∙ ap (view_decides client.opened) read in
    let is : error ≡ own_error side.device client.opened m =
    c.in-Some.ensures.error ∙ ap (λ (d : List ℕ). own_error d client.opened c.read-message.result) c.as_slice.ensures ∙ ap (own_error side.device client.opened) read in
    let opens : c.is_opening-opens.result ≡ is_opening side.device m Own =
    c.is_opening-opens.ensures ∙ ap (λ (d : List ℕ). is_opening d c.read-message.result Own) c.as_slice-in-Some.ensures ∙ ap (λ (l : List ℕ). is_opening side.device l Own) read in
    let heard = heard_own c.args.name m client outbox side error own is in
    let made : replied (result_reply c.read-message.result error) (c.is_opening-opens.result || client.opened) client outbox side ≡ replied (result_reply m error) (step side.device client.opened (Said m Own)) client outbox side =
    ap (λ (l : List ℕ). replied (result_reply l error) (c.is_opening-opens.result || client.opened) client outbox side) read ∙ ap (λ (b : Bool). replied (result_reply m error) (b || client.opened) client outbox side) opens in
    let all = made ∙ sym heard ∙ ap (λ (s : ModemSide). hear_client c.args.name m client outbox s) c.self.view_is in
    record {
      room = c.reply.ensures.room ∙ ap (λ h. h.has_room) all;
      client = c.reply.ensures.client ∙ ap (λ h. h.client) all;
      outbox = c.reply.ensures.outbox ∙ ap (λ h. h.outbox) all;
      beside = sym c.self.view_is ∙ ap (λ h. h.beside) all;
    }

pub returns-in-Some-forward : goal.returns-in-Some-forward
returns-in-Some-forward c =
    let m : List ℕ = c.args.message.now in
    let client : Client = c.args.client.now in
    let outbox : Queue = c.args.outbox.now in
    let side : ModemSide = record { device = c.self.inside.device; time_limit = c.self.inside.time_limit; release = c.self.inside.release; time = c.self.inside.time; away = c.self.inside.away; traffic = c.self.inside.traffic } in
    let error : ℕ = c.in-Some-forward.error in
    let own : false ≡ view_decides client.opened m = c.in_default.ensures.own ∙ ap (view_decides client.opened) c.read-message.ensures in
    let refused : Some error ≡ refusal_of (shared_of side.away c.args.name m side.traffic) = c.in-Some-forward.ensures.refusal ∙ ap (λ (l : List ℕ). refusal_of (shared_of side.away c.args.name l side.traffic)) c.read-message.ensures in
    let heard = heard_refused c.args.name m client outbox side own error refused in
    let traffic : c.forward.new.self ≡ forwards_as (shared_of side.away c.args.name m side.traffic) (deadline_of side.time side.time_limit) c.args.name m side.traffic =
    c.in-Some-forward.ensures.forwarded ∙ ap (λ (l : List ℕ). forwards_as (shared_of side.away c.args.name l side.traffic) c.deadline-deadline.result c.args.name l side.traffic) c.read-message.ensures
    ∙ ap (λ (t : ℕ). forwards_as (shared_of side.away c.args.name m side.traffic) t c.args.name m side.traffic) (c.deadline-deadline.ensures ∙ ap (λ (s : ModemSide). deadline_of s.time s.time_limit) (sym c.self.view_is)) in
    let made : replied (result_reply c.read-message.result error) client.opened client outbox (record side { traffic = c.forward.new.self }) ≡ replied (result_reply m error) client.opened client outbox (record side { traffic = forwards_as (shared_of side.away c.args.name m side.traffic) (deadline_of side.time side.time_limit) c.args.name m side.traffic }) =
    ap (λ (l : List ℕ). replied (result_reply l error) client.opened client outbox (record side { traffic = c.forward.new.self })) c.read-message.ensures ∙ ap (λ (d : Traffic). replied (result_reply m error) client.opened client outbox (record side { traffic = d })) traffic in
    let all = made ∙ sym heard ∙ ap (λ (s : ModemSide). hear_client c.args.name m client outbox s) c.self.view_is in
    record {
      room = c.reply-in-Some-forward.ensures.room ∙ ap (λ h. h.has_room) all;
      client = c.reply-in-Some-forward.ensures.client ∙ ap (λ h. h.client) all;
      outbox = c.reply-in-Some-forward.ensures.outbox ∙ ap (λ h. h.outbox) all;
      beside = ap (λ h. h.beside) all;
    }

pub returns : goal.returns
returns c =
    let m : List ℕ = c.args.message.now in
    let client : Client = c.args.client.now in
    let outbox : Queue = c.args.outbox.now in
    let side : ModemSide = record { device = c.self.inside.device; time_limit = c.self.inside.time_limit; release = c.self.inside.release; time = c.self.inside.time; away = c.self.inside.away; traffic = c.self.inside.traffic } in
    let own : false ≡ view_decides client.opened m = c.in_default.ensures.own ∙ ap (view_decides client.opened) c.read-message.ensures in
    let refused : None ≡ refusal_of (shared_of side.away c.args.name m side.traffic) = c.in_default-forward.ensures.refusal ∙ ap (λ (l : List ℕ). refusal_of (shared_of side.away c.args.name l side.traffic)) c.read-message.ensures in
    let heard = heard_forwarded c.args.name m client outbox side own refused in
    let traffic : c.forward.new.self ≡ forwards_as (shared_of side.away c.args.name m side.traffic) (deadline_of side.time side.time_limit) c.args.name m side.traffic =
    c.in_default-forward.ensures.forwarded ∙ ap (λ (l : List ℕ). forwards_as (shared_of side.away c.args.name l side.traffic) c.deadline-deadline.result c.args.name l side.traffic) c.read-message.ensures
    ∙ ap (λ (t : ℕ). forwards_as (shared_of side.away c.args.name m side.traffic) t c.args.name m side.traffic) (c.deadline-deadline.ensures ∙ ap (λ (s : ModemSide). deadline_of s.time s.time_limit) (sym c.self.view_is)) in
    let made : (let h : Hearing Client ModemSide = record { client = client; outbox = outbox; beside = record side { traffic = c.forward.new.self }; has_room = true } in h)
    ≡ record { client = client; outbox = outbox; beside = record side { traffic = forwards_as (shared_of side.away c.args.name m side.traffic) (deadline_of side.time side.time_limit) c.args.name m side.traffic }; has_room = true } =
    ap (λ (d : Traffic). let h : Hearing Client ModemSide = record { client = client; outbox = outbox; beside = record side { traffic = d }; has_room = true } in h) traffic in
    let all = made ∙ sym heard ∙ ap (λ (s : ModemSide). hear_client c.args.name m client outbox s) c.self.view_is in
    record { room = ap (λ h. h.has_room) all; client = ap (λ h. h.client) all; outbox = ap (λ h. h.outbox) all; beside = ap (λ h. h.beside) all }
