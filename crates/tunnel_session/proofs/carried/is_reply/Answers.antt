use Rattle.std.specs.Prelude.{Ok, Err}
use Rattle.std.proofs.Common.{◌≡◌, ◌&&◌, Bool, true, false, if◌then◌else◌, refl, sym, ap, ◌∙◌}
use Rattle.qmux_frame.specs.declared.head.Head.{Head}
use Rattle.qmux_frame.specs.Frame.{qmux_cut, size_of}
use Rattle.qmux_frame.specs.Head.{head_of, is_framed}
use Rattle.qmux_frame.proofs.Framed.{framed_long}
use Rattle.framing.specs.Framing.{is_message}
use Rattle.device_core.specs.Requests.{answers}
use Rattle.qmi_tunnel.specs.Tunnel.{first_end}
use Rattle.qmi_tunnel.specs.declared.unwrapping.Ragged.{Ragged}
use Rattle.tunnel_session.proofs.carried.is_reply.Goals as goal

-- by whether a buffer is one whole message
whole_as : (b : Bool) (whole : Head) (ragged : Ragged) {head : Head} → (if b then Ok whole else Err ragged) ≡ Ok head → (b ≡ true) × (whole ≡ head)
whole_as true whole ragged is = (refl, cc)
whole_as false whole ragged is = absurd (cc)

ragged_as : (b : Bool) (whole : Head) (ragged : Ragged) {other : Ragged} → (if b then Ok whole else Err ragged) ≡ Err other → b ≡ false
ragged_as true whole ragged is = absurd (cc)
ragged_as false whole ragged is = refl

pub is_answered_by-requires : goal.is_answered_by-requires
is_answered_by-requires c =
    let buffer = c.args.buffer.now in
    let it = whole_as (is_message size_of buffer) (head_of buffer) (record { place = first_end (qmux_cut buffer).messages }) (sym c.unwrap.ensures ∙ c.in-Ok.is) in
    framed_long buffer (ap (λ (h : Head). h.framed) it.1 ∙ c.if-head.true)

pub returns-in-Err-clause-reply : goal.returns-in-Err-clause-reply
returns-in-Err-clause-reply c =
    let buffer = c.args.buffer.now in
    let ragged = ragged_as (is_message size_of buffer) (head_of buffer) (record { place = first_end (qmux_cut buffer).messages }) (sym c.unwrap.ensures ∙ c.in-Err.is) in
    sym (ap (λ (b : Bool). b && is_framed buffer && answers c.args.wanted buffer) ragged)

pub returns-then-head-clause-reply : goal.returns-then-head-clause-reply
returns-then-head-clause-reply c =
    let buffer = c.args.buffer.now in
    let it = whole_as (is_message size_of buffer) (head_of buffer) (record { place = first_end (qmux_cut buffer).messages }) (sym c.unwrap.ensures ∙ c.in-Ok.is) in
    let framed : is_framed buffer ≡ true = ap (λ (h : Head). h.framed) it.1 ∙ c.if-head.true in
    c.is_answered_by.ensures
    ∙ sym (ap (λ (b : Bool). b && is_framed buffer && answers c.args.wanted buffer) it.0 ∙ ap (λ (b : Bool). b && answers c.args.wanted buffer) framed)

pub returns-else-head-clause-reply : goal.returns-else-head-clause-reply
returns-else-head-clause-reply c =
    let buffer = c.args.buffer.now in
    let it = whole_as (is_message size_of buffer) (head_of buffer) (record { place = first_end (qmux_cut buffer).messages }) (sym c.unwrap.ensures ∙ c.in-Ok.is) in
    let framed : is_framed buffer ≡ false = ap (λ (h : Head). h.framed) it.1 ∙ c.if-head.false in
    c.if-head.false ∙ sym (ap (λ (b : Bool). b && is_framed buffer && answers c.args.wanted buffer) it.0 ∙ ap (λ (b : Bool). b && answers c.args.wanted buffer) framed)
