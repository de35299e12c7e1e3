use Rattle.std.proofs.Common.{◌≡◌, sym, ◌∙◌, ⊎_elim}
use Rattle.framing.specs.declared.framing.Size.TheVariants.{Invalid, Unknown}
use Rattle.qmi_tunnel.proofs.Buffers.{unwrapped-invalid, unwrapped-unknown}
use Rattle.qmi_tunnel.proofs.unwrapping.unwrap.Goals as goal

pub returns-in-Unknown : goal.returns-in-Unknown
returns-in-Unknown c =
    ⊎_elim (λ (is : c.size.result ≡ Unknown). sym (unwrapped-unknown c.args.buffer.now (sym c.size.ensures ∙ is))) (λ (is : c.size.result ≡ Invalid). sym (unwrapped-invalid c.args.buffer.now (sym c.size.ensures ∙ is))) c.in-Unknown.is
