use Rattle.std.proofs.Common.{sym, arith}
use Rattle.qmi_tunnel.proofs.Buffers.{unwrapped-longer, unwrapped-short}
use Rattle.qmi_tunnel.proofs.unwrapping.unwrap_sized.Goals as goal

pub returns-then-count-buffer-2 : goal.returns-then-count-buffer-2
returns-then-count-buffer-2 c = sym (unwrapped-longer c.args.buffer.now c.requires c.if-count-buffer-2.true)

pub returns-else-count-buffer-2 : goal.returns-else-count-buffer-2
returns-else-count-buffer-2 c =
    let more = c.if-count-buffer-2.false in
    let differs = c.if-count-buffer.false in sym (unwrapped-short c.args.buffer.now c.requires (omega (arith, more, differs)))
