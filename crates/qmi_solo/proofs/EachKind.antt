-- Each kind of message of the modem by itself.
use Rattle.std.proofs.Common.{Option, Some, None}
use Rattle.qmux_frame.specs.declared.kind.MessageKind.{MessageKind}
use Rattle.qmux_frame.specs.declared.kind.MessageKind.TheVariants as kind

-- what holds of a response, of an indication, of a request and of what isn't framed, holds of each
pub by_kind : (P : Option MessageKind → Type 0) → P (Some kind.Response) → P (Some kind.Indication) → P (Some kind.Request) → P None → (heard : Option MessageKind) → P heard
by_kind P response indication request unframed (Some kind.Response) = response
by_kind P response indication request unframed (Some kind.Indication) = indication
by_kind P response indication request unframed (Some kind.Request) = request
by_kind P response indication request unframed None = unframed
