-- What a client's message asks for.
use Rattle.std.specs.Prelude.{ℕ, Bool, true, false, not, ◌==◌, nat_lt, List, length, if◌then◌else◌}
use Rattle.mbim_frame.specs.declared.kind.MessageKind.TheVariants as kind
use Rattle.mbim_frame.specs.declared.error.TheConstants.{LENGTH_MISMATCH, UNKNOWN_KIND}
use Rattle.mbim_frame.specs.Numbers.{u32_at}
use Rattle.mbim_frame.specs.Head.{is_kind}
use Rattle.mbim_clients.specs.declared.request.Request.{Request}
use Rattle.mbim_clients.specs.declared.request.Request.TheVariants.{HostError, Open, Close, Command, Wrong}

-- by its kind and its length
abbrev pub request_of : (message : List ℕ) → Request
request_of m =
    if is_kind kind.HostError m then HostError
    else if is_kind kind.Open m then (if length m == 16 then Open (u32_at m 12) else Wrong LENGTH_MISMATCH)
    else if is_kind kind.Close m then (if length m == 12 then Close else Wrong LENGTH_MISMATCH)
    else if not (is_kind kind.Command m) then Wrong UNKNOWN_KIND
    else if nat_lt (length m) 20 then Wrong LENGTH_MISMATCH
    else Command

-- it opens the modem, and it carries a part of a command
abbrev pub opens : Request → Bool
opens (Open length) = true
opens _ = false

abbrev pub carries : Request → Bool
carries Command = true
carries _ = false
