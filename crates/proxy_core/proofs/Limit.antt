-- How many connections there may be at most stays the same over a piece of a client's stream.
use Rattle.std.proofs.Common.{◌≡◌, ℕ, Bool, true, false, List, refl, Option, Some, None}
use Rattle.connections.specs.Table.{Connection, Table, connection_in}
use Rattle.connections.specs.Hearing.{Hearing, Hearer, hearing_of, goes_on, brings_if, brings_to, brings}
use Rattle.proxy_history.specs.Streams.{Framing}

pub brought_limit : {T S : Type 0} (size : Framing) (hears : Hearer T S) (c : ℕ) (piece : List ℕ) (t : Table T) (side : S) → (brings size hears c piece t side).table.limit ≡ t.limit
brought_limit {T} {S} size hears c piece t side = of (connection_in c t.present)
  where
    by : (h : Hearing T S) (goes : Bool) → (brings_if size goes c h piece t).table.limit ≡ t.limit
    by h true = refl
    by h false = refl

    of : (o : Option (Connection T)) → (brings_to size hears o c piece t side).table.limit ≡ t.limit
    of None = refl
    of (Some k) = let h : Hearing T S = hearing_of size hears piece k side in by h (goes_on size h piece k)
