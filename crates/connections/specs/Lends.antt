-- What a connection, and the table, end as where a `&mut` to what the protocol keeps of a client is returned.
use Rattle.std.specs.Prelude.{ℕ}
use Rattle.std.specs.Borrow.{Lends, Fml, RattleType, MutBor}
use Rattle.framing.specs.declared.framing.Framing.{Ghosts}
use Rattle.connections.specs.Table.{Connection, Table, with_client, with_client_at}
use Rattle.connections.specs.contracts.connection.Connection as connection
use Rattle.connections.specs.contracts.connections.Connections as connections

module _ (F T : RattleType) (framing : Ghosts F.Denot) where
  -- once the borrow ends, the client is what was last written through it
  abbrev pub lends_client : MutBor (Connection T.Denot) → MutBor T.Denot → Fml
  lends_client s r = Lends (connection.the_row F T framing) T s r (λ client. with_client client s.now)

  abbrev pub lends_client_at : MutBor (Table T.Denot) → ℕ → MutBor T.Denot → Fml
  lends_client_at s place r = Lends (connections.the_row F T framing) T s r (λ client. with_client_at place client s.now)
