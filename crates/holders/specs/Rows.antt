-- The rows in which ids are kept: of one that is kept the time stands where a grant has its connection.
use Rattle.std.specs.Prelude.{ℕ, ◌-◌, Bool, nat_le, List, [], ◌∷◌}
use Rattle.proxy_history.specs.ClientIds.{Grant, KeptId}
use Rattle.holders.specs.Grants.{granted}

abbrev pub kept_of : Grant → KeptId
kept_of g = record { service = g.service; cid = g.cid; since = g.conn }

abbrev pub id_of : Grant → ℕ × ℕ
id_of g = (g.service, g.cid)

abbrev pub is_old : (after time : ℕ) → Grant → Bool
is_old after time g = nat_le after (time - g.conn)

-- each of these ids has the number
abbrev pub all_granted : ℕ → List Grant → List Grant → List Grant
all_granted number [] rows = rows
all_granted number (g ∷ grants) rows = all_granted number grants (granted number g.service g.cid rows)
