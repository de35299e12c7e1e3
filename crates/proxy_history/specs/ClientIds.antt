-- Which connection holds which client id of the modem's services. A list of facts has the newest first; the grants are in their order.
use Rattle.std.specs.Prelude.{ℕ, Bool, false, not, ◌&&◌, ◌||◌, ◌==◌, if◌then◌else◌, List, [], ◌∷◌, ◌++◌, filter, map, Option, Some, None}
use Rattle.proxy_history.specs.Facts.{Fact, Ended, Granted, Freed, Reset, ModemLost}
use Rattle.proxy_history.specs.Modem.{now}

pub record Grant : Type 0 where
  pub conn : ℕ
  pub service : ℕ
  pub cid : ℕ

abbrev pub is_of : ℕ → ℕ → Grant → Bool
is_of service cid grant = grant.service == service && (grant.cid == cid)

-- the client ids that are held, each once
unfoldable pub held : List Fact → List Grant
held [] = []
held (Granted c service cid ∷ past) =
    filter (λ g. not (is_of service cid g)) (held past) ++ record { conn = c; service = service; cid = cid } ∷ []
held (Freed c service cid ∷ past) = filter (λ g. not (is_of service cid g && (c == g.conn))) (held past)
held (Ended c why ∷ past) = filter (λ g. not (c == g.conn)) (held past)
held (Reset ∷ past) = []
held (ModemLost ∷ past) = []
held (_ ∷ past) = held past

-- an id whose holder went, and when that was, in milliseconds
pub record KeptId : Type 0 where
  pub service : ℕ
  pub cid : ℕ
  pub since : ℕ

abbrev pub kept_since : ℕ → List Grant → List KeptId
kept_since time grants = map (λ g. record { service = g.service; cid = g.cid; since = time }) grants

-- the ids whose holders went, and that nobody was granted since
unfoldable pub kept : List Fact → List KeptId
kept [] = []
kept (Ended c why ∷ past) = kept past ++ kept_since (now past) (filter (λ g. c == g.conn) (held past))
kept (Granted c service cid ∷ past) = filter (λ k. not (k.service == service && (k.cid == cid))) (kept past)
kept (Reset ∷ past) = []
kept (ModemLost ∷ past) = []
kept (_ ∷ past) = kept past

abbrev pub holder_in : ℕ → ℕ → List Grant → Option ℕ
holder_in service cid [] = None
holder_in service cid (grant ∷ grants) = if is_of service cid grant then Some grant.conn else holder_in service cid grants

-- the connection that holds the id
abbrev pub holder : ℕ → ℕ → List Fact → Option ℕ
holder service cid past = holder_in service cid (held past)

-- somebody else holds it
abbrev pub is_other : ℕ → Option ℕ → Bool
is_other c None = false
is_other c (Some d) = not (d == c)

abbrev pub is_holder : ℕ → Option ℕ → Bool
is_holder c None = false
is_holder c (Some d) = d == c

-- the connection holds some id of the service
abbrev pub holds_some : ℕ → ℕ → List Grant → Bool
holds_some c service [] = false
holds_some c service (grant ∷ grants) = (grant.conn == c && (grant.service == service)) || holds_some c service grants
