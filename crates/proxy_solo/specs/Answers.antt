-- The modem's answers to a client's own requests, under the numbers that these have where the client is alone.
use Rattle.std.specs.Prelude.{ℕ, ◌&&◌, ◌==◌, if◌then◌else◌, List, [], ◌∷◌, Option, Some, None}
use Rattle.proxy_history.specs.Facts.{Request}

-- the number that the client's request from this place has
abbrev pub number_at : (conn place : ℕ) → List Request → Option ℕ
number_at c place [] = None
number_at c place (r ∷ requests) = if r.conn == c && (r.place == place) then Some r.number else number_at c place requests

-- `with_number` puts a number into a message in place of its own
abbrev pub numbered : (with_number : ℕ → List ℕ → List ℕ) → Option ℕ → List ℕ → Option (List ℕ)
numbered with_number None m = None
numbered with_number (Some number) m = Some (with_number number m)

-- an answer to the request that it was found for, where that is the client's: under the number that it has among the client's requests
abbrev pub answer_alone : (with_number : ℕ → List ℕ → List ℕ) → ℕ → Option Request → List ℕ → List Request → Option (List ℕ)
answer_alone with_number c None m requests = None
answer_alone with_number c (Some r) m requests = if r.conn == c then numbered with_number (number_at c r.place requests) m else None
