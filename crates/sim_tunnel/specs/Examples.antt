-- Worked examples of answers, byte for byte. Past messages have the newest first.
use Rattle.std.specs.Prelude.{◌≡◌, ℕ, List, [], ◌∷◌, codes}
use Rattle.kit_bytes.specs.Hex.{hex}
use Rattle.modem_profile.specs.Profile.{default_profile}
use Rattle.sim_modem.specs.Sim.{answers}
use Rattle.sim_tunnel.specs.Carrying.{machine}

-- number 1: for messages of at most 4,096 bytes
abbrev pub open_1 : List ℕ
open_1 = hex (codes "01 00 00 00 10 00 00 00 01 00 00 00 00 10 00 00")

-- number 2: a request for the versions of the services
abbrev pub versions_2 : List ℕ
versions_2 = hex (codes "03 00 00 00 3C 00 00 00 02 00 00 00 01 00 00 00 00 00 00 00 D1 A3 0B C2 F9 7A 6E 43 BF 65 C7 E2 4F B0 F0 D3 01 00 00 00 01 00 00 00 0C 00 00 00 01 0B 00 00 00 00 00 01 21 00 00 00")

abbrev pub told_2 : List ℕ
told_2 = hex (codes "03 00 00 80 60 00 00 00 02 00 00 00 01 00 00 00 00 00 00 00 D1 A3 0B C2 F9 7A 6E 43 BF 65 C7 E2 4F B0 F0 D3 01 00 00 00 00 00 00 00 30 00 00 00 01 2F 00 80 00 00 01 01 21 00 24 00 02 04 00 00 00 00 00 01 1A 00 05 00 01 00 00 00 01 01 00 00 00 02 01 00 00 00 03 01 00 00 00 05 01 00 00 00")

-- it isn't open
abbrev pub refused_2 : List ℕ
refused_2 = hex (codes "04 00 00 80 10 00 00 00 02 00 00 00 05 00 00 00")

-- number 3: the same without its last byte
abbrev pub short_3 : List ℕ
short_3 = hex (codes "03 00 00 00 3B 00 00 00 03 00 00 00 01 00 00 00 00 00 00 00 D1 A3 0B C2 F9 7A 6E 43 BF 65 C7 E2 4F B0 F0 D3 01 00 00 00 01 00 00 00 0B 00 00 00 01 0B 00 00 00 00 00 01 21 00 00")

abbrev pub ragged_3 : List ℕ
ragged_3 = hex (codes "03 00 00 80 30 00 00 00 03 00 00 00 01 00 00 00 00 00 00 00 D1 A3 0B C2 F9 7A 6E 43 BF 65 C7 E2 4F B0 F0 D3 01 00 00 00 15 00 00 00 00 00 00 00")

-- number 4: a query, which carries nothing
abbrev pub query_4 : List ℕ
query_4 = hex (codes "03 00 00 00 3C 00 00 00 04 00 00 00 01 00 00 00 00 00 00 00 D1 A3 0B C2 F9 7A 6E 43 BF 65 C7 E2 4F B0 F0 D3 01 00 00 00 00 00 00 00 0C 00 00 00 01 0B 00 00 00 00 00 01 21 00 00 00")

abbrev pub unknown_4 : List ℕ
unknown_4 = hex (codes "03 00 00 80 30 00 00 00 04 00 00 00 01 00 00 00 00 00 00 00 D1 A3 0B C2 F9 7A 6E 43 BF 65 C7 E2 4F B0 F0 D3 01 00 00 00 09 00 00 00 00 00 00 00")

abbrev pub Answers : List (List ℕ) → (message answer : List ℕ) → Type 0
Answers past message answer = answers (machine default_profile) past message ≡ answer

pub record RequestsAreCarried : Type 0 where
  pub versions : Answers (open_1 ∷ []) versions_2 told_2
  pub before : Answers [] versions_2 refused_2
  pub ragged : Answers (open_1 ∷ []) short_3 ragged_3
  pub query : Answers (open_1 ∷ []) query_4 unknown_4
