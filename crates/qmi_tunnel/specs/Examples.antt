-- Worked examples, byte for byte.
use Rattle.std.specs.Prelude.{◌≡◌, ℕ, true, false, List, [], ◌∷◌, ◌++◌, codes, Ok, Err}
use Rattle.kit_bytes.specs.Hex.{hex}
use Rattle.qmi_tunnel.specs.Tunnel.{unwrapped, wrapped}

-- a request for the versions of the services
abbrev pub versions : List ℕ
versions = hex (codes "01 0B 00 00 00 00 00 01 21 00 00 00")

pub record MessagesAreWrapped : Type 0 where
  pub versions_are : wrapped versions ≡ record { uuid = hex (codes "D1 A3 0B C2 F9 7A 6E 43 BF 65 C7 E2 4F B0 F0 D3"); cid = 1; set = true; buffer = versions }

pub record BuffersAreUnwrapped : Type 0 where
  pub one : unwrapped versions ≡ Ok (record { service = 0; cid = 0; flags = 0; number = 1; message = 0x21; framed = true })
  pub more : unwrapped (versions ++ 1 ∷ []) ≡ Err (record { place = 12 })
  pub two : unwrapped (versions ++ versions) ≡ Err (record { place = 12 })
  pub none : unwrapped [] ≡ Err (record { place = 0 })
  pub part : unwrapped (hex (codes "01 0B 00 00 00 00 00 01 21 00 00")) ≡ Err (record { place = 0 })
  pub other : unwrapped (hex (codes "02 0B 00 00 00 00 00 01 21 00 00 00")) ≡ Err (record { place = 0 })
  -- its TLVs aren't as long as its head says, but it is whole
  pub unframed : unwrapped (hex (codes "01 0B 00 00 00 00 00 01 21 00 01 00")) ≡ Ok (record { service = 0; cid = 0; flags = 0; number = 1; message = 0x21; framed = false })
