-- Examples of messages of a client that are out of form.
use Rattle.std.specs.Prelude.{◌≡◌, ℕ, List, [], ◌∷◌, ◌++◌, reverse, codes}
use Rattle.kit_bytes.specs.Hex.{hex}
use Rattle.proxy_history.specs.Events.{Event, Joined, Piece}
use Rattle.proxy_examples.specs.Story.{opened, get_version, version_internal, bytes_for, to_modem}
use Rattle.proxy_examples.specs.Verdicts.{after_opening}

-- ---- a Proxy Open ----

-- one whose flags say that it is a response, and one without its TLV
abbrev pub open_flagged : List ℕ
open_flagged = hex (codes "01 1B 00 00 00 00 01 01 00 FF 10 00 01 0D 00 2F 64 65 76 2F 63 64 63 2D 77 64 6D 30")

abbrev pub open_without : List ℕ
open_without = hex (codes "01 0B 00 00 00 00 00 01 00 FF 00 00")

abbrev pub open_malformed : List ℕ
open_malformed = hex (codes "01 12 00 80 00 00 01 01 00 FF 07 00 02 04 00 01 00 01 00")

-- a request behind it
abbrev pub opens_by : List ℕ → List Event
opens_by message = reverse (Joined 1 ∷ Piece 1 message ∷ Piece 1 get_version ∷ [])

-- error 1, and the client isn't open: its request gets error 3
pub record MalformedOpensNothing : Type 0 where
  pub flagged : bytes_for 1 (opens_by open_flagged) ≡ open_malformed ++ version_internal
  pub flagged_modem : to_modem (opens_by open_flagged) ≡ []
  pub without : bytes_for 1 (opens_by open_without) ≡ open_malformed ++ version_internal
  pub without_modem : to_modem (opens_by open_without) ≡ []

-- ---- a head ----

-- a message of service 0 with client id 1, and one whose TLV length is a byte short: error 1
abbrev pub version_of_1 : List ℕ
version_of_1 = hex (codes "01 0B 00 00 00 01 00 01 21 00 00 00")

abbrev pub version_and_a_byte : List ℕ
version_and_a_byte = hex (codes "01 0C 00 00 00 00 00 01 21 00 00 00 00")

pub record HeadOutOfForm : Type 0 where
  pub client : bytes_for 1 (after_opening version_of_1) ≡ opened ++ hex (codes "01 12 00 80 00 01 01 01 21 00 07 00 02 04 00 01 00 01 00")
  pub client_modem : to_modem (after_opening version_of_1) ≡ []
  pub length : bytes_for 1 (after_opening version_and_a_byte) ≡ opened ++ hex (codes "01 12 00 80 00 00 01 01 21 00 07 00 02 04 00 01 00 01 00")
  pub length_modem : to_modem (after_opening version_and_a_byte) ≡ []

-- ---- a Release ----

-- one whose TLV has one byte, and one whose TLV has three: error 1; one that names service 0: error 7
abbrev pub release_short : List ℕ
release_short = hex (codes "01 0F 00 00 00 00 00 01 23 00 04 00 01 01 00 02")

abbrev pub release_long : List ℕ
release_long = hex (codes "01 11 00 00 00 00 00 01 23 00 06 00 01 03 00 02 05 00")

abbrev pub release_control : List ℕ
release_control = hex (codes "01 10 00 00 00 00 00 01 23 00 05 00 01 02 00 00 05")

pub record ReleaseOutOfForm : Type 0 where
  pub short : bytes_for 1 (after_opening release_short) ≡ opened ++ hex (codes "01 12 00 80 00 00 01 01 23 00 07 00 02 04 00 01 00 01 00")
  pub long : bytes_for 1 (after_opening release_long) ≡ opened ++ hex (codes "01 12 00 80 00 00 01 01 23 00 07 00 02 04 00 01 00 01 00")
  pub control : bytes_for 1 (after_opening release_control) ≡ opened ++ hex (codes "01 12 00 80 00 00 01 01 23 00 07 00 02 04 00 01 00 07 00")
