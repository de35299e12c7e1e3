-- Laws of short messages.
use Rattle.std.specs.Prelude.{◌≡◌, ℕ, ◌<◌, ◌≤◌, List, [], ◌∷◌, length, map, Ok, IsTrue}
use Rattle.std.specs.List.Sorted.{IsPermutation}
use Rattle.std.specs.Str.{all_scalars}
use Rattle.sms_pdu.specs.declared.pdu.Pdu.{Pdu}
use Rattle.sms_pdu.specs.Reading.{pdu}
use Rattle.sms_pdu.specs.Parts.{is_number, parts, messages}
use Rattle.sms_pdu.specs.Joining.{joined}

-- each of these bodies is read, and joined in any order what is read of them gives this text alone, under this number
abbrev pub ComeBack : (number text : List ℕ) (pdus : List (List ℕ)) → Type 0
ComeBack number text pdus =
    (read : List Pdu) × (map pdu pdus ≡ map (λ one. Ok one) read) × ((order : List Pdu) → IsPermutation read order → joined order ≡ record { address = number; text = text } ∷ [])

-- the messages of a text come back as this text
abbrev pub TextComesBack : Type 0
TextComesBack =
    (number text : List ℕ) (reference : ℕ) → IsTrue (is_number number) → IsTrue (all_scalars text) → length (parts text) ≤ 255 → reference < 256 → ComeBack number text (messages number text reference)
