-- Bytes in JSON: the UTF-8 of a text, or hexadecimal digits.
use Rattle.std.specs.Prelude.{ℕ, ◌==◌, List, Option, Some, None, option_and_then, codes, if◌then◌else◌}
use Rattle.std.specs.Result.{result_ok}
use Rattle.hex.specs.Hex.{decode_of}
use Rattle.serde_json.specs.Data.{Data, Members}
use Rattle.serde_json.specs.Events.{members_len}
use Rattle.serde_json.specs.Find.{get, as_str, as_object}

-- the bytes of an even number of hexadecimal digits in either case
unfoldable pub digits_in : Data → Option (List ℕ)
digits_in json = option_and_then (λ digits. result_ok (decode_of digits)) (as_str json)

abbrev pub alone : Option Members → Option Data → Option Data
alone (Some members) (Some json) = if members_len members == 1 then Some json else None
alone _ _ = None

-- the bytes that an object gives as hexadecimal digits in `hex`, its only member
unfoldable pub hex_in : Data → Option (List ℕ)
hex_in json = option_and_then digits_in (alone (as_object json) (get (codes "hex") json))

abbrev pub octets_by : Option (List ℕ) → Option (List ℕ) → Option (List ℕ)
octets_by (Some text) hex = Some text
octets_by None hex = hex

-- the bytes of a text: those of a JSON text, or any bytes by their digits
unfoldable pub octets_in : Data → Option (List ℕ)
octets_in json = octets_by (as_str json) (hex_in json)
