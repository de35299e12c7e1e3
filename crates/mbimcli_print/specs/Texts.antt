-- The texts of UUIDs and of addresses.
use Rattle.std.specs.Prelude.{ℕ, List, [], ◌∷◌, ◌++◌, codes}
use Rattle.uuid.specs.Text.{hyphenated_text, lower}
use Rattle.print_text.specs.Texts.{lower_hex_pair, ipv4_text}
use Rattle.mbimcli_print.specs.declared.texts.Family.{Family}
use Rattle.mbimcli_print.specs.declared.texts.Family.TheVariants.{Ipv4, Ipv6}

-- the bytes of a UUID with hyphens, in lower case
unfoldable pub uuid_text : List ℕ → List ℕ
uuid_text bytes = hyphenated_text lower bytes

-- two bytes as a group of four hexadecimal digits
abbrev pub group : ℕ → ℕ → List ℕ
group high low = lower_hex_pair high ++ lower_hex_pair low

-- bytes in groups, with a colon in front of each
abbrev pub groups : List ℕ → List ℕ
groups (high ∷ low ∷ bytes) = codes ":" ++ group high low ++ groups bytes
groups _ = []

-- the bytes of an IPv6 address in groups, with colons between
abbrev pub ipv6_text : List ℕ → List ℕ
ipv6_text (high ∷ low ∷ bytes) = group high low ++ groups bytes
ipv6_text _ = []

abbrev pub address_text : Family → List ℕ → List ℕ
address_text Ipv4 bytes = ipv4_text bytes
address_text Ipv6 bytes = ipv6_text bytes
