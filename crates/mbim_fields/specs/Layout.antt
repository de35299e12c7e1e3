-- How the fields of a structure stand in an MBIM information buffer.
-- Source: the tables of information buffers in the USB-IF MBIM specification 1.0.
use Rattle.std.specs.Prelude.{ℕ, List}

-- what always takes the same number of bytes
pub data Fixed : Type 0 where
  u32 : Fixed
  u64 : Fixed
  uuid : Fixed
  ipv4 : Fixed
  ipv6 : Fixed
  -- the length of a prefix, in 4 bytes, and then an address
  prefixed_ipv4 : Fixed
  prefixed_ipv6 : Fixed

mutual
  -- what stands in place itself, or is pointed at from there by a pair: its offset and its size, in 4 bytes each
  pub data Item : Type 0 where
    in_place : Fixed → Item
    -- in UTF-16
    text : Item
    binary : Item
    structure : Layout → Item

  -- how a field stands; a list has as many elements as the field says that has this place among the fields
  pub data Form : Type 0 where
    one : Item → Form
    -- one after another in place
    each : ℕ → Item → Form
    -- one after another from an offset on
    run : ℕ → Fixed → Form
    -- at an offset, or nowhere where it is 0
    perhaps : Fixed → Form

  -- the fields of a structure, each with its name, in the order in which they stand
  pub data Layout : Type 0 where
    no_fields : Layout
    field : List ℕ → Form → Layout → Layout

-- how many bytes it takes
abbrev pub size : Fixed → ℕ
size u32 = 4
size u64 = 8
size uuid = 16
size ipv4 = 4
size ipv6 = 16
size prefixed_ipv4 = 8
size prefixed_ipv6 = 20

-- how many bytes an item takes in place
abbrev pub width : Item → ℕ
width (in_place fixed) = size fixed
width text = 8
width binary = 8
width (structure layout) = 8
