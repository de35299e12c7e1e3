-- Messages with their places, in the order of their groups.
use Rattle.std.specs.Prelude.{◌≡◌, ℕ, nat_lt, Bool, false, List, [], ◌∷◌, map, filter}
use Rattle.std.specs.declared.cmp.Ordering.{Ordering}
use Rattle.std.specs.Ordering.{bool_cmp, is_lt, nat_cmp, ordering_then}
use Rattle.std.specs.Cmp.Lexicographic.{slice_cmp}
use Rattle.std.specs.Option.{option_cmp}
use Rattle.std.specs.Str.{encode_utf8_all}
use Rattle.sms_pdu.specs.declared.pdu.Pdu.{Pdu}
use Rattle.sms_pdu.specs.declared.pdu.Part.{Part}
use Rattle.sms_pdu.specs.declared.entries.Entry.{Entry}
use Rattle.sms_pdu.specs.Joining.{same_group}

-- ---- the order ----

-- by reference, by its width, and by total
abbrev pub part_order : Part → Part → Ordering
part_order one other =
    ordering_then (ordering_then (nat_cmp one.reference other.reference) (bool_cmp one.wide other.wide)) (nat_cmp one.total other.total)

-- by their parts, and then by their addresses
abbrev pub group_order : Pdu → Pdu → Ordering
group_order one other =
    ordering_then (option_cmp part_order one.part other.part) (slice_cmp nat_cmp (encode_utf8_all one.address) (encode_utf8_all other.address))

abbrev pub before : Entry → Entry → Bool
before one other = is_lt (group_order one.pdu.now other.pdu.now)

-- ---- entries ----

abbrev pub placed : Entry → ℕ × Pdu
placed entry = (entry.index, entry.pdu.now)

abbrev pub pdus_of : List Entry → List Pdu
pdus_of entries = map (λ entry. entry.pdu.now) entries

-- of the group of a message
abbrev pub is_of : Pdu → Entry → Bool
is_of pdu entry = same_group pdu entry.pdu.now

-- each group has the same messages, in the same order
abbrev pub KeepsGroups : (old new : List Entry) → Type 0
KeepsGroups old new = (pdu : Pdu) → filter (is_of pdu) new ≡ filter (is_of pdu) old

-- the first of these stands before a place
abbrev pub begins_before : (index : ℕ) (run : List (ℕ × Pdu)) → Bool
begins_before index [] = false
begins_before index (one ∷ run) = nat_lt one.0 index
