-- The whole messages among some that may be parts.
-- Source: 3GPP TS 23.040, sections 9.2.3.24.1 and 9.2.3.24.8.
use Rattle.std.specs.Prelude.{ℕ, zero, suc, ◌==◌, bytes_eq, Bool, false, not, ◌&&◌, List, [], ◌∷◌, ◌++◌, filter, Option, Some, None, find, option_and_then, option_map}
use Rattle.std.specs.Bool.{beq}
use Rattle.std.specs.List.{filter_map, list_any}
use Rattle.sms_pdu.specs.declared.pdu.Pdu.{Pdu}
use Rattle.sms_pdu.specs.declared.pdu.Part.{Part}
use Rattle.sms_pdu.specs.declared.pdu.Body.{Body}
use Rattle.sms_pdu.specs.declared.pdu.Body.TheVariants.{Written, Raw}
use Rattle.sms_pdu.specs.declared.joined.Joined.{Joined}

-- ---- which parts belong together ----

-- their references, the widths of these, and their totals are equal
abbrev pub same_message : Part → Part → Bool
same_message one other = one.reference == other.reference && beq one.wide other.wide && one.total == other.total

abbrev pub same_parts : Option Part → Option Part → Bool
same_parts None other = false
same_parts (Some one) None = false
same_parts (Some one) (Some other) = same_message one other

-- parts of one message: their addresses are equal too
abbrev pub same_group : Pdu → Pdu → Bool
same_group one other = same_parts one.part other.part && bytes_eq one.address other.address

-- one of these is of the group of a message
abbrev pub has_group : (before : List Pdu) → Pdu → Bool
has_group before pdu = list_any (λ other. same_group other pdu) before

-- the messages without those that are of a group of one before them
abbrev pub firsts : List Pdu → List Pdu
firsts [] = []
firsts (pdu ∷ list) = pdu ∷ filter (λ other. not (same_group pdu other)) (firsts list)

-- ---- the text of a group ----

-- the text of a body that is one
abbrev pub written : Body → Option (List ℕ)
written (Written text) = Some text
written (Raw octets) = None

abbrev pub part_is_at : (place : ℕ) → Option Part → Bool
part_is_at place None = false
part_is_at place (Some part) = part.place == place

-- of the group of this message, at this place
abbrev pub is_at : Pdu → (place : ℕ) → Pdu → Bool
is_at pdu place other = same_group pdu other && part_is_at place other.part

-- what the first at a place says, if there is one and its body is a text
abbrev pub text_at : (list : List Pdu) → Pdu → (place : ℕ) → Option (List ℕ)
text_at list pdu place = option_and_then (λ other. written other.body) (find (is_at pdu place) list)

abbrev pub append_texts : (before behind : Option (List ℕ)) → Option (List ℕ)
append_texts None behind = None
append_texts (Some before) None = None
append_texts (Some before) (Some behind) = Some (before ++ behind)

-- what the places from 1 on say, up to this one, if all have a text
abbrev pub text_up_to : (list : List Pdu) → Pdu → (place : ℕ) → Option (List ℕ)
text_up_to list pdu zero = Some []
text_up_to list pdu (suc place) = append_texts (text_up_to list pdu place) (text_at list pdu (suc place))

-- ---- whole messages ----

-- of its whole group, or of itself if it is no part
abbrev pub whole_text : (list : List Pdu) → Pdu → Option (List ℕ)
whole_text list pdu = by pdu.part
  where
    by : Option Part → Option (List ℕ)
    by None = written pdu.body
    by (Some part) = text_up_to list pdu part.total

abbrev pub whole : (list : List Pdu) → Pdu → Option Joined
whole list pdu = option_map (λ text. record { address = pdu.address; text = text }) (whole_text list pdu)

-- in the order of each one's first part
abbrev pub joined : (list : List Pdu) → List Joined
joined list = filter_map (whole list) (firsts list)
