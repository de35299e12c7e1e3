-- Examples of messages.
use Rattle.std.specs.Prelude.{◌≡◌, ℕ, true, false, List, [], ◌∷◌, ◌++◌, map, length, slice_index, codes, Some, None, Ok, Err, false, replicate}
use Rattle.kit_bytes.specs.Hex.{hex}
use Rattle.sms_pdu.specs.declared.pdu.Pdu.{Pdu}
use Rattle.sms_pdu.specs.declared.pdu.Body.TheVariants.{Written, Raw}
use Rattle.sms_pdu.specs.declared.pdu.PduFault.TheVariants.{Kind, Short}
use Rattle.sms_pdu.specs.declared.parts.SubmitFault.TheVariants.{Number}
use Rattle.sms_pdu.specs.declared.joined.Joined.{Joined}
use Rattle.sms_pdu.specs.Reading.{pdu}
use Rattle.sms_pdu.specs.Joining.{joined}
use Rattle.sms_pdu.specs.Parts.{messages, MakesMessages, parts}

-- ---- making ----

abbrev pub number : List ℕ
number = codes "+123"

pub record MessagesAreMade : Type 0 where
  pub hello : messages number (codes "hello") 0 ≡ hex (codes "00 01 00 03 91 21 F3 00 00 05 E8 32 9B FD 06") ∷ []
  pub euro : messages number (0x20AC ∷ []) 0 ≡ hex (codes "00 01 00 03 91 21 F3 00 00 02 9B 32") ∷ []
  pub letter : messages number (0x436 ∷ []) 0 ≡ hex (codes "00 01 00 03 91 21 F3 00 08 02 04 36") ∷ []
  pub refused : MakesMessages (codes "12x") (codes "hello") 0 (Err Number)

-- the length of user data, which stands behind the ten other octets
abbrev pub data_length : List ℕ → ℕ
data_length message = slice_index message 9

pub record LongTextsAreSplit : Type 0 where
  pub whole : map length (parts (replicate 160 0x61)) ≡ 160 ∷ []
  pub two : map length (parts (replicate 161 0x61)) ≡ 153 ∷ 8 ∷ []
  pub lengths : map data_length (messages number (replicate 161 0x61) 0) ≡ 0xA0 ∷ 0x0F ∷ []
  pub not_cut : map length (parts (replicate 152 0x61 ++ 0x20AC ∷ replicate 10 0x61)) ≡ 152 ∷ 11 ∷ []
  pub units : map length (parts (replicate 70 0x436)) ≡ 70 ∷ []
  pub more_units : map length (parts (replicate 71 0x436)) ≡ 67 ∷ 4 ∷ []
  pub pair_not_cut : map length (parts (replicate 66 0x436 ++ 0x1F600 ∷ replicate 10 0x436)) ≡ 66 ∷ 11 ∷ []
  pub empty : parts [] ≡ [] ∷ []

-- ---- reading ----

abbrev pub received : List ℕ
received = hex (codes "00 04 03 91 21 F3 00 00 42 10 20 30 40 50 00 02 C8 34")

abbrev pub hi : Pdu
hi = record { deliver = true; address = number; time = codes "24-01-02 03:04:05 +00"; part = None; body = Written (codes "Hi") }

pub record MessagesAreRead : Type 0 where
  pub text : pdu received ≡ Ok hi
  pub cut_off : pdu (hex (codes "00 04 03 91 21 F3 00 00 42 10 20 30 40 50 00 02 C8")) ≡ Err (Short 16)
  pub other_kind : pdu (hex (codes "00 02")) ≡ Err Kind
  pub class : pdu (hex (codes "00 04 03 91 21 F3 00 F0 42 10 20 30 40 50 00 02 C8 34")) ≡ Ok hi
  pub octets : pdu (hex (codes "00 04 03 91 21 F3 00 F4 42 10 20 30 40 50 00 02 C8 34")) ≡ Ok (record hi { body = Raw (hex (codes "C8 34")) })
  pub nothing : pdu [] ≡ Err (Short 0)

-- ---- joining ----

abbrev pub one_part : (text : List ℕ) → Pdu
one_part text = record { deliver = true; address = number; time = []; part = None; body = Written text }

-- a part of two, with this reference
abbrev pub part_of_two : (reference place : ℕ) (text : List ℕ) → Pdu
part_of_two reference place text = record (one_part text) { part = Some (record { reference = reference; wide = false; total = 2; place = place }) }

abbrev pub whole_message : (text : List ℕ) → Joined
whole_message text = record { address = number; text = text }

pub record PartsAreJoined : Type 0 where
  pub nothing : joined [] ≡ []
  pub alone : joined (one_part (codes "Hi") ∷ one_part (codes "Hi") ∷ []) ≡ whole_message (codes "Hi") ∷ whole_message (codes "Hi") ∷ []
  pub any_order : joined (part_of_two 7 2 (codes "lo") ∷ part_of_two 7 1 (codes "Hel") ∷ []) ≡ whole_message (codes "Hello") ∷ []
  pub twice : joined (part_of_two 7 1 (codes "Hel") ∷ part_of_two 7 2 (codes "lo") ∷ part_of_two 7 2 (codes "p!") ∷ []) ≡ whole_message (codes "Hello") ∷ []
  pub missing : joined (part_of_two 7 1 (codes "Hel") ∷ part_of_two 8 2 (codes "lo") ∷ []) ≡ []
  pub first_members :
      joined (part_of_two 7 2 (codes "lo") ∷ one_part (codes "Hi") ∷ part_of_two 8 1 (codes "Go") ∷ part_of_two 8 2 (codes "od") ∷ part_of_two 7 1 (codes "Hel") ∷ [])
      ≡ whole_message (codes "Hello") ∷ whole_message (codes "Hi") ∷ whole_message (codes "Good") ∷ []
  pub other_width : joined (part_of_two 7 1 (codes "Hel") ∷ record (part_of_two 7 2 (codes "lo")) { part = Some (record { reference = 7; wide = true; total = 2; place = 2 }) } ∷ []) ≡ []
  pub other_address : joined (part_of_two 7 1 (codes "Hel") ∷ record (part_of_two 7 2 (codes "lo")) { address = codes "123" } ∷ []) ≡ []
  pub octets : joined (part_of_two 7 1 (codes "Hel") ∷ record (part_of_two 7 2 []) { body = Raw (1 ∷ []) } ∷ record (one_part []) { body = Raw (2 ∷ []) } ∷ []) ≡ []
