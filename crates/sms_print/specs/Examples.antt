-- Examples of printed messages.
use Rattle.std.specs.Prelude.{◌≡◌, [], ◌∷◌, codes}
use Rattle.kit_bytes.specs.Hex.{hex}
use Rattle.sms_pdu.specs.Parts.{messages}
use Rattle.sms_print.specs.Printed.{all_text, hex_lines, message_text}

pub record MessagesArePrinted : Type 0 where
  pub received : message_text (hex (codes "00 04 03 91 21 F3 00 00 42 10 20 30 40 50 00 02 C8 34")) ≡ codes "Sender: +123\nTime: 24-01-02 03:04:05 +00\nText: Hi\n"
  pub sent : message_text (hex (codes "00 01 00 03 91 21 F3 00 00 02 C8 34")) ≡ codes "Sender: +123\nText: Hi\n"
  pub octets : message_text (hex (codes "00 04 03 91 21 F3 00 F4 42 10 20 30 40 50 00 02 C8 34")) ≡ codes "Sender: +123\nTime: 24-01-02 03:04:05 +00\nData: C834\n"
  -- the letter ж and a line feed
  pub escaped : message_text (hex (codes "00 01 00 03 91 21 F3 00 08 04 04 36 00 0A")) ≡ codes "Sender: +123\nText: \\u{436}\\u{a}\n"
  pub part : message_text (hex (codes "00 41 00 03 91 21 F3 00 00 09 05 00 03 07 02 01 90 69")) ≡ codes "Sender: +123\nPart: 1 of 2, reference 7\nText: Hi\n"
  pub kind : message_text (hex (codes "00 02")) ≡ codes "PDU: kind\n"
  pub short : message_text (hex (codes "00 04 03 91 21 F3 00 00 42 10 20 30 40 50 00 02 C8")) ≡ codes "PDU: short at 16\n"

pub record AllArePrinted : Type 0 where
  pub none : all_text [] ≡ codes "Joined: 0\n"
  -- both parts, the last one first, and a message that isn't read
  pub joined :
      all_text (hex (codes "00 41 00 03 91 21 F3 00 00 09 05 00 03 07 02 02 90 69") ∷ hex (codes "00 02") ∷ hex (codes "00 41 00 03 91 21 F3 00 00 09 05 00 03 07 02 01 90 69") ∷ [])
      ≡ codes "Sender: +123\nPart: 2 of 2, reference 7\nText: Hi\nPDU: kind\nSender: +123\nPart: 1 of 2, reference 7\nText: Hi\nJoined: 1\n  Sender: +123\n  Text: HiHi\n"

pub record BodiesArePrinted : Type 0 where
  pub hello : hex_lines (messages (codes "+123") (codes "hello") 0) ≡ codes "000100039121F3000005E8329BFD06\n"
  pub two : hex_lines (hex (codes "00 01") ∷ hex (codes "FF") ∷ []) ≡ codes "0001\nFF\n"
