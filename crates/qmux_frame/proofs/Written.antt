-- A message that is written reads as it was written.
use Rattle.std.proofs.Common.{◌≡◌, ℕ, ◌+◌, ◌*◌, ◌/◌, ◌%◌, ◌≤◌, ◌==◌, Bool, true, false, List, ◌∷◌, length, refl, arith}
use Rattle.std.proofs.lemmas.Bool.Decides.{nat_tests}
use Rattle.framing.specs.declared.framing.Size.TheVariants.{Known}
use Rattle.qmux_frame.specs.declared.writing.NewMessage.{NewMessage}
use Rattle.qmux_frame.specs.Frame.{size_of}
use Rattle.qmux_frame.specs.Writing.{sender_byte, head_text, message_text}
use Rattle.qmux_frame.specs.Laws.{ReadsBack, WrittenIsRead}

joined : (n : ℕ) → n % 256 + 256 * (n / 256 + 0) ≡ n
joined n = omega arith

same : (m n : ℕ) → m ≡ n → (m == n) ≡ true
same m n is = grind (arith, nat_tests)

module _ (m : NewMessage) (tlvs : List ℕ) where
  -- the bytes up to the flags, of a message of so many bytes
  abbrev front : ℕ → List ℕ → List ℕ
  front count rest = 0x01 ∷ (count + 5) % 256 ∷ (count + 5) / 256 ∷ sender_byte m.sender ∷ m.service ∷ m.cid ∷ m.flags ∷ rest

  abbrev behind : List ℕ
  behind = m.message % 256 ∷ m.message / 256 ∷ length tlvs % 256 ∷ length tlvs / 256 ∷ tlvs

  control_text : (m.service == 0) ≡ true → message_text m tlvs ≡ front (6 + length tlvs) (m.number ∷ behind)
  unfolding head_text
  control_text is = rw is refl

  service_text : (m.service == 0) ≡ false → message_text m tlvs ≡ front (7 + length tlvs) (m.number % 256 ∷ m.number / 256 ∷ behind)
  unfolding head_text
  service_text is = rw is refl

  whole : (count : ℕ) (rest : List ℕ) → length rest + 2 ≡ count + 1 → 6 ≤ count → size_of (front count rest) ≡ Known (length (front count rest))
  whole count rest long some = grind (arith, nat_tests)

  control : (m.service == 0) ≡ true → ReadsBack m tlvs
  control is =
      let text = control_text is in
      let id = joined m.message in
      let framed : (12 + (length tlvs % 256 + 256 * (length tlvs / 256 + 0)) == length (front (6 + length tlvs) (m.number ∷ behind))) ≡ true = same _ _ (omega arith) in
      record {
        whole = rw text (whole (6 + length tlvs) (m.number ∷ behind) (omega arith) (omega arith));
        head = rw (text, is, id, framed) refl;
        behind = rw (text, is) refl;
      }

  service : (m.service == 0) ≡ false → ReadsBack m tlvs
  service is =
      let text = service_text is in
      let id = joined m.message in
      let number = joined m.number in
      let framed : (13 + (length tlvs % 256 + 256 * (length tlvs / 256 + 0)) == length (front (7 + length tlvs) (m.number % 256 ∷ m.number / 256 ∷ behind))) ≡ true = same _ _ (omega arith) in
      record {
        whole = rw text (whole (7 + length tlvs) (m.number % 256 ∷ m.number / 256 ∷ behind) (omega arith) (omega arith));
        head = rw (text, is, number, id, framed) refl;
        behind = rw (text, is) refl;
      }

  pub reads_back : ReadsBack m tlvs
  reads_back =
      let step : (b : Bool) → (m.service == 0) ≡ b → ReadsBack m tlvs = λ b. elim b as (λ b. (m.service == 0) ≡ b → ReadsBack m tlvs) [ true ↦ λ is. control is | false ↦ λ is. service is ]
      in step (m.service == 0) refl

pub written_is_read : WrittenIsRead
written_is_read m tlvs = reads_back m tlvs
