-- A message and a fragment that are written read as they were written.
use Rattle.std.proofs.Common.{◌≡◌, ℕ, ◌+◌, ◌≤◌, List, ◌++◌, length, refl, sym, ◌∙◌, ap, subst, arith}
use Rattle.std.proofs.lemmas.Bool.Decides.{nat_tests}
use Rattle.framing.specs.declared.framing.Size.TheVariants.{Known}
use Rattle.mbim_frame.specs.declared.writing.NewFragment.{NewFragment}
use Rattle.mbim_frame.specs.Numbers.{u32_at, u32_bytes}
use Rattle.mbim_frame.specs.Frame.{longest_message, size_of}
use Rattle.mbim_frame.specs.Head.{head_of}
use Rattle.mbim_frame.specs.Writing.{message_head, message_text, fragment_text}
use Rattle.mbim_frame.specs.Laws.{WrittenIsRead, FragmentIsRead}
use Rattle.mbim_frame.proofs.Numbers.{u32_at-bytes}

size-by_length : (bytes : List ℕ) → u32_at bytes 4 ≡ length bytes → 12 ≤ length bytes → length bytes ≤ longest_message → size_of bytes ≡ Known (length bytes)
size-by_length bytes is long short = grind (arith, nat_tests)

pub written_is_read : WrittenIsRead
written_is_read kind number tail kind_fits number_fits short =
    let kind_is = u32_at-bytes kind (u32_bytes (12 + length tail) ++ u32_bytes number ++ tail) kind_fits in
    let length_is = u32_at-bytes (12 + length tail) (u32_bytes number ++ tail) (omega (arith, short)) in
    let number_is = u32_at-bytes number tail number_fits in
    let long : 12 + length tail ≡ length (message_text kind number tail) = omega arith in
    record {
      whole = size-by_length (message_text kind number tail) (length_is ∙ long) (omega arith) (omega (arith, short));
      head = rw (kind_is, length_is, number_is) (ap (λ (n : ℕ). record { kind = kind; length = n; number = number }) long);
      behind = refl;
    }

-- a fragment is a message
fragment-message : (f : NewFragment) (part : List ℕ) → fragment_text f part ≡ message_text f.kind f.number (u32_bytes f.total ++ u32_bytes f.current ++ part)
fragment-message f part =
    let long : 8 + length part ≡ length (u32_bytes f.total ++ u32_bytes f.current ++ part) = omega arith in
    ap (λ (n : ℕ). message_head f.kind f.number n ++ (u32_bytes f.total ++ u32_bytes f.current ++ part)) long

pub fragment_is_read : FragmentIsRead
fragment_is_read f part fits short =
    let tail = u32_bytes f.total ++ u32_bytes f.current ++ part in
    let same = sym (fragment-message f part) in
    let message = written_is_read f.kind f.number tail fits.kind fits.number (omega (arith, short)) in
    let total = u32_at-bytes f.total (u32_bytes f.current ++ part) fits.total in
    let current = u32_at-bytes f.current part fits.current in
    record {
      whole = subst (λ (m : List ℕ). size_of m ≡ Known (length m)) same message.whole;
      head = subst (λ (m : List ℕ). head_of m ≡ record { kind = f.kind; length = length m; number = f.number }) same message.head;
      place = rw (total, current) refl;
      body = refl;
    }
