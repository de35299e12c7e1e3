-- The body of a command or of an answer reads as it was written.
use Rattle.std.proofs.Common.{◌≡◌, ℕ, ◌+◌, Bool, true, false, ◌==◌, List, ◌++◌, length, drop, refl, sym, ◌∙◌, ap, arith, append_assoc, length-append}
use Rattle.std.specs.Prelude.{nat_le, if◌then◌else◌}
use Rattle.std.proofs.lemmas.List.{take_at, drop_at, drop-drop}
use Rattle.std.proofs.lemmas.Bool.{le-leb, eq-eqb}
use Rattle.mbim_frame.specs.Numbers.{u32_at, u32_bytes}
use Rattle.mbim_frame.specs.Bodies.{body_head, uuid_of, cid_of, buffer_of}
use Rattle.mbim_frame.specs.Laws.{IsU32, CommandIsRead, DoneIsRead}
use Rattle.mbim_frame.proofs.Numbers.{u32_at-bytes, u32_at-behind}

-- what reads of a body that was written so
record Reads (uuid : List ℕ) (cid field : ℕ) (buffer body : List ℕ) : Type 0 where
  long : length body ≡ 28 + length buffer
  uuid_is : uuid_of body ≡ uuid
  cid_is : cid_of body ≡ cid
  field_is : u32_at body 20 ≡ field
  length_is : u32_at body 24 ≡ length buffer
  buffer_is : buffer_of body ≡ buffer

module _ (uuid : List ℕ) (cid field : ℕ) (buffer : List ℕ) where
  abbrev numbers : List ℕ
  numbers = u32_bytes cid ++ u32_bytes field ++ u32_bytes (length buffer) ++ buffer

  body_reads : length uuid ≡ 16 → IsU32 cid → IsU32 field → IsU32 (length buffer) → Reads uuid cid field buffer (body_head uuid cid field (length buffer) ++ buffer)
  body_reads long cid_fits field_fits buffer_fits =
      rw (append_assoc uuid (u32_bytes cid ++ u32_bytes field ++ u32_bytes (length buffer)) buffer) (record {
        long = omega (arith, long, length-append uuid numbers);
        uuid_is = take_at uuid numbers 16 long;
        cid_is = u32_at-behind uuid numbers 16 0 long ∙ u32_at-bytes cid (u32_bytes field ++ u32_bytes (length buffer) ++ buffer) cid_fits;
        field_is = u32_at-behind uuid numbers 16 4 long ∙ u32_at-bytes field (u32_bytes (length buffer) ++ buffer) field_fits;
        length_is = u32_at-behind uuid numbers 16 8 long ∙ u32_at-bytes (length buffer) buffer buffer_fits;
        buffer_is = sym (drop-drop 12 16 (uuid ++ numbers)) ∙ ap (drop 12) (drop_at uuid numbers 16 long);
      })

set_is : (set : Bool) → ((if set then 1 else 0) == 1) ≡ set
set_is true = refl
set_is false = refl

set_is_known : (set : Bool) → nat_le (if set then 1 else 0) 1 ≡ true
set_is_known true = refl
set_is_known false = refl

set_fits : (set : Bool) → IsU32 (if set then 1 else 0)
set_fits true = omega arith
set_fits false = omega arith

pub command_is_read : CommandIsRead
command_is_read head buffer long cid_fits buffer_fits =
    let reads = body_reads head.uuid head.cid (if head.set then 1 else 0) buffer long cid_fits (set_fits head.set) buffer_fits in
    let whole : nat_le 28 (28 + length buffer) ≡ true = le-leb 28 (28 + length buffer) (omega arith) in
    let same : (28 + length buffer == 28 + length buffer) ≡ true = eq-eqb (28 + length buffer) (28 + length buffer) refl in
    record {
      head_is = rw (reads.long, reads.length_is, whole, same, reads.field_is, set_is_known head.set, set_is head.set, reads.uuid_is, reads.cid_is) refl;
      buffer_is = reads.buffer_is;
    }

pub done_is_read : DoneIsRead
done_is_read head buffer long cid_fits status_fits buffer_fits =
    let reads = body_reads head.uuid head.cid head.status buffer long cid_fits status_fits buffer_fits in
    let whole : nat_le 28 (28 + length buffer) ≡ true = le-leb 28 (28 + length buffer) (omega arith) in
    let same : (28 + length buffer == 28 + length buffer) ≡ true = eq-eqb (28 + length buffer) (28 + length buffer) refl in
    record {
      head_is = rw (reads.long, reads.length_is, whole, same, reads.field_is, reads.uuid_is, reads.cid_is) refl;
      buffer_is = reads.buffer_is;
    }
