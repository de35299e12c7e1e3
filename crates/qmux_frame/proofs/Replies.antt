-- The reply to a message by its head.
use Rattle.std.proofs.Common.{◌≡◌, ℕ, ◌+◌, ◌/◌, ◌%◌, ◌<◌, Bool, true, false, List, refl, arith}
use Rattle.std.specs.Prelude.{slice_index}
use Rattle.kit_bytes.specs.Numbers.{number_at}
use Rattle.framing.specs.Framing.{AreBytes}
use Rattle.qmux_frame.specs.Head.{head_of, is_control}
use Rattle.qmux_frame.specs.Writing.{head_text}
use Rattle.qmux_frame.specs.Reply.{result_reply, reply_of}

number_at-low : (bytes : List ℕ) (at : ℕ) → AreBytes bytes → number_at bytes at 2 % 256 ≡ slice_index bytes at
number_at-low bytes at are = let low = are at in omega arith

number_at-high : (bytes : List ℕ) (at : ℕ) → AreBytes bytes → number_at bytes at 2 / 256 ≡ slice_index bytes (at + 1)
number_at-high bytes at are = let low = are at in omega arith

low_byte : (n : ℕ) → n < 256 → n % 256 ≡ n
low_byte n small = omega arith

pub reply_of-head_of : (message : List ℕ) (error : ℕ) → AreBytes message → reply_of (head_of message) error ≡ result_reply message error
unfolding reply_of head_text
reply_of-head_of message error are =
    let step : (b : Bool) → is_control message ≡ b → reply_of (head_of message) error ≡ result_reply message error =
    λ b. elim b as (λ b. is_control message ≡ b → reply_of (head_of message) error ≡ result_reply message error) [
      | true ↦ λ control.
          let low = number_at-low message 8 are in
          let high = number_at-high message 8 are in
          let number = low_byte (slice_index message 7) (are 7) in
          rw (control, reply_of, number, low, high) refl
      | false ↦ λ service.
          let number_low = number_at-low message 7 are in
          let number_high = number_at-high message 7 are in
          let low = number_at-low message 9 are in
          let high = number_at-high message 9 are in
          rw (service, reply_of, number_low, number_high, low, high) refl
    ]
    in step (is_control message) refl
