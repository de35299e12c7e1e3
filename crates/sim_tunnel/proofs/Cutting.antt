-- The first of the messages that stand one behind the other, and buffers that are one.
use Rattle.std.proofs.Common.{◌≡◌, ℕ, ◌≤◌, Bool, true, false, if◌then◌else◌, List, [], ◌∷◌, ◌++◌, length, take, Ok, Err, refl, sym, ◌∙◌, ap, subst, arith, append_assoc, length-append, length-take-le}
use Rattle.std.proofs.lemmas.Bool.Decides.{nat_tests}
use Rattle.std.proofs.Math.Seq.{take-append_seam, take-length}
use Rattle.std.specs.List.{concat, AllByRecursion}
use Rattle.framing.specs.declared.framing.Size.{Size}
use Rattle.framing.specs.declared.framing.Size.TheVariants.{Unknown, Known, Invalid}
use Rattle.framing.specs.Framing.{IsMessage, IsPositive, is_message, is_whole}
use Rattle.framing.specs.Cutting.{Cutting}
use Rattle.framing.proofs.Cuts.{cut-each, cut-first, cut-whole}
use Rattle.qmux_frame.specs.declared.head.Head.{Head}
use Rattle.qmux_frame.specs.Frame.{qmux_cut, size_of}
use Rattle.qmux_frame.specs.Framing.{size_of-kept, size_of-positive}
use Rattle.qmux_frame.specs.Head.{head_of}
use Rattle.qmi_tunnel.specs.declared.unwrapping.Ragged.{Ragged}
use Rattle.qmi_tunnel.specs.Tunnel.{first_end, unwrapped}
use Rattle.sim_tunnel.specs.Cutting.{Begins}

begins_at : (bytes : List ℕ) (count : ℕ) → count ≤ length bytes → IsMessage size_of (take count bytes) → Begins bytes count
begins_at bytes count within is = record {
  some = let some : IsPositive (Known (length (take count bytes))) = subst IsPositive is (size_of-positive (take count bytes)) in omega (arith, some, length-take-le count bytes within);
  within = within;
  messages = ap (λ (c : Cutting). c.messages) (cut-first size_of size_of-kept size_of-positive bytes count is);
}

module _ (bytes m : List ℕ) (ms : List (List ℕ)) (has : (qmux_cut bytes).messages ≡ m ∷ ms) where
  abbrev behind_it : List ℕ
  behind_it = concat ms ++ (qmux_cut bytes).rest

  whole : bytes ≡ m ++ behind_it
  whole = sym (cut-whole size_of bytes) ∙ ap (λ (l : List (List ℕ)). concat l ++ (qmux_cut bytes).rest) has ∙ append_assoc m (concat ms) (qmux_cut bytes).rest

  is : IsMessage size_of m
  is = let each : AllByRecursion (IsMessage size_of) (m ∷ ms) = subst (AllByRecursion (IsMessage size_of)) has (cut-each size_of bytes) in each.0

  front : take (length m) bytes ≡ m
  front = ap (take (length m)) whole ∙ take-append_seam m behind_it

  begins : Begins bytes (length m)
  begins = begins_at bytes (length m) (omega (arith, ap length whole, length-append m behind_it)) (subst (IsMessage size_of) (sym front) is)

first_none : (bytes : List ℕ) (messages : List (List ℕ)) → (qmux_cut bytes).messages ≡ messages → first_end messages ≡ 0 → messages ≡ []
first_none bytes [] has none = refl
first_none bytes (m ∷ ms) has none = absurd (omega (arith, (begins bytes m ms has).some, none))

first_some : (bytes : List ℕ) (messages : List (List ℕ)) → (qmux_cut bytes).messages ≡ messages → (first_end messages ≡ 0 → ⊥) → Begins bytes (first_end messages)
first_some bytes [] has some = absurd (some refl)
first_some bytes (m ∷ ms) has some = begins bytes m ms has

-- ---- buffers ----

message_is : (size : Size) (count : ℕ) → is_whole size count ≡ true → size ≡ Known count
message_is Unknown count is = absurd (cc)
message_is (Known length) count is = let same : length ≡ count = grind (arith, nat_tests) in ap (λ (n : ℕ). Known n) same
message_is Invalid count is = absurd (cc)

module _ (bytes : List ℕ) where
  by_test : (b : Bool) → is_message size_of bytes ≡ b → unwrapped bytes ≡ (if b then Ok (head_of bytes) else Err (record { place = first_end (qmux_cut bytes).messages }))
  by_test b is = rw is refl

  whole_at : {head : Head} (b : Bool) → is_message size_of bytes ≡ b → unwrapped bytes ≡ Ok head → b ≡ true
  whole_at true test whole = refl
  whole_at false test whole = absurd (let clash : Err (record { place = first_end (qmux_cut bytes).messages }) ≡ Ok _ = sym (by_test false test) ∙ whole in cc)

  ragged_at : {ragged : Ragged} (b : Bool) → is_message size_of bytes ≡ b → unwrapped bytes ≡ Err ragged → (b ≡ false) × (ragged ≡ record { place = first_end (qmux_cut bytes).messages })
  ragged_at true whole ragged = absurd (let clash : Ok (head_of bytes) ≡ Err _ = sym (by_test true whole) ∙ ragged in cc)
  ragged_at {ragged = r} false part ragged = (refl, let same : Err (record { place = first_end (qmux_cut bytes).messages }) ≡ Err r = sym (by_test false part) ∙ ragged in cc)

  first_end_at : {ragged : Ragged} → unwrapped bytes ≡ Err ragged → ragged.place ≡ first_end (qmux_cut bytes).messages
  first_end_at ragged = ap (λ (r : Ragged). r.place) (ragged_at (is_message size_of bytes) refl ragged).1

  pub unwraps : {head : Head} → unwrapped bytes ≡ Ok head → is_message size_of bytes ≡ true
  unwraps whole = whole_at (is_message size_of bytes) refl whole

  -- what is one message begins with it
  pub whole-begins : is_message size_of bytes ≡ true → Begins bytes (length bytes)
  whole-begins is =
      let message : IsMessage size_of bytes = message_is (size_of bytes) (length bytes) is in
      begins_at bytes (length bytes) (omega arith) (subst (IsMessage size_of) (sym (take-length bytes)) message)

  -- where the first message ends, the others follow
  pub ragged-begins : {ragged : Ragged} → unwrapped bytes ≡ Err ragged → (ragged.place ≡ 0 → ⊥) → Begins bytes ragged.place
  ragged-begins ragged some =
      let end = first_end_at ragged in
      subst (Begins bytes) (sym end) (first_some bytes _ refl (λ none. some (end ∙ none)))

  -- it has no message
  pub ragged-none : {ragged : Ragged} → unwrapped bytes ≡ Err ragged → ragged.place ≡ 0 → (qmux_cut bytes).messages ≡ []
  ragged-none ragged none = first_none bytes _ refl (sym (first_end_at ragged) ∙ none)
