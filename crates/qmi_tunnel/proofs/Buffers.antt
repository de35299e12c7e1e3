-- What a buffer says of its first message, and where it is ragged.
use Rattle.std.proofs.Common.{◌≡◌, ℕ, ◌<◌, Bool, true, false, if◌then◌else◌, List, [], length, take, Result, Ok, Err, refl, sym, ◌∙◌, ap, arith, length-take}
use Rattle.std.proofs.lemmas.Bool.Decides.{nat_tests}
use Rattle.framing.specs.declared.framing.Size.{Size}
use Rattle.framing.specs.declared.framing.Size.TheVariants.{Unknown, Known, Invalid}
use Rattle.framing.specs.Framing.{IsMessage, IsPartial, is_message, is_whole}
use Rattle.framing.specs.Cutting.{Cutting, cut}
use Rattle.framing.proofs.Cuts.{cut-bad, cut-first, cut-partial}
use Rattle.qmux_frame.specs.declared.head.Head.{Head}
use Rattle.qmux_frame.specs.Frame.{size_of}
use Rattle.qmux_frame.specs.Framing.{size_of-kept, size_of-positive, size_of-told}
use Rattle.qmux_frame.specs.Head.{head_of}
use Rattle.qmi_tunnel.specs.declared.unwrapping.Ragged.{Ragged}
use Rattle.qmi_tunnel.specs.Tunnel.{first_end, unwrapped}

module _ (buffer : List ℕ) where
  by_test : (b : Bool) (whole : Result Head Ragged) (ragged : Result Head Ragged) → is_message size_of buffer ≡ b → (if is_message size_of buffer then whole else ragged) ≡ (if b then whole else ragged)
  by_test b whole ragged is = rw is refl

  ragged_as : (messages : List (List ℕ)) (rest : List ℕ) → is_message size_of buffer ≡ false → cut size_of buffer ≡ record { messages = messages; rest = rest } → unwrapped buffer ≡ Err (record { place = first_end messages })
  ragged_as messages rest isnt cuts =
      by_test false _ _ isnt ∙ ap (λ (c : Cutting). Err (record { place = first_end c.messages })) cuts

  -- it is one whole message
  pub unwrapped-whole : {count : ℕ} → size_of buffer ≡ Known count → count ≡ length buffer → unwrapped buffer ≡ Ok (head_of buffer)
  unwrapped-whole {count = count} size is =
      let whole : is_message size_of buffer ≡ true = ap (λ (s : Size). is_whole s (length buffer)) size ∙ grind (arith, nat_tests) in by_test true _ _ whole

  -- more stands behind its first message
  pub unwrapped-longer : {count : ℕ} → size_of buffer ≡ Known count → count < length buffer → unwrapped buffer ≡ Err (record { place = count })
  unwrapped-longer {count = count} size less =
      let isnt : is_message size_of buffer ≡ false = ap (λ (s : Size). is_whole s (length buffer)) size ∙ grind (arith, nat_tests) in
      let long : length (take count buffer) ≡ count = grind (arith, nat_tests, length-take) in
      let told : size_of (take count buffer) ≡ Known count = size_of-told buffer count size (omega arith) in
      let first : IsMessage size_of (take count buffer) = told ∙ ap (λ (n : ℕ). Known n) (sym long) in
      ragged_as _ _ isnt (cut-first size_of size_of-kept size_of-positive buffer count first) ∙ ap (λ (n : ℕ). Err (record { place = n })) long

  -- it begins with no whole message
  pub unwrapped-short : {count : ℕ} → size_of buffer ≡ Known count → length buffer < count → unwrapped buffer ≡ Err (record { place = 0 })
  unwrapped-short {count = count} size less =
      let isnt : is_message size_of buffer ≡ false = ap (λ (s : Size). is_whole s (length buffer)) size ∙ grind (arith, nat_tests) in
      let part : IsPartial size_of buffer = rw size less in
      ragged_as [] buffer isnt (cut-partial size_of size_of-kept buffer part)

  pub unwrapped-unknown : size_of buffer ≡ Unknown → unwrapped buffer ≡ Err (record { place = 0 })
  unwrapped-unknown size =
      let isnt : is_message size_of buffer ≡ false = ap (λ (s : Size). is_whole s (length buffer)) size in
      let part : IsPartial size_of buffer = rw size tt in
      ragged_as [] buffer isnt (cut-partial size_of size_of-kept buffer part)

  pub unwrapped-invalid : size_of buffer ≡ Invalid → unwrapped buffer ≡ Err (record { place = 0 })
  unwrapped-invalid size =
      let isnt : is_message size_of buffer ≡ false = ap (λ (s : Size). is_whole s (length buffer)) size in
      ragged_as [] buffer isnt (cut-bad size_of size_of-kept buffer size)
