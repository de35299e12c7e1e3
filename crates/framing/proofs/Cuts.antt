-- A stream is cut where its messages end, and nowhere else.
use Rattle.std.proofs.Common.{◌≡◌, ℕ, ◌<◌, Bool, true, false, List, [], ◌∷◌, ◌++◌, All, length, refl, sym, ◌∙◌, ap, subst, arith, append_assoc, length-append, take, drop, take-append-drop}
use Rattle.std.proofs.lemmas.List.{append-nil}
use Rattle.std.proofs.lemmas.Bool.{false_from_ne_true}
use Rattle.std.proofs.lemmas.Bool.Decides.{nat_tests}
use Rattle.std.specs.List.{concat, AllByRecursion}
use Rattle.std.proofs.lemmas.List.Elements.{recursion_from_All}
use Rattle.framing.specs.declared.framing.Size.{Size}
use Rattle.framing.specs.declared.framing.Size.TheVariants.{Unknown, Known, Invalid}
use Rattle.framing.specs.Framing.{IsMessage, IsPartial, IsBad, IsShort, IsKept, IsPositive, is_message, is_whole}
use Rattle.framing.specs.Cutting.{Cutting, behind, cut_from, cut}

whole_is : (size : Size) (count : ℕ) → is_whole size count ≡ true → size ≡ Known count
whole_is Unknown count is = absurd (cc)
whole_is (Known length) count is = let same : length ≡ count = grind (arith, nat_tests) in ap (λ (n : ℕ). Known n) same
whole_is Invalid count is = absurd (cc)

is_whole-known : (count : ℕ) → is_whole (Known count) count ≡ true
is_whole-known count = grind (arith, nat_tests)

module _ (size : List ℕ → Size) where
  IsMessage-from_test : (bytes : List ℕ) → is_message size bytes ≡ true → IsMessage size bytes
  IsMessage-from_test bytes is = whole_is (size bytes) (length bytes) is

  is_message-from_IsMessage : (bytes : List ℕ) → IsMessage size bytes → is_message size bytes ≡ true
  is_message-from_IsMessage bytes is = ap (λ (s : Size). is_whole s (length bytes)) is ∙ is_whole-known (length bytes)

  -- the byte that ends a message
  cut_from-ends : (begun : List ℕ) (byte : ℕ) (stream : List ℕ) → is_message size (begun ++ byte ∷ []) ≡ true
      → cut_from size begun (byte ∷ stream) ≡ behind ((begun ++ byte ∷ []) ∷ []) (cut size stream)
  unfolding cut_from
  cut_from-ends begun byte stream ends = rw (ends, cut_from) refl

  -- a byte that ends none
  cut_from-goes_on : (begun : List ℕ) (byte : ℕ) (stream : List ℕ) → is_message size (begun ++ byte ∷ []) ≡ false
      → cut_from size begun (byte ∷ stream) ≡ cut_from size (begun ++ byte ∷ []) stream
  unfolding cut_from
  cut_from-goes_on begun byte stream goes_on = rw (goes_on, cut_from) refl

  -- a stream cut at any place: what its front leaves begins what follows
  cut_from-append : (begun stream more : List ℕ)
      → cut_from size begun (stream ++ more) ≡ behind (cut_from size begun stream).messages (cut_from size (cut_from size begun stream).rest more)
  unfolding cut_from
  cut_from-append begun [] more = refl
  cut_from-append begun (byte ∷ stream) more =
      let step : (b : Bool) → is_message size (begun ++ byte ∷ []) ≡ b
      → cut_from size begun (byte ∷ (stream ++ more)) ≡ behind (cut_from size begun (byte ∷ stream)).messages (cut_from size (cut_from size begun (byte ∷ stream)).rest more) =
      λ b. elim b as (λ b. is_message size (begun ++ byte ∷ []) ≡ b
      → cut_from size begun (byte ∷ (stream ++ more)) ≡ behind (cut_from size begun (byte ∷ stream)).messages (cut_from size (cut_from size begun (byte ∷ stream)).rest more)) [
        | true ↦ λ ends.
            cut_from-ends begun byte (stream ++ more) ends
            ∙ ap (behind ((begun ++ byte ∷ []) ∷ [])) (cut_from-append [] stream more)
            ∙ sym (ap (λ (c : Cutting). behind c.messages (cut_from size c.rest more)) (cut_from-ends begun byte stream ends))
        | false ↦ λ goes_on.
            cut_from-goes_on begun byte (stream ++ more) goes_on
            ∙ cut_from-append (begun ++ byte ∷ []) stream more
            ∙ sym (ap (λ (c : Cutting). behind c.messages (cut_from size c.rest more)) (cut_from-goes_on begun byte stream goes_on))
      ]
      in step (is_message size (begun ++ byte ∷ [])) refl

  -- what a stream leaves holds no message
  cut-rest : (begun stream : List ℕ) → cut size begun ≡ record { messages = []; rest = begun }
      → cut size (cut_from size begun stream).rest ≡ record { messages = []; rest = (cut_from size begun stream).rest }
  unfolding cut_from
  cut-rest begun [] none = none
  cut-rest begun (byte ∷ stream) none =
      let Leaves : Cutting → Type 0 = λ (c : Cutting). cut size c.rest ≡ record { messages = []; rest = c.rest } in
      let step : (b : Bool) → is_message size (begun ++ byte ∷ []) ≡ b → Leaves (cut_from size begun (byte ∷ stream)) =
      λ b. elim b as (λ b. is_message size (begun ++ byte ∷ []) ≡ b → Leaves (cut_from size begun (byte ∷ stream))) [
        | true ↦ λ ends. subst Leaves (sym (cut_from-ends begun byte stream ends)) (cut-rest [] stream refl)
        | false ↦ λ goes_on.
            subst Leaves (sym (cut_from-goes_on begun byte stream goes_on))
            (cut-rest (begun ++ byte ∷ []) stream
            (cut_from-append [] begun (byte ∷ [])
            ∙ ap (λ (c : Cutting). behind c.messages (cut_from size c.rest (byte ∷ []))) none
            ∙ cut_from-goes_on begun byte [] goes_on))
      ]
      in step (is_message size (begun ++ byte ∷ [])) refl

  -- where a stream is cut into pieces makes no difference
  pub cut-append : (stream more : List ℕ) → cut size (stream ++ more) ≡ behind (cut size stream).messages (cut size ((cut size stream).rest ++ more))
  unfolding cut_from
  cut-append stream more =
      cut_from-append [] stream more
      ∙ ap (behind (cut size stream).messages)
      (sym (cut_from-append [] (cut size stream).rest more ∙ ap (λ (c : Cutting). behind c.messages (cut_from size c.rest more)) (cut-rest [] stream refl)))

  -- a stream's messages and its rest are the stream
  cut_from-whole : (begun stream : List ℕ) → concat (cut_from size begun stream).messages ++ (cut_from size begun stream).rest ≡ begun ++ stream
  unfolding cut_from
  cut_from-whole begun [] = sym (append-nil begun)
  cut_from-whole begun (byte ∷ stream) =
      let Whole : Cutting → Type 0 = λ (c : Cutting). concat c.messages ++ c.rest ≡ begun ++ byte ∷ stream in
      let joined = append_assoc begun (byte ∷ []) stream in
      let step : (b : Bool) → is_message size (begun ++ byte ∷ []) ≡ b → Whole (cut_from size begun (byte ∷ stream)) =
      λ b. elim b as (λ b. is_message size (begun ++ byte ∷ []) ≡ b → Whole (cut_from size begun (byte ∷ stream))) [
        | true ↦ λ ends.
            subst Whole (sym (cut_from-ends begun byte stream ends))
            (append_assoc (begun ++ byte ∷ []) (concat (cut size stream).messages) (cut size stream).rest
            ∙ ap (λ (l : List ℕ). (begun ++ byte ∷ []) ++ l) (cut_from-whole [] stream)
            ∙ joined)
        | false ↦ λ goes_on. subst Whole (sym (cut_from-goes_on begun byte stream goes_on)) (cut_from-whole (begun ++ byte ∷ []) stream ∙ joined)
      ]
      in step (is_message size (begun ++ byte ∷ [])) refl

  pub cut-whole : (stream : List ℕ) → concat (cut size stream).messages ++ (cut size stream).rest ≡ stream
  cut-whole stream = cut_from-whole [] stream

  -- each message of a stream is one
  cut_from-each : (begun stream : List ℕ) → AllByRecursion (IsMessage size) (cut_from size begun stream).messages
  unfolding cut_from
  cut_from-each begun [] = tt
  cut_from-each begun (byte ∷ stream) =
      let Each : Cutting → Type 0 = λ (c : Cutting). AllByRecursion (IsMessage size) c.messages in
      let step : (b : Bool) → is_message size (begun ++ byte ∷ []) ≡ b → Each (cut_from size begun (byte ∷ stream)) =
      λ b. elim b as (λ b. is_message size (begun ++ byte ∷ []) ≡ b → Each (cut_from size begun (byte ∷ stream))) [
        | true ↦ λ ends. subst Each (sym (cut_from-ends begun byte stream ends)) (IsMessage-from_test (begun ++ byte ∷ []) ends, cut_from-each [] stream)
        | false ↦ λ goes_on. subst Each (sym (cut_from-goes_on begun byte stream goes_on)) (cut_from-each (begun ++ byte ∷ []) stream)
      ]
      in step (is_message size (begun ++ byte ∷ [])) refl

  pub cut-each : (stream : List ℕ) → AllByRecursion (IsMessage size) (cut size stream).messages
  cut-each stream = cut_from-each [] stream

  -- bytes of which no front is a message stay as they are
  cut_from-none : (begun tail : List ℕ) → ((front more : List ℕ) → begun ++ tail ≡ front ++ more → is_message size front ≡ false)
      → cut_from size begun tail ≡ record { messages = []; rest = begun ++ tail }
  unfolding cut_from
  cut_from-none begun [] none = ap (λ (l : List ℕ). record { messages = []; rest = l }) (sym (append-nil begun))
  cut_from-none begun (byte ∷ tail) none =
      let joined = append_assoc begun (byte ∷ []) tail in
      cut_from-goes_on begun byte tail (none (begun ++ byte ∷ []) tail (sym joined))
      ∙ cut_from-none (begun ++ byte ∷ []) tail (λ front more is. none front more (sym joined ∙ is))
      ∙ ap (λ (l : List ℕ). record { messages = []; rest = l }) joined

  module _ (kept : (front more : List ℕ) → IsKept (size front) (size (front ++ more))) where
    -- what a message says of its length, all that begin with it say
    size-message : (message more : List ℕ) → IsMessage size message → size (message ++ more) ≡ Known (length message)
    size-message message more is =
        let P : Size → Type 0 = λ (s : Size). IsKept s (size (message ++ more)) in subst P is (kept message more)

    -- no message goes on within another
    front_is_none : (front : List ℕ) (byte : ℕ) (rest : List ℕ) → IsMessage size (front ++ byte ∷ rest) → is_message size front ≡ false
    front_is_none front byte rest whole = false_from_ne_true _ (λ is.
        let early = size-message front (byte ∷ rest) (IsMessage-from_test front is) in
        let same : Known (length front) ≡ Known (length (front ++ byte ∷ rest)) = sym early ∙ whole in
        let count : length front ≡ length (front ++ byte ∷ rest) = cc in
        omega (arith, length-append front (byte ∷ rest)))

    none_in_partial : (rest : List ℕ) → IsPartial size rest → (front more : List ℕ) → rest ≡ front ++ more → is_message size front ≡ false
    none_in_partial rest part front more is = false_from_ne_true _ (λ t.
        let known : size rest ≡ Known (length front) = ap size is ∙ size-message front more (IsMessage-from_test front t) in
        let P : Size → Type 0 = λ (s : Size). IsShort s (length rest) in
        let short : length rest < length front = subst P known part in
        omega (arith, ap length is, length-append front more))

    none_in_bad : (rest : List ℕ) → IsBad size rest → (front more : List ℕ) → rest ≡ front ++ more → is_message size front ≡ false
    none_in_bad rest bad front more is = false_from_ne_true _ (λ t.
        let known : size rest ≡ Known (length front) = ap size is ∙ size-message front more (IsMessage-from_test front t) in
        let clash : Invalid ≡ Known (length front) = sym bad ∙ known in cc)

    pub cut-partial : (rest : List ℕ) → IsPartial size rest → cut size rest ≡ record { messages = []; rest = rest }
    cut-partial rest part = cut_from-none [] rest (none_in_partial rest part)

    pub cut-bad : (rest : List ℕ) → IsBad size rest → cut size rest ≡ record { messages = []; rest = rest }
    cut-bad rest bad = cut_from-none [] rest (none_in_bad rest bad)

    -- a message, begun by its front, ends where it ends
    cut_from-message : (begun tail stream : List ℕ) → IsMessage size (begun ++ tail) → 0 < length tail
        → cut_from size begun (tail ++ stream) ≡ behind ((begun ++ tail) ∷ []) (cut size stream)
    cut_from-message begun [] stream whole some = absurd (omega arith)
    cut_from-message begun (byte ∷ []) stream whole some = cut_from-ends begun byte stream (is_message-from_IsMessage (begun ++ byte ∷ []) whole)
    cut_from-message begun (byte ∷ next ∷ tail) stream whole some =
        let joined = append_assoc begun (byte ∷ []) (next ∷ tail) in
        let P : List ℕ → Type 0 = IsMessage size in
        let moved = subst P (sym joined) whole in
        cut_from-goes_on begun byte (next ∷ (tail ++ stream)) (front_is_none (begun ++ byte ∷ []) next tail moved)
        ∙ cut_from-message (begun ++ byte ∷ []) (next ∷ tail) stream moved (omega arith)
        ∙ ap (λ (m : List ℕ). behind (m ∷ []) (cut size stream)) joined

    module _ (positive : (bytes : List ℕ) → IsPositive (size bytes)) where
      message_is_some : (message : List ℕ) → IsMessage size message → 0 < length message
      message_is_some message is = let P : Size → Type 0 = IsPositive in subst P is (positive message)

      pub cut-message : (message stream : List ℕ) → IsMessage size message → cut size (message ++ stream) ≡ behind (message ∷ []) (cut size stream)
      cut-message message stream whole = cut_from-message [] message stream whole (message_is_some message whole)

      -- messages, and then what a stream is cut into
      given-by_parts : (given : List (List ℕ)) (rest : List ℕ) → AllByRecursion (IsMessage size) given → cut size (concat given ++ rest) ≡ behind given (cut size rest)
      given-by_parts [] rest all = refl
      given-by_parts (message ∷ given) rest all =
          ap (cut size) (append_assoc message (concat given) rest)
          ∙ cut-message message (concat given ++ rest) all.0
          ∙ ap (behind (message ∷ [])) (given-by_parts given rest all.1)

      pub cut-given : (given : List (List ℕ)) (rest : List ℕ) → All (IsMessage size) given → cut size (concat given ++ rest) ≡ behind given (cut size rest)
      cut-given given rest all = given-by_parts given rest (recursion_from_All (IsMessage size) given all)

      -- a stream that begins with a message
      pub cut-first : (rest : List ℕ) (count : ℕ) → IsMessage size (take count rest) → cut size rest ≡ behind (take count rest ∷ []) (cut size (drop count rest))
      cut-first rest count whole = ap (cut size) (sym (take-append-drop count rest)) ∙ cut-message (take count rest) (drop count rest) whole
