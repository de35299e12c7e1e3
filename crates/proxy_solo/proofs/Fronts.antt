-- The first message of a stream that some bytes began, and what follows it.
use Rattle.std.proofs.Common.{◌≡◌, ℕ, ◌+◌, true, false, List, [], ◌∷◌, ◌++◌, length, refl, ap, sym, ◌∙◌, arith, append_assoc, append-nil, length-append}
use Rattle.framing.specs.declared.framing.Size.{Size}
use Rattle.framing.specs.Framing.{is_message}
use Rattle.framing.specs.Cutting.{Cutting, behind, cut_from, cut}
use Rattle.framing.proofs.Cuts.{cut-append}

module _ (size : List ℕ → Size) where
  -- a front that ends no message, and what follows it
  pub goes_on : (begun front more : List ℕ) → (cut_from size begun front).messages ≡ [] → cut_from size begun (front ++ more) ≡ cut_from size (cut_from size begun front).rest more
  unfolding cut_from
  goes_on begun [] more none = refl
  goes_on begun (byte ∷ front) more none =
      elim (is_message size (begun ++ byte ∷ [])) as (λ b. (let one : Cutting = elim b [ true ↦ behind ((begun ++ byte ∷ []) ∷ []) (cut_from size [] front) | false ↦ cut_from size (begun ++ byte ∷ []) front ] in one).messages ≡ []
      → (let all : Cutting = elim b [ true ↦ behind ((begun ++ byte ∷ []) ∷ []) (cut_from size [] (front ++ more)) | false ↦ cut_from size (begun ++ byte ∷ []) (front ++ more) ] in all)
      ≡ cut_from size (let one : Cutting = elim b [ true ↦ behind ((begun ++ byte ∷ []) ∷ []) (cut_from size [] front) | false ↦ cut_from size (begun ++ byte ∷ []) front ] in one).rest more) [
        | true ↦ λ none. absurd (cc)
        | false ↦ λ none. goes_on (begun ++ byte ∷ []) front more none
      ] none

  -- the bytes that end the first message, and those behind them
  pub record First (begun bytes m : List ℕ) (messages : List (List ℕ)) (rest : List ℕ) : Type 0 where
    pub front : List ℕ
    pub tail : List ℕ
    pub message : m ≡ begun ++ front
    pub bytes_are : bytes ≡ front ++ tail
    pub later : cut size tail ≡ record { messages = messages; rest = rest }

  ends_here : (begun : List ℕ) (byte : ℕ) (bytes m : List ℕ) (messages : List (List ℕ)) (rest : List ℕ) → behind ((begun ++ byte ∷ []) ∷ []) (cut size bytes) ≡ record { messages = m ∷ messages; rest = rest } → First begun (byte ∷ bytes) m messages rest
  ends_here begun byte bytes m messages rest is =
      let messages_are : (begun ++ byte ∷ []) ∷ (cut size bytes).messages ≡ m ∷ messages = ap (λ (k : Cutting). k.messages) is in
      let first : begun ++ byte ∷ [] ≡ m = cc in
      let others : (cut size bytes).messages ≡ messages = cc in
      let rest_is : (cut size bytes).rest ≡ rest = ap (λ (k : Cutting). k.rest) is in
      record {
        front = byte ∷ [];
        tail = bytes;
        message = sym first;
        bytes_are = refl;
        later =
            ap (λ (l : List (List ℕ)). let k : Cutting = record { messages = l; rest = (cut size bytes).rest } in k) others
            ∙ ap (λ (l : List ℕ). let k : Cutting = record { messages = messages; rest = l } in k) rest_is;
      }

  pub first_is : (begun bytes m : List ℕ) (messages : List (List ℕ)) (rest : List ℕ) → cut_from size begun bytes ≡ record { messages = m ∷ messages; rest = rest } → First begun bytes m messages rest
  unfolding cut_from
  first_is begun [] m messages rest is = absurd (let none : [] ≡ m ∷ messages = ap (λ (k : Cutting). k.messages) is in cc)
  first_is begun (byte ∷ bytes) m messages rest is =
      elim (is_message size (begun ++ byte ∷ [])) as (λ b. (let one : Cutting = elim b [ true ↦ behind ((begun ++ byte ∷ []) ∷ []) (cut_from size [] bytes) | false ↦ cut_from size (begun ++ byte ∷ []) bytes ] in one) ≡ record { messages = m ∷ messages; rest = rest } → First begun (byte ∷ bytes) m messages rest) [
        | true ↦ λ is. ends_here begun byte bytes m messages rest is
        | false ↦ λ is.
            let F = first_is (begun ++ byte ∷ []) bytes m messages rest is in
            record {
              front = byte ∷ F.front;
              tail = F.tail;
              message = F.message ∙ append_assoc begun (byte ∷ []) F.front;
              bytes_are = ap (λ (l : List ℕ). byte ∷ l) F.bytes_are;
              later = F.later;
            }
      ] is

  -- the rest of a stream holds no message
  pub record HoldsNone (rest : List ℕ) : Type 0 where
    pub messages : (cut size rest).messages ≡ []
    pub stays : (cut size rest).rest ≡ rest

  none_more : (xs ys : List (List ℕ)) → xs ≡ xs ++ ys → ys ≡ []
  none_more xs [] same = refl
  none_more xs (y ∷ ys) same = absurd (let longer : length xs ≡ length xs + (1 + length ys) = ap length same ∙ length-append xs (y ∷ ys) ∙ omega arith in omega (arith, longer))

  pub rest_holds_none : (stream : List ℕ) → HoldsNone (cut size stream).rest
  rest_holds_none stream =
      let again : cut size stream ≡ behind (cut size stream).messages (cut size (cut size stream).rest) =
      ap (cut size) (sym (append-nil stream)) ∙ cut-append size stream [] ∙ ap (λ (l : List ℕ). behind (cut size stream).messages (cut size l)) (append-nil (cut size stream).rest)
      in
      record {
        messages = none_more (cut size stream).messages (cut size (cut size stream).rest).messages (ap (λ (k : Cutting). k.messages) again);
        stays = sym (ap (λ (k : Cutting). k.rest) again);
      }
