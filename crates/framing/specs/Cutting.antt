-- The whole messages of a stream of bytes, and what is left behind them.
use Rattle.std.specs.Prelude.{◌≡◌, ◌⊎◌, ℕ, true, false, List, [], ◌∷◌, ◌++◌, All}
use Rattle.std.specs.List.{concat}
use Rattle.framing.specs.declared.framing.Size.{Size}
use Rattle.framing.specs.Framing.{is_message, IsMessage, IsPartial, IsBad}

pub record Cutting : Type 0 where
  pub messages : List (List ℕ)
  pub rest : List ℕ

-- these messages, and then what the cutting has
abbrev pub behind : List (List ℕ) → Cutting → Cutting
behind messages cutting = record { messages = messages ++ cutting.messages; rest = cutting.rest }

-- the messages, the first of them begun by these bytes: a message ends with the byte that completes it
unfoldable pub cut_from : (List ℕ → Size) → List ℕ → List ℕ → Cutting
cut_from size begun [] = record { messages = []; rest = begun }
cut_from size begun (byte ∷ stream) =
    elim (is_message size (begun ++ byte ∷ [])) [
      | true ↦ behind ((begun ++ byte ∷ []) ∷ []) (cut_from size [] stream)
      | false ↦ cut_from size (begun ++ byte ∷ []) stream
    ]

-- the whole messages of a stream, and its rest
abbrev pub cut : (List ℕ → Size) → List ℕ → Cutting
cut size stream = cut_from size [] stream

-- where a stream is cut into pieces makes no difference: its messages are those of its front, and then those of what its front leaves and what follows
abbrev pub IsPieceless : (List ℕ → Size) → Type 0
IsPieceless size = (stream more : List ℕ) → cut size (stream ++ more) ≡ behind (cut size stream).messages (cut size ((cut size stream).rest ++ more))

-- messages, and behind them bytes that aren't a whole one, are the cut of the stream that they make
abbrev pub IsOnlyCut : (List ℕ → Size) → Type 0
IsOnlyCut size = (messages : List (List ℕ)) (rest : List ℕ) → All (IsMessage size) messages → IsPartial size rest ⊎ IsBad size rest
    → cut size (concat messages ++ rest) ≡ record { messages = messages; rest = rest }
