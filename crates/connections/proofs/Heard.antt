-- The messages of a piece, one at a time.
use Rattle.std.proofs.Common.{◌≡◌, ℕ, Bool, true, false, List, [], ◌∷◌, ap, sym, ◌∙◌}
use Rattle.framing.specs.declared.framing.Size.{Size}
use Rattle.framing.specs.Cutting.{Cutting, cut}
use Rattle.outbox.specs.Queue.{Queue}
use Rattle.connections.specs.Hearing.{Hearer, hears_all}

module _ {T S : Type 0} (hears : Hearer T S) (name : ℕ) where
  more : (m : List ℕ) (messages : List (List ℕ)) (client : T) (outbox : Queue) (beside : S) (b : Bool) → (hears name m client outbox beside).has_room ≡ b
      → hears_all hears name (m ∷ messages) client outbox beside ≡ elim b [ true ↦ hears_all hears name messages (hears name m client outbox beside).client (hears name m client outbox beside).outbox (hears name m client outbox beside).beside | false ↦ hears name m client outbox beside ]
  unfolding hears_all
  more m messages client outbox beside b is =
      ap (λ (t : Bool). elim t [ true ↦ hears_all hears name messages (hears name m client outbox beside).client (hears name m client outbox beside).outbox (hears name m client outbox beside).beside | false ↦ hears name m client outbox beside ]) is

  -- the first of the messages is heard
  pub heard_one : (m : List ℕ) (messages : List (List ℕ)) (client now : T) (outbox queue : Queue) (beside next : S) → true ≡ (hears name m client outbox beside).has_room
      → now ≡ (hears name m client outbox beside).client → queue ≡ (hears name m client outbox beside).outbox → next ≡ (hears name m client outbox beside).beside
      → hears_all hears name messages now queue next ≡ hears_all hears name (m ∷ messages) client outbox beside
  heard_one m messages client now outbox queue beside next room now_is queue_is next_is =
      ap (λ (t : T). hears_all hears name messages t queue next) now_is
      ∙ ap (λ (q : Queue). hears_all hears name messages (hears name m client outbox beside).client q next) queue_is
      ∙ ap (λ (s : S). hears_all hears name messages (hears name m client outbox beside).client (hears name m client outbox beside).outbox s) next_is
      ∙ sym (more m messages client outbox beside true (sym room))

  -- room lacks for what is due for it
  pub over_one : (m : List ℕ) (messages : List (List ℕ)) (client : T) (outbox : Queue) (beside : S) → false ≡ (hears name m client outbox beside).has_room → hears name m client outbox beside ≡ hears_all hears name (m ∷ messages) client outbox beside
  over_one m messages client outbox beside over = sym (more m messages client outbox beside false (sym over))

  -- bytes that begin with no whole message have all been heard
  pub heard_out : (size : List ℕ → Size) (rest : List ℕ) (client : T) (outbox : Queue) (beside : S) → cut size rest ≡ record { messages = []; rest = rest }
      → record { client = client; outbox = outbox; beside = beside; has_room = true } ≡ hears_all hears name (cut size rest).messages client outbox beside
  unfolding hears_all
  heard_out size rest client outbox beside none = sym (ap (λ (k : Cutting). hears_all hears name k.messages client outbox beside) none)
