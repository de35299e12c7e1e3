-- One text more comes to a peer.
use Rattle.std.proofs.Common.{◌≡◌, ℕ, List, [], ◌∷◌, ◌++◌, reverse, refl, sym, ap}
use Rattle.std.proofs.lemmas.List.{reverse-append}
use Rattle.std.specs.List.{concat}
use Rattle.framing.specs.Cutting.{cut}
use Rattle.proxy_history.specs.Streams.{Framing}
use Rattle.lone_client.specs.Relay.{Answering, Cast, ask, asked_by, asked_then, relayed, reply, sent_for, through, to_newest}
use Rattle.transparency.specs.Peers.{at_modem}

pub reverse_last : (texts : List (List ℕ)) (text : List ℕ) → reverse (texts ++ text ∷ []) ≡ text ∷ reverse texts
reverse_last texts text = reverse-append texts (text ∷ [])

-- ---- the modem itself ----

module _ (size : Framing) (modem : Answering) (texts : List (List ℕ)) (text : List ℕ) where
  pub says_newest : at_modem size modem (texts ++ text ∷ []) ≡ concat (sent_for size modem (asked_by size (reverse texts)) (cut size text).messages)
  says_newest = ap (to_newest (λ text before. concat (sent_for size modem (asked_by size before) (cut size text).messages))) (reverse_last texts text)

  pub asked_newest : asked_then (asked_by size (reverse texts)) (cut size text).messages ≡ asked_by size (reverse (texts ++ text ∷ []))
  unfolding asked_by
  asked_newest = sym (ap (asked_by size) (reverse_last texts text))

-- ---- through a proxy ----

module _ (cast : Cast) (texts : List (List ℕ)) (text : List ℕ) where
  pub through_newest : through cast (texts ++ text ∷ []) ≡ reply cast text (relayed cast (reverse texts))
  through_newest = ap (to_newest (λ text before. reply cast text (relayed cast before))) (reverse_last texts text)

  pub relayed_newest : ask cast text (relayed cast (reverse texts)) ≡ relayed cast (reverse (texts ++ text ∷ []))
  unfolding relayed
  relayed_newest = sym (ap (relayed cast) (reverse_last texts text))

pub asked_none : (size : Framing) → asked_by size [] ≡ []
unfolding asked_by
asked_none size = refl
