-- The items of a piece, with one of its messages told apart.
use Rattle.std.proofs.Common.{◌≡◌, ℕ, List, ◌∷◌, ◌++◌, map, ap, ◌∙◌, append_assoc}
use Rattle.std.proofs.lemmas.List.{map-append}
use Rattle.proxy_history.specs.Items.{Item}
use Rattle.proxy_history.specs.Facts.{Fact}
use Rattle.proxy_history.specs.Protocol.{Protocol}
use Rattle.proxy_history.specs.History.{add, add_all}
use Rattle.proxy_history.proofs.Walk.{add_all-append}

-- the messages before it, the message, and what comes behind
pub splits : {Known : Type 0} (p : Protocol Known) (says : List ℕ → Item) (end : List Item) (earlier later : List (List ℕ)) (m : List ℕ) (past : List Fact)
    → add_all p (map says (earlier ++ m ∷ later) ++ end) past ≡ add_all p (map says later ++ end) (add p (says m) (add_all p (map says earlier) past))
unfolding add_all
splits p says end earlier later m past =
    ap (λ (items : List Item). add_all p (items ++ end) past) (map-append says earlier (m ∷ later))
    ∙ ap (λ (items : List Item). add_all p items past) (append_assoc (map says earlier) (says m ∷ map says later) end)
    ∙ add_all-append p (map says earlier) (says m ∷ map says later ++ end) past
