-- A client's share is used up where it is among all that the client sent.
use Rattle.std.proofs.Common.{◌≡◌, ℕ, suc, Bool, true, false, cond, ◌&&◌, ◌==◌, List, [], ◌∷◌, length, refl, ap, ◌∙◌}
use Rattle.proxy_history.specs.Facts.{Request}
use Rattle.proxy_history.specs.Requests.{of_client}
use Rattle.proxy_solo.specs.Part.{as_sent, sent_by, request_if}

-- as many of the client's requests wait in a space as do of all that the client sent
pub share_count : (c space : ℕ) (requests : List Request) → length (of_client c space (sent_by c requests)) ≡ length (of_client c space requests)
share_count c space [] = refl
share_count c space (r ∷ requests) =
    let mine : List Request = of_client c space (sent_by c requests) in
    let all : List Request = of_client c space requests in
    let rest : length mine ≡ length all = share_count c space requests in
    let by : (b : Bool) → (r.conn == c) ≡ b → length (of_client c space (request_if b (as_sent r) (sent_by c requests))) ≡ length (cond (b && (r.space == space)) (r ∷ all) all) =
    λ b. elim b as (λ b. (r.conn == c) ≡ b → length (of_client c space (request_if b (as_sent r) (sent_by c requests))) ≡ length (cond (b && (r.space == space)) (r ∷ all) all)) [
      | true ↦ λ is.
          ap (λ (t : Bool). length (cond (t && (r.space == space)) (as_sent r ∷ mine) mine)) is
          ∙ elim (r.space == space) as (λ t. length (cond t (as_sent r ∷ mine) mine) ≡ length (cond t (r ∷ all) all)) [ true ↦ ap suc rest | false ↦ rest ]
      | false ↦ λ is. rest
    ]
    in by (r.conn == c) refl
