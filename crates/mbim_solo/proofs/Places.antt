-- The commands of a client have rising places, and each request to open that an open modem answers is the only one of its client.
use Rattle.std.proofs.Common.{◌≡◌, ◌≢◌, ℕ, ◌+◌, Bool, true, ◌==◌, if◌then◌else◌, List, ◌∷◌, ap, sym, ◌∙◌, subst, ⊎_elim, arith}
use Rattle.std.proofs.lemmas.Bool.{eqb-true}
use Rattle.proxy_history.specs.Facts.{Fact, Request, Forward, Judged}
use Rattle.proxy_history.specs.Connections.{message_count}
use Rattle.proxy_history.proofs.Counting.{counted}
use Rattle.proxy_solo.proofs.Lists.{self}
use Rattle.proxy_solo.proofs.Placed.{IsOf, IsNewest, Placed, older, place_within}
use Rattle.mbim_proxy.specs.Setup.{Setup}
use Rattle.mbim_proxy.specs.Step.{blank}
use Rattle.mbim_proxy.specs.Asked.{CarriesItsCommand, IsAsked}
use Rattle.mbim_solo.specs.Solo.{restated}
use Rattle.mbim_solo.proofs.Reading.{reads}

abbrev pub IsPlacedIn : Setup → ℕ → List Fact → Type 0
IsPlacedIn s c past = Placed s.limits blank restated reads c past

module _ (s : Setup) (c : ℕ) (client : c ≢ 0) where
  carries_newest : (r : Request) (past : List Fact) → IsPlacedIn s c past → r.conn ≡ c → CarriesItsCommand s r past → IsNewest c r past
  unfolding message_count
  carries_newest r past P is C =
      let place : r.place ≡ message_count r.conn past = C.place ∙ sym (counted blank r.conn past C.sender) in
      let newest : message_count c past ≡ message_count c C.before + 1 =
      ap (message_count c) C.judged ∙ ap (λ (b : Bool). if b then message_count c C.before + 1 else message_count c C.before) (ap (λ (d : ℕ). d == c) is ∙ self c)
      in
      let before : IsPlacedIn s c (Judged r.conn r.place C.message Forward ∷ C.before) = subst (IsPlacedIn s c) C.judged P in
      record {
        place = place ∙ ap (λ (d : ℕ). message_count d past) is;
        rises =
            λ q at.
            let at_too : IsOf c (Judged r.conn r.place C.message Forward ∷ C.before) q = subst (λ (l : List Fact). IsOf c l q) C.judged at in
            let within = place_within s.limits blank restated reads c C.before q before.placed.1 (older c (Judged r.conn r.place C.message Forward) C.before q (λ e. cc) at_too) in
            let same : r.place ≡ message_count c past = place ∙ ap (λ (d : ℕ). message_count d past) is in
            omega (arith, within, newest, same);
      }

  -- the proxy's own requests are of nobody
  pub newest : (r : Request) (past : List Fact) → IsPlacedIn s c past → IsAsked s r past → (r.conn == c) ≡ true → IsNewest c r past
  newest r past P asked mine =
      let is : r.conn ≡ c = eqb-true r.conn c mine in
      ⊎_elim (λ carries. carries_newest r past P is carries) (λ own. absurd (client (sym is ∙ ⊎_elim (λ opens. opens.own) (λ subscribes. subscribes.own) own))) asked.carries
