-- The messages of the modem's stream are heard one at a time, and a core that is lost or away.
use Rattle.std.proofs.Common.{◌≡◌, ℕ, Bool, true, false, List, [], ◌∷◌, ◌++◌, refl, ap, sym, ◌∙◌, if◌then◌else◌}
use Rattle.framing.specs.Cutting.{Cutting, cut}
use Rattle.proxy_history.specs.Streams.{Framing, is_invalid}
use Rattle.proxy_state.specs.State.{State, Core, Handlers}
use Rattle.proxy_state.specs.Step.{hear_all, lose, lose_if, hear_cut, bring_modem, lose_modem, is_away}

module _ {T S : Type 0} (h : Handlers T S) (size : Framing) where
  more : (m : List ℕ) (messages : List (List ℕ)) (x : State T S) → hear_all h size messages (h.hear_modem m x) ≡ hear_all h size (m ∷ messages) x
  unfolding hear_all
  more m messages x = refl

  none : (x : State T S) → x ≡ hear_all h size [] x
  unfolding hear_all
  none x = refl

  pub heard_one : (m : List ℕ) (all messages : List (List ℕ)) (x after : State T S) → after ≡ h.hear_modem m x → all ≡ m ∷ messages → hear_all h size messages after ≡ hear_all h size all x
  heard_one m all messages x after is whole = ap (hear_all h size messages) is ∙ more m messages x ∙ sym (ap (λ (l : List (List ℕ)). hear_all h size l x) whole)

  pub heard_none : (rest : List ℕ) (x : State T S) → cut size rest ≡ record { messages = []; rest = rest } → x ≡ hear_all h size (cut size rest).messages x
  heard_none rest x is = none x ∙ ap (λ (f : Cutting). hear_all h size f.messages x) (sym is)

  -- ---- the modem is away ----

  module _ (old : Core T S) where
    pub unheard_is : (piece : List ℕ) → is_away h size old ≡ true → old ≡ bring_modem h size piece old
    unheard_is piece gone = sym (ap (λ (b : Bool). if b then old else hear_cut h size (cut size (old.rest ++ piece)) old.state) gone)

    pub not_lost_is : is_away h size old ≡ true → old ≡ lose_modem h size old
    not_lost_is gone = sym (ap (λ (b : Bool). if b then old else lose h size old.state) gone)

    pub lost_is : (after : Core T S) → is_away h size old ≡ false → after ≡ lose h size old.state → after ≡ lose_modem h size old
    lost_is after here is = is ∙ sym (ap (λ (b : Bool). if b then old else lose h size old.state) here)

    -- ---- it is there ----

    module _ (piece pushed : List ℕ) (here : is_away h size old ≡ false) (pushed_is : pushed ≡ old.rest ++ piece) (heard : State T S) (made : heard ≡ hear_all h size (cut size pushed).messages old.state) where
      cut_is : (bad : Bool) → is_invalid (size (cut size pushed).rest) ≡ bad → lose_if h size bad (cut size pushed).rest heard ≡ bring_modem h size piece old
      cut_is bad is =
          ap (lose_if h size bad (cut size pushed).rest) made
          ∙ sym (ap (λ (b : Bool). lose_if h size b (cut size pushed).rest (hear_all h size (cut size pushed).messages old.state)) is)
          ∙ ap (λ (l : List ℕ). hear_cut h size (cut size l) old.state) pushed_is
          ∙ sym (ap (λ (b : Bool). if b then old else hear_cut h size (cut size (old.rest ++ piece)) old.state) here)

      pub good_is : (rest : List ℕ) → is_invalid (size (cut size pushed).rest) ≡ false → rest ≡ (cut size pushed).rest → record { state = heard; rest = rest } ≡ bring_modem h size piece old
      good_is rest good is = ap (λ (l : List ℕ). let core : Core T S = record { state = heard; rest = l } in core) is ∙ cut_is false good

      pub bad_is : (after : Core T S) → is_invalid (size (cut size pushed).rest) ≡ true → after ≡ lose h size heard → after ≡ bring_modem h size piece old
      bad_is after bad is = is ∙ cut_is true bad
