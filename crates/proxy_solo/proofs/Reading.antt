-- A client's part of a history answers each question as the history does, however judged messages read in it.
use Rattle.std.proofs.Common.{◌≡◌, ℕ, Bool, true, false, List, [], ◌∷◌, ◌++◌, refl, ap, ◌∙◌, sym}
use Rattle.std.specs.List.{AllByRecursion}
use Rattle.proxy_history.specs.Facts.{Fact, Verdict, Judged, Freed, Reset, ModemLost, ModemReturned}
use Rattle.proxy_history.specs.Connections.{present, message_count}
use Rattle.proxy_history.specs.Requests.{in_use, pending}
use Rattle.proxy_history.specs.ClientIds.{held}
use Rattle.proxy_history.specs.Modem.{is_away}
use Rattle.proxy_solo.specs.Part.{facts_if}

abbrev pub is_judged : Fact → Bool
is_judged (Judged d place message verdict) = true
is_judged _ = false

-- only a judged message may read otherwise than it stands, and it tells the same
pub record Reads (restated : Fact → List Fact) : Type 0 where
  pub plain : (fact : Fact) → is_judged fact ≡ false → restated fact ≡ fact ∷ []
  pub present : (d place : ℕ) (m : List ℕ) (verdict : Verdict) (facts : List Fact) → present (restated (Judged d place m verdict) ++ facts) ≡ present facts
  pub count : (c d place : ℕ) (m : List ℕ) (verdict : Verdict) (facts : List Fact) → message_count c (restated (Judged d place m verdict) ++ facts) ≡ message_count c (Judged d place m verdict ∷ facts)
  pub in_use : (d place : ℕ) (m : List ℕ) (verdict : Verdict) (facts : List Fact) → in_use (restated (Judged d place m verdict) ++ facts) ≡ in_use facts
  pub pending : (d place : ℕ) (m : List ℕ) (verdict : Verdict) (facts : List Fact) → pending (restated (Judged d place m verdict) ++ facts) ≡ pending facts
  pub held : (d place : ℕ) (m : List ℕ) (verdict : Verdict) (facts : List Fact) → held (restated (Judged d place m verdict) ++ facts) ≡ held facts
  pub away : (away : Bool) (d place : ℕ) (m : List ℕ) (verdict : Verdict) (facts : List Fact) → is_away away (restated (Judged d place m verdict) ++ facts) ≡ is_away away facts

-- a question that facts of others leave as it is, and facts of the client change so
pub kept : {X : Type 0} (q : List Fact → X) (change : Bool → X → X) (b : Bool) (added facts : List Fact) → change false (q facts) ≡ q facts → (b ≡ true → q (added ++ facts) ≡ change b (q facts)) → q (facts_if b added facts) ≡ change b (q facts)
kept q change true added facts none is = is refl
kept q change false added facts none is = sym none

-- a question that they leave as it is
pub passed : {X : Type 0} (q : List Fact → X) (b : Bool) (added facts : List Fact) → q (added ++ facts) ≡ q facts → q (facts_if b added facts) ≡ q facts
passed q true added facts is = is
passed q false added facts is = refl

module _ (restated : Fact → List Fact) (R : Reads restated) where
  -- the same for a fact that stands as it is
  pub kept_plain : {X : Type 0} (q : List Fact → X) (change : Bool → X → X) (b : Bool) (fact : Fact) (facts : List Fact) → is_judged fact ≡ false → change false (q facts) ≡ q facts → (b ≡ true → q (fact ∷ facts) ≡ change b (q facts)) → q (facts_if b (restated fact) facts) ≡ change b (q facts)
  kept_plain q change b fact facts plain none is = kept q change b (restated fact) facts none (λ e. ap (λ (l : List Fact). q (l ++ facts)) (R.plain fact plain) ∙ is e)

  pub passed_plain : {X : Type 0} (q : List Fact → X) (b : Bool) (fact : Fact) (facts : List Fact) → is_judged fact ≡ false → q (fact ∷ facts) ≡ q facts → q (facts_if b (restated fact) facts) ≡ q facts
  passed_plain q b fact facts plain is = passed q b (restated fact) facts (ap (λ (l : List Fact). q (l ++ facts)) (R.plain fact plain) ∙ is)

-- ---- the facts that name nobody, and that a client gave something back ----

abbrev pub is_general : Fact → Bool
is_general (Freed c service cid) = true
is_general Reset = true
is_general ModemLost = true
is_general ModemReturned = true
is_general _ = false

abbrev pub AreGeneral : List Fact → Type 0
AreGeneral facts = AllByRecursion (λ fact. is_general fact ≡ true) facts

pub general_behind : (added facts : List Fact) → AreGeneral (added ++ facts) → AreGeneral facts
general_behind [] facts general = general
general_behind (fact ∷ added) facts general = general_behind added facts general.1

pub general_if : (b : Bool) (added facts : List Fact) → AreGeneral (facts_if b added facts) → AreGeneral facts
general_if true added facts general = general_behind added facts general
general_if false added facts general = general
