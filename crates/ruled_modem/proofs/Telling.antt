-- Indications that are added one after another.
use Rattle.std.proofs.Common.{◌≡◌, ℕ, ◌+◌, ◌<◌, ◌≤◌, Bool, true, false, if◌then◌else◌, List, ◌∷◌, ◌++◌, length, drop, filter, get_or, refl, sym, ap, ◌∙◌, append_assoc, append-nil, add-one}
use Rattle.std.proofs.Math.Seq.{drop-cons}
use Rattle.std.proofs.lemmas.List.{drop_all}
use Rattle.modem_rules.specs.declared.rules.IndicationRule.{IndicationRule}
use Rattle.ruled_modem.specs.Host.{Host, longest}
use Rattle.ruled_modem.specs.Replies.{indication}
use Rattle.ruled_modem.specs.Turns.{told_to}

-- of all that is to be told, this is left, where those are told that pass a test
abbrev pub IsLeft : (host : Host) → (test : IndicationRule → Bool) → (rules : List IndicationRule) → (before text : List ℕ) → (i : ℕ) → Type 0
IsLeft host test rules before text i = before ++ told_to host (filter test rules) ≡ text ++ told_to host (filter test (drop i rules))

module _ (host : Host) (test : IndicationRule → Bool) (rules : List IndicationRule) (before text : List ℕ) (i : ℕ) (rule : IndicationRule)
    (within : i < length rules) (is : rule ≡ get_or rules i rule) (has : IsLeft host test rules before text i) where
  item : drop i rules ≡ rule ∷ drop (i + 1) rules
  item = rw (add-one i, drop-cons rules i rule within, ← is) refl

  rest : List IndicationRule
  rest = filter test (drop (i + 1) rules)

  next : (told : Bool) → test rule ≡ told
      → told_to host (filter test (drop i rules)) ≡ (if told then indication (longest host) rule.kind rule.«data» ++ told_to host (filter test (drop (i + 1) rules)) else told_to host (filter test (drop (i + 1) rules)))
  unfolding rest
  next true told = ap (λ (l : List IndicationRule). told_to host (filter test l)) item ∙ ap (λ (b : Bool). told_to host (if b then rule ∷ rest else rest)) told
  next false told = ap (λ (l : List IndicationRule). told_to host (filter test l)) item ∙ ap (λ (b : Bool). told_to host (if b then rule ∷ rest else rest)) told

  pub IsLeft-told : test rule ≡ true → IsLeft host test rules before (text ++ indication (longest host) rule.kind rule.«data») (i + 1)
  IsLeft-told told =
      has ∙ ap (λ l. text ++ l) (next true told) ∙ sym (append_assoc text (indication (longest host) rule.kind rule.«data») (told_to host (filter test (drop (i + 1) rules))))

  pub IsLeft-other : test rule ≡ false → IsLeft host test rules before text (i + 1)
  IsLeft-other other = has ∙ ap (λ l. text ++ l) (next false other)

pub IsLeft-all : (host : Host) (test : IndicationRule → Bool) (rules : List IndicationRule) (before text : List ℕ) (i : ℕ) → length rules ≤ i → IsLeft host test rules before text i → text ≡ before ++ told_to host (filter test rules)
IsLeft-all host test rules before text i all has = sym (has ∙ ap (λ l. text ++ told_to host (filter test l)) (drop_all i rules all) ∙ append-nil text)
