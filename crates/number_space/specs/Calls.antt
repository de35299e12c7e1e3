-- A space stands for the calls that were made on it. A list of calls has the newest first.
use Rattle.std.specs.Prelude.{◌≡◌, ℕ, List, [], ◌∷◌}
use Rattle.number_space.specs.Table.{Table, opened, gives, answers, expires, orphans, resets}

pub data Call (T : Type 0) : Type 0 where
  Give : (conn : ℕ) → (note : T) → (deadline : ℕ) → Call T
  Answer : (number : ℕ) → Call T
  Expire : (now : ℕ) → Call T
  Orphan : (conn : ℕ) → Call T
  Reset : Call T

abbrev pub after : {T : Type 0} → ℕ → ℕ → List (Call T) → Table T
after limit top [] = opened limit top
after limit top (Give conn note deadline ∷ past) = gives conn note deadline (after limit top past)
after limit top (Answer number ∷ past) = answers number (after limit top past)
after limit top (Expire now ∷ past) = expires now (after limit top past)
after limit top (Orphan conn ∷ past) = orphans conn (after limit top past)
after limit top (Reset ∷ past) = resets (after limit top past)

-- a space of this limit and top that these calls were made on
abbrev pub StandsFor : {T : Type 0} → ℕ → ℕ → List (Call T) → Table T → Type 0
StandsFor limit top calls table = table ≡ after limit top calls
