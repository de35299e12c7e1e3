-- How a protocol puts the view of a client into bytes. A view has the newest entry first.
use Rattle.std.specs.Prelude.{ℕ, List, [], ◌∷◌}
use Rattle.proxy_history.specs.View.{Entry, Blank}
use Rattle.proxy_history.specs.Rendering.{EntryText}

-- `Known` is what a client's own view tells of it
pub record Wording (Known : Type 0) : Type 0 where
  -- a message without its transaction number
  pub blank : Blank
  -- what is known of a client that joined, and what an entry changes of that
  pub fresh : Known
  pub step : Known → Entry → Known
  -- the bytes of an entry, from what the entries before it tell, and from these entries
  pub text : Known → List Entry → Entry → List ℕ

-- what some entries tell
unfoldable pub told_by : {Known : Type 0} → Known → (Known → Entry → Known) → List Entry → Known
told_by fresh step [] = fresh
told_by fresh step (entry ∷ entries) = step (told_by fresh step entries) entry

-- the bytes of an entry that follows these entries
abbrev pub text_behind : {Known : Type 0} → Wording Known → EntryText
text_behind wording entries entry = wording.text (told_by wording.fresh wording.step entries) entries entry
