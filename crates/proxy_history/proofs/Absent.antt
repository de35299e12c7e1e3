-- What those who are away do adds nothing.
use Rattle.std.proofs.Common.{◌≡◌, ℕ, Bool, true, false, if◌then◌else◌, List, refl}
use Rattle.proxy_history.specs.Facts.{Fact}
use Rattle.proxy_history.specs.Connections.{is_present}
use Rattle.proxy_history.specs.Modem.{is_away}
use Rattle.proxy_history.specs.Protocol.{Protocol}
use Rattle.proxy_history.specs.Items.{ModemIsLost, ModemReturns}
use Rattle.proxy_history.specs.History.{add}
use Rattle.proxy_history.specs.Absent.{AddsNothing}

skipped : (there : Bool) (facts past : List Fact) → there ≡ false → (if there then facts else past) ≡ past
skipped true facts past absent = absurd (cc)
skipped false facts past absent = refl

module _ {Known : Type 0} (p : Protocol Known) where
  pub adds_nothing : (c : ℕ) (past : List Fact) → is_present c past ≡ false → AddsNothing p c past
  adds_nothing c past absent = record {
    message = λ m. skipped (is_present c past) _ past absent;
    bad_stream = skipped (is_present c past) _ past absent;
    leaving = skipped (is_present c past) _ past absent;
    taking = λ count. skipped (is_present c past) _ past absent;
  }

  pub lost_is_away : (away : Bool) (past : List Fact) → is_away away (add p ModemIsLost past) ≡ true
  unfolding is_away
  lost_is_away away past = refl

  pub returned_is_there : (away : Bool) (past : List Fact) → is_away away (add p ModemReturns past) ≡ false
  unfolding is_away
  returned_is_there away past = refl
