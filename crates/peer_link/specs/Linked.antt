-- What a link to a peer stands for.
use Rattle.std.specs.Prelude.{◌≡◌, ℕ, List, [], ◌++◌, drop, Option}
use Rattle.link_io.specs.Calls.{Call}
use Rattle.link_io.specs.declared.link.Taken.{Taken}
use Rattle.link_io.specs.declared.link.Taken.TheVariants.{End}
use Rattle.link_session.specs.Marks.{bytes_in}
use Rattle.link_session.specs.Peer.{Peer, LeadsTo, said, texts_in}

pub record Linked (A : Type 0) : Type 0 where
  pub answerer : A
  -- the calls, where recorded
  pub recorded : Option (List Call)
  -- how many calls have failed
  pub faults : ℕ
  -- how many calls were made
  pub count : ℕ

-- the texts of the calls have come to the peer, which said these bytes to them, and so many of these were taken
pub record IsAtPeer {A : Type 0} (peer : A → Peer) (has_met : List (List ℕ) → A → Type 0) (answerer : A) (calls : List Call) (bytes : List ℕ) (taken : ℕ) : Type 0 where
  pub met : has_met (texts_in calls) answerer
  pub leads : LeadsTo (peer answerer) [] [] calls
  pub all : said (peer answerer) [] (texts_in calls) ≡ bytes
  pub rest : bytes ≡ bytes_in calls ++ drop taken bytes

-- a take that hasn't found the end
abbrev pub IsNoEnd : Taken → Type 0
IsNoEnd End = ⊥
IsNoEnd _ = Unit {0}
