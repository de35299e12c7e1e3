-- What a session does in all: it sends the texts of its requests, one after another, and takes.
use Rattle.std.specs.Prelude.{◌≡◌, ℕ, List, [], ◌∷◌, ◌++◌, take, All, Result, Ok, Err}
use Rattle.std.specs.List.{concat}
use Rattle.link_io.specs.Calls.{Call, Opened, Paired, Sent, Closed}
use Rattle.link_session.specs.declared.fault.SessionFault.{SessionFault}
use Rattle.link_session.specs.Marks.{IsTake}

-- a call of `send` or of `take`
abbrev pub IsSendOrTake : Call → Type 0
IsSendOrTake (Sent bytes ok) = Unit {0}
IsSendOrTake call = IsTake call

-- the bytes that the calls sent
unfoldable pub sent_in : List Call → List ℕ
sent_in [] = []
sent_in (Sent bytes ok ∷ calls) = bytes ++ sent_in calls
sent_in (_ ∷ calls) = sent_in calls

-- the bytes that had been sent before each take, where these had been sent before the calls
unfoldable pub sent_before_takes : List ℕ → List Call → List (List ℕ)
sent_before_takes sent [] = []
sent_before_takes sent (Sent bytes ok ∷ calls) = sent_before_takes (sent ++ bytes) calls
sent_before_takes sent (Opened address ok ∷ calls) = sent_before_takes sent calls
sent_before_takes sent (Paired ok ∷ calls) = sent_before_takes sent calls
sent_before_takes sent (Closed ∷ calls) = sent_before_takes sent calls
sent_before_takes sent (_ ∷ calls) = sent ∷ sent_before_takes sent calls

-- it has an end of its own, and one like this
abbrev pub EndsWell : {E : Type 0} → (IsGood : E → Type 0) → Result E SessionFault → Type 0
EndsWell IsGood (Ok end) = IsGood end
EndsWell IsGood (Err why) = ⊥

-- whole texts, the first of these
abbrev pub AreFirst : List (List ℕ) → List ℕ → Type 0
AreFirst texts sent = (count : ℕ) × (sent ≡ concat (take count texts))

-- calls sent these texts: before each take whole ones, in all up to some byte, and all of them where the session ends well
pub record SendsInOrder (texts : List (List ℕ)) (calls : List Call) (Well : Type 0) : Type 0 where
  pub before_takes : All (AreFirst texts) (sent_before_takes [] calls)
  pub unsent : List ℕ
  pub in_all : concat texts ≡ sent_in calls ++ unsent
  pub ends : Well → unsent ≡ []
