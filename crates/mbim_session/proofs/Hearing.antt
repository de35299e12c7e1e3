-- From the answer to a command that came to what it says, whatever is read in it.
use Rattle.std.proofs.Common.{◌≡◌, ℕ, List, Option, Result, Ok, Err, sym, subst}
use Rattle.framing.specs.Reading.{Reading}
use Rattle.link_io.specs.Calls.{Call}
use Rattle.link_session.specs.declared.fault.SessionFault.{SessionFault}
use Rattle.link_session.specs.declared.incoming.Found.{Found}
use Rattle.link_session.specs.Marks.{Placed}
use Rattle.link_session.specs.Waiting.{Heard}
use Rattle.link_session.specs.Asking.{Asked}
use Rattle.link_session.specs.Hearing.{AsksFor, RepliesTo, found_in}
use Rattle.link_session.proofs.Steps.{RepliesTo-reads, RepliesTo-unread}
use Rattle.mbim_session.specs.declared.command_answer.CommandAnswer.{CommandAnswer}
use Rattle.mbim_session.specs.Hearing.{HasReply}

module _
    {A : Type 0}
    {asked : Asked}
    (Reads : List Placed → Placed → Result A SessionFault → Type 0)
    {heard : Heard}
    {cutter : Reading}
    {before after : Option (List Call)}
    (answer : CommandAnswer)
    {found : Found}
    {bytes : List ℕ}
    (asks : AsksFor asked (HasReply answer) heard (Ok found) cutter before after)
    (are : bytes ≡ found_in cutter found) where
  is_there : HasReply answer asks.passed (record { place = found.place; bytes = bytes })
  is_there = subst (λ (l : List ℕ). HasReply answer asks.passed (record { place = found.place; bytes = l })) (sym are) asks.answered.answer

  -- it doesn't read
  pub command-unread : {why : SessionFault} → ((passed : List Placed) → HasReply answer passed (record { place = found.place; bytes = bytes }) → Reads passed (record { place = found.place; bytes = bytes }) (Err why)) → RepliesTo asked Reads heard (Err why) cutter before after
  command-unread reads = RepliesTo-unread asks are (reads asks.passed is_there)

  -- it says this
  pub command-reads : {said : A} → ((passed : List Placed) → HasReply answer passed (record { place = found.place; bytes = bytes }) → Reads passed (record { place = found.place; bytes = bytes }) (Ok said)) → RepliesTo asked Reads heard (Ok (record { found = found; answer = said })) cutter before after
  command-reads reads = RepliesTo-reads asks are (reads asks.passed is_there)
