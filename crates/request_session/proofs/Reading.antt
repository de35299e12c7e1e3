-- What reading an answer ends with.
use Rattle.std.proofs.Common.{◌≡◌, ℕ, List, Option, Result, Ok, Err, ap, subst}
use Rattle.framing.specs.declared.framing.Size.{Size}
use Rattle.framing.specs.Reading.{Reading}
use Rattle.link_io.specs.Calls.{Call}
use Rattle.link_session.specs.declared.fault.SessionFault.{SessionFault}
use Rattle.link_session.specs.declared.fault.SessionFault.TheVariants as fault
use Rattle.link_session.specs.declared.incoming.Found.{Found}
use Rattle.link_session.specs.Marks.{Placed}
use Rattle.link_session.specs.Waiting.{Heard}
use Rattle.link_session.specs.Hearing.{Stands, found_in, placed_in}
use Rattle.session_script.specs.Script.{Ends}
use Rattle.session_script.specs.Hearing.{Goes}
use Rattle.session_script.proofs.Going.{Goes-as, Goes-ends, Goes-no_memory}
use Rattle.request_session.specs.declared.ends.TlvAnswer.{TlvAnswer}
use Rattle.request_session.specs.Hearing.{ReadsAnswer}
use Rattle.request_session.specs.Session.{answer_in}

module _ {size : List ℕ → Size} {heard : Heard} {cutter : Reading} (calls : Option (List Call)) (stands : Stands size cutter heard) where
  ends_so : (message : Placed) {result : Result TlvAnswer SessionFault} → result ≡ answer_in message → Goes size (Ends (answer_in message)) heard result cutter calls calls
  ends_so message {result = result} is = Goes-as (ap (λ (r : Result TlvAnswer SessionFault). Ends r) is) (Goes-ends calls stands)

  reading : (message : Placed) (result : Result TlvAnswer SessionFault) → ReadsAnswer message result → Goes size (Ends (answer_in message)) heard result cutter calls calls
  reading message (Err fault.OutOfMemory) is = Goes-no_memory (Ends (answer_in message)) calls
  reading message (Ok answer) is = ends_so message is
  reading message (Err fault.LinkFault) is = ends_so message is
  reading message (Err fault.LinkEnd) is = ends_so message is
  reading message (Err fault.TimedOut) is = ends_so message is
  reading message (Err fault.Flooded) is = ends_so message is
  reading message (Err (fault.Broken place)) is = ends_so message is

  pub Goes-reading : (found : Found) {bytes : List ℕ} → bytes ≡ found_in cutter found → (result : Result TlvAnswer SessionFault) → ReadsAnswer (record { place = found.place; bytes = bytes }) result
      → Goes size (Ends (answer_in (placed_in cutter found))) heard result cutter calls calls
  Goes-reading found {bytes = bytes} is result reads =
      let P : List ℕ → Type 0 = λ (l : List ℕ). Goes size (Ends (answer_in (record { place = found.place; bytes = l }))) heard result cutter calls calls in
      subst P is (reading (record { place = found.place; bytes = bytes }) result reads)
