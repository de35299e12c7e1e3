-- What values of the code stand for, without the memory that they take.
use Rattle.std.specs.Prelude.{◌≡◌, ℕ, map, option_map, Result, Ok, Err}
use Rattle.qmi_values.specs.View.{val_view}
use Rattle.qmi_services.specs.View.{row_view}
use Rattle.sim_qmi.specs.declared.answer.Answer as declared
use Rattle.sim_qmi.specs.declared.answer.Answer.TheVariants.{Failure, Success}
use Rattle.sim_qmi.specs.declared.sim.Asked as declared_asked
use Rattle.sim_qmi.specs.declared.sim.Asked.TheVariants.{Refused, Asks}
use Rattle.sim_qmi.specs.declared.request.Request.{Request}
use Rattle.sim_qmi.specs.Fits.{IsInRange}
use Rattle.sim_qmi.specs.Requests.{row_of}
use Rattle.sim_qmi.specs.Step.{Answer, failure, success}

abbrev pub answer_view : declared.Answer → Answer
answer_view (Failure error) = failure error
answer_view (Success values) = success (map (option_map val_view) values.items)

abbrev pub asked_view : declared_asked.Asked → Result Request ℕ
asked_view (Refused error) = Err error
asked_view (Asks message request) = Ok request

-- a request is of the message that it is found with, and its numbers are in range
abbrev pub IsOfItsRow : declared_asked.Asked → Type 0
IsOfItsRow (Refused error) = Unit {0}
IsOfItsRow (Asks message request) = (row_view message ≡ row_of request) × IsInRange request
