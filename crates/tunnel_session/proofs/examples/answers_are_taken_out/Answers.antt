use Rattle.std.proofs.Common.{refl}
use Rattle.tunnel_session.proofs.examples.answers_are_taken_out.Goals as goal

pub returns : goal.returns
returns c = record {
  answer = refl;
  ragged = refl;
  nothing = refl;
  two = refl;
  another_service = refl;
  another_client = refl;
  another_number = refl;
  indication = refl;
  unframed = refl;
  failure = refl;
  no_service = refl;
  function_error = refl;
  long_error = refl;
}
