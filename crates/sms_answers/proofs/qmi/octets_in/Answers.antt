use Rattle.std.proofs.Common.{map}
use Rattle.qmi_values.specs.View.{val_view}
use Rattle.qmi_values.proofs.Spellings.{list_of-values_of}
use Rattle.sms_answers.proofs.qmi.octets_in.Goals as goal

pub returns : goal.returns
returns c = rw (← c.as_slice.ensures, list_of-values_of (map val_view c.as_slice.result.now)) c.octets_of.ensures
