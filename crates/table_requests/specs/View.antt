-- What a request by tables stands for.
use Rattle.message_tables.specs.View.{message_view}
use Rattle.table_requests.specs.declared.asked.Asked as declared
use Rattle.table_requests.specs.Requests.{Asked}

abbrev pub asked_view : declared.Asked → Asked
asked_view found = record { message = message_view found.message; tlvs = found.tlvs }
