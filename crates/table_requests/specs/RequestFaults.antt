-- What the faults of a value and of a named message are here.
use Rattle.named_messages.specs.declared.fault.NamedFault.{NamedFault}
use Rattle.named_messages.specs.declared.fault.NamedFault.TheVariants as named
use Rattle.json_values.specs.declared.fault.ValueFault.{ValueFault}
use Rattle.json_values.specs.declared.fault.ValueFault.TheVariants as value
use Rattle.table_requests.specs.declared.request_fault.RequestFault.{RequestFault}
use Rattle.table_requests.specs.declared.request_fault.RequestFault.TheVariants.{Tables, Misfit, OutOfMemory}

abbrev pub of_value : ValueFault → RequestFault
of_value (value.Misfit path) = Misfit path
of_value value.OutOfMemory = OutOfMemory

abbrev pub of_named : NamedFault → RequestFault
of_named named.Json = Tables named.Json
of_named named.Missing = Tables named.Missing
of_named named.Several = Tables named.Several
of_named (named.Member which) = Tables (named.Member which)
of_named named.Format = Tables named.Format
of_named named.Twice = Tables named.Twice
of_named named.Deep = Tables named.Deep
of_named named.OutOfMemory = OutOfMemory
