-- Why a file and JSON give no request; want of memory comes at any time.
use Rattle.std.specs.Prelude.{◌≡◌, ◌⊎◌}
use Rattle.file_io.specs.declared.reading.FileFault.{FileFault}
use Rattle.file_io.specs.declared.reading.FileFault.TheVariants as file
use Rattle.named_messages.specs.declared.fault.NamedFault.{NamedFault}
use Rattle.named_messages.specs.declared.fault.NamedFault.TheVariants as named
use Rattle.table_requests.specs.declared.request_fault.RequestFault.{RequestFault}
use Rattle.table_requests.specs.declared.request_fault.RequestFault.TheVariants as request
use Rattle.table_requests.specs.declared.fault.InputFault.TheVariants as input
use Rattle.table_requests.specs.declared.fault.NoRequest.{NoRequest}
use Rattle.table_requests.specs.declared.fault.NoRequest.TheVariants.{ReadFault, Long, Message, Input, OutOfMemory}
use Rattle.table_requests.specs.Pointer.{member_text, pointer_text}

abbrev pub no_file : FileFault → NoRequest
no_file file.ReadFault = ReadFault
no_file file.Long = Long
no_file file.OutOfMemory = OutOfMemory

abbrev pub no_message : NamedFault → NoRequest
no_message named.OutOfMemory = OutOfMemory
no_message fault = Message fault

-- a fault of the JSON is told with a JSON Pointer to what is at fault
abbrev pub no_request : RequestFault → NoRequest
no_request (request.Tables fault) = no_message fault
no_request request.Json = Input input.Json
no_request (request.NoTlv name) = Input (input.NoTlv (member_text name))
no_request (request.Misfit path) = Input (input.Value (pointer_text path))
no_request request.TooLong = Input input.Long
no_request request.OutOfMemory = OutOfMemory

-- this tells of a fault, or that there was no memory to do so
abbrev pub IsNoRequest : RequestFault → NoRequest → Type 0
IsNoRequest fault none = (none ≡ no_request fault) ⊎ (none ≡ OutOfMemory)
