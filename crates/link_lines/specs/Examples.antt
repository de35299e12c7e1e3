-- Worked examples, letter for letter.
use Rattle.std.specs.Prelude.{◌≡◌, ℕ, true, false, List, [], ◌∷◌, ◌++◌, codes}
use Rattle.kit_bytes.specs.declared.kind.Kind.TheVariants.{Qmi, Mbim}
use Rattle.link_io.specs.Target.{AtSocket, AtBridge}
use Rattle.link_io.specs.Calls.{Opened, Paired, Sent, Took, WasQuiet, WasEnd, Closed}
use Rattle.qmi_services.specs.BuiltIn.{built_in}
use Rattle.watched_link.specs.Notes.{Event, Called, Said}
use Rattle.link_lines.specs.Lines.{lines_of}

-- of a link to QMI, or to MBIM
abbrev pub QmiTells : List Event → List ℕ → Type 0
QmiTells events text = lines_of Qmi built_in events ≡ text

abbrev pub MbimTells : List Event → List ℕ → Type 0
MbimTells events text = lines_of Mbim [] events ≡ text

-- Allocate CID of DMS, and its answer
abbrev pub request : List ℕ
request = 0x01 ∷ 0x0F ∷ 0x00 ∷ 0x00 ∷ 0x00 ∷ 0x00 ∷ 0x00 ∷ 0x01 ∷ 0x22 ∷ 0x00 ∷ 0x04 ∷ 0x00 ∷ 0x01 ∷ 0x01 ∷ 0x00 ∷ 0x02 ∷ []

abbrev pub answer_front : List ℕ
answer_front = 0x01 ∷ 0x17 ∷ 0x00 ∷ 0x80 ∷ 0x00 ∷ 0x00 ∷ 0x01 ∷ []

abbrev pub answer_rest : List ℕ
answer_rest = 0x01 ∷ 0x22 ∷ 0x00 ∷ 0x0C ∷ 0x00 ∷ 0x02 ∷ 0x04 ∷ 0x00 ∷ 0x00 ∷ 0x00 ∷ 0x00 ∷ 0x00 ∷ 0x01 ∷ 0x02 ∷ 0x00 ∷ 0x02 ∷ 0x07 ∷ []

abbrev pub answer : List ℕ
answer = answer_front ++ answer_rest

abbrev pub opened : Event
opened = Called (Opened (AtSocket (codes "m.sock")) true)

abbrev pub AllocationIsTold : Type 0
AllocationIsTold =
    QmiTells (opened ∷ Called (Sent request true) ∷ Called WasQuiet ∷ Called (Took answer) ∷ Called Closed ∷ [])
    (codes "> 0 ctl 0x0022 request client 0 number 1: Allocate CID\n>   0x01: 2\n< 0 ctl 0x0022 response client 0 number 1: Allocate CID\n<   0x02: status 0, error 0\n<   0x01 Allocation:\n<     Service: 2\n<     Client id: 7\n")

-- a message in two takes, between which something is sent: it is told with the take that completes it
abbrev pub PartIsToldLater : Type 0
PartIsToldLater =
    QmiTells (opened ∷ Called (Took answer_front) ∷ Called (Sent request true) ∷ Called (Took answer_rest) ∷ Called WasEnd ∷ [])
    (codes "> 0 ctl 0x0022 request client 0 number 1: Allocate CID\n>   0x01: 2\n< 0 ctl 0x0022 response client 0 number 1: Allocate CID\n<   0x02: status 0, error 0\n<   0x01 Allocation:\n<     Service: 2\n<     Client id: 7\n")

-- two messages in one take: places count from the beginning of the stream
abbrev pub TwoAreTold : Type 0
TwoAreTold =
    QmiTells (opened ∷ Called (Took (request ++ request)) ∷ [])
    (codes "< 0 ctl 0x0022 request client 0 number 1: Allocate CID\n<   0x01: 2\n< 16 ctl 0x0022 request client 0 number 1: Allocate CID\n<   0x01: 2\n")

-- a link that is opened anew begins its streams anew
abbrev pub NewStreamsAreTold : Type 0
NewStreamsAreTold =
    QmiTells (opened ∷ Called (Took request) ∷ Called Closed ∷ opened ∷ Called (Took request) ∷ [])
    (codes "< 0 ctl 0x0022 request client 0 number 1: Allocate CID\n<   0x01: 2\n< 0 ctl 0x0022 request client 0 number 1: Allocate CID\n<   0x01: 2\n")

-- a node that is busy, and a send that failed half way, behind one that didn't
abbrev pub FaultsAreTold : Type 0
FaultsAreTold =
    QmiTells
    (Called (Opened (AtBridge (codes "/run/wdm0")) false) ∷ Said (codes "Device or resource busy") ∷ opened ∷ Called (Paired true) ∷ Called (Sent request true) ∷ Called (Sent [] false)
    ∷ Said (codes "Broken pipe") ∷ Called Closed ∷ [])
    (codes "! /run/wdm0: Device or resource busy\n> 0 ctl 0x0022 request client 0 number 1: Allocate CID\n>   0x01: 2\n! m.sock: Broken pipe\n")

-- an MBIM answer of two fragments, each in a take of its own
abbrev pub FragmentsAreTold : Type 0
FragmentsAreTold =
    MbimTells
    (opened
    ∷ Called (Took (0x03 ∷ 0x00 ∷ 0x00 ∷ 0x80 ∷ 0x28 ∷ 0x00 ∷ 0x00 ∷ 0x00 ∷ 0x02 ∷ 0x00 ∷ 0x00 ∷ 0x00 ∷ 0x02 ∷ 0x00 ∷ 0x00 ∷ 0x00 ∷ 0x00 ∷ 0x00 ∷ 0x00 ∷ 0x00 ∷ 0xA2 ∷ 0x89 ∷ 0xCC ∷ 0x33 ∷ 0xBC ∷ 0xBB ∷ 0x8B ∷ 0x4F ∷ 0xB6 ∷ 0xB0 ∷ 0x13 ∷ 0x3E ∷ 0xC2 ∷ 0xAA ∷ 0xE6 ∷ 0xDF ∷ 0x03 ∷ 0x00 ∷ 0x00 ∷ 0x00 ∷ []))
    ∷ Called (Took (0x03 ∷ 0x00 ∷ 0x00 ∷ 0x80 ∷ 0x24 ∷ 0x00 ∷ 0x00 ∷ 0x00 ∷ 0x02 ∷ 0x00 ∷ 0x00 ∷ 0x00 ∷ 0x02 ∷ 0x00 ∷ 0x00 ∷ 0x00 ∷ 0x01 ∷ 0x00 ∷ 0x00 ∷ 0x00 ∷ 0x00 ∷ 0x00 ∷ 0x00 ∷ 0x00 ∷ 0x08 ∷ 0x00 ∷ 0x00 ∷ 0x00 ∷ 0x01 ∷ 0x00 ∷ 0x00 ∷ 0x00 ∷ 0x01 ∷ 0x00 ∷ 0x00 ∷ 0x00 ∷ []))
    ∷ [])
    (codes "< 0 COMMAND_DONE number 2\n< 40 COMMAND_DONE number 2\n<   a289cc33-bcbb-8b4f-b6b0-133ec2aae6df cid 3 status 0\n<   HwRadioState: 1\n<   SwRadioState: 1\n")
