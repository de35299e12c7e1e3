-- Worked examples, byte for byte.
use Rattle.std.specs.Prelude.{◌≡◌, ℕ, List, [], ◌∷◌, ◌++◌, codes, Result, Ok, Err}
use Rattle.kit_bytes.specs.Hex.{hex}
use Rattle.link_session.specs.declared.fault.SessionFault.{SessionFault}
use Rattle.link_session.specs.declared.fault.SessionFault.TheVariants.{Broken}
use Rattle.link_session.specs.Marks.{Placed}
use Rattle.device_core.specs.declared.wanted.Wanted.{Wanted}
use Rattle.tunnel_session.specs.declared.carried.Carried.{Carried}
use Rattle.tunnel_session.specs.declared.carried.Carried.TheVariants.{Message, Refused}
use Rattle.tunnel_session.specs.declared.ends.TunnelEnd.TheVariants.{Mbim, FunctionError}
use Rattle.tunnel_session.specs.Requests.{carried_message}
use Rattle.tunnel_session.specs.Carried.{carried_in}

-- ---- what is sent ----

pub record MessagesAreCarried : Type 0 where
  pub versions : carried_message (hex (codes "01 0B 00 00 00 00 00 01 21 00 00 00")) 2 ≡ hex (codes "03 00 00 00 3C 00 00 00 02 00 00 00 01 00 00 00 00 00 00 00 D1 A3 0B C2 F9 7A 6E 43 BF 65 C7 E2 4F B0 F0 D3 01 00 00 00 01 00 00 00 0C 00 00 00 01 0B 00 00 00 00 00 01 21 00 00 00")

-- ---- what comes for it ----

-- the answer to a request of DMS, of the client 1, with number 1
abbrev pub wanted : Wanted
wanted = record { service = 2; cid = 1; number = 1 }

-- its Result TLV alone, which is a success
abbrev pub response : List ℕ
response = hex (codes "01 13 00 80 02 01 02 01 00 22 00 07 00 02 04 00 00 00 00 00")

-- a DONE behind 16 bytes, to the command with number 3, from its length on to the length of its buffer
abbrev pub done : (length status size : List ℕ) → (buffer : List ℕ) → Placed
done length status size buffer = record {
  place = 16;
  bytes = hex (codes "03 00 00 80") ++ length ++ hex (codes "03 00 00 00 01 00 00 00 00 00 00 00 D1 A3 0B C2 F9 7A 6E 43 BF 65 C7 E2 4F B0 F0 D3 01 00 00 00") ++ status ++ size ++ buffer;
}

-- with status 0, and a buffer of 20 bytes
abbrev pub carries : (buffer : List ℕ) → Placed
carries buffer = done (hex (codes "44 00 00 00")) (hex (codes "00 00 00 00")) (hex (codes "14 00 00 00")) buffer

abbrev pub refused : (status : ℕ) → Placed
refused status = done (hex (codes "30 00 00 00")) (status ∷ hex (codes "00 00 00")) (hex (codes "00 00 00 00")) []

abbrev pub comes : Placed → Result Carried SessionFault
comes message = carried_in wanted 3 [] message

pub record AnswersAreTakenOut : Type 0 where
  pub answer : comes (carries response) ≡ Ok (Message (record { place = 16; bytes = response }))
  pub ragged : comes (done (hex (codes "43 00 00 00")) (hex (codes "00 00 00 00")) (hex (codes "13 00 00 00")) (hex (codes "01 13 00 80 02 01 02 01 00 22 00 07 00 02 04 00 00 00 00"))) ≡ Err (Broken 16)
  pub nothing : comes (refused 0) ≡ Err (Broken 16)
  pub two : comes (done (hex (codes "58 00 00 00")) (hex (codes "00 00 00 00")) (hex (codes "28 00 00 00")) (response ++ response)) ≡ Err (Broken 16)
  pub another_service : comes (carries (hex (codes "01 13 00 80 03 01 02 01 00 22 00 07 00 02 04 00 00 00 00 00"))) ≡ Err (Broken 16)
  pub another_client : comes (carries (hex (codes "01 13 00 80 02 02 02 01 00 22 00 07 00 02 04 00 00 00 00 00"))) ≡ Err (Broken 16)
  pub another_number : comes (carries (hex (codes "01 13 00 80 02 01 02 02 00 22 00 07 00 02 04 00 00 00 00 00"))) ≡ Err (Broken 16)
  pub indication : comes (carries (hex (codes "01 13 00 80 02 01 04 01 00 22 00 07 00 02 04 00 00 00 00 00"))) ≡ Err (Broken 16)
  pub unframed : comes (carries (hex (codes "01 13 00 80 02 01 02 01 00 22 00 06 00 02 04 00 00 00 00 00"))) ≡ Err (Broken 16)
  -- a failure, and a modem that carries no QMI messages
  pub failure : comes (refused 2) ≡ Ok (Refused (Mbim 2))
  pub no_service : comes (refused 9) ≡ Ok (Refused (Mbim 9))
  pub function_error : comes (record { place = 16; bytes = hex (codes "04 00 00 80 10 00 00 00 03 00 00 00 05 00 00 00") }) ≡ Ok (Refused (FunctionError 5))
  pub long_error : comes (record { place = 16; bytes = hex (codes "04 00 00 80 14 00 00 00 03 00 00 00 05 00 00 00 00 00 00 00") }) ≡ Err (Broken 16)
