-- Examples of messages of the modem: which of them answer a request, and which are for nobody.
use Rattle.std.specs.Prelude.{◌≡◌, ℕ, List, [], ◌∷◌, ◌++◌, take, codes}
use Rattle.kit_bytes.specs.Hex.{hex}
use Rattle.proxy_history.specs.Events.{Event, Piece, ModemPiece}
use Rattle.proxy_history.specs.Facts.{Stray}
use Rattle.proxy_history.specs.Requests.{numbers_in_use}
use Rattle.proxy_examples.specs.Story.{opened, get_version, get_model, both_open, bytes_for, history}

-- the answer to Get Model with the request's number, from client id 6 of DMS and from client id 5 of NAS
abbrev pub model_of_6 : List ℕ
model_of_6 = hex (codes "01 1C 00 80 02 06 02 01 00 22 00 10 00 02 04 00 00 00 00 00 01 06 00 45 4D 37 34 35 35")

abbrev pub model_of_nas : List ℕ
model_of_nas = hex (codes "01 1C 00 80 03 05 02 01 00 22 00 10 00 02 04 00 00 00 00 00 01 06 00 45 4D 37 34 35 35")

abbrev pub asks_model : List ℕ → List Event
asks_model answer = both_open (Piece 1 get_model ∷ ModemPiece answer ∷ [])

-- the number stays in use
pub record OthersAnswersAreStray : Type 0 where
  pub client : bytes_for 1 (asks_model model_of_6) ≡ opened
  pub client_fact : take 1 (history (asks_model model_of_6)) ≡ Stray ∷ []
  pub client_number : numbers_in_use 1 (history (asks_model model_of_6)) ≡ 1 ∷ []
  pub service : bytes_for 1 (asks_model model_of_nas) ≡ opened
  pub service_fact : take 1 (history (asks_model model_of_nas)) ≡ Stray ∷ []
  pub service_number : numbers_in_use 1 (history (asks_model model_of_nas)) ≡ 1 ∷ []

-- answers that have the bits of a response and of an indication, of service 0 and of another one
abbrev pub version_both : List ℕ
version_both = hex (codes "01 1B 00 80 00 00 03 01 21 00 10 00 02 04 00 00 00 00 00 01 06 00 01 02 01 00 03 00")

abbrev pub model_both : List ℕ
model_both = hex (codes "01 1C 00 80 02 05 06 01 00 22 00 10 00 02 04 00 00 00 00 00 01 06 00 45 4D 37 34 35 35")

abbrev pub asks_version : List ℕ → List Event
asks_version answer = both_open (Piece 1 get_version ∷ ModemPiece answer ∷ [])

pub record BothBitsAreAResponse : Type 0 where
  pub control : bytes_for 1 (asks_version version_both) ≡ opened ++ version_both
  pub control_other : bytes_for 2 (asks_version version_both) ≡ opened
  pub control_number : numbers_in_use 0 (history (asks_version version_both)) ≡ []
  pub service : bytes_for 1 (asks_model model_both) ≡ opened ++ model_both
  pub service_number : numbers_in_use 1 (history (asks_model model_both)) ≡ []

-- an answer whose TLVs are one byte longer than its head says, and the same message as a request
abbrev pub version_unframed : List ℕ
version_unframed = hex (codes "01 1B 00 80 00 00 01 01 21 00 0F 00 02 04 00 00 00 00 00 01 06 00 01 02 01 00 03 00")

abbrev pub version_request : List ℕ
version_request = hex (codes "01 1B 00 80 00 00 00 01 21 00 10 00 02 04 00 00 00 00 00 01 06 00 01 02 01 00 03 00")

pub record OtherMessagesAreStray : Type 0 where
  pub unframed : bytes_for 1 (asks_version version_unframed) ≡ opened
  pub unframed_fact : take 1 (history (asks_version version_unframed)) ≡ Stray ∷ []
  pub unframed_number : numbers_in_use 0 (history (asks_version version_unframed)) ≡ 1 ∷ []
  pub request : bytes_for 1 (asks_version version_request) ≡ opened
  pub request_fact : take 1 (history (asks_version version_request)) ≡ Stray ∷ []
  pub request_number : numbers_in_use 0 (history (asks_version version_request)) ≡ 1 ∷ []
