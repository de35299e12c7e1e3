-- What a ledger makes of each event, by the messages of MBIM.
use Rattle.std.specs.Prelude.{◌≡◌, ℕ, true, false, List, [], ◌∷◌, codes}
use Rattle.kit_bytes.specs.Hex.{hex}
use Rattle.proxy_history.specs.Events.{Piece, ModemPiece, Now}
use Rattle.rig_runs.specs.MbimExamples.{configuration, open_2, opened_1, query, four, register_state_to}
use Rattle.rig_trace.specs.declared.rows.Row.{Row}
use Rattle.rig_trace.specs.Rows.{Ledger, none, empty, follow}
use Rattle.rig_trace.specs.Mbim.{mbim_reading}

-- a query of the register state, with number 1
abbrev pub query_1 : List ℕ
query_1 = query (four 1) (four 9)

-- it, the configuration and OPEN, where the modem is asked nothing
pub record NothingIsBrought : Type 0 where
  pub refused : (follow mbim_reading (Piece 1 query_1) [] empty).counts ≡ record none { refused = 1 }
  pub names : (follow mbim_reading (Piece 1 configuration) [] empty).counts ≡ none
  pub opens : (follow mbim_reading (Piece 1 open_2) [] empty).counts ≡ none

-- ---- the proxy opens the modem by itself ----

-- client 1 names the device and says OPEN, and the proxy asks with number 1
abbrev pub open_1 : List ℕ
open_1 = hex (codes "01 00 00 00 10 00 00 00 01 00 00 00 00 10 00 00")

abbrev pub opening : Ledger
opening = follow mbim_reading (Piece 1 open_2) open_1 (follow mbim_reading (Piece 1 configuration) [] empty)

abbrev pub own_row : Row
own_row = record { serial = 1; conn = 1; place = 2; key = record { kind = 1; cid = 0; number = 1 }; own = true; deadline = 30000 }

-- an error in place of its answer
abbrev pub error_1 : List ℕ
error_1 = hex (codes "04 00 00 80 10 00 00 00 01 00 00 00 01 00 00 00")

pub record TheProxyOpens : Type 0 where
  pub rows : opening.rows ≡ own_row ∷ []
  pub counts : opening.counts ≡ none
  pub no_expiry : (follow mbim_reading (Now 30000) [] opening).counts ≡ none
  pub in_use : (follow mbim_reading (Now 30000) [] opening).rows ≡ own_row ∷ []
  pub opened : (follow mbim_reading (ModemPiece opened_1) [] opening).rows ≡ []
  pub uncounted : (follow mbim_reading (ModemPiece opened_1) [] opening).counts ≡ none
  pub late_too : (follow mbim_reading (ModemPiece opened_1) [] (follow mbim_reading (Now 30000) [] opening)).counts ≡ none
  pub of_a_query : follow mbim_reading (ModemPiece (register_state_to 1)) [] opening ≡ opening
  pub error : follow mbim_reading (ModemPiece error_1) [] opening ≡ opening

-- ---- a client asks ----

-- client 2 says the query, and the modem sees it with number 2
abbrev pub asked : Ledger
asked = follow mbim_reading (Piece 2 query_1) (query (four 2) (four 9)) opening

abbrev pub row : Row
row = record { serial = 2; conn = 2; place = 1; key = record { kind = 3; cid = 0; number = 2 }; own = false; deadline = 30000 }

pub record ARequestIsAsked : Type 0 where
  pub rows : asked.rows ≡ own_row ∷ row ∷ []
  pub counts : asked.counts ≡ record none { forwarded = 1 }
  pub answered : (follow mbim_reading (ModemPiece (register_state_to 2)) [] asked).rows ≡ own_row ∷ []
  pub expired : (follow mbim_reading (Now 30000) [] asked).counts ≡ record none { forwarded = 1; expired = 1 }
