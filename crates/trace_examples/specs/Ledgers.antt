-- What a ledger makes of each event, by the messages of QMI.
use Rattle.std.specs.Prelude.{◌≡◌, ℕ, false, List, [], ◌∷◌, codes}
use Rattle.kit_bytes.specs.Hex.{hex}
use Rattle.proxy_history.specs.Events.{Joined, Piece, Left, ModemPiece, ModemGone, ModemBack, Now, Took, ModemTook}
use Rattle.proxy_examples.specs.Story.{open_device, get_model, get_model_as_2, model, model_to_2}
use Rattle.rig_trace.specs.declared.rows.Row.{Row}
use Rattle.rig_trace.specs.Rows.{Ledger, none, empty, said_by, follow}
use Rattle.rig_trace.specs.Trace.{met_by}
use Rattle.rig_trace.specs.Qmi.{qmi_reading}

-- ---- a client says something ----

-- Get Model, and Proxy Open, where the modem is asked nothing
pub record NothingIsBrought : Type 0 where
  pub refused : (follow qmi_reading (Piece 1 get_model) [] empty).counts ≡ record none { refused = 1 }
  pub opens : (follow qmi_reading (Piece 1 open_device) [] empty).counts ≡ none
  pub rows : (follow qmi_reading (Piece 1 get_model) [] empty).rows ≡ []
  pub said : said_by 1 (follow qmi_reading (Piece 1 get_model) [] empty) ≡ 1

-- at 9 milliseconds client 1 says Get Model, which the modem sees with number 2
abbrev pub asked : Ledger
asked = follow qmi_reading (Piece 1 get_model) get_model_as_2 (record empty { time = 9 })

abbrev pub row : Row
row = record { serial = 1; conn = 1; place = 1; key = record { kind = 2; cid = 5; number = 2 }; own = false; deadline = 30009 }

-- and then client 2 says it, and the modem sees it with number 1
abbrev pub asked_again : Ledger
asked_again = follow qmi_reading (Piece 2 get_model) get_model asked

abbrev pub other_row : Row
other_row = record { serial = 2; conn = 2; place = 1; key = record { kind = 2; cid = 5; number = 1 }; own = false; deadline = 30009 }

pub record ARequestIsAsked : Type 0 where
  pub rows : asked.rows ≡ row ∷ []
  pub counts : asked.counts ≡ record none { forwarded = 1 }
  pub count : asked.asked ≡ 1
  pub said : said_by 1 asked ≡ 1
  pub said_nothing : said_by 2 asked ≡ 0
  pub both : asked_again.rows ≡ row ∷ other_row ∷ []

-- ---- the modem answers ----

-- its answer, with NAS in place of DMS, and with client id 6
abbrev pub of_another_service : List ℕ
of_another_service = hex (codes "01 1C 00 80 03 05 02 02 00 22 00 10 00 02 04 00 00 00 00 00 01 06 00 45 4D 37 34 35 35")

abbrev pub of_another_id : List ℕ
of_another_id = hex (codes "01 1C 00 80 02 06 02 02 00 22 00 10 00 02 04 00 00 00 00 00 01 06 00 45 4D 37 34 35 35")

abbrev pub answered : (message : List ℕ) → Ledger
answered m = follow qmi_reading (ModemPiece m) [] asked

pub record AnAnswerFindsItsRequest : Type 0 where
  pub found : (answered model_to_2).rows ≡ []
  pub counted : (answered model_to_2).counts ≡ record none { forwarded = 1; answered = 1 }
  pub service : answered of_another_service ≡ asked
  pub id : answered of_another_id ≡ asked
  pub number : answered model ≡ asked
  pub first_stays : (follow qmi_reading (ModemPiece model) [] asked_again).rows ≡ row ∷ []
  pub other_stays : (follow qmi_reading (ModemPiece model_to_2) [] asked_again).rows ≡ other_row ∷ []

-- ---- the time goes on ----

abbrev pub shown : (time : ℕ) → Ledger
shown time = follow qmi_reading (Now time) [] asked

pub record TheTimeGoesOn : Type 0 where
  pub never_back : (shown 5).time ≡ 9
  pub on : (shown 10).time ≡ 10
  pub waits : (shown 30008).counts ≡ record none { forwarded = 1 }
  pub expired : (shown 30009).counts ≡ record none { forwarded = 1; expired = 1 }
  pub in_use : (shown 30009).rows ≡ row ∷ []
  pub once : (follow qmi_reading (Now 40000) [] (shown 30009)).counts ≡ record none { forwarded = 1; expired = 1 }
  pub late : (follow qmi_reading (ModemPiece model_to_2) [] (shown 30009)).counts ≡ record none { forwarded = 1; expired = 1; late = 1 }

-- ---- what the ledger and the trace leave out ----

pub record OthersAreLeftOut : Type 0 where
  pub joined : (c : ℕ) (ledger : Ledger) → follow qmi_reading (Joined c) [] ledger ≡ ledger
  pub left : (c : ℕ) (ledger : Ledger) → follow qmi_reading (Left c) [] ledger ≡ ledger
  pub lost : (ledger : Ledger) → follow qmi_reading ModemGone [] ledger ≡ ledger
  pub back : (ledger : Ledger) → follow qmi_reading ModemBack [] ledger ≡ ledger
  pub took : (c count : ℕ) (ledger : Ledger) → follow qmi_reading (Took c count) [] ledger ≡ ledger
  pub modem_took : (count : ℕ) (ledger : Ledger) → follow qmi_reading (ModemTook count) [] ledger ≡ ledger
  pub left_untold : (c : ℕ) (ledger : Ledger) → met_by qmi_reading (Left c) [] [] ledger ≡ []
  pub lost_untold : (ledger : Ledger) → met_by qmi_reading ModemGone [] [] ledger ≡ []
  pub back_untold : (ledger : Ledger) → met_by qmi_reading ModemBack [] [] ledger ≡ []
  pub modem_took_untold : (count : ℕ) (ledger : Ledger) → met_by qmi_reading (ModemTook count) [] [] ledger ≡ []
