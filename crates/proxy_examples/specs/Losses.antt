-- Examples of a modem that is lost and comes back.
use Rattle.std.specs.Prelude.{◌≡◌, List, [], ◌∷◌, ◌++◌, take, drop}
use Rattle.proxy_history.specs.Events.{Event, Piece, ModemPiece, ModemGone, ModemBack, ModemTook}
use Rattle.proxy_history.specs.Requests.{in_use}
use Rattle.proxy_history.specs.ClientIds.{held}
use Rattle.proxy_history.specs.Modem.{modem_queue}
use Rattle.qmi_proxy.specs.Clients.{wire}
use Rattle.proxy_examples.specs.Story.{opened, get_version, version, version_aborted, get_model, both_open, bytes_for, to_modem, history}
use Rattle.proxy_examples.specs.Answers.{model_aborted}
use Rattle.proxy_examples.specs.Connections.{get_version_as_2}

-- the modem took all 12 bytes before it was lost: what waits for it once it is back is the new request, whole
abbrev pub takes_before_a_loss : List Event
takes_before_a_loss = both_open (Piece 1 get_version ∷ ModemTook 12 ∷ ModemGone ∷ ModemBack ∷ Piece 1 get_version ∷ [])

pub record NewRequestsWaitWhole : Type 0 where
  pub waiting : modem_queue wire (history takes_before_a_loss) ≡ get_version_as_2

-- the modem is said to be back while it is there, in the middle of its message: the message goes on
abbrev pub comes_back_again : List Event
comes_back_again = both_open (Piece 1 get_version ∷ ModemPiece (take 5 version) ∷ ModemBack ∷ ModemPiece (drop 5 version) ∷ [])

pub record ReturnInAMessage : Type 0 where
  pub first : bytes_for 1 comes_back_again ≡ opened ++ version
  pub modem : to_modem comes_back_again ≡ get_version

-- a loss while requests of both number spaces wait: that of service 0 is refused first, and nothing is left
abbrev pub loses_both : List Event
loses_both = both_open (Piece 1 get_model ∷ Piece 1 get_version ∷ ModemGone ∷ [])

pub record LossLeavesNothing : Type 0 where
  pub first : bytes_for 1 loses_both ≡ opened ++ version_aborted ++ model_aborted
  pub in_use : in_use (history loses_both) ≡ []
  pub held : held (history loses_both) ≡ []
  pub waiting : modem_queue wire (history loses_both) ≡ []
