-- The clock, whether the modem is there, and what was queued for it. A list of facts has the newest first; bytes have the oldest first.
use Rattle.std.specs.Prelude.{ℕ, ◌+◌, Bool, true, false, List, [], ◌∷◌, ◌++◌, drop}
use Rattle.proxy_history.specs.Facts.{Fact, Request, Forwarded, ModemLost, ModemReturned, ModemTaken, TimeIs}

unfoldable pub now : List Fact → ℕ
now [] = 0
now (TimeIs time ∷ past) = time
now (_ ∷ past) = now past

-- the first argument says whether the modem is away at the opening
unfoldable pub is_away : Bool → List Fact → Bool
is_away away [] = away
is_away away (ModemLost ∷ past) = true
is_away away (ModemReturned ∷ past) = false
is_away away (_ ∷ past) = is_away away past

-- the bytes queued for the modem since it was last lost; `wire` gives a request's bytes as the modem sees them
unfoldable pub to_modem : (Request → List ℕ) → List Fact → List ℕ
to_modem wire [] = []
to_modem wire (Forwarded r ∷ past) = to_modem wire past ++ wire r
to_modem wire (ModemLost ∷ past) = []
to_modem wire (_ ∷ past) = to_modem wire past

-- how many of them the modem took
unfoldable pub modem_taken_count : List Fact → ℕ
modem_taken_count [] = 0
modem_taken_count (ModemTaken count ∷ past) = modem_taken_count past + count
modem_taken_count (ModemLost ∷ past) = 0
modem_taken_count (_ ∷ past) = modem_taken_count past

-- the bytes that wait for the modem
abbrev pub modem_queue : (Request → List ℕ) → List Fact → List ℕ
modem_queue wire past = drop (modem_taken_count past) (to_modem wire past)
