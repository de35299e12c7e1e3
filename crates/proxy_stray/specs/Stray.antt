-- What a modem says for nobody. Lists of steps, of events and of facts have the newest first.
use Rattle.std.specs.Prelude.{◌≡◌, ℕ, false, List, [], ◌∷◌, ◌++◌, length, drop, Some}
use Rattle.framing.specs.Framing.{IsKept}
use Rattle.framing.specs.Cutting.{cut}
use Rattle.proxy_history.specs.Streams.{is_invalid, is_bad, modem_stream}
use Rattle.proxy_history.specs.Events.{Event}
use Rattle.proxy_history.specs.Items.{delivered_by_piece}
use Rattle.proxy_history.specs.Facts.{Fact, Request, EventBegan, Indicated, Stray}
use Rattle.proxy_history.specs.Protocol.{Protocol}
use Rattle.proxy_history.specs.History.{history}
use Rattle.proxy_stray.specs.Alike.{TellTheSame, Alike}
use Rattle.proxy_stray.specs.Pieces.{Step, bytes_of, without_parts, AreTogether}

-- what is heard of more messages behind some
abbrev pub heard_behind : {Known : Type 0} → Protocol Known → List (List ℕ) → List (List ℕ) → List (List ℕ)
heard_behind p messages more = drop (length (p.deliver messages)) (p.deliver (messages ++ more))

-- whatever comes behind them, the same is heard of it
abbrev pub LeaveTheSameOpen : {Known : Type 0} → Protocol Known → List (List ℕ) → List (List ℕ) → Type 0
LeaveTheSameOpen p messages others = (more : List (List ℕ)) → heard_behind p messages more ≡ heard_behind p others more

-- a message is for nobody: it is called so, or is an indication that nobody wants
pub data IsForNobody {Known : Type 0} (p : Protocol Known) (m : List ℕ) (past : List Fact) : Type 0 where
  IsCalledStray : (adds : p.hear_modem m past ≡ Stray ∷ past) → IsForNobody p m past
  IsUnwanted : (told : List ℕ) → (adds : p.hear_modem m past ≡ Indicated told [] ∷ past) → IsForNobody p m past

-- each of them is, one after another
abbrev pub AreForNobody : {Known : Type 0} → Protocol Known → List (List ℕ) → List Fact → Type 0
AreForNobody p [] past = Unit {0}
AreForNobody p (m ∷ messages) past = IsForNobody p m past × AreForNobody p messages (p.hear_modem m past)

-- whole messages of a modem that is there, and between whose messages the stream stands: what is heard with them is for nobody, and they leave open what was open before them
pub record IsStray {Known : Type 0} (p : Protocol Known) (events : List Event) (bytes : List ℕ) : Type 0 where
  pub before : List ℕ
  pub is_there : modem_stream p.size p.starts_away events ≡ Some before
  pub between : (cut p.size before).rest ≡ []
  pub are_whole : (cut p.size bytes).rest ≡ []
  pub for_nobody : AreForNobody p (delivered_by_piece p before bytes) (EventBegan ∷ history p events)
  pub leaves_open : LeaveTheSameOpen p ((cut p.size before).messages ++ (cut p.size bytes).messages) (cut p.size before).messages

-- pieces of what the modem says, with which nothing is heard yet
pub record AreUnheard {Known : Type 0} (p : Protocol Known) (events : List Event) (steps : List Step) : Type 0 where
  pub before : List ℕ
  pub is_there : modem_stream p.size p.starts_away events ≡ Some before
  pub together : AreTogether steps
  pub nothing_yet : delivered_by_piece p before (bytes_of steps) ≡ []
  pub is_good : is_bad p.size (before ++ bytes_of steps) ≡ false

-- bytes come in pieces, and are stray when the last of them comes: before it nothing is heard
pub record IsStrayInPieces {Known : Type 0} (p : Protocol Known) (events : List Event) (steps : List Step) (last bytes : List ℕ) : Type 0 where
  pub whole : bytes_of steps ++ last ≡ bytes
  pub stray : IsStray p (without_parts steps ++ events) bytes
  pub together : AreTogether steps
  pub nothing_yet : delivered_by_piece p stray.before (bytes_of steps) ≡ []

-- each part of the protocol makes of histories that are alike such that are alike
pub record TakesNoHeed {Known : Type 0} (p : Protocol Known) : Type 0 where
  pub client : (known : Known) (c : ℕ) (m : List ℕ) (facts others : List Fact) → Alike facts others → Alike (p.hear_client known c m facts) (p.hear_client known c m others)
  pub modem : (m : List ℕ) (facts others : List Fact) → Alike facts others → Alike (p.hear_modem m facts) (p.hear_modem m others)
  pub refusal : (why : Fact) (r : Request) (facts others : List Fact) → Alike facts others → Alike (p.refuse why r facts) (p.refuse why r others)
  pub clock : (facts others : List Fact) → Alike facts others → Alike (p.on_clock facts) (p.on_clock others)
  pub loss : (facts others : List Fact) → Alike facts others → Alike (p.close facts) (p.close others)
  pub finish : (facts others : List Fact) → Alike facts others → Alike (p.finish facts) (p.finish others)
  -- at the end of an event that brings nothing, nothing is left to do
  pub done_at_first : TellTheSame (p.finish (EventBegan ∷ [])) []
  pub done : (past : List Fact) → TellTheSame (p.finish (EventBegan ∷ p.finish past)) (p.finish past)
  -- what some bytes say of a message's length, they say with more behind them too
  pub kept : (front more : List ℕ) → IsKept (p.size front) (p.size (front ++ more))
  -- what was heard of a stream's messages stays heard, and between messages the stream isn't bad
  pub goes_on : (messages more : List (List ℕ)) → p.deliver (messages ++ more) ≡ p.deliver messages ++ heard_behind p messages more
  pub not_bad : is_invalid (p.size []) ≡ false
