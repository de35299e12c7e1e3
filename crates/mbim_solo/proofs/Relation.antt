-- What the history of all and that of a client that is alone have in common, between two events that the client meets alone.
use Rattle.std.proofs.Common.{◌≡◌, ℕ, ◌≤◌, Bool, true, false, not, ◌&&◌, ◌==◌, List, [], ◌∷◌, Option, Some, None}
use Rattle.std.specs.List.{list_any, AllByRecursion}
use Rattle.mbim_frame.specs.Frame.{size_of}
use Rattle.proxy_history.specs.Events.{Event}
use Rattle.proxy_history.specs.Streams.{stream, modem_stream}
use Rattle.proxy_history.specs.Facts.{Fact, Request, Ended}
use Rattle.proxy_history.specs.Requests.{in_use, pending}
use Rattle.proxy_history.specs.Modem.{now}
use Rattle.proxy_history.specs.Modem as modem
use Rattle.proxy_history.specs.Coming.{AreSound}
use Rattle.proxy_history.specs.Sound.{IsSound}
use Rattle.mbim_proxy.specs.Setup.{Setup}
use Rattle.mbim_proxy.specs.ModemStates.{ModemState, IsAway, IsShut, IsOpening, IsReady, is_own, is_own_open, state}
use Rattle.mbim_proxy.specs.Lists.{merged}
use Rattle.mbim_proxy.specs.Forwarding.{wire}
use Rattle.mbim_proxy.specs.OwnList.{number_of_list}
use Rattle.mbim_proxy.specs.History.{mbim_protocol, history}
pub use Rattle.mbim_solo.specs.Law.{IsRoomy}
use Rattle.mbim_solo.specs.Openings.{IsInOrder}
use Rattle.mbim_solo.specs.Part.{part}
use Rattle.mbim_solo.proofs.Noted.{is_waiting}
use Rattle.mbim_solo.proofs.Hearing.{Fit}
use Rattle.mbim_solo.proofs.Saying.{OpenAlike}
use Rattle.mbim_solo.proofs.Spoken.{IsQuiet}

-- the proxy's own request to subscribe
abbrev pub is_own_list : Request → Bool
is_own_list r = is_own r && not (is_own_open r)

abbrev pub is_end_of : ℕ → Fact → Bool
is_end_of c (Ended d why) = d == c
is_end_of c _ = false

module _ (s : Setup) (c : ℕ) where
  -- all that the proofs know of a history
  pub record IsOrderly (past : List Fact) : Type 0 where
    pub sound : IsSound s.limits past
    pub order : IsInOrder s past
    pub fit : Fit s c past

  -- ---- alone ----

  -- nothing waits for the modem, no list of the proxy waits for its answer, and none is to be sent
  pub record Rests (own : List Fact) : Type 0 where
    pub queue : modem.modem_queue (wire s) own ≡ []
    pub list : list_any is_own_list (pending own) ≡ false
    pub settled : number_of_list s (merged s own) own ≡ None

  -- what the modem said leaves nothing open
  abbrev pub IsQuietThere : Option (List ℕ) → Type 0
  IsQuietThere None = Unit {0}
  IsQuietThere (Some before) = IsQuiet s before

  abbrev pub modem_bytes : List Event → Option (List ℕ)
  modem_bytes solo = modem_stream size_of s.starts_away solo

  -- behind these facts only the proxy asked by itself, and the modem took and answered that
  pub record IsSettled (facts own : List Fact) : Type 0 where
    pub same : part c own ≡ part c facts
    pub in_use : in_use own ≡ in_use facts
    pub pending : pending own ≡ pending facts
    pub time : now own ≡ now facts
    pub state : state s.starts_away own ≡ state s.starts_away facts
    pub rests : Rests own

  -- ---- all, and the client alone ----

  -- whether the client's request to open waits, and the modem's states
  abbrev pub Stand : Bool → (all own : ModemState) → Type 0
  Stand true IsOpening IsOpening = Unit {0}
  Stand true _ _ = ⊥
  Stand false all own = OpenAlike all own

  -- alone the proxy's own request to open is all that is in use, and it expires no earlier
  pub record OpensOnly (past own : List Fact) : Type 0 where
    pub request : Request
    pub opens : is_own_open request ≡ true
    pub only : in_use own ≡ request ∷ []
    pub waits : pending own ≡ request ∷ []
    pub later : AllByRecursion (λ r. r.deadline ≤ request.deadline) (pending past)

  -- alone only the client asks once the modem is open, and nobody before
  abbrev pub AsksAlone : ModemState → (past own : List Fact) → Type 0
  AsksAlone IsAway past own = in_use own ≡ []
  AsksAlone IsShut past own = in_use own ≡ []
  AsksAlone IsOpening past own = OpensOnly past own
  AsksAlone IsReady past own = AllByRecursion (λ r. (r.conn == c) ≡ true) (in_use own)

  pub record Stands (past own : List Fact) : Type 0 where
    pub states : Stand (is_waiting s c (part c past)) (state s.starts_away past) (state s.starts_away own)
    pub asks : AsksAlone (state s.starts_away own) past own

  pub record Alike (past : List Fact) (solo : List Event) (bytes : List ℕ) : Type 0 where
    -- of all
    pub orderly : IsOrderly past
    -- of the client alone
    pub may : AreSound (mbim_protocol s) solo
    pub rests : Rests (history s solo)
    pub quiet : IsQuietThere (modem_bytes solo)
    -- of both
    pub same : part c past ≡ part c (history s solo)
    pub time : now past ≡ now (history s solo)
    pub sent : stream c solo ≡ bytes
    pub stands : list_any (is_end_of c) past ≡ false → Stands past (history s solo)
