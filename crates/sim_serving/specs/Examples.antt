-- Worked examples of serving a simulated modem. Lists of events and of requests have the newest first.
use Rattle.std.specs.Prelude.{◌≡◌, ◌==◌, ◌%◌, ℕ, zero, suc, false, if◌then◌else◌, List, [], ◌∷◌, length, reverse}
use Rattle.framing.specs.declared.framing.Size.{Size}
use Rattle.framing.specs.declared.framing.Size.TheVariants.{Unknown, Known, Invalid}
use Rattle.proxy_history.specs.Events.{Event, Joined, Piece, Left, Now, Took}
use Rattle.sim_modem.specs.Sim.{Answering}
use Rattle.served_sim.specs.Conduct.{Conduct, plain}
use Rattle.sim_serving.specs.Clients.{present, dropped, requests, text, waiting}

-- ---- the modem of the examples ----

-- a message begins with its length, which is not 0
abbrev pub size_of : List ℕ → Size
size_of [] = Unknown
size_of (zero ∷ bytes) = Invalid
size_of (suc count ∷ bytes) = Known (suc count)

-- it answers how many requests came before, and the request itself
abbrev pub counting : Answering
counting before message = length before ∷ message

abbrev pub text_of : ℕ → List Event → List ℕ
text_of c past = text size_of (plain counting) c past

abbrev pub waiting_of : ℕ → List Event → List ℕ
waiting_of c past = waiting size_of (plain counting) c past

-- the connections 1 and 2 join, and then these events come
abbrev pub both_joined : List Event → List Event
both_joined events = reverse (Joined 1 ∷ Joined 2 ∷ events)

-- ---- examples ----

-- the clients share one modem, which counts the requests of both
abbrev pub taking_turns : List Event
taking_turns = both_joined (Piece 1 (2 ∷ 7 ∷ []) ∷ Piece 2 (2 ∷ 8 ∷ []) ∷ Piece 1 (2 ∷ 9 ∷ []) ∷ [])

pub record ClientsShareOneModem : Type 0 where
  pub first : text_of 1 taking_turns ≡ 0 ∷ 2 ∷ 7 ∷ 2 ∷ 2 ∷ 9 ∷ []
  pub second : text_of 2 taking_turns ≡ 1 ∷ 2 ∷ 8 ∷ []

-- a request is asked once it is whole, behind one that was whole before; two may be whole at once
abbrev pub cut_in_two : List Event
cut_in_two = both_joined (Piece 1 (3 ∷ 5 ∷ []) ∷ Piece 2 (2 ∷ 8 ∷ []) ∷ Piece 1 (6 ∷ 2 ∷ 9 ∷ []) ∷ [])

pub record RequestsAreAskedOnceWhole : Type 0 where
  pub first : text_of 1 cut_in_two ≡ 1 ∷ 3 ∷ 5 ∷ 6 ∷ 2 ∷ 2 ∷ 9 ∷ []
  pub second : text_of 2 cut_in_two ≡ 0 ∷ 2 ∷ 8 ∷ []

-- a stream goes bad behind a whole request, which is asked; the connection is hung up, and its later bytes count for nothing
abbrev pub going_bad : List Event
going_bad = both_joined (Piece 1 (2 ∷ 7 ∷ 0 ∷ 2 ∷ 9 ∷ []) ∷ [])

abbrev pub gone_bad : List Event
gone_bad = Piece 2 (2 ∷ 8 ∷ []) ∷ Piece 1 (2 ∷ 9 ∷ []) ∷ going_bad

pub record BadStreamsAreHungUp : Type 0 where
  pub hung_up : dropped size_of (plain counting) going_bad ≡ 1 ∷ []
  pub there : present size_of (plain counting) going_bad ≡ 2 ∷ []
  pub asked : requests size_of (plain counting) going_bad ≡ record { conn = 1; message = 2 ∷ 7 ∷ [] } ∷ []
  pub second : text_of 2 gone_bad ≡ 1 ∷ 2 ∷ 8 ∷ []
  pub once : dropped size_of (plain counting) gone_bad ≡ []

-- who left asks nothing
abbrev pub leaving : List Event
leaving = both_joined (Left 1 ∷ Piece 1 (2 ∷ 7 ∷ []) ∷ Piece 2 (2 ∷ 8 ∷ []) ∷ [])

pub record WhoLeftGetsNothing : Type 0 where
  pub first : text_of 1 leaving ≡ []
  pub second : text_of 2 leaving ≡ 0 ∷ 2 ∷ 8 ∷ []
  pub there : present size_of (plain counting) leaving ≡ 2 ∷ []
  pub hung_up : dropped size_of (plain counting) leaving ≡ []

-- half a request of who left is no part of what it sends under its next name; the modem goes on as it was
abbrev pub coming_back : List Event
coming_back = both_joined (Piece 1 (2 ∷ 7 ∷ 3 ∷ 5 ∷ []) ∷ Left 1 ∷ Joined 3 ∷ Piece 3 (2 ∷ 9 ∷ []) ∷ [])

pub record WhoComesBackBeginsAnew : Type 0 where
  pub third : text_of 3 coming_back ≡ 1 ∷ 2 ∷ 9 ∷ []
  pub there : present size_of (plain counting) coming_back ≡ 2 ∷ 3 ∷ []

-- what a socket took waits no longer, and what comes then waits behind the rest; the clock changes nothing
abbrev pub taking_some : List Event
taking_some = both_joined (Piece 1 (2 ∷ 7 ∷ []) ∷ Took 1 2 ∷ Now 1000 ∷ Piece 1 (2 ∷ 9 ∷ []) ∷ [])

pub record TakenBytesWaitNoLonger : Type 0 where
  pub all : text_of 1 taking_some ≡ 0 ∷ 2 ∷ 7 ∷ 1 ∷ 2 ∷ 9 ∷ []
  pub left : waiting_of 1 taking_some ≡ 7 ∷ 1 ∷ 2 ∷ 9 ∷ []

-- ---- a modem that hangs up ----

-- at the third request of all
abbrev pub hanging_up : Conduct
hanging_up = record { answers = counting; hangs_up = λ before message. length before == 2; late = λ before message. 0; told = λ tick before. [] }

-- two requests and a half come in the piece that brings the third
abbrev pub ending : List Event
ending = both_joined (Piece 1 (2 ∷ 7 ∷ []) ∷ Piece 2 (2 ∷ 8 ∷ []) ∷ Piece 1 (2 ∷ 9 ∷ 2 ∷ 5 ∷ 3 ∷ []) ∷ [])

abbrev pub ended : List Event
ended = Piece 2 (2 ∷ 6 ∷ []) ∷ Piece 1 (4 ∷ 2 ∷ 3 ∷ []) ∷ ending

pub record ModemsHangUp : Type 0 where
  pub hung_up : dropped size_of hanging_up ending ≡ 1 ∷ []
  pub there : present size_of hanging_up ending ≡ 2 ∷ []
  -- what came behind the third isn't asked
  pub asked : requests size_of hanging_up ending ≡ record { conn = 1; message = 2 ∷ 9 ∷ [] } ∷ record { conn = 2; message = 2 ∷ 8 ∷ [] } ∷ record { conn = 1; message = 2 ∷ 7 ∷ [] } ∷ []
  -- the other goes on
  pub second : text size_of hanging_up 2 ended ≡ 1 ∷ 2 ∷ 8 ∷ 3 ∷ 2 ∷ 6 ∷ []
  pub once : dropped size_of hanging_up ended ≡ []

-- ---- a modem to which the clock matters ----

-- its answer to the second request of all goes two ticks later, and each third tick it tells which it is
abbrev pub by_clock : Conduct
by_clock = record {
  answers = counting;
  hangs_up = λ before message. false;
  late = λ before message. if length before == 1 then 2 else 0;
  told = λ tick before. if tick % 3 == 0 then 99 ∷ tick ∷ [] else [];
}

abbrev pub ticking : List Event → List Event
ticking events = both_joined (Piece 1 (2 ∷ 7 ∷ []) ∷ Piece 2 (2 ∷ 8 ∷ []) ∷ Piece 2 (2 ∷ 9 ∷ []) ∷ Now 100 ∷ events)

pub record AnswersGoLate : Type 0 where
  -- the third request is answered before the second
  pub first : text size_of by_clock 2 (ticking []) ≡ 2 ∷ 2 ∷ 9 ∷ []
  pub second : text size_of by_clock 2 (ticking (Now 200 ∷ [])) ≡ 2 ∷ 2 ∷ 9 ∷ 1 ∷ 2 ∷ 8 ∷ []
  -- to nobody else
  pub other : text size_of by_clock 1 (ticking (Now 200 ∷ [])) ≡ 0 ∷ 2 ∷ 7 ∷ []
  -- nor to who left before
  pub gone : text size_of by_clock 3 (ticking (Left 2 ∷ Joined 3 ∷ Now 200 ∷ [])) ≡ []

pub record TicksTellClients : Type 0 where
  pub first : text size_of by_clock 1 (ticking (Now 200 ∷ Now 300 ∷ [])) ≡ 0 ∷ 2 ∷ 7 ∷ 99 ∷ 3 ∷ []
  pub second : text size_of by_clock 2 (ticking (Now 200 ∷ Now 300 ∷ Now 400 ∷ [])) ≡ 2 ∷ 2 ∷ 9 ∷ 1 ∷ 2 ∷ 8 ∷ 99 ∷ 3 ∷ []
