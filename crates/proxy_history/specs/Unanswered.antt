-- What becomes of requests that get no answer. A list of facts has the newest first.
-- `refuse` gives up one request, for which the fact says why, and `order` gives the order in which that is done: both are the protocol's.
use Rattle.std.specs.Prelude.{ℕ, max, nat_le, List, ◌∷◌, filter}
use Rattle.proxy_history.specs.Facts.{Request, Fact, Expired, Aborted, ModemLost, TimeIs}
use Rattle.proxy_history.specs.Requests.{pending}
use Rattle.proxy_history.specs.Modem.{now}
use Rattle.proxy_history.specs.Noting.{each_pending}

abbrev pub Refusal : Type 0
Refusal = Fact → Request → List Fact → List Fact

abbrev pub Order : Type 0
Order = List Request → List Request

-- the modem won't answer any more
abbrev pub abort_all : Refusal → Order → List Fact → List Fact
abort_all refuse order past = each_pending (λ r before. refuse (Aborted r) r before) (order (pending past)) past

-- the modem is lost; `close` adds what the protocol has more to say of that
abbrev pub lose : Refusal → Order → (List Fact → List Fact) → List Fact → List Fact
lose refuse order close past = ModemLost ∷ close (abort_all refuse order past)

-- those whose deadline has come
abbrev pub due : ℕ → List Request → List Request
due time requests = filter (λ r. nat_le r.deadline time) requests

abbrev pub expire : Refusal → Order → ℕ → List Fact → List Fact
expire refuse order time past = each_pending (λ r before. refuse (Expired r) r before) (order (due time (pending past))) (TimeIs time ∷ past)

-- the clock shows a time; time never goes back
abbrev pub tick : Refusal → Order → ℕ → List Fact → List Fact
tick refuse order time past = expire refuse order (max time (now past)) past
