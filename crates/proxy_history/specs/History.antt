-- The history that the events of a proxy make, and the bytes for each client and for the modem.
-- Lists of events and of facts have the newest first.
use Rattle.std.specs.Prelude.{ℕ, List, [], ◌∷◌}
use Rattle.proxy_history.specs.Events.{Event}
use Rattle.proxy_history.specs.Items.{Item, Joins, Says, GoesBad, Leaves, ModemSays, ModemIsLost, ModemReturns, ClockShows, Takes, ModemTakes, items_of}
use Rattle.proxy_history.specs.Facts.{Fact, EventBegan, BadStream, Leaving, Taken, ModemReturned, ModemTaken}
use Rattle.proxy_history.specs.Modem as modem
use Rattle.proxy_history.specs.View.{view}
use Rattle.proxy_history.specs.Rendering.{Rendering}
use Rattle.proxy_history.specs.Wording.{told_by}
use Rattle.proxy_history.specs.Noting.{end, join, if_present, rendering}
use Rattle.proxy_history.specs.Unanswered.{lose, tick}
use Rattle.proxy_history.specs.Protocol.{Protocol}

-- what the view of a connection tells of it
abbrev pub known_of : {Known : Type 0} → Protocol Known → ℕ → List Fact → Known
known_of p c past = told_by p.wording.fresh p.wording.step (view p.wording.blank c past)

-- what an item adds
abbrev pub add : {Known : Type 0} → Protocol Known → Item → List Fact → List Fact
add p (Joins c) past = join p.limits c past
add p (Says c m) past = if_present c past (p.hear_client (known_of p c past) c m past)
add p (GoesBad c) past = if_present c past (end c BadStream past)
add p (Leaves c) past = if_present c past (end c Leaving past)
add p (ModemSays m) past = p.hear_modem m past
add p ModemIsLost past = lose p.refuse p.order p.close past
add p ModemReturns past = ModemReturned ∷ past
add p (ClockShows time) past = p.on_clock (tick p.refuse p.order time past)
add p (Takes c count) past = if_present c past (Taken c count ∷ past)
add p (ModemTakes count) past = ModemTaken count ∷ past

unfoldable pub add_all : {Known : Type 0} → Protocol Known → List Item → List Fact → List Fact
add_all p [] past = past
add_all p (item ∷ items) past = add_all p items (add p item past)

-- the history of a proxy that met these events
unfoldable pub history : {Known : Type 0} → Protocol Known → List Event → List Fact
history p [] = []
history p (event ∷ events) = p.finish (add_all p (items_of p events event) (EventBegan ∷ history p events))

-- the bytes for a client
abbrev pub text_for : {Known : Type 0} → Protocol Known → ℕ → List Event → Rendering
text_for p c events = rendering p.limits p.wording c (history p events)

-- the bytes for the modem since it was last lost, and those of them that wait
abbrev pub to_modem : {Known : Type 0} → Protocol Known → List Event → List ℕ
to_modem p events = modem.to_modem p.wire (history p events)

abbrev pub modem_queue : {Known : Type 0} → Protocol Known → List Event → List ℕ
modem_queue p events = modem.modem_queue p.wire (history p events)
