-- What the facts of items keep, where a client is alone. Lists of facts have the newest first.
use Rattle.std.proofs.Common.{◌≡◌, ℕ, ◌⊎◌, inl, inr, ⊎_elim, Bool, true, false, not, cond, ◌==◌, if◌then◌else◌, List, [], ◌∷◌, refl, ap, sym, subst}
use Rattle.kit_bytes.specs.Services.{starting_list}
use Rattle.kit_bytes.specs.Subscriptions.{Pair}
use Rattle.mbim_frame.specs.declared.status.TheConstants.{SUCCESS}
use Rattle.proxy_history.specs.Items.{Item, Joins, Says, GoesBad, Leaves, ModemSays, ModemIsLost, ModemReturns, ClockShows, Takes, ModemTakes}
use Rattle.proxy_history.specs.Facts.{Fact, Request, Admitted, Ended, Judged, Forwarded, Answered, IdHeld, Late, OpeningEnded, ListSent, Reset, ModemLost, ModemReturned, ModemTaken}
use Rattle.proxy_history.specs.Connections.{present, without, message_count}
use Rattle.proxy_history.specs.Requests.{in_use, forward_count}
use Rattle.proxy_history.specs.Modem.{to_modem, modem_taken_count}
use Rattle.proxy_history.specs.Sound.{IsSound}
use Rattle.proxy_history.specs.Adding.{MayAdd}
use Rattle.proxy_history.specs.History.{add, add_all}
use Rattle.proxy_history.proofs.Walk.{MayAddStill, kept_by_items, kept_by_still_items}
use Rattle.mbim_proxy.specs.ModemStates.{ModemState, IsShut, IsOpening, IsReady, is_own_open, state}
use Rattle.mbim_proxy.specs.Lists.{last_list}
use Rattle.mbim_proxy.specs.Forwarding.{wire}
use Rattle.mbim_proxy.specs.History.{mbim_protocol}
use Rattle.mbim_proxy.proofs.Walk.{Asks, orderly}
use Rattle.rig_runs.specs.Mbim.{setup}

-- ---- who is there ----

-- nobody but the client
abbrev pub IsAlone : ℕ → List ℕ → Type 0
IsAlone c conns = (conns ≡ []) ⊎ (conns ≡ c ∷ [])

alone_without : (c d : ℕ) (conns : List ℕ) → IsAlone c conns → IsAlone c (without d conns)
alone_without c d conns alone =
    ⊎_elim
    (λ (none : conns ≡ []). let l : IsAlone c (without d conns) = inl (ap (without d) none) in l)
    (λ (one : conns ≡ c ∷ []). subst (λ (l : List ℕ). IsAlone c (without d l)) (sym one) (elim (not (d == c)) as (λ b. IsAlone c (cond b (c ∷ []) [])) [ true ↦ inr refl | false ↦ inl refl ]))
    alone

abbrev pub joins : Item → Bool
joins (Joins d) = true
joins _ = false

alone_fact : (c : ℕ) (item : Item) → joins item ≡ false → (fact : Fact) (past : List Fact) → MayAdd item fact past → IsAlone c (present past) → IsAlone c (present (fact ∷ past))
unfolding present
alone_fact c (Joins d) other fact past may alone = absurd (let no : true ≡ false = other in cc)
alone_fact c _ other (Admitted d) past may alone = absurd may
alone_fact c _ other (Ended d why) past may alone = alone_without c d (present past) alone
alone_fact c _ other _ past may alone = alone

-- ---- the modem's list ----

-- a modem that is open was last asked for the list that it starts with
abbrev pub HasStartingList : List Fact → Type 0
HasStartingList past = state false past ≡ IsReady → last_list past ≡ starting_list

list_forwarded : (opens : Bool) (before : ModemState) (list : List Pair) → (before ≡ IsReady → list ≡ starting_list) → (let m : ModemState = if opens then IsOpening else before in m) ≡ IsReady → list ≡ starting_list
list_forwarded true before list held e = absurd (let no : IsOpening ≡ IsReady = e in cc)
list_forwarded false before list held e = held e

list_opened : (is : Bool) (list : List Pair) → (let m : ModemState = if is then IsReady else IsShut in m) ≡ IsReady → (let l : List Pair = if is then starting_list else list in l) ≡ starting_list
list_opened true list e = refl
list_opened false list e = absurd (let no : IsShut ≡ IsReady = e in cc)

list_fact : (item : Item) (fact : Fact) (past : List Fact) → MayAdd item fact past → HasStartingList past → HasStartingList (fact ∷ past)
unfolding state last_list
list_fact (Joins d) (Admitted e) past may held = held
list_fact _ (ListSent list) past may held = absurd may
list_fact _ (Forwarded r) past may held = list_forwarded (is_own_open r) (state false past) (last_list past) held
list_fact _ (OpeningEnded status receivers) past may held = list_opened (status == SUCCESS) (last_list past)
list_fact _ ModemLost past may held = λ e. absurd (cc)
list_fact _ ModemReturned past may held = λ e. absurd (cc)
list_fact _ _ past may held = held

-- ---- whether the modem is open ----

-- it was so before these facts
abbrev pub WasReady : List Fact → List Fact → Type 0
WasReady before past = state false past ≡ IsReady → state false before ≡ IsReady

abbrev pub opens_none : Item → Bool
opens_none (ModemSays m) = false
opens_none ModemIsLost = false
opens_none ModemReturns = false
opens_none (ClockShows time) = false
opens_none _ = true

ready_forwarded : (opens : Bool) (before past : ModemState) → (past ≡ IsReady → before ≡ IsReady) → (let m : ModemState = if opens then IsOpening else past in m) ≡ IsReady → before ≡ IsReady
ready_forwarded true before past held e = absurd (let no : IsOpening ≡ IsReady = e in cc)
ready_forwarded false before past held e = held e

ready_fact : (before : List Fact) (item : Item) → opens_none item ≡ true → (fact : Fact) (past : List Fact) → MayAdd item fact past → WasReady before past → WasReady before (fact ∷ past)
unfolding state
ready_fact before (ModemSays m) none fact past may held = absurd (let no : false ≡ true = none in cc)
ready_fact before ModemIsLost none fact past may held = absurd (let no : false ≡ true = none in cc)
ready_fact before ModemReturns none fact past may held = absurd (let no : false ≡ true = none in cc)
ready_fact before (ClockShows time) none fact past may held = absurd (let no : false ≡ true = none in cc)
ready_fact before _ none (Forwarded r) past may held = ready_forwarded (is_own_open r) (state false before) (state false past) held
ready_fact before _ none (OpeningEnded status receivers) past may held = absurd may
ready_fact before _ none ModemLost past may held = absurd may
ready_fact before _ none ModemReturned past may held = absurd may
ready_fact before _ none _ past may held = held

-- ---- counts, and the bytes for the modem ----

pub record SameCounts (c : ℕ) (before past : List Fact) : Type 0 where
  pub forwarded : forward_count past ≡ forward_count before
  pub said : message_count c past ≡ message_count c before
  pub to_it : to_modem (wire setup) past ≡ to_modem (wire setup) before
  pub taken : modem_taken_count past ≡ modem_taken_count before

-- what the modem says, and the clock
abbrev pub is_heard : Item → Bool
is_heard (ModemSays m) = true
is_heard (ClockShows time) = true
is_heard _ = false

counts_fact : (c : ℕ) (before : List Fact) (item : Item) → is_heard item ≡ true → (fact : Fact) (past : List Fact) → MayAddStill item fact past → SameCounts c before past → SameCounts c before (fact ∷ past)
unfolding forward_count message_count to_modem modem_taken_count
counts_fact c before (Joins d) heard fact past may same = absurd (let no : false ≡ true = heard in cc)
counts_fact c before (Says d m) heard fact past may same = absurd (let no : false ≡ true = heard in cc)
counts_fact c before (GoesBad d) heard fact past may same = absurd (let no : false ≡ true = heard in cc)
counts_fact c before (Leaves d) heard fact past may same = absurd (let no : false ≡ true = heard in cc)
counts_fact c before ModemIsLost heard fact past may same = absurd (let no : false ≡ true = heard in cc)
counts_fact c before ModemReturns heard fact past may same = absurd (let no : false ≡ true = heard in cc)
counts_fact c before (Takes d count) heard fact past may same = absurd (let no : false ≡ true = heard in cc)
counts_fact c before (ModemTakes count) heard fact past may same = absurd (let no : false ≡ true = heard in cc)
counts_fact c before _ heard (Admitted d) past may same = absurd may
counts_fact c before _ heard (Judged d place m verdict) past may same = absurd may
counts_fact c before _ heard (Forwarded r) past may same = absurd may
counts_fact c before _ heard ModemLost past may same = absurd may
counts_fact c before _ heard (ModemTaken count) past may same = absurd may
counts_fact c before _ heard _ past may same = record { forwarded = same.forwarded; said = same.said; to_it = same.to_it; taken = same.taken }

-- a request that expires stays in use
used_fact : (requests : List Request) (time : ℕ) (fact : Fact) (past : List Fact) → MayAddStill (ClockShows time) fact past → in_use past ≡ requests → in_use (fact ∷ past) ≡ requests
unfolding in_use
used_fact requests time (Forwarded r) past may same = absurd may
used_fact requests time (Answered r m) past may same = absurd may
used_fact requests time (IdHeld r) past may same = absurd may
used_fact requests time (Late r) past may same = absurd may
used_fact requests time Reset past may same = absurd may
used_fact requests time ModemLost past may same = absurd may
used_fact requests time _ past may same = same

-- ---- one item ----

module _ (item : Item) (past : List Fact) (sound : IsSound setup.limits past) where
  abbrev after : List Fact
  after = add (mbim_protocol setup) item past

  pub alone_kept : (c : ℕ) → joins item ≡ false → IsAlone c (present past) → IsAlone c (present after)
  unfolding add_all
  alone_kept c other alone =
      kept_by_items (mbim_protocol setup) (Asks setup) (orderly setup) (λ facts. IsAlone c (present facts)) (λ i. joins i ≡ false)
      (λ i other fact before follows may asked held. alone_fact c i other fact before may held) (item ∷ []) past (other, tt) sound alone

  pub list_kept : HasStartingList past → HasStartingList after
  unfolding add_all
  list_kept has =
      kept_by_items (mbim_protocol setup) (Asks setup) (orderly setup) HasStartingList (λ i. Unit {0})
      (λ i u fact before follows may asked held. list_fact i fact before may held) (item ∷ []) past (tt, tt) sound has

  pub was_ready : opens_none item ≡ true → WasReady past after
  unfolding add_all
  was_ready none =
      kept_by_items (mbim_protocol setup) (Asks setup) (orderly setup) (WasReady past) (λ i. opens_none i ≡ true)
      (λ i none fact before follows may asked held. ready_fact past i none fact before may held) (item ∷ []) past (none, tt) sound (λ e. e)

  pub same_counts : (c : ℕ) → is_heard item ≡ true → SameCounts c past after
  unfolding add_all
  same_counts c heard =
      kept_by_still_items (mbim_protocol setup) (Asks setup) (orderly setup) (SameCounts c past) (λ past. refl) (λ i. is_heard i ≡ true)
      (λ i heard fact before follows may asked held. counts_fact c past i heard fact before may held) (item ∷ []) past (heard, tt) sound (record { forwarded = refl; said = refl; to_it = refl; taken = refl })

pub clock_uses : (time : ℕ) (past : List Fact) → IsSound setup.limits past → in_use (add (mbim_protocol setup) (ClockShows time) past) ≡ in_use past
unfolding add_all
clock_uses time past sound =
    kept_by_still_items (mbim_protocol setup) (Asks setup) (orderly setup) (λ facts. in_use facts ≡ in_use past) (λ past. refl) (λ i. i ≡ ClockShows time)
    (λ i is fact before follows may asked held. used_fact (in_use past) time fact before (subst (λ (x : Item). MayAddStill x fact before) is may) held) (ClockShows time ∷ []) past (refl, tt) sound refl
