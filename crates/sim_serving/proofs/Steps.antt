-- Each event, as whoever calls a core meets it. Lists of events and of requests have the newest first.
use Rattle.std.proofs.Common.{◌≡◌, ℕ, ◌+◌, nat_lt, List, [], ◌∷◌, ◌++◌, length, drop, map, position, refl, ap, sym, ◌∙◌, subst, Option, Some, None}
use Rattle.std.specs.Option.{option_map}
use Rattle.std.specs.List.{IsDistinct, position_from}
use Rattle.std.proofs.lemmas.List.{drop-map}
use Rattle.std.proofs.lemmas.Iterator.Adapters.{position_from-zero}
use Rattle.proxy_history.specs.Events.{Event, Joined, Piece, Left, ModemPiece, ModemGone, ModemBack, Now, Took, ModemTook}
use Rattle.proxy_history.specs.Streams.{Framing}
use Rattle.proxy_history.specs.Proxy.{Proxy}
use Rattle.proxy_serving.specs.Face.{CanMeet, NextDropped, first_waiting}
use Rattle.served_sim.specs.Conduct.{Conduct}
use Rattle.sim_serving.specs.Clients.{session, present, requests, messages_of, ticks, waiting}
use Rattle.sim_serving.specs.Core.{Client, Core, named, listed, face_of, client_of, StandsFor, StandsAfter, Keeps}
use Rattle.sim_serving.specs.Hearing.{Brings, Ticks, changed, gone, took}
use Rattle.sim_serving.proofs.Standing.{joined, left, taken_from, brought_is, passed_modem_piece, passed_modem_gone, passed_modem_back, passed_now, passed_modem_took}

module _ {S : Type 0} (size : Framing) (keeps : ℕ → Conduct → List (List ℕ) → S → Type 0) where
  abbrev pub Goes : Event → Core S → Core S → Type 0
  Goes event old new = (conduct : Conduct) (past : List Event) → StandsFor size keeps conduct past old → StandsAfter size keeps conduct (event ∷ past) new

  -- the event and the new core, by what they are
  pub step_as : (event it : Event) (old new made : Core S) → event ≡ it → new ≡ made → CanMeet event (face_of old) → (CanMeet it (face_of old) → Goes it old made) → Goes event old new
  step_as event it old new made event_is new_is can goes =
      subst (λ (e : Event). Goes e old new) (sym event_is) (subst (λ (core : Core S). Goes it old core) (sym new_is) (goes (subst (λ (e : Event). CanMeet e (face_of old)) event_is can)))

  module _ (old : Core S) where
    pub goes_joined : (c : ℕ) → CanMeet (Joined c) (face_of old) → Goes (Joined c) old (record old { clients = old.clients ++ record { name = c; rest = []; replies = record { waiting = []; late = [] } } ∷ []; greatest = c })
    goes_joined c can conduct past Sd = joined size keeps conduct past old Sd can.hung_up c can.may_come

    pub goes_brought : (c : ℕ) (piece : List ℕ) (new : Core S) → ((ticks : ℕ) (conduct : Conduct) (before : List (List ℕ)) → keeps ticks conduct before old.sim → Brings size keeps ticks conduct before (named c old.clients) piece old new)
        → CanMeet (Piece c piece) (face_of old) → Goes (Piece c piece) old new
    goes_brought c piece new brings can conduct past Sd = brought_is size keeps conduct past old Sd can.hung_up c piece new (brings (ticks size conduct past) conduct (messages_of (requests size conduct past)) Sd.modem)

    pub goes_left : (c : ℕ) → CanMeet (Left c) (face_of old) → Goes (Left c) old (record old { clients = gone c old.clients })
    goes_left c can conduct past Sd = left size keeps conduct past old Sd can.hung_up c

    pub goes_took : (c count : ℕ) → CanMeet (Took c count) (face_of old) → Goes (Took c count) old (record old { clients = changed c (took count) old.clients })
    goes_took c count can conduct past Sd = taken_from size keeps conduct past old Sd can.hung_up c count

    pub goes_modem_piece : (piece : List ℕ) → CanMeet (ModemPiece piece) (face_of old) → Goes (ModemPiece piece) old old
    goes_modem_piece piece can conduct past Sd = passed_modem_piece size keeps conduct past old Sd can.hung_up piece

    pub goes_modem_gone : CanMeet ModemGone (face_of old) → Goes ModemGone old old
    goes_modem_gone can conduct past Sd = passed_modem_gone size keeps conduct past old Sd can.hung_up

    pub goes_modem_back : CanMeet ModemBack (face_of old) → Goes ModemBack old old
    goes_modem_back can conduct past Sd = passed_modem_back size keeps conduct past old Sd can.hung_up

    pub goes_now : (time : ℕ) (new : Core S) → ((ticks : ℕ) (conduct : Conduct) (before : List (List ℕ)) → keeps ticks conduct before old.sim → Ticks keeps ticks conduct before old new)
        → CanMeet (Now time) (face_of old) → Goes (Now time) old new
    goes_now time new ticked can conduct past Sd = passed_now size keeps conduct past old Sd can.hung_up time new (ticked (ticks size conduct past) conduct (messages_of (requests size conduct past)) Sd.modem)

    pub goes_modem_took : (count : ℕ) → CanMeet (ModemTook count) (face_of old) → Goes (ModemTook count) old old
    goes_modem_took count can conduct past Sd = passed_modem_took size keeps conduct past old Sd can.hung_up count

  -- ---- the instance ----

  pub stands_opened : (conduct : Conduct) (sim : S) (core : Core S) → core ≡ record { sim = sim; clients = []; dropped = None; greatest = 0 } → keeps 0 conduct [] sim → StandsFor size keeps conduct [] core
  unfolding session IsDistinct
  stands_opened conduct sim core is kept = subst (λ (c : Core S). StandsFor size keeps conduct [] c) (sym is) (record { modem = kept; clients = refl; distinct = tt; known = tt; dropped = λ none. refl })

  pub next_is : (old new : Core S) (result : Option ℕ) → result ≡ old.dropped → new ≡ record old { dropped = None } → NextDropped (λ (core : Core S). face_of core) old new result
  next_is old new None is new_is = (sym (ap listed is), new_is ∙ ap (λ (o : Option ℕ). record old { dropped = o }) is)
  next_is old new (Some c) is new_is = record {
    dropped = sym (ap listed is) ∙ ap (λ (core : Core S). c ∷ listed core.dropped) (sym new_is);
    away = refl;
    greatest = ap (λ (core : Core S). core.greatest) new_is;
  }

  module _ (p : Proxy) (past : List Event) (old : Core S) (kept : Keeps size keeps p past old) where
    pub keeps_on : (event : Event) (new : Core S) → Goes event old new → Keeps size keeps p (event ∷ past) new
    keeps_on event new goes = record { conduct = kept.conduct; same = kept.same; stands = (goes kept.conduct past kept.stands).stands }

    pub drops_so : (event : Event) (new : Core S) → Goes event old new → (face_of new).dropped ≡ p.dropped (event ∷ past)
    drops_so event new goes = (goes kept.conduct past kept.stands).all_dropped ∙ ap (λ (q : Proxy). q.dropped (event ∷ past)) (sym kept.same)

    -- whom it dropped is asked for
    pub keeps_asked : (new : Core S) → new ≡ record old { dropped = None } → Keeps size keeps p past new
    keeps_asked new new_is =
        let stands = kept.stands in
        subst (λ (core : Core S). Keeps size keeps p past core) (sym new_is) (record {
          conduct = kept.conduct;
          same = kept.same;
          stands = record { modem = stands.modem; clients = stands.clients; distinct = stands.distinct; known = stands.known; dropped = λ none. refl };
        })

    pub first_is : (from : ℕ) → option_map (λ at. from + at) (position (λ (k : Client). nat_lt 0 (length k.replies.waiting)) (drop from old.clients)) ≡ first_waiting p past from
    first_is from =
        let First : Proxy → Type 0 = λ q. option_map (λ at. from + at) (position (λ (k : Client). nat_lt 0 (length k.replies.waiting)) (drop from old.clients)) ≡ first_waiting q past from in
        let client : ℕ → Client = client_of size kept.conduct past in
        let names : List ℕ = drop from (present size kept.conduct past) in
        subst First (sym kept.same) (ap (option_map (λ at. from + at))
        (ap (λ (l : List Client). position (λ (k : Client). nat_lt 0 (length k.replies.waiting)) (drop from l)) kept.stands.clients
        ∙ ap (position (λ (k : Client). nat_lt 0 (length k.replies.waiting))) (drop-map client from (present size kept.conduct past))
        ∙ position_from-zero (λ (k : Client). nat_lt 0 (length k.replies.waiting)) (map client names)
        ∙ first_of names 0
        ∙ sym (position_from-zero (λ c. nat_lt 0 (length (waiting size kept.conduct c past))) names)))
      where
        first_of : (names : List ℕ) (start : ℕ) → position_from (λ (k : Client). nat_lt 0 (length k.replies.waiting)) start (map (client_of size kept.conduct past) names) ≡ position_from (λ c. nat_lt 0 (length (waiting size kept.conduct c past))) start names
        first_of [] start = refl
        first_of (c ∷ names) start = let others = first_of names (start + 1) in rw others refl
