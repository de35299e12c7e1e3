-- What is at hand, as the table of the connections and what stands beside it change.
use Rattle.std.proofs.Common.{◌≡◌, ℕ, Bool, true, false, List, [], ◌∷◌, ◌++◌, map, filter, not, refl, ap, sym, ◌∙◌, subst, arith, if◌then◌else◌, Option, Some, None, cond, ◌==◌}
use Rattle.std.proofs.lemmas.Bool.Decides.{nat_tests}
use Rattle.std.proofs.lemmas.Simd.{map-map}
use Rattle.std.proofs.lemmas.List.{map-append, append-nil}
use Rattle.std.proofs.lemmas.List.Elements.{filter-append}
use Rattle.kit_bytes.specs.Subscriptions.{merge}
use Rattle.outbox.specs.Queue.{has_room}
use Rattle.connections.specs.Table.{Connection, Table, AreRising, connection_in, changed, without, finds_room}
use Rattle.connections.specs.Hearing.{Hearing, hearing_of, heard, goes_on, Brought, brings_if, brings_to, brings}
use Rattle.mbim_frame.specs.Frame.{size_of}
use Rattle.subscriptions.specs.Clients.{Client as Subscriber, is_of, leaves, joins, newcomer as subscribes_first, merged}
use Rattle.proxy_state.specs.Telling.{tell, tell_to, tell_if}
use Rattle.proxy_state.specs.Telling as telling
use Rattle.proxy_core.specs.Meaning.{Named, clients_in, AreOthers, Agrees}
use Rattle.mbim_clients.specs.Client.{newcomer}
use Rattle.mbim_state.specs.Core.{Client, ModemSide, MbimState}
use Rattle.mbim_state.specs.Transitions.{give_up}
use Rattle.mbim_core.specs.Hand.{joined, left, left_unless, Follows, IsOf}
use Rattle.mbim_core.specs.Meaning.{AtHand, IsAtHand, subscriber, mbim_meaning}
use Rattle.mbim_core.proofs.Brought.{hears}
use Rattle.mbim_core.proofs.Subscribed.{subscribed_in, followed_by, followed, followed_none, same_subscribed, left_subscribed}

-- ---- of the clients alone ----

named_same : (present : List (Connection Client)) → map subscriber (clients_in present) ≡ subscribed_in present
named_same present = let named : Connection Client → Named Client = λ k. record { name = k.name; client = k.client } in map-map subscriber named present

module _ (t : Table Client) (side : ModemSide) (hand : AtHand) where
  pub of_clients : Agrees mbim_meaning t side hand → IsOf t side hand
  of_clients A = record { limit = A.limit; subscribed = A.clients.subscribed ∙ named_same t.present; asked = A.clients.asked }

  pub for_clients : IsOf t side hand → Agrees mbim_meaning t side hand
  for_clients O = record { limit = O.limit; clients = record { subscribed = O.subscribed ∙ sym (named_same t.present); asked = O.asked } }

  module _ (O : IsOf t side hand) where
    -- ---- what keeps it ----

    -- what the connections subscribe to stays
    pub stays_of : (later : Table Client) (beside : ModemSide) → later.limit ≡ t.limit → beside.last_list ≡ side.last_list → subscribed_in later.present ≡ subscribed_in t.present → IsOf later beside hand
    stays_of later beside limit list same = record { limit = limit ∙ O.limit; subscribed = O.subscribed ∙ sym same; asked = λ is. O.asked is ∙ sym list }

    -- one is gone
    pub left_of : (c : ℕ) (now : AtHand) (later : Table Client) (beside : ModemSide) → now ≡ left c hand → later.limit ≡ t.limit → subscribed_in later.present ≡ leaves c (subscribed_in t.present) → IsOf later beside now
    left_of c now later beside made limit gone = subst (λ (h : AtHand). IsOf later beside h) (sym made) (record { limit = limit ∙ O.limit; subscribed = ap (leaves c) O.subscribed ∙ sym gone; asked = λ is. absurd (cc) })

    -- one is followed
    pub follows_of : (k : Connection Client) (now : AtHand) (later : Table Client) (beside : ModemSide) → Follows k hand now → later.limit ≡ t.limit → beside.last_list ≡ side.last_list
        → subscribed_in later.present ≡ followed_by k (subscribed_in t.present) → IsOf later beside now
    follows_of k now later beside F limit list follows = record {
      limit = limit ∙ O.limit;
      subscribed = F.subscribed ∙ ap (followed_by k) O.subscribed ∙ sym follows;
      asked = λ is. let was = F.asked is in ap merged was.1 ∙ O.asked was.0 ∙ sym list;
    }

    -- a client was told something, or was dropped
    pub told_is : AreRising t.present → (bytes : List ℕ) (c : ℕ) (later : Table Client) (beside : ModemSide) (stays : Bool) (now : AtHand) → now ≡ left_unless stays c hand
        → (let was : MbimState = record { table = t; beside = side } in let y : MbimState = record { table = later; beside = beside } in y ≡ tell give_up (λ _. bytes) (λ client. client) c was)
        → stays ≡ finds_room bytes (connection_in c t.present) → later.limit ≡ t.limit → beside.last_list ≡ side.last_list → IsOf later beside now
    told_is rising bytes c later beside stays now now_is made room limit list = subst (λ (h : AtHand). IsOf later beside h) (sym now_is) (of (connection_in c t.present) made room)
      where
        was : MbimState
        was = record { table = t; beside = side }

        new : MbimState
        new = record { table = later; beside = beside }

        by_stays : (b : Bool) → stays ≡ b → IsOf later beside (left_unless b c hand) → IsOf later beside (left_unless stays c hand)
        by_stays b is it = subst (λ (b : Bool). IsOf later beside (left_unless b c hand)) (sym is) it

        by : (k : Connection Client) (b : Bool) → new ≡ tell_if give_up (λ _. bytes) (λ client. client) b c k was → stays ≡ b → IsOf later beside (left_unless stays c hand)
        by k true is fits =
            by_stays true fits
            (stays_of later beside limit list (ap (λ (x : MbimState). subscribed_in x.table.present) is ∙ same_subscribed c (telling.told give_up (λ _. bytes) (λ client. client)) (λ l. refl) t.present))
        by k false is fits = by_stays false fits (left_of c (left c hand) later beside refl limit (ap (λ (x : MbimState). subscribed_in x.table.present) is ∙ left_subscribed c t.present rising))

        of : (o : Option (Connection Client)) → new ≡ tell_to give_up (λ _. bytes) (λ client. client) o c was → stays ≡ finds_room bytes o → IsOf later beside (left_unless stays c hand)
        of None is fits = by_stays true fits (stays_of later beside limit list (ap (λ (x : MbimState). subscribed_in x.table.present) is))
        of (Some k) is fits = by k (has_room bytes k.outbox) is fits

-- ---- a piece that was brought ----

-- what is there is what was there, with the connection of a name changed, or the same
pub record IsChange (c : ℕ) (was later : List (Connection Client)) : Type 0 where
  pub change : Connection Client → Connection Client
  pub names : (k : Connection Client) → (change k).name ≡ k.name
  pub is : later ≡ changed c change was

unchanged : (c : ℕ) (present : List (Connection Client)) → changed c (λ k. k) present ≡ present
unfolding changed
unchanged c [] = refl
unchanged c (l ∷ present) = by (c == l.name) (unchanged c present)
  where
    by : (b : Bool) → changed c (λ k. k) present ≡ present → (if b then l ∷ present else l ∷ changed c (λ k. k) present) ≡ l ∷ present
    by true others = refl
    by false others = ap (λ (ls : List (Connection Client)). l ∷ ls) others

module _ (c : ℕ) (piece : List ℕ) (t : Table Client) (side : ModemSide) where
  abbrev brought : Brought Client ModemSide
  brought = brings size_of hears c piece t side

  pub brought_change : brought.goes_on ≡ true → IsChange c t.present brought.table.present
  brought_change goes = of (connection_in c t.present) goes
    where
      by : (h : Hearing Client ModemSide) (b : Bool) → (brings_if size_of b c h piece t).goes_on ≡ true → IsChange c t.present (brings_if size_of b c h piece t).table.present
      by h true goes = record { change = heard size_of h piece; names = λ k. refl; is = refl }
      by h false goes = absurd (cc)

      of : (o : Option (Connection Client)) → (brings_to size_of hears o c piece t side).goes_on ≡ true → IsChange c t.present (brings_to size_of hears o c piece t side).table.present
      of None goes = record { change = λ k. k; names = λ k. refl; is = sym (unchanged c t.present) }
      of (Some k) goes = let h : Hearing Client ModemSide = hearing_of size_of hears piece k side in by h (goes_on size_of h piece k) goes

  pub brought_gone : brought.goes_on ≡ false → brought.table.present ≡ without c t.present
  brought_gone stops = of (connection_in c t.present) stops
    where
      by : (h : Hearing Client ModemSide) (b : Bool) → (brings_if size_of b c h piece t).goes_on ≡ false → (brings_if size_of b c h piece t).table.present ≡ without c t.present
      by h true stops = absurd (cc)
      by h false stops = refl

      of : (o : Option (Connection Client)) → (brings_to size_of hears o c piece t side).goes_on ≡ false → (brings_to size_of hears o c piece t side).table.present ≡ without c t.present
      of None stops = absurd (cc)
      of (Some k) stops = let h : Hearing Client ModemSide = hearing_of size_of hears piece k side in by h (goes_on size_of h piece k) stops

  module _ (later : Table Client) (is : later ≡ brought.table) where
    pub brought_follows : (k : Connection Client) → brought.goes_on ≡ true → connection_in c later.present ≡ Some k → subscribed_in later.present ≡ followed_by k (subscribed_in t.present)
    brought_follows k goes found =
        let made : IsChange c t.present brought.table.present = brought_change goes in
        let now : later.present ≡ changed c made.change t.present = ap (λ (u : Table Client). u.present) is ∙ made.is in
        ap subscribed_in now ∙ followed made.change made.names c t.present k (sym (ap (λ (l : List (Connection Client)). connection_in c l) now) ∙ found)

    pub brought_nobody : brought.goes_on ≡ true → connection_in c later.present ≡ None → subscribed_in later.present ≡ subscribed_in t.present
    brought_nobody goes none =
        let made : IsChange c t.present brought.table.present = brought_change goes in
        let now : later.present ≡ changed c made.change t.present = ap (λ (u : Table Client). u.present) is ∙ made.is in
        ap subscribed_in now ∙ followed_none made.change made.names c t.present (sym (ap (λ (l : List (Connection Client)). connection_in c l) now) ∙ none)

    pub brought_leaves : AreRising t.present → brought.goes_on ≡ false → subscribed_in later.present ≡ leaves c (subscribed_in t.present)
    brought_leaves rising stops = ap (λ (u : Table Client). subscribed_in u.present) is ∙ ap subscribed_in (brought_gone stops) ∙ left_subscribed c t.present rising

-- ---- as what the protocol has at hand is seen ----

others_stay : (c : ℕ) (clients : List (Named Client)) → AreOthers c clients → leaves c (map subscriber clients) ≡ map subscriber clients
others_stay c [] all = refl
others_stay c (n ∷ clients) all =
    ap (λ (b : Bool). cond (not b) (subscriber n ∷ leaves c (map subscriber clients)) (leaves c (map subscriber clients))) all.0 ∙ ap (λ (l : List Subscriber). subscriber n ∷ l) (others_stay c clients all.1)

-- `seen` is what it shows
module _ (seen hand : AtHand) (shows : seen ≡ hand) where
  pub of_seen : (t : Table Client) (side : ModemSide) → Agrees mbim_meaning t side hand → IsOf t side seen
  of_seen t side A = of_clients t side seen (subst (λ (h : AtHand). Agrees mbim_meaning t side h) (sym shows) A)

  module _ (c : ℕ) (side : ModemSide) (now : AtHand) where
    -- one is gone
    pub leaves_it : (front behind : List (Named Client)) (client : Client) (beside : ModemSide) → now ≡ left c seen → AreOthers c front → AreOthers c behind → IsAtHand (front ++ record { name = c; client = client } ∷ behind) side hand → IsAtHand (front ++ behind) beside now
    leaves_it front behind client beside made before after A =
        let it : Named Client = record { name = c; client = client } in
        let gone : leaves c (map subscriber (front ++ it ∷ behind)) ≡ map subscriber (front ++ behind) =
        ap (leaves c) (map-append subscriber front (it ∷ behind))
        ∙ filter-append (λ (s : Subscriber). not (is_of c s)) (map subscriber front) (map subscriber (it ∷ behind))
        ∙ ap (λ (l : List Subscriber). l ++ leaves c (map subscriber (it ∷ behind))) (others_stay c front before)
        ∙ ap (λ (b : Bool). map subscriber front ++ cond (not b) (subscriber it ∷ leaves c (map subscriber behind)) (leaves c (map subscriber behind))) (let same : (c == c) ≡ true = grind (arith, nat_tests) in same)
        ∙ ap (λ (l : List Subscriber). map subscriber front ++ l) (others_stay c behind after)
        ∙ sym (map-append subscriber front behind)
        in
        subst (λ (h : AtHand). IsAtHand (front ++ behind) beside h) (sym (made ∙ ap (left c) shows)) (record { subscribed = ap (leaves c) A.subscribed ∙ gone; asked = λ is. absurd (cc) })

    -- one joins
    pub joins_it : (clients : List (Named Client)) → now ≡ joined c seen → AreOthers c clients → IsAtHand clients side hand → IsAtHand (clients ++ record { name = c; client = newcomer } ∷ []) side now
    joins_it clients made others A =
        let first : Subscriber = subscribes_first c in
        let old : List Subscriber = map subscriber clients in
        let joins_is : joins c hand.subscribed ≡ old ++ first ∷ [] = ap (joins c) A.subscribed ∙ ap (λ (l : List Subscriber). l ++ first ∷ []) (others_stay c clients others) in
        let hidden : merged (old ++ first ∷ []) ≡ merged old =
        ap (λ (l : List Subscriber). merge (map (λ (s : Subscriber). s.list) l)) (filter-append (λ (s : Subscriber). s.shown) old (first ∷ []) ∙ append-nil (filter (λ (s : Subscriber). s.shown) old))
        in
        subst (λ (h : AtHand). IsAtHand (clients ++ record { name = c; client = newcomer } ∷ []) side h) (sym (made ∙ ap (joined c) shows))
        (record {
          subscribed = joins_is ∙ sym (map-append subscriber clients (record { name = c; client = newcomer } ∷ []));
          asked = λ is. ap merged joins_is ∙ hidden ∙ sym (ap merged A.subscribed) ∙ A.asked is;
        })
