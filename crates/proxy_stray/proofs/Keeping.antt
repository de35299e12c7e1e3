-- What is added to histories that are alike leaves such that are alike.
use Rattle.std.proofs.Common.{◌≡◌, ℕ, ◌&&◌, Bool, true, false, max, nat_lt, if◌then◌else◌, List, [], ◌∷◌, ◌++◌, length, refl, ap, ap₂, subst, ◌∙◌}
use Rattle.proxy_history.specs.Limits.{Limits}
use Rattle.proxy_history.specs.Facts.{Fact, Request, NotAdmitted, BadStream, NoRoom, Leaving, EventBegan, Admitted, Ended, Taken, Expired, Aborted, Indicated, Stray, ModemLost, ModemReturned, ModemTaken, TimeIs}
use Rattle.proxy_history.specs.Connections.{contains, present, is_present, dropped}
use Rattle.proxy_history.specs.Requests.{pending, is_pending, has_request}
use Rattle.proxy_history.specs.Modem.{now}
use Rattle.proxy_history.specs.View.{view}
use Rattle.proxy_history.specs.Rendering.{Rendering, render}
use Rattle.proxy_history.specs.Wording.{Wording, text_behind, told_by}
use Rattle.proxy_history.specs.Noting.{rendering, join, if_present, receivers_of, end_if_overfull, end_overfull, note, if_pending, each_pending}
use Rattle.proxy_history.specs.Unanswered.{Refusal, Order, abort_all, due, expire, tick}
use Rattle.proxy_history.specs.Protocol.{Protocol}
use Rattle.proxy_history.specs.Items.{Item, Joins, Says, GoesBad, Leaves, ModemSays, ModemIsLost, ModemReturns, ClockShows, Takes, ModemTakes}
use Rattle.proxy_history.specs.History.{known_of, add, add_all}
use Rattle.proxy_stray.specs.Alike.{substance, TellTheSame, Alike}
use Rattle.proxy_stray.specs.Stray.{TakesNoHeed}
use Rattle.proxy_stray.proofs.Questions.{told, present-told, pending-told, now-told, view-told}

-- ---- one fact more ----

same_behind : (fact : Fact) (a b : List Fact) → TellTheSame a b → TellTheSame (fact ∷ a) (fact ∷ b)
unfolding substance
same_behind EventBegan a b same = same
same_behind Stray a b same = same
same_behind (Indicated m []) a b same = same
same_behind fact a b same = ap (λ (l : List Fact). fact ∷ l) same

hung_up_behind : (fact : Fact) (a b : List Fact) → dropped a ≡ dropped b → dropped (fact ∷ a) ≡ dropped (fact ∷ b)
unfolding dropped
hung_up_behind EventBegan a b same = refl
hung_up_behind (Ended c Leaving) a b same = same
hung_up_behind (Ended c NotAdmitted) a b same = ap (λ (l : List ℕ). l ++ c ∷ []) same
hung_up_behind (Ended c BadStream) a b same = ap (λ (l : List ℕ). l ++ c ∷ []) same
hung_up_behind (Ended c NoRoom) a b same = ap (λ (l : List ℕ). l ++ c ∷ []) same
hung_up_behind fact a b same = same

pub behind : (fact : Fact) (a b : List Fact) → Alike a b → Alike (fact ∷ a) (fact ∷ b)
behind fact a b alike = record { same = same_behind fact a b alike.same; hung_up = hung_up_behind fact a b alike.hung_up }

-- an event begins
pub begun : (a b : List Fact) → TellTheSame a b → Alike (EventBegan ∷ a) (EventBegan ∷ b)
unfolding dropped
begun a b same = record { same = same_behind EventBegan a b same; hung_up = refl }

-- a message for nobody
pub stray_behind : (a b : List Fact) → Alike a b → Alike (Stray ∷ a) b
unfolding substance dropped
stray_behind a b alike = record { same = alike.same; hung_up = alike.hung_up }

pub unwanted_behind : (told : List ℕ) (a b : List Fact) → Alike a b → Alike (Indicated told [] ∷ a) b
unfolding substance dropped
unwanted_behind told a b alike = record { same = alike.same; hung_up = alike.hung_up }

pub alike_self : (a : List Fact) → Alike a a
alike_self a = record { same = refl; hung_up = refl }

pub alike_then : (a b c : List Fact) → Alike a b → Alike b c → Alike a c
alike_then a b c first second = record { same = first.same ∙ second.same; hung_up = first.hung_up ∙ second.hung_up }

-- ---- choices ----

pub by_test : (x y : Bool) (a b a' b' : List Fact) → x ≡ y → Alike a b → Alike a' b' → Alike (if x then a else a') (if y then b else b')
by_test x y a b a' b' e here there =
    subst (λ (z : Bool). Alike (if x then a else a') (if z then b else b')) e (elim x as (λ x. Alike (if x then a else a') (if x then b else b')) [ true ↦ here | false ↦ there ])

-- what depends on something that both tell
pub by_value : {X : Type 0} (f : X → List Fact → List Fact) (x y : X) (a b : List Fact) → x ≡ y → Alike (f x a) (f x b) → Alike (f x a) (f y b)
by_value f x y a b e alike = subst (λ z. Alike (f x a) (f z b)) e alike

pub behind_each : (f g : Fact) (a b : List Fact) → f ≡ g → Alike a b → Alike (f ∷ a) (g ∷ b)
behind_each f g a b e alike = subst (λ (h : Fact). Alike (f ∷ a) (h ∷ b)) e (behind f a b alike)

-- ---- who is there, and the bytes for it ----

-- the bytes for a connection
pub same_rendering : {Known : Type 0} (limits : Limits) (wording : Wording Known) (c : ℕ) (a b : List Fact) → TellTheSame a b → rendering limits wording c a ≡ rendering limits wording c b
same_rendering limits wording c a b same = ap (render limits.outbox (text_behind wording)) (told (view wording.blank c) (view-told wording.blank c) a b same)

module _ (a b : List Fact) (alike : Alike a b) where
  pub present_same : present a ≡ present b
  present_same = told present present-told a b alike.same

  pub there_same : (c : ℕ) → is_present c a ≡ is_present c b
  there_same c = ap (contains c) present_same

  pub waits_same : (r : Request) → is_pending r a ≡ is_pending r b
  waits_same r = ap (has_request r) (told pending pending-told a b alike.same)

  pub rendering_same : {Known : Type 0} (limits : Limits) (wording : Wording Known) (c : ℕ) → rendering limits wording c a ≡ rendering limits wording c b
  rendering_same limits wording c = same_rendering limits wording c a b alike.same

  pub known_same : {Known : Type 0} (p : Protocol Known) (c : ℕ) → known_of p c a ≡ known_of p c b
  known_same p c = ap (told_by p.wording.fresh p.wording.step) (told (view p.wording.blank c) (view-told p.wording.blank c) a b alike.same)

  pub if_there : (c : ℕ) (x y : List Fact) → Alike x y → Alike (if_present c a x) (if_present c b y)
  if_there c x y then_alike = by_test (is_present c a) (is_present c b) x y a b (there_same c) then_alike alike

module _ {Known : Type 0} (limits : Limits) (wording : Wording Known) where
  ends_one : (c : ℕ) (a b : List Fact) → Alike a b → Alike (end_if_overfull limits wording c a) (end_if_overfull limits wording c b)
  ends_one c a b alike =
      by_test (is_present c a && (rendering limits wording c a).is_over) (is_present c b && (rendering limits wording c b).is_over) (Ended c NoRoom ∷ a) (Ended c NoRoom ∷ b) a b
      (ap₂ (λ (x y : Bool). x && y) (there_same a b alike c) (ap (λ (r : Rendering). r.is_over) (rendering_same a b alike limits wording c)))
      (behind (Ended c NoRoom) a b alike)
      alike

  ends_all : (receivers : List ℕ) (a b : List Fact) → Alike a b → Alike (end_overfull limits wording receivers a) (end_overfull limits wording receivers b)
  unfolding end_overfull
  ends_all [] a b alike = alike
  ends_all (c ∷ receivers) a b alike = ends_all receivers (end_if_overfull limits wording c a) (end_if_overfull limits wording c b) (ends_one c a b alike)

  pub noted : (fact : Fact) (a b : List Fact) → Alike a b → Alike (note limits wording fact a) (note limits wording fact b)
  noted fact a b alike = ends_all (receivers_of fact) (fact ∷ a) (fact ∷ b) (behind fact a b alike)

  -- where what is noted of both is one fact
  pub noted_each : (f g : Fact) (a b : List Fact) → f ≡ g → Alike a b → Alike (note limits wording f a) (note limits wording g b)
  noted_each f g a b e alike = subst (λ (h : Fact). Alike (note limits wording f a) (note limits wording h b)) e (noted f a b alike)

-- ---- requests that are refused ----

module _ (action : Request → List Fact → List Fact) (keeps : (r : Request) (a b : List Fact) → Alike a b → Alike (action r a) (action r b)) where
  one_pending : (r : Request) (a b : List Fact) → Alike a b → Alike (if_pending action r a) (if_pending action r b)
  one_pending r a b alike = by_test (is_pending r a) (is_pending r b) (action r a) (action r b) a b (waits_same a b alike r) (keeps r a b alike) alike

  every_pending : (requests : List Request) (a b : List Fact) → Alike a b → Alike (each_pending action requests a) (each_pending action requests b)
  unfolding each_pending
  every_pending [] a b alike = alike
  every_pending (r ∷ requests) a b alike = every_pending requests (if_pending action r a) (if_pending action r b) (one_pending r a b alike)

  -- those that either tells of, in an order
  pub pending_of : (chosen : List Request → List Request) (x y a b : List Fact) → Alike x y → Alike a b → Alike (each_pending action (chosen (pending x)) a) (each_pending action (chosen (pending y)) b)
  pending_of chosen x y a b chosen_alike alike =
      by_value (λ requests past. each_pending action (chosen requests) past) (pending x) (pending y) a b (told pending pending-told x y chosen_alike.same) (every_pending (chosen (pending x)) a b alike)

module _ (refuse : Refusal) (order : Order) (keeps : (why : Fact) (r : Request) (a b : List Fact) → Alike a b → Alike (refuse why r a) (refuse why r b)) where
  pub aborts_all : (a b : List Fact) → Alike a b → Alike (abort_all refuse order a) (abort_all refuse order b)
  aborts_all a b alike = pending_of (λ r before. refuse (Aborted r) r before) (λ r. keeps (Aborted r) r) order a b a b alike alike

  expires : (time : ℕ) (a b : List Fact) → Alike a b → Alike (expire refuse order time a) (expire refuse order time b)
  expires time a b alike =
      pending_of (λ r before. refuse (Expired r) r before) (λ r. keeps (Expired r) r) (λ requests. order (due time requests)) a b (TimeIs time ∷ a) (TimeIs time ∷ b) alike (behind (TimeIs time) a b alike)

  pub ticks : (time : ℕ) (a b : List Fact) → Alike a b → Alike (tick refuse order time a) (tick refuse order time b)
  ticks time a b alike =
      by_value (λ shown past. expire refuse order (max time shown) past) (now a) (now b) a b (told now now-told a b alike.same) (expires (max time (now a)) a b alike)

-- ---- each item ----

joins : (limits : Limits) (c : ℕ) (a b : List Fact) → Alike a b → Alike (join limits c a) (join limits c b)
joins limits c a b alike =
    by_test (nat_lt (length (present a)) limits.connections) (nat_lt (length (present b)) limits.connections) (Admitted c ∷ a) (Admitted c ∷ b) (Ended c NotAdmitted ∷ a) (Ended c NotAdmitted ∷ b)
    (ap (λ (l : List ℕ). nat_lt (length l) limits.connections) (present_same a b alike))
    (behind (Admitted c) a b alike)
    (behind (Ended c NotAdmitted) a b alike)

module _ {Known : Type 0} (p : Protocol Known) (T : TakesNoHeed p) where
  says : (c : ℕ) (m : List ℕ) (a b : List Fact) → Alike a b → Alike (p.hear_client (known_of p c a) c m a) (p.hear_client (known_of p c b) c m b)
  says c m a b alike = by_value (λ (known : Known) past. p.hear_client known c m past) (known_of p c a) (known_of p c b) a b (known_same a b alike p c) (T.client (known_of p c a) c m a b alike)

  pub adds : (item : Item) (a b : List Fact) → Alike a b → Alike (add p item a) (add p item b)
  adds (Joins c) a b alike = joins p.limits c a b alike
  adds (Says c m) a b alike = if_there a b alike c _ _ (says c m a b alike)
  adds (GoesBad c) a b alike = if_there a b alike c _ _ (behind (Ended c BadStream) a b alike)
  adds (Leaves c) a b alike = if_there a b alike c _ _ (behind (Ended c Leaving) a b alike)
  adds (ModemSays m) a b alike = T.modem m a b alike
  adds ModemIsLost a b alike =
      behind ModemLost _ _ (T.loss (abort_all p.refuse p.order a) (abort_all p.refuse p.order b) (aborts_all p.refuse p.order T.refusal a b alike))
  adds ModemReturns a b alike = behind ModemReturned a b alike
  adds (ClockShows time) a b alike = T.clock (tick p.refuse p.order time a) (tick p.refuse p.order time b) (ticks p.refuse p.order T.refusal time a b alike)
  adds (Takes c count) a b alike = if_there a b alike c _ _ (behind (Taken c count) a b alike)
  adds (ModemTakes count) a b alike = behind (ModemTaken count) a b alike

  pub adds_all : (items : List Item) (a b : List Fact) → Alike a b → Alike (add_all p items a) (add_all p items b)
  unfolding add_all
  adds_all [] a b alike = alike
  adds_all (item ∷ items) a b alike = adds_all items (add p item a) (add p item b) (adds item a b alike)
