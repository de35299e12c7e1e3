-- The core of a simulated modem's server shows what the definitions say. Lists of events have the newest first.
use Rattle.std.proofs.Common.{◌≡◌, ℕ, Bool, true, false, ◌||◌, ◌==◌, if◌then◌else◌, List, [], ◌∷◌, map, Some, None, refl, ap, sym, ◌∙◌, subst}
use Rattle.std.proofs.lemmas.Bool.{eqb-true}
use Rattle.std.proofs.lemmas.List.{map-id}
use Rattle.std.proofs.lemmas.Simd.{map-map}
use Rattle.proxy_history.specs.Events.{Event}
use Rattle.proxy_history.specs.Streams.{Framing}
use Rattle.proxy_history.specs.Connections.{contains}
use Rattle.proxy_history.specs.Proxy.{Proxy}
use Rattle.proxy_serving.specs.Cores.{Shows}
use Rattle.served_sim.specs.Conduct.{Conduct}
use Rattle.sim_serving.specs.Clients.{present}
use Rattle.sim_serving.specs.Proxy.{served}
use Rattle.sim_serving.specs.Core.{Client, Core, named, names_of, waiting_in, waiting_for, listed, face_of, client_of, StandsFor, Keeps}
use Rattle.sim_serving.specs.Lawful.{is_lawful}

-- ---- the client of a name ----

module _ (c : ℕ) (f : ℕ → Client) (name : (d : ℕ) → (f d).name ≡ d) where
  test : (d : ℕ) → (c == (f d).name) ≡ (c == d)
  test d = ap (λ (n : ℕ). c == n) (name d)

  pub named_is : (names : List ℕ) → named c (map f names) ≡ (if contains c names then Some (f c) else None)
  named_is [] = refl
  named_is (x ∷ names) =
      let step : (b : Bool) → (c == x) ≡ b → (if b then Some (f x) else named c (map f names)) ≡ (if b || contains c names then Some (f c) else None) =
      elim [ true ↦ λ is. ap (λ (d : ℕ). Some (f d)) (sym (eqb-true c x is)) | false ↦ λ is. named_is names ]
      in ap (λ (b : Bool). if b then Some (f x) else named c (map f names)) (test x) ∙ step (c == x) refl

  pub waiting_is : (names : List ℕ) → contains c names ≡ true → waiting_for c (map f names) ≡ (f c).replies.waiting
  waiting_is names there = ap waiting_in (named_is names ∙ ap (λ (b : Bool). if b then Some (f c) else None) there)

-- ---- what a core shows ----

module _ {S : Type 0} (size : Framing) (keeps : ℕ → Conduct → List (List ℕ) → S → Type 0) where
  shows_conduct : (conduct : Conduct) (past : List Event) (core : Core S) → StandsFor size keeps conduct past core → Shows (served size conduct) past (face_of core)
  shows_conduct conduct past core Sd = record {
    lawful = is_lawful size conduct;
    present = ap names_of Sd.clients ∙ map-map (λ (k : Client). k.name) (client_of size conduct past) (present size conduct past) ∙ map-id (present size conduct past);
    queue = λ c there. ap (waiting_for c) Sd.clients ∙ waiting_is c (client_of size conduct past) (λ d. refl) (present size conduct past) there;
    modem_queue = refl;
    modem_backlog = refl;
    dropped = λ none. ap listed (Sd.dropped none);
    away = refl;
    time = refl;
    distinct = Sd.distinct;
  }

  pub shows_of : (p : Proxy) (past : List Event) (core : Core S) → Keeps size keeps p past core → Shows p past (face_of core)
  shows_of p past core kept = let Showing : Proxy → Type 0 = λ q. Shows q past (face_of core) in subst Showing (sym kept.same) (shows_conduct kept.conduct past core kept.stands)
