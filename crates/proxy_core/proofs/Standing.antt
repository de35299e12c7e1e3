-- A core stands for its events behind each event, and has no more bytes waiting than may. Lists of events have the newest first.
use Rattle.std.proofs.Common.{◌≡◌, ℕ, ◌≤◌, List, [], ◌∷◌, length, refl, ap, sym, ◌∙◌, subst}
use Rattle.connections.specs.Table.{Table}
use Rattle.connections.specs.Table as tables
use Rattle.proxy_history.specs.Events.{Event, greatest_after}
use Rattle.proxy_history.specs.Streams.{Framing}
use Rattle.proxy_history.specs.View.{view}
use Rattle.proxy_history.specs.Wording.{text_behind}
use Rattle.proxy_history.specs.History.{history, modem_queue, text_for}
use Rattle.proxy_history.proofs.Rendering.{waiting_within}
use Rattle.proxy_state.specs.State.{Core}
use Rattle.proxy_state.specs.Step as proxy
use Rattle.proxy_state.specs.Stands.{CanStep}
use Rattle.proxy_state.proofs.Steps.{stands_step, stands_open}
use Rattle.proxy_state.proofs.Waiting.{waiting_is}
use Rattle.proxy_state.proofs.Greatest.{greatest_as}
use Rattle.proxy_core.specs.Meaning.{Meaning, state_of}
use Rattle.proxy_core.specs.Core.{handlers_in, lasting_in, Stands, StandsAfter, IsBounded, opened_core, step}
use Rattle.proxy_core.specs.Lawful.{IsLawful}
use Rattle.proxy_core.specs.Shows.{modem_waiting_is}
use Rattle.proxy_core.proofs.Lasting.{stepped}
use Rattle.proxy_core.proofs.Events.{core_of}

module _ {T S P : Type 0} (d : Meaning T S P) (fresh : T) (size : Framing) (L : IsLawful d fresh size) where
  -- ---- the opening ----

  pub opened_is : (s : d.Setup) (connections : Table T) (side : S) (rest : List ℕ) → connections ≡ tables.opened 64 262144 → side ≡ (d.kept s).beside [] [] → rest ≡ [] → core_of (state_of connections side) rest ≡ opened_core d s
  opened_is s connections side rest table beside none =
      ap (λ (t : Table T). core_of (state_of t side) rest) table ∙ ap (λ (b : S). core_of (state_of (tables.opened 64 262144) b) rest) beside ∙ ap (core_of (state_of (tables.opened 64 262144) ((d.kept s).beside [] []))) none

  pub opened_stands : (s : d.Setup) (l : d.Lasting) → d.serves s l → (core : Core T S) → core ≡ opened_core d s → Stands d s [] core
  opened_stands s l serves core is =
      let limits = L.limits s l serves in
      let table : tables.opened 64 262144 ≡ tables.opened (d.protocol s).limits.connections (d.protocol s).limits.outbox =
      ap (λ (n : ℕ). let t : Table T = tables.opened n 262144 in t) (sym limits.connections) ∙ ap (λ (n : ℕ). let t : Table T = tables.opened (d.protocol s).limits.connections n in t) (sym limits.outbox)
      in
      subst (Stands d s []) (sym is) (stands_open (d.protocol s) (d.kept s) (opened_core d s) table refl refl)

  -- ---- each event ----

  module _ (event : Event) (old new : Core T S) (made : new ≡ step d size event old) where
    pub step_lasts : lasting_in d new ≡ lasting_in d old
    step_lasts = ap (lasting_in d) made ∙ stepped d (handlers_in d old) (L.lasts (lasting_in d old)) size event old

    pub step_greatest : new.state.table.greatest ≡ greatest_after event old.state.table.greatest
    step_greatest = greatest_as (handlers_in d old) size (L.greatest (lasting_in d old)) event event old new refl made

    module _ (can : CanStep (handlers_in d old) event old) (s : d.Setup) (events : List Event) (serves : d.serves s (lasting_in d old)) (Sd : Stands d s events old) where
      pub step_stands : StandsAfter d s (event ∷ events) new
      step_stands =
          subst (StandsAfter d s (event ∷ events)) (sym (made ∙ sym (ap (λ (z : Framing). proxy.step (handlers_in d old) z event old) (L.framing s))))
          (stands_step (d.protocol s) (d.kept s) (handlers_in d old) (d.fine s) (L.faithful s (lasting_in d old) serves) event events old can Sd)

      pub step_bounded : IsBounded d new
      step_bounded =
          let limits = L.limits s (lasting_in d old) serves in
          record {
            clients = λ c owed.
                subst (λ (l : List ℕ). length l ≤ 262144) (sym (waiting_is (d.protocol s) (d.kept s) (event ∷ events) new step_stands.stands c owed))
                (subst (λ (n : ℕ). length (text_for (d.protocol s) c (event ∷ events)).waiting ≤ n) limits.outbox
                (waiting_within (d.protocol s).limits.outbox (text_behind (d.protocol s).wording) (view (d.protocol s).wording.blank c (history (d.protocol s) (event ∷ events)))));
            modem =
                subst (λ (l : List ℕ). length l ≤ 1048576) (sym (modem_waiting_is d fresh size L s (event ∷ events) new step_stands.stands))
                (subst (λ (n : ℕ). length (modem_queue (d.protocol s) (event ∷ events)) ≤ n) limits.modem_outbox (L.few_wait s (event ∷ events)));
          }
