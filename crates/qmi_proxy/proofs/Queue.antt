-- The bytes for the modem only grow, but where it takes some of them or is lost.
use Rattle.std.proofs.Common.{◌≡◌, ℕ, zero, suc, true, false, List, [], ◌∷◌, drop, refl, ap, sym, ◌∙◌, drop-drop}
use Rattle.std.proofs.lemmas.List.{drop-append-le}
use Rattle.proxy_history.specs.Events.{Event, ModemTook, modem_takes}
use Rattle.proxy_history.specs.Modem.{to_modem, modem_taken_count, modem_queue}
use Rattle.proxy_history.specs.History as proxy
use Rattle.proxy_history.proofs.Folds as folds
use Rattle.qmi_proxy.specs.Setup.{Setup}
use Rattle.qmi_proxy.specs.Clients.{wire}
use Rattle.qmi_proxy.specs.History.{qmi_protocol, history}
use Rattle.qmi_proxy.specs.Queue.{loses_modem, ModemGetsMore}
use Rattle.qmi_proxy.proofs.Walk.{Asks, orderly}

module _ (s : Setup) where
  pub modem_bytes_only_grow : (event : Event) (events : List Event) → modem_takes event ≡ false → loses_modem s event events ≡ false → ModemGetsMore (history s events) (history s (event ∷ events))
  modem_bytes_only_grow event events none going =
      let g = folds.modem_bytes_grow (qmi_protocol s) (Asks s) (orderly s) event events none (sym (folds.lost_as_its_stream (qmi_protocol s) (Asks s) (orderly s) event events) ∙ going) in
      record {
        more = g.more;
        bytes = g.bytes;
        taken = g.taken;
        waiting = λ within.
            ap (λ (count : ℕ). drop count (to_modem wire (history s (event ∷ events)))) g.taken
            ∙ ap (drop (modem_taken_count (history s events))) g.bytes
            ∙ drop-append-le (modem_taken_count (history s events)) (to_modem wire (history s events)) g.more within;
      }

  pub modem_takes_the_first : (count : ℕ) (events : List Event)
      → (to_modem wire (history s (ModemTook count ∷ events)) ≡ to_modem wire (history s events))
      × (modem_queue wire (history s (ModemTook count ∷ events)) ≡ drop count (modem_queue wire (history s events)))
  unfolding proxy.history proxy.add_all to_modem modem_taken_count
  modem_takes_the_first count events = (refl, sym (drop-drop count (modem_taken_count (history s events)) (to_modem wire (history s events))))

  pub loss_leaves_none : (event : Event) (events : List Event) → loses_modem s event events ≡ true
      → (to_modem wire (history s (event ∷ events)) ≡ []) × (modem_queue wire (history s (event ∷ events)) ≡ []) × (modem_taken_count (history s (event ∷ events)) ≡ 0)
  unfolding proxy.history
  loss_leaves_none event events lost =
      let none = folds.loss_leaves_none (qmi_protocol s) (Asks s) (orderly s) event events (sym (folds.lost_as_its_stream (qmi_protocol s) (Asks s) (orderly s) event events) ∙ lost) in (
        none.0,
        ap (λ (l : List ℕ). drop (modem_taken_count (history s (event ∷ events))) l) none.0 ∙ drop_none (modem_taken_count (history s (event ∷ events))),
        none.1,
      )
    where
      drop_none : (count : ℕ) → drop count (let l : List ℕ = [] in l) ≡ []
      drop_none zero = refl
      drop_none (suc count) = refl
