-- The bytes for the modem only grow, but where it takes the first of those that wait or is lost.
use Rattle.std.proofs.Common.{◌≡◌, ℕ, ◌+◌, ◌≤◌, true, false, List, [], ◌∷◌, ◌++◌, length, drop, refl, ap, sym, ◌∙◌, drop-drop}
use Rattle.std.proofs.lemmas.List.{drop-append-le}
use Rattle.proxy_history.specs.Events.{Event, ModemTook, modem_takes}
use Rattle.proxy_history.specs.Facts.{Fact, EventBegan, ModemTaken, ModemLost}
use Rattle.proxy_history.specs.Modem.{modem_taken_count}
use Rattle.proxy_history.specs.Modem as modem
use Rattle.proxy_history.specs.History as proxy
use Rattle.proxy_history.proofs.Touching.{takes_from_queue, QueueGrows, queue_same, queue_grows}
use Rattle.proxy_history.proofs.Walk.{begun_is_sound, kept_at_end}
use Rattle.proxy_history.proofs.Folds.{at_end}
use Rattle.proxy_history.proofs.Folds as folds
use Rattle.mbim_proxy.specs.Setup.{Setup}
use Rattle.mbim_proxy.specs.ModemStates.{state}
use Rattle.mbim_proxy.specs.Forwarding.{wire}
use Rattle.mbim_proxy.specs.OwnList.{finish}
use Rattle.mbim_proxy.specs.History.{mbim_protocol, history, to_modem, modem_queue}
use Rattle.mbim_proxy.specs.Laws.{loses_modem, GoesOnWith, TakesTheFirst}
use Rattle.mbim_proxy.proofs.Walk.{Asks, orderly}

-- ---- a loss ----

-- nothing is asked of a modem that is lost
nothing_asked : (s : Setup) (past : List Fact) → finish s (ModemLost ∷ past) ≡ ModemLost ∷ past
unfolding state
nothing_asked s past = refl

module _ (s : Setup) (event : Event) (events : List Event) where
  lost_as_its_stream : loses_modem s event events ≡ folds.is_lost (mbim_protocol s) (Asks s) (orderly s) (folds.stream_now (mbim_protocol s) (Asks s) (orderly s) events) (folds.stream_now (mbim_protocol s) (Asks s) (orderly s) (event ∷ events))
  lost_as_its_stream = folds.lost_as_its_stream (mbim_protocol s) (Asks s) (orderly s) event events

  pub loss_leaves_none : loses_modem s event events ≡ true → to_modem s (event ∷ events) ≡ []
  unfolding proxy.history modem.to_modem
  loss_leaves_none lost =
      let last = folds.loss_comes_last (mbim_protocol s) (Asks s) (orderly s) event events (sym lost_as_its_stream ∙ lost) in
      ap (λ (facts : List Fact). modem.to_modem (wire s) facts) (ap (finish s) last.1 ∙ nothing_asked s last.0)

  pub modem_bytes_grow : modem_takes event ≡ false → loses_modem s event events ≡ false → GoesOnWith (to_modem s events) (to_modem s (event ∷ events))
  modem_bytes_grow none going =
      let g = folds.modem_bytes_grow (mbim_protocol s) (Asks s) (orderly s) event events none (sym lost_as_its_stream ∙ going) in
      record { more = g.more; bytes = g.bytes }

-- ---- a taking ----

module _ (s : Setup) (count : ℕ) (events : List Event) where
  abbrev was_taken : List Fact
  was_taken = ModemTaken count ∷ EventBegan ∷ history s events

  ended : QueueGrows (wire s) was_taken (history s (ModemTook count ∷ events))
  unfolding proxy.history proxy.add_all
  ended =
      kept_at_end (mbim_protocol s) (Asks s) (orderly s) (QueueGrows (wire s) was_taken)
      (λ fact past follows may asked. queue_grows (wire s) was_taken fact past (at_end (λ f. takes_from_queue f ≡ false) (λ r. refl) (λ list. refl) fact past may))
      was_taken (tt, begun_is_sound (mbim_protocol s) (Asks s) (orderly s) events) (queue_same (wire s) was_taken)

  pub modem_takes_the_first : modem_taken_count (history s events) + count ≤ length (to_modem s events) → TakesTheFirst (modem_queue s events) count (modem_queue s (ModemTook count ∷ events))
  unfolding modem.to_modem modem.modem_taken_count
  modem_takes_the_first within =
      let g = ended in
      let taken : ℕ = modem_taken_count (history s events) in
      record {
        more = g.more;
        waiting =
            ap (λ (n : ℕ). drop n (to_modem s (ModemTook count ∷ events))) g.taken
            ∙ ap (drop (taken + count)) g.bytes
            ∙ drop-append-le (taken + count) (to_modem s events) g.more within
            ∙ ap (λ (l : List ℕ). l ++ g.more) (sym (drop-drop count taken (to_modem s events)));
      }
