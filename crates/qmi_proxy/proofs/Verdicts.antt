-- What each decision on a client's message comes with.
use Rattle.std.proofs.Common.{◌≡◌, ◌↔◌, ℕ, Bool, true, false, not, ◌||◌, if◌then◌else◌, List, length, refl, ap, sym, ◌∙◌, Option, Some, None}
use Rattle.qmux_frame.specs.Head.{is_framed}
use Rattle.proxy_history.specs.Facts.{Fact, Own, Share, Foreign, Away, Full, Forward}
use Rattle.proxy_history.specs.Decision.{Decision, Replies, Forwards, forwards_under}
use Rattle.proxy_history.specs.ClientIds.{holder, is_other}
use Rattle.proxy_history.specs.Sound.{IsFreeFor}
use Rattle.proxy_history.specs.Modem.{is_away, modem_queue}
use Rattle.proxy_history.specs.Requests.{has_share}
use Rattle.qmi_proxy.specs.Setup.{Setup}
use Rattle.qmi_proxy.specs.Spaces.{space_of}
use Rattle.qmi_proxy.specs.Limits.{share_limit}
use Rattle.qmi_proxy.specs.Messages.{is_malformed, uses_id, used_service, used_cid}
use Rattle.qmi_proxy.specs.OwnReplies.{is_open, view_decides}
use Rattle.qmi_proxy.specs.Text.{view_of}
use Rattle.qmi_proxy.specs.Clients.{number_for, holder_for, has_room, wire, decision_as, decision_on}

-- ---- by its tests ----

by_tests : (own share foreign away room : Bool) → Option ℕ → Decision
by_tests own share foreign away room number =
    if own then Replies Own else if share then Replies Share else if foreign then Replies Foreign else if away then Replies Away else if not room then Replies Full else forwards_under number

record Needs (own share foreign away room : Bool) (number : Option ℕ) (n : ℕ) : Type 0 where
  shared : own ≡ false
  few : share ≡ false
  free : foreign ≡ false
  finds_room : room ≡ true
  numbered : number ≡ Some n

needs : (own share foreign away room : Bool) (number : Option ℕ) (n : ℕ) → by_tests own share foreign away room number ≡ Forwards n → Needs own share foreign away room number n
unfolding by_tests
needs true share foreign away room number n e = absurd (cc)
needs false true foreign away room number n e = absurd (cc)
needs false false true away room number n e = absurd (cc)
needs false false false true room number n e = absurd (cc)
needs false false false false false number n e = absurd (cc)
needs false false false false true None n e = absurd (cc)
needs false false false false true (Some k) n e = let same : k ≡ n = cc in record { shared = refl; few = refl; free = refl; finds_room = refl; numbered = ap Some same }

own_alone : (own share foreign away room : Bool) (number : Option ℕ) → by_tests own share foreign away room number ≡ Replies Own → own ≡ true
unfolding by_tests
own_alone true share foreign away room number e = refl
own_alone false true foreign away room number e = absurd (cc)
own_alone false false true away room number e = absurd (cc)
own_alone false false false true room number e = absurd (cc)
own_alone false false false false false number e = absurd (cc)
own_alone false false false false true None e = absurd (cc)
own_alone false false false false true (Some k) e = absurd (cc)

never_forward : (own share foreign away room : Bool) (number : Option ℕ) → by_tests own share foreign away room number ≡ Replies Forward → ⊥
unfolding by_tests
never_forward true share foreign away room number e = cc
never_forward false true foreign away room number e = cc
never_forward false false true away room number e = cc
never_forward false false false true room number e = cc
never_forward false false false false false number e = cc
never_forward false false false false true None e = cc
never_forward false false false false true (Some k) e = cc

-- ---- what is forwarded ----

well_formed : (opened : Bool) (m : List ℕ) → view_decides opened m ≡ false → is_malformed m ≡ false
well_formed opened m e = by (is_malformed m) _ _ _ _ e
  where
    by : (malformed opens shut sync id : Bool) → (malformed || opens || shut || sync || id) ≡ false → malformed ≡ false
    by true opens shut sync id e = absurd (cc)
    by false opens shut sync id e = refl

well_framed : (m : List ℕ) → is_malformed m ≡ false → is_framed m ≡ true
well_framed m fine = by (is_framed m) _ _ _ _ _ fine
  where
    by : (b flags client opening allocate release : Bool) → (not b || flags || client || opening || allocate || release) ≡ false → b ≡ true
    by true flags client opening allocate release e = refl
    by false flags client opening allocate release e = absurd (cc)

-- it is framed, nobody else holds the client id that it uses, there is room for it, and it gets the next number
pub record CanGo (c : ℕ) (m : List ℕ) (n : ℕ) (past : List Fact) : Type 0 where
  pub framed : is_framed m ≡ true
  pub free : is_other c (holder_for m past) ≡ false
  pub room : has_room (length (modem_queue wire past)) m ≡ true
  pub number : number_for m past ≡ Some n

pub can_go : (s : Setup) (opened : Bool) (c : ℕ) (m : List ℕ) (past : List Fact) (n : ℕ) → decision_as s opened c m past ≡ Forwards n → CanGo c m n past
unfolding by_tests
can_go s opened c m past n e =
    let has = needs (view_decides opened m) (has_share share_limit c (space_of m) past) (is_other c (holder_for m past)) (is_away s.starts_away past) (has_room (length (modem_queue wire past)) m) (number_for m past) n e in
    record { framed = well_framed m (well_formed opened m has.shared); free = has.free; room = has.finds_room; number = has.numbered }

-- so the id that a message uses is free
pub used_id_is_free : (c : ℕ) (m : List ℕ) (past : List Fact) → is_other c (holder_for m past) ≡ false → uses_id m ≡ true → IsFreeFor c (used_service m) (used_cid m) past
used_id_is_free c m past free uses = sym (ap (λ (b : Bool). is_other c (let o : Option ℕ = if b then holder (used_service m) (used_cid m) past else None in o)) uses) ∙ free

-- ---- whatever the history ----

module _ (s : Setup) (c : ℕ) (m : List ℕ) (past : List Fact) where
  abbrev opened : Bool
  opened = is_open s.device (view_of c past)

  pub own_replies_are_of_the_view : decision_on s c m past ≡ Replies Own ↔ view_decides opened m ≡ true
  unfolding by_tests
  own_replies_are_of_the_view = (
    own_alone (view_decides opened m) (has_share share_limit c (space_of m) past) (is_other c (holder_for m past)) (is_away s.starts_away past) (has_room (length (modem_queue wire past)) m) (number_for m past),
    λ e. ap (λ (b : Bool). by_tests b (has_share share_limit c (space_of m) past) (is_other c (holder_for m past)) (is_away s.starts_away past) (has_room (length (modem_queue wire past)) m) (number_for m past)) e,
  )

  pub no_reply_is_forwarded : decision_on s c m past ≡ Replies Forward → ⊥
  unfolding by_tests
  no_reply_is_forwarded e = never_forward (view_decides opened m) (has_share share_limit c (space_of m) past) (is_other c (holder_for m past)) (is_away s.starts_away past) (has_room (length (modem_queue wire past)) m) (number_for m past) e

pub forwarded_have_the_next_number : (s : Setup) (c number : ℕ) (m : List ℕ) (past : List Fact) → decision_on s c m past ≡ Forwards number → (number_for m past ≡ Some number) × (has_room (length (modem_queue wire past)) m ≡ true)
forwarded_have_the_next_number s c number m past e = let can = can_go s (is_open s.device (view_of c past)) c m past number e in (can.number, can.room)
