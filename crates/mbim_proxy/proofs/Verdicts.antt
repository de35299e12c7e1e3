-- What goes to the modem can be queued: a request that is forwarded, and the proxy's own.
use Rattle.std.proofs.Common.{◌≡◌, ◌↔◌, ℕ, Bool, true, false, not, ◌&&◌, if◌then◌else◌, List, refl, ap, ◌∙◌, Option, Some, None}
use Rattle.mbim_frame.specs.declared.kind.MessageKind.TheVariants.{Open}
use Rattle.mbim_frame.specs.Head.{is_kind}
use Rattle.proxy_history.specs.Facts.{Fact, Own, Share, Forward}
use Rattle.proxy_history.specs.Decision.{Decision, Replies, Forwards, forwards_under}
use Rattle.proxy_history.specs.Requests.{has_share, next_number}
use Rattle.mbim_proxy.specs.Setup.{Setup, the_space}
use Rattle.mbim_proxy.specs.Known.{Known}
use Rattle.mbim_proxy.specs.OwnReplies.{view_decides}
use Rattle.mbim_proxy.specs.ModemStates.{ModemState, IsAway, IsShut, IsOpening, IsReady, state, is_shut}
use Rattle.mbim_proxy.specs.Forwarding.{own_open, has_room, number_for}
use Rattle.mbim_proxy.specs.Clients.{command_message, opening_decision, decision_on, passes_share, decision_for}

pub given_if : (b : Bool) (number : Option ℕ) (n : ℕ) → (if b then number else None) ≡ Some n → (b ≡ true) × (number ≡ Some n)
given_if true number n is = (refl, is)
given_if false number n is = absurd (cc)

forwards_given : (number : Option ℕ) (n : ℕ) → forwards_under number ≡ Forwards n → number ≡ Some n
forwards_given None n is = absurd (cc)
forwards_given (Some k) n is = let same : k ≡ n = cc in ap Some same

opening_given : (modem : ModemState) (number : Option ℕ) (n : ℕ) → opening_decision modem number ≡ Forwards n → (is_shut modem ≡ true) × (number ≡ Some n)
opening_given IsAway number n is = absurd (cc)
opening_given IsReady number n is = absurd (cc)
opening_given IsOpening number n is = absurd (cc)
opening_given IsShut number n is = (refl, forwards_given number n is)

-- ---- by its tests ----

by_tests : (own opens share : Bool) → ModemState → (opening command : Option ℕ) → Decision
by_tests own opens share modem opening command =
    if not own && not opens && share then Replies Share
    else if own then Replies Own
    else if opens then opening_decision modem opening
    else forwards_under command

own_alone : (own opens share : Bool) (modem : ModemState) (opening command : Option ℕ) → by_tests own opens share modem opening command ≡ Replies Own → own ≡ true
unfolding by_tests
own_alone true opens share modem opening command e = refl
own_alone false true share IsAway opening command e = absurd (cc)
own_alone false true share IsReady opening command e = absurd (cc)
own_alone false true share IsOpening opening command e = absurd (cc)
own_alone false true share IsShut None command e = absurd (cc)
own_alone false true share IsShut (Some n) command e = absurd (cc)
own_alone false false true modem opening command e = absurd (cc)
own_alone false false false modem opening None e = absurd (cc)
own_alone false false false modem opening (Some n) e = absurd (cc)

share_alone : (own opens share : Bool) (modem : ModemState) (opening command : Option ℕ) → by_tests own opens share modem opening command ≡ Replies Share → (not own && not opens && share) ≡ true
unfolding by_tests
share_alone true opens share modem opening command e = absurd (cc)
share_alone false true share IsAway opening command e = absurd (cc)
share_alone false true share IsReady opening command e = absurd (cc)
share_alone false true share IsOpening opening command e = absurd (cc)
share_alone false true share IsShut None command e = absurd (cc)
share_alone false true share IsShut (Some n) command e = absurd (cc)
share_alone false false true modem opening command e = refl
share_alone false false false modem opening None e = absurd (cc)
share_alone false false false modem opening (Some n) e = absurd (cc)

never_forward : (own opens share : Bool) (modem : ModemState) (opening command : Option ℕ) → by_tests own opens share modem opening command ≡ Replies Forward → ⊥
unfolding by_tests
never_forward true opens share modem opening command e = cc
never_forward false true share IsAway opening command e = cc
never_forward false true share IsReady opening command e = cc
never_forward false true share IsOpening opening command e = cc
never_forward false true share IsShut None command e = cc
never_forward false true share IsShut (Some n) command e = cc
never_forward false false true modem opening command e = cc
never_forward false false false modem opening None e = cc
never_forward false false false modem opening (Some n) e = cc

given_by_tests : (own opens share : Bool) (modem : ModemState) (opening command : Option ℕ) (n : ℕ) → by_tests own opens share modem opening command ≡ Forwards n → (if opens then opening else command) ≡ Some n
unfolding by_tests
given_by_tests true opens share modem opening command n e = absurd (cc)
given_by_tests false true share modem opening command n e = (opening_given modem opening n e).1
given_by_tests false false true modem opening command n e = absurd (cc)
given_by_tests false false false modem opening command n e = forwards_given command n e

module _ (s : Setup) (known : Known) (c : ℕ) (m : List ℕ) (past : List Fact) where
  abbrev share : Bool
  share = has_share s.limits.share c the_space past

  abbrev opening : Option ℕ
  opening = number_for s (own_open s) past

  abbrev command : Option ℕ
  command = number_for s (command_message s known m) past

  pub own_replies_are_of_the_view : decision_for s known c m past ≡ Replies Own ↔ view_decides s known m ≡ true
  unfolding by_tests
  own_replies_are_of_the_view = (
    own_alone (view_decides s known m) (is_kind Open m) share (state s.starts_away past) opening command,
    λ e. ap (λ (own : Bool). by_tests own (is_kind Open m) share (state s.starts_away past) opening command) e,
  )

  pub shares_are_passed : decision_for s known c m past ≡ Replies Share ↔ passes_share s known c m past ≡ true
  unfolding by_tests
  shares_are_passed = (
    share_alone (view_decides s known m) (is_kind Open m) share (state s.starts_away past) opening command,
    λ e. ap (λ (passes : Bool). if passes then Replies Share else decision_on s known m past) e,
  )

  pub no_reply_is_forwarded : decision_for s known c m past ≡ Replies Forward → ⊥
  unfolding by_tests
  no_reply_is_forwarded = never_forward (view_decides s known m) (is_kind Open m) share (state s.starts_away past) opening command

  number_by : (b : Bool) → number_for s (if b then own_open s else command_message s known m) past ≡ (if b then opening else command)
  number_by true = refl
  number_by false = refl

  pub forwarded_has_the_next_number : (n : ℕ) → decision_for s known c m past ≡ Forwards n → number_for s (if is_kind Open m then own_open s else command_message s known m) past ≡ Some n
  unfolding by_tests
  forwarded_has_the_next_number n e = number_by (is_kind Open m) ∙ given_by_tests (view_decides s known m) (is_kind Open m) share (state s.starts_away past) opening command n e

pub forwarded_have_the_next_number : (s : Setup) (known : Known) (c : ℕ) (m : List ℕ) (n : ℕ) (past : List Fact) → decision_for s known c m past ≡ Forwards n → number_for s (if is_kind Open m then own_open s else command_message s known m) past ≡ Some n
forwarded_have_the_next_number s known c m n past = forwarded_has_the_next_number s known c m past n

-- ---- what goes ----

-- there is room for it, and it gets the next number
pub record CanGo (s : Setup) (m : List ℕ) (n : ℕ) (past : List Fact) : Type 0 where
  pub room : has_room s m past ≡ true
  pub number : next_number (s.limits.in_use the_space) (s.limits.top the_space) the_space past ≡ Some n

pub can_go : (s : Setup) (m : List ℕ) (n : ℕ) (past : List Fact) → number_for s m past ≡ Some n → CanGo s m n past
can_go s m n past is = let given = given_if (has_room s m past) _ n is in record { room = given.0; number = given.1 }

module _ (s : Setup) (known : Known) (m : List ℕ) (n : ℕ) (past : List Fact) where
  -- for a request to open the proxy's own, where the modem is shut, and for a command the command
  abbrev pub WhatGoes : (opens : Bool) → Type 0
  WhatGoes true = (is_shut (state s.starts_away past) ≡ true) × CanGo s (own_open s) n past
  WhatGoes false = CanGo s (command_message s known m) n past

  decided : (own opens share : Bool)
      → (if not own && not opens && share then Replies Share else if own then Replies Own else if opens then opening_decision (state s.starts_away past) (number_for s (own_open s) past) else forwards_under (number_for s (command_message s known m) past)) ≡ Forwards n
      → WhatGoes opens
  decided true opens share is = absurd (cc)
  decided false true share is =
      let given = opening_given (state s.starts_away past) (number_for s (own_open s) past) n is in
      (given.0, can_go s (own_open s) n past given.1)
  decided false false true is = absurd (cc)
  decided false false false is = can_go s (command_message s known m) n past (forwards_given (number_for s (command_message s known m) past) n is)

  pub what_goes : (c : ℕ) → decision_for s known c m past ≡ Forwards n → WhatGoes (is_kind Open m)
  what_goes c is = decided (view_decides s known m) (is_kind Open m) (has_share s.limits.share c the_space past) is
