-- Examples at the greatest deadline, at the greatest transaction numbers, and of what may wait.
use Rattle.std.specs.Prelude.{◌≡◌, ℕ, true, List, [], ◌∷◌, ◌++◌, length, Option, Some, None, is_some}
use Rattle.proxy_history.specs.Events.{Event, Piece, Now}
use Rattle.proxy_history.specs.Requests.{number_after}
use Rattle.qmi_proxy.specs.Limits.{outbox_limit, modem_outbox_limit}
use Rattle.qmi_proxy.specs.Spaces.{control_space, service_space, limit_of, top_of}
use Rattle.proxy_examples.specs.Story.{opened, get_version, version_aborted, both_open, bytes_for}

-- a request whose 30 seconds would end past the last time of 64 bits: it expires at that time, and not before
abbrev pub asks_at_the_end : ℕ → List Event
asks_at_the_end time = both_open (Now 18446744073709551000 ∷ Piece 1 get_version ∷ Now time ∷ [])

pub record DeadlineIsBounded : Type 0 where
  pub before : bytes_for 1 (asks_at_the_end 18446744073709551614) ≡ opened
  pub at_deadline : bytes_for 1 (asks_at_the_end 18446744073709551615) ≡ opened ++ version_aborted

-- the number that comes after `last` in the space of all services but 0, where these are in use
abbrev pub service_number_after : ℕ → List ℕ → Option ℕ
service_number_after last used = number_after (limit_of service_space) (top_of service_space) last used

-- 1,024 may be in use; the numbers go to 65,535 and round again
pub record ServiceNumbers : Type 0 where
  pub full : (used : List ℕ) → length used ≡ 1024 → service_number_after 7 used ≡ None
  pub nearly_full : (used : List ℕ) → length used ≡ 1023 → is_some (service_number_after 7 used) ≡ true
  pub last : service_number_after 65534 [] ≡ Some 65535
  pub first : service_number_after 65535 [] ≡ Some 1
  pub first_free : service_number_after 65535 (2 ∷ 1 ∷ 65535 ∷ []) ≡ Some 3

-- and in that of service 0, where as many may be in use as there are numbers
abbrev pub control_number_after : ℕ → List ℕ → Option ℕ
control_number_after last used = number_after (limit_of control_space) (top_of control_space) last used

pub record ControlNumbers : Type 0 where
  pub full : (used : List ℕ) → length used ≡ 255 → control_number_after 7 used ≡ None
  pub nearly_full : (used : List ℕ) → length used ≡ 254 → is_some (control_number_after 7 used) ≡ true
  pub last : control_number_after 254 [] ≡ Some 255
  pub first : control_number_after 255 [] ≡ Some 1

-- bytes that wait for a client, and for the modem
pub record OutboxLimits : Type 0 where
  pub client : outbox_limit ≡ 262144
  pub modem : modem_outbox_limit ≡ 1048576
