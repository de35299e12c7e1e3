-- What stays the same over the life of an MBIM proxy.
use Rattle.std.specs.Prelude.{ℕ, ◌-◌, ◌^◌, min, max, Bool, List}
use Rattle.proxy_history.specs.Limits.{Limits}

pub record Setup : Type 0 where
  -- the characters of the device's path
  pub device : List ℕ
  -- how long a request waits for its answer, in milliseconds
  pub time_limit : ℕ
  -- whether the modem is away at the opening
  pub starts_away : Bool
  pub limits : Limits
  -- how many bytes the body of a message in fragments may have
  pub longest_body : ℕ
  -- how many bytes a fragment may have, both heads among them
  pub longest_fragment : ℕ
  -- how many pairs a client's list of subscriptions may have
  pub longest_list : ℕ

-- all requests share one number space
abbrev pub the_space : ℕ
the_space = 0

abbrev pub mbim_limits : Limits
mbim_limits = record {
  connections = 64;
  share = 16;
  outbox = 262144;
  modem_outbox = 1048576;
  in_use = λ space. 256;
  top = λ space. 2 ^ 32 - 1;
}

-- a proxy as it is served
abbrev pub mbim_setup : (device : List ℕ) → (time_limit : ℕ) → (starts_away : Bool) → Setup
mbim_setup device time_limit starts_away = record {
  device = device;
  time_limit = time_limit;
  starts_away = starts_away;
  limits = mbim_limits;
  longest_body = 65536;
  longest_fragment = 4096;
  longest_list = 30;
}

-- no fragment is shorter than this
abbrev pub shortest_fragment : ℕ
shortest_fragment = 64

-- how long the fragments are that a client is served with, where it asks for this length
abbrev pub fragment_for : Setup → (asked : ℕ) → ℕ
fragment_for s asked = min (max asked shortest_fragment) s.longest_fragment
