-- The number spaces: service 0 has transaction numbers of one byte, all other services share those of two.
use Rattle.std.specs.Prelude.{ℕ, ◌==◌, if◌then◌else◌, List}
use Rattle.qmux_frame.specs.Head.{is_control}

abbrev pub control_space : ℕ
control_space = 0

abbrev pub service_space : ℕ
service_space = 1

abbrev pub space_of : List ℕ → ℕ
space_of m = if is_control m then control_space else service_space

-- how many numbers of a space may be in use
abbrev pub limit_of : ℕ → ℕ
limit_of space = if space == control_space then 255 else 1024

-- the greatest number of a space
abbrev pub top_of : ℕ → ℕ
top_of space = if space == control_space then 255 else 65535
