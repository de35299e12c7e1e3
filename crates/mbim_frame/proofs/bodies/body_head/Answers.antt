use Rattle.std.proofs.Common.{List, ℕ, ◌≡◌, ◌++◌, length, ◌∙◌, ap₂, rules, append-nil}
use Rattle.mbim_frame.specs.Numbers.{u32_bytes}
use Rattle.mbim_frame.proofs.Parts.{placed}
use Rattle.mbim_frame.proofs.bodies.body_head.Goals as goal

pub returns : goal.returns
returns c =
    let front = c.copy_from_slice.new.self in
    let part = c.copy_from_slice-2.new.self in
    let long : length front ≡ 16 = search rules in
    let front_is : front ≡ c.args.uuid = search rules in
    let part_is : part ≡ u32_bytes c.args.cid ++ u32_bytes c.args.field ++ u32_bytes c.args.buffer_length = search rules in
    placed front part _ 16 12 long ∙ ap₂ (λ (x y : List ℕ). x ++ y) front_is (append-nil part ∙ part_is)
