use Rattle.std.proofs.Common.{◌≡◌, ℕ, ◌+◌, ◌-◌, ◌*◌, ◌<◌, ◌≤◌, min, List, ◌++◌, length, take, drop, sym, ◌∙◌, ap, ap₂, rules, arith}
use Rattle.std.proofs.lemmas.List.{take_min, drop_min, drop-drop}
use Rattle.mbim_frame.specs.Writing.{fragment_head_text}
use Rattle.mbim_fragments.specs.Splitting.{part_count, part_at, piece_at}
use Rattle.mbim_fragments.proofs.Sizes.{pieces_before, one_piece_more, next_fits}
use Rattle.mbim_fragments.proofs.splitting.split_into.Goals as goal

module _ (size : ℕ) (body rest : List ℕ) (place count : ℕ) (rest_is : rest ≡ drop (place * size) body) (count_is : count ≡ min size (length rest)) where
  part_is : (part : List ℕ) → part ≡ take count rest → part ≡ part_at size body place
  part_is part is = is ∙ ap (λ (n : ℕ). take n rest) count_is ∙ take_min size rest ∙ ap (take size) rest_is

  behind_is : (behind : List ℕ) → behind ≡ drop count rest → behind ≡ drop ((place + 1) * size) body
  behind_is behind is =
      is ∙ ap (λ (n : ℕ). drop n rest) count_is ∙ drop_min size rest ∙ ap (drop size) rest_is
      ∙ drop-drop size (place * size) body ∙ ap (λ (n : ℕ). drop n body) (omega arith)

module _ (kind number size : ℕ) (body : List ℕ) (place : ℕ) where
  abbrev head_of : (part : List ℕ) → List ℕ
  head_of part = fragment_head_text (record { kind = kind; number = number; total = part_count size (length body); current = place }) (length part)

  one_more : (bytes head part new : List ℕ) → bytes ≡ pieces_before kind number size body place → part ≡ part_at size body place → head ≡ head_of part → new ≡ bytes ++ (head ++ part)
      → new ≡ pieces_before kind number size body (place + 1)
  one_more bytes head part new bytes_is part_is head_is new_is =
      let whole : head ++ part ≡ piece_at kind number size body place = ap₂ (λ (xs ys : List ℕ). xs ++ ys) (head_is ∙ ap head_of part_is) part_is in
      new_is ∙ ap₂ (λ (xs ys : List ℕ). xs ++ ys) bytes_is whole ∙ sym (one_piece_more kind number size body place)

  has_room : (bytes part : List ℕ) → bytes ≡ pieces_before kind number size body place → part ≡ part_at size body place → place < part_count size (length body)
      → length bytes + 20 + length part ≤ length body + 20 * part_count size (length body)
  has_room bytes part bytes_is part_is within =
      let piece : length (piece_at kind number size body place) ≡ 20 + length (part_at size body place) = omega arith in
      omega (arith, next_fits kind number size body place within, piece, ap length bytes_is, ap length part_is)

pub append_both-requires : goal.append_both-requires
append_both-requires c =
    let place = c.loop-current.current in
    let part = part_is _ c.args.body.now c.loop-current.rest.now place c.min.result c.loop-current.invariant.behind (search rules) c.split_at.result.0.now c.split_at.ensures.front in
    let room : length c.loop-current.into.items + 20 + length c.split_at.result.0.now ≤ length c.args.body.now + 20 * part_count (c.args.max - 20) (length c.args.body.now) =
    has_room c.args.kind c.args.number (c.args.max - 20) c.args.body.now place c.loop-current.into.items c.split_at.result.0.now c.loop-current.invariant.written part (omega (arith, c.loop-current-test.true, c.part_count-total.ensures)) in
    omega (arith, room, ap length c.head.ensures, c.requires.room, c.loop-current.invariant.capacity)

pub loop-current-preserved : goal.loop-current-preserved
loop-current-preserved c =
    let place = c.loop-current.current in
    let part = part_is _ c.args.body.now c.loop-current.rest.now place c.min.result c.loop-current.invariant.behind (search rules) c.split_at.result.0.now c.split_at.ensures.front in
    record {
      behind = behind_is _ c.args.body.now c.loop-current.rest.now place c.min.result c.loop-current.invariant.behind (search rules) c.split_at.result.1.now c.split_at.ensures.back;
      written = one_more c.args.kind c.args.number _ c.args.body.now place _ c.head.result _ _ c.loop-current.invariant.written part
          (rw c.part_count-total.ensures at c.head.ensures) c.append_both.ensures.items;
      capacity = omega arith;
    }
