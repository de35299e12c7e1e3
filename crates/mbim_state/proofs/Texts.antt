-- The bytes of an answer, and of a refusal in its place, are the same whether the view or a number in use tells of the command.
use Rattle.std.proofs.Common.{◌≡◌, ℕ, ◌+◌, ◌≤◌, ◌==◌, true, false, List, [], ◌++◌, length, take, drop, ap, sym, ◌∙◌, subst, arith, append_assoc, if◌then◌else◌}
use Rattle.std.specs.List.{concat, range_with_len}
use Rattle.std.proofs.Math.Seq.{take-append_seam}
use Rattle.std.proofs.lemmas.List.{length-take-le, drop-drop}
use Rattle.mbim_frame.specs.declared.kind.MessageKind.TheVariants as kind
use Rattle.mbim_frame.specs.declared.status.TheConstants.{FAILURE}
use Rattle.mbim_frame.specs.Kinds.{kind_number}
use Rattle.mbim_frame.specs.Numbers.{u32_bytes}
use Rattle.mbim_frame.specs.Head.{kind_of, is_kind, tail_of, with_number}
use Rattle.mbim_frame.specs.Fragment.{body_of}
use Rattle.mbim_frame.specs.Bodies.{done_text}
use Rattle.mbim_frame.proofs.Renumbered.{renumbered_is_the_same}
use Rattle.mbim_fragments.specs.Splitting.{part_size, part_count, part_at, piece_at, split}
use Rattle.proxy_state.proofs.Lists.{map_pointwise}
use Rattle.mbim_proxy.specs.Known.{Known, Ask}
use Rattle.mbim_proxy.specs.Step.{blank}
use Rattle.mbim_proxy.specs.Text.{in_fragments, done, response_text, refusal_text}

-- ---- a message whose number is left blank ----

module _ (m : List ℕ) (long : 12 ≤ length m) where
  abbrev front : List ℕ
  front = take 8 m

  front_stays : take 8 (blank m) ≡ front
  front_stays =
      let behind : List ℕ = u32_bytes 0 ++ drop 12 m in
      let eight : length front ≡ 8 = length-take-le 8 m (omega (arith, long)) in
      ap (take 8) (append_assoc front (u32_bytes 0) (drop 12 m)) ∙ subst (λ (n : ℕ). take n (front ++ behind) ≡ front) eight (take-append_seam front behind)

  same_tail : tail_of (blank m) ≡ tail_of m
  same_tail = (renumbered_is_the_same 0 m (omega arith) long).behind

  pub same_body : body_of (blank m) ≡ body_of m
  same_body = sym (drop-drop 8 12 (blank m)) ∙ ap (drop 8) same_tail ∙ drop-drop 8 12 m

  numbered_again : (n : ℕ) → with_number n (blank m) ≡ with_number n m
  numbered_again n = ap (λ (l : List ℕ). l ++ u32_bytes n ++ drop 12 (blank m)) front_stays ∙ ap (λ (l : List ℕ). front ++ u32_bytes n ++ l) same_tail

  pub answer_of_blank : (known : Known) (ask : Ask) → response_text known ask (blank m) ≡ response_text known ask m
  answer_of_blank known ask =
      ap (λ (k : ℕ). if k == kind_number kind.FunctionError then with_number ask.number (blank m) else in_fragments known k ask.number (body_of (blank m))) (renumbered_is_the_same 0 m (omega arith) long).kind
      ∙ ap (λ (body : List ℕ). if kind_of m == kind_number kind.FunctionError then with_number ask.number (blank m) else in_fragments known (kind_of m) ask.number body) same_body
      ∙ ap (λ (whole : List ℕ). if kind_of m == kind_number kind.FunctionError then whole else in_fragments known (kind_of m) ask.number (body_of m)) (numbered_again ask.number)

-- ---- of a number only its four bytes are written ----

module _ (kind n k longest : ℕ) (body : List ℕ) (same : u32_bytes n ≡ u32_bytes k) where
  abbrev total : ℕ
  total = part_count (part_size longest) (length body)

  piece_same : (place : ℕ) → piece_at kind n (part_size longest) body place ≡ piece_at kind k (part_size longest) body place
  piece_same place =
      let part : List ℕ = part_at (part_size longest) body place in
      ap (λ (number : List ℕ). ((u32_bytes kind ++ u32_bytes (12 + (8 + length part)) ++ number) ++ u32_bytes total ++ u32_bytes place) ++ part) same

  split_same : split kind n longest body ≡ split kind k longest body
  split_same = ap concat (map_pointwise (piece_at kind n (part_size longest) body) (piece_at kind k (part_size longest) body) piece_same (range_with_len 0 total))

module _ (known : Known) (a b : Ask) (number : u32_bytes a.number ≡ u32_bytes b.number) where
  pub answer_same : (m : List ℕ) → response_text known a m ≡ response_text known b m
  answer_same m =
      elim (is_kind kind.FunctionError m) as (λ t. (if t then with_number a.number m else in_fragments known (kind_of m) a.number (body_of m)) ≡ (if t then with_number b.number m else in_fragments known (kind_of m) b.number (body_of m))) [
        | true ↦ ap (λ (l : List ℕ). take 8 m ++ l ++ drop 12 m) number
        | false ↦ split_same (kind_of m) a.number b.number known.fragment (body_of m) number
      ]

  pub refusal_same : a.uuid ≡ b.uuid → a.cid ≡ b.cid → refusal_text known a ≡ refusal_text known b
  refusal_same uuid cid =
      split_same (kind_number kind.CommandDone) a.number b.number known.fragment (done_text (record { uuid = a.uuid; cid = a.cid; status = FAILURE }) []) number
      ∙ ap (λ (u : List ℕ). done known b.number u a.cid FAILURE []) uuid
      ∙ ap (λ (n : ℕ). done known b.number b.uuid n FAILURE []) cid
