-- The device that a client chooses.
use Rattle.std.proofs.Common.{◌≡◌, ℕ, nat_lt, cond, ◌≤◌, Bool, false, List, [], ◌∷◌, length, take, position, refl, ap, sym, ◌∙◌, arith, Option, Some, None}
use Rattle.std.specs.List.{position_or_len}
use Rattle.std.proofs.lemmas.Bool.Decides.{nat_tests}
use Rattle.std.proofs.lemmas.List.{length-take}
use Rattle.framing.specs.declared.framing.Size.{Size}
use Rattle.framing.specs.declared.framing.Size.TheVariants.{Unknown, Known, Invalid}
use Rattle.framing.specs.Framing.{IsMessage, IsShort, is_invalid}
use Rattle.framing.specs.Cutting.{Cutting}
use Rattle.framing.proofs.Cuts.{cut-partial, cut-bad, cut-first}
use Rattle.qmux_frame.specs.Frame.{size_of}
use Rattle.qmux_frame.specs.Framing.{size_of-kept, size_of-told, size_of-positive}
use Rattle.many_history.specs.Devices.{choice_of_cut, choice_on}
use Rattle.qmi_many.specs.Devices.{chooses, or_first, choice_among, qmi_devices}

module _ (paths : List (List ℕ)) (time_limit : ℕ) (release : Option ℕ) where
  of_cut : Cutting → Option ℕ
  of_cut c = choice_of_cut (qmi_devices paths time_limit release) c.messages c.rest

  abbrev of_size : Size → Option ℕ
  of_size size = cond (is_invalid size) (Some 0) None

  -- a stream that begins no message
  pub bad_choice : (stream : List ℕ) → size_of stream ≡ Invalid → Some 0 ≡ choice_on (qmi_devices paths time_limit release) stream
  unfolding of_cut
  bad_choice stream bad = sym (ap of_cut (cut-bad size_of size_of-kept stream bad) ∙ ap of_size bad)

  -- one that holds its first message whole
  pub first_choice : (stream : List ℕ) (count : ℕ) → size_of stream ≡ Known count → count ≤ length stream → Some (choice_among paths (take count stream)) ≡ choice_on (qmi_devices paths time_limit release) stream
  unfolding of_cut
  first_choice stream count known within =
      let told : size_of (take count stream) ≡ Known count = size_of-told stream count known within in
      let long : length (take count stream) ≡ count = omega (arith, length-take count stream, within) in
      let whole : IsMessage size_of (take count stream) = told ∙ ap (λ (n : ℕ). Known n) (sym long) in
      sym (ap of_cut (cut-first size_of size_of-kept size_of-positive stream count whole))

  -- one that needs more
  pub no_choice : (stream : List ℕ) → IsShort (size_of stream) (length stream) → None ≡ choice_on (qmi_devices paths time_limit release) stream
  unfolding of_cut
  no_choice stream partial = sym (ap of_cut (cut-partial size_of size_of-kept stream partial) ∙ by (size_of stream) partial)
    where
      by : (size : Size) → IsShort size (length stream) → of_size size ≡ None
      by Unknown short = refl
      by (Known count) short = refl
      by Invalid short = absurd short

-- ---- a message that opens no device ----

prefix_all : (paths : List (List ℕ)) → position_or_len (λ (path : List ℕ). false) paths ≡ length paths
prefix_all [] = refl
prefix_all (path ∷ paths) = omega (arith, prefix_all paths)

none_passes : (paths : List (List ℕ)) → position (λ (path : List ℕ). false) paths ≡ None
none_passes paths =
    let all : position_or_len (λ (path : List ℕ). false) paths ≡ length paths = prefix_all paths in
    let none : nat_lt (position_or_len (λ (path : List ℕ). false) paths) (length paths) ≡ false = grind (arith, nat_tests, all) in
    ap (λ (b : Bool). cond b (Some (position_or_len (λ (path : List ℕ). false) paths)) None) none

pub none_is_first : (paths : List (List ℕ)) (m : List ℕ) → ((path : List ℕ) → chooses m path ≡ false) → 0 ≡ choice_among paths m
none_is_first paths m none = sym (ap (λ (f : List ℕ → Bool). or_first (position f paths)) (λ i path. none path i) ∙ ap or_first (none_passes paths))
