-- The order of pairs is total, and pairs that compare as equal are the same.
use Rattle.std.proofs.Common.{◌≡◌, refl, Some, None}
use Rattle.std.specs.Cmp.{IsTotalOrder}
use Rattle.std.specs.Cmp.Lexicographic.{options_total, slice_cmp}
use Rattle.std.specs.Ordering.{nat_cmp}
use Rattle.std.specs.Option.{option_cmp}
use Rattle.std.proofs.lemmas.Cmp.{nat_cmp_total, nat_list_cmp_total, on_total, then_total}
use Rattle.std.proofs.lemmas.Map.Lookups.{CmpEqualImpliesEq, exact_unsigned, exact_bytes, exact_pairs}
use Rattle.kit_bytes.specs.Subscriptions.{Pair, pair_cmp}

exact_options : CmpEqualImpliesEq (option_cmp nat_cmp)
exact_options None None e = refl
exact_options None (Some n) e = absurd (cc)
exact_options (Some n) None e = absurd (cc)
exact_options (Some n) (Some k) e = let same : n ≡ k = exact_unsigned n k e in cc

pub exact_pair : CmpEqualImpliesEq pair_cmp
exact_pair = exact_pairs (slice_cmp nat_cmp) (option_cmp nat_cmp) exact_bytes exact_options

pub pair_cmp_total : IsTotalOrder pair_cmp
pair_cmp_total = then_total (on_total (λ (p : Pair). p.0) nat_list_cmp_total) (on_total (λ (p : Pair). p.1) (options_total nat_cmp_total))
