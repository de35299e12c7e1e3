-- Lists of subscriptions compare as equal just where they are the same.
use Rattle.std.proofs.Common.{◌≡◌, true, List, refl, ap}
use Rattle.std.proofs.lemmas.Cmp.{tied_itself, lists_total}
use Rattle.std.specs.declared.cmp.Ordering.{Ordering}
use Rattle.std.specs.declared.cmp.Ordering.TheVariants.{Less, Equal, Greater}
use Rattle.std.specs.Ordering.{is_eq}
use Rattle.std.specs.FinMap.{slice_cmp-IsAntisymmetric}
use Rattle.std.specs.Cmp.Lexicographic.{slice_cmp}
use Rattle.kit_bytes.specs.Subscriptions.{Pair, pair_cmp}
use Rattle.kit_bytes.proofs.Pairs.{exact_pair, pair_cmp_total}
use Rattle.mbim_services.specs.SubscribeLists.{is_same_list}

equal_is : (r : Ordering) → is_eq r ≡ true → r ≡ Equal
equal_is Less e = absurd (cc)
equal_is Equal e = refl
equal_is Greater e = absurd (cc)

pub same_list_is : (xs ys : List Pair) → is_same_list xs ys ≡ true → xs ≡ ys
same_list_is xs ys e = slice_cmp-IsAntisymmetric exact_pair xs ys (equal_is (slice_cmp pair_cmp xs ys) e)

pub list_itself : (list : List Pair) → is_same_list list list ≡ true
list_itself list = ap is_eq (tied_itself (lists_total pair_cmp_total) list)
