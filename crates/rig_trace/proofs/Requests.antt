-- Requests that differ.
use Rattle.std.proofs.Common.{◌≡◌, false, ◌==◌, List, [], ◌∷◌, AllPairs}
use Rattle.std.specs.List.{AllByRecursion}
use Rattle.std.proofs.lemmas.Bool.{eqb-true, false_from_ne_true}
use Rattle.std.proofs.lemmas.List.Elements.{recursion_from_All}
use Rattle.kit_bytes.proofs.Lists.{all_weaker}
use Rattle.proxy_history.specs.Facts.{Request}
use Rattle.proxy_history.specs.Sound.{Differ}
use Rattle.proxy_history.proofs.Given.{head_all, tail_pairs}
use Rattle.proxy_state.proofs.Filters.{AreDistinct, distinct_none, distinct_more}

abbrev pub IsApart : Request → Request → Type 0
IsApart r q = (r.serial == q.serial) ≡ false

pub others_apart : (r : Request) (requests : List Request) → AllPairs Differ (r ∷ requests) → AllByRecursion (IsApart r) requests
others_apart r requests pairs =
    all_weaker (Differ r) (IsApart r) (λ (q : Request) apart. false_from_ne_true (r.serial == q.serial) (λ e. apart.0 (eqb-true r.serial q.serial e))) requests (recursion_from_All (Differ r) requests (head_all Differ r requests pairs))

pub distinct : (requests : List Request) → AllPairs Differ requests → AreDistinct requests
distinct [] pairs = distinct_none
distinct (r ∷ requests) pairs = distinct_more r requests (others_apart r requests pairs) (distinct requests (tail_pairs Differ r requests pairs))
