-- Each request's line of the table is found, and the lines of a service.
use Rattle.std.proofs.Common.{◌≡◌, ℕ, ◌+◌, ◌<◌, Bool, bytes_eq, List, [], ◌∷◌, ◌++◌, length, map, filter, get_or, take, Option, Some, None, IsSome, option_map, refl, sym, ◌∙◌, ap}
use Rattle.std.proofs.lemmas.List.{map-append, map_push, take_more}
use Rattle.std.proofs.lemmas.List.Elements.{filter-append}
use Rattle.std.proofs.lemmas.Option.{same_Some}
use Rattle.mbim_requests.specs.declared.MbimRequest.{MbimRequest}
use Rattle.mbim_requests.specs.declared.MbimRequest.TheVariants as request
use Rattle.mbim_services.specs.Requests.{sent_by}
use Rattle.mbim_services.specs.Table.{Row, layout_in, layout_for, cids_among}
use Rattle.mbim_services.specs.declared.table.Way.{Way}

found : (body : MbimRequest) (way : Way) → layout_for (sent_by body).row.service (sent_by body).row.cid way ≡ layout_in (sent_by body).row way
unfolding layout_for
found request.QueryDeviceCaps way = refl
found _ way = refl

pub layout-found : (body : MbimRequest) (way : Way) (service : List ℕ) (cid : ℕ) → service ≡ (sent_by body).row.service → cid ≡ (sent_by body).row.cid → layout_for service cid way ≡ layout_in (sent_by body).row way
layout-found body way service cid service_is cid_is =
    ap (λ (s : List ℕ). layout_for s cid way) service_is ∙ ap (λ (n : ℕ). layout_for (sent_by body).row.service n way) cid_is ∙ found body way

module _ {A B : Type 0} (view : A → B) (it : B) where
  pub is-there : (found : Option A) → option_map view found ≡ Some it → IsSome found
  is-there None is = absurd (cc)
  is-there (Some a) is = refl

  pub is-it : (found : Option A) (a : A) → option_map view found ≡ Some it → found ≡ Some a → view a ≡ it
  is-it found a is there = same_Some (view a) it (ap (option_map view) (sym there) ∙ is)

-- ---- the CIDs of a service ----

cids-append : (service : List ℕ) (a b : List Row) → cids_among service (a ++ b) ≡ cids_among service a ++ cids_among service b
cids-append service a b =
    let is : Row → Bool = λ row. bytes_eq row.service service in
    ap (map (λ row. row.cid)) (filter-append is a b) ∙ map-append (λ row. row.cid) (filter is a) (filter is b)

pub cids-more : {A : Type 0} (service : List ℕ) (view : A → Row) (xs : List A) (i : ℕ) (x : A) (old new : List ℕ) → i < length xs → old ≡ cids_among service (map view (take i xs))
    → new ≡ old ++ cids_among service (view (get_or xs i x) ∷ []) → new ≡ cids_among service (map view (take (i + 1) xs))
cids-more service view xs i x old new within before more =
    more
    ∙ ap (λ (l : List ℕ). l ++ cids_among service (view (get_or xs i x) ∷ [])) before
    ∙ sym (cids-append service (map view (take i xs)) (view (get_or xs i x) ∷ []))
    ∙ sym (ap (cids_among service) (ap (map view) (take_more xs i x within) ∙ map_push view (take i xs) (get_or xs i x)))
