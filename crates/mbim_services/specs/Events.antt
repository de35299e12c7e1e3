-- Reading the pairs of a list's buffer, one after another.
use Rattle.std.specs.Prelude.{List, [], ◌++◌, map, Some, IsSome, unwrap_or}
use Rattle.kit_bytes.specs.Subscriptions.{Pair}
use Rattle.mbim_services.specs.SubscribeLists.{numbers_of, pairs_referred}
use Rattle.mbim_services.specs.declared.events.Events.TheInside.{Inside}

-- the pairs that are left: the CIDs of the service at hand, and what the references behind it point at
abbrev pub pairs_left : Inside → List Pair
pairs_left e = map (λ cid. (e.uuid, Some cid)) (numbers_of e.cids.now) ++ unwrap_or (pairs_referred e.buffer.now (numbers_of e.references.now)) []

-- each reference points at a whole structure
abbrev pub AreWhole : Inside → Type 0
AreWhole e = IsSome (pairs_referred e.buffer.now (numbers_of e.references.now))
