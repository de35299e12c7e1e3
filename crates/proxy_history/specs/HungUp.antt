-- Whose connections are to be hung up, as a reader of the history would say. A list of facts has the newest first.
use Rattle.std.specs.Prelude.{◌≡◌, ℕ, Bool, true, false, List, ◌∷◌, ◌++◌, reverse, filter_map, All, Option, Some, None}
use Rattle.proxy_history.specs.Facts.{Leaving, Fact, EventBegan, Ended}
use Rattle.proxy_history.specs.Connections.{dropped}

-- the connection that ends, but for one that goes by itself
abbrev pub hung_up_by : Fact → Option ℕ
hung_up_by (Ended c Leaving) = None
hung_up_by (Ended c why) = Some c
hung_up_by _ = None

abbrev pub is_beginning : Fact → Bool
is_beginning EventBegan = true
is_beginning _ = false

-- the names to hang up are those that ended since the event began, but for those that went by themselves, in their order
abbrev pub HungUpSinceTheEventBegan : Type 0
HungUpSinceTheEventBegan = (since before : List Fact) → All (λ fact. is_beginning fact ≡ false) since
    → dropped (since ++ EventBegan ∷ before) ≡ filter_map hung_up_by (reverse since)
