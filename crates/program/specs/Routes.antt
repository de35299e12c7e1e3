-- How a tool reaches its modem, and what asking it, or following it, comes to.
use Rattle.std.specs.Prelude.{◌≡◌, ◌⊎◌, Bool, true, false, List, [], ℕ}
use Rattle.std.specs.Str.{encode_utf8_all}
use Rattle.kit_bytes.specs.declared.Kind.{Kind}
use Rattle.kit_io.specs.Growth.{Grows}
use Rattle.link_io.specs.Target.{AtSocket}
use Rattle.modem_routes.specs.Routes.{Path, Direct, ByProxy, place_of, place_telling, proxy_words}
use Rattle.tool_words.specs.declared.link.LinkSettings.{LinkSettings}
use Rattle.table_following.specs.Plan.{Plan}
use Rattle.table_following.specs.Following.{FollowsModem}
use Rattle.tool_runs.specs.Asking.{AsksModem, Asked}
use Rattle.tool_runs.specs.Asking as asking
use Rattle.program.specs.declared.status.Status.{Status}
use Rattle.program.specs.declared.status.Status.TheVariants as status
use Rattle.program.specs.Status.{EndsAs, status_of}

-- the route to the device, whose pumps tell why its node failed where that is wanted, or to the proxy that has it or is to be started; paths are in characters
abbrev pub route_by : (proxied : Bool) → Kind → (device socket bridge : List ℕ) → (verbose : Bool) → Path
route_by true kind device socket bridge verbose = ByProxy (AtSocket (encode_utf8_all socket)) (proxy_words kind (encode_utf8_all device) (encode_utf8_all socket) (encode_utf8_all bridge))
route_by false kind device socket bridge verbose = Direct (place_telling verbose (place_of (encode_utf8_all device) (encode_utf8_all bridge)))

abbrev pub route_to : (device : List ℕ) → LinkSettings → Path
route_to device link = route_by link.proxied link.kind device link.socket link.bridge link.verbose

-- nothing was done to a modem, and nothing printed
abbrev pub NothingAsked : asking.Told → asking.Told → Type 0
NothingAsked before after = Grows before.link [] after.link × Grows before.spawner [] after.spawner × Grows before.out [] after.out

-- it asked a modem so, or had no memory to begin
abbrev pub Asks : {End : Type 0} → Path → Asked End → asking.Told → asking.Told → Status → Type 0
Asks path asked before after result =
    EndsAs status_of result (λ ends. AsksModem path asked before after ends)
    ⊎ ((result ≡ status.OutOfMemory) × NothingAsked before after)

-- it followed a modem's indications so, or had no memory to begin
abbrev pub Follows : Path → Plan → asking.Told → asking.Told → Status → Type 0
Follows path plan before after result =
    EndsAs status_of result (λ ends. FollowsModem path plan before after ends)
    ⊎ ((result ≡ status.OutOfMemory) × NothingAsked before after)
