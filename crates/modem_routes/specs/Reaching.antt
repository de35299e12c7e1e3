-- How a modem is reached: the calls that are made on the link and on the spawner, the oldest first.
use Rattle.std.specs.Prelude.{◌≡◌, ◌⊎◌, ℕ, ◌<◌, Bool, true, false, List, [], ◌∷◌, ◌++◌, map, replicate, Option, Result, Ok, Err}
use Rattle.std.specs.List.{list_all}
use Rattle.kit_io.specs.Causes.{Rose}
use Rattle.kit_io.specs.Growth.{Grows}
use Rattle.link_io.specs.Target.{Address}
use Rattle.link_io.specs.Calls as link
use Rattle.child_io.specs.Calls as child
use Rattle.child_io.specs.Alive.{alive, StandsFor}
use Rattle.child_io.specs.Kids.{Try, stops, LeavesFailedAlone}
use Rattle.modem_routes.specs.Routes.{PumpWords, Path, Direct, ByProxy, AtOnce, BehindPumps}
use Rattle.modem_routes.specs.declared.reaching.ReachFault.{ReachFault}
use Rattle.modem_routes.specs.declared.reaching.ReachFault.TheVariants as fault

-- ---- starting pumps ----

-- both pumps were started, or one of them couldn't be, after which no other was
pub data StartsPumps (pumps : PumpWords) (ok : Bool) (starts : List child.Call) : Type 0 where
  both : (reader writer : ℕ) → ok ≡ true → starts ≡ child.Started pumps.reads reader ∷ child.Started pumps.writes writer ∷ [] → StartsPumps pumps ok starts
  no_reader : ok ≡ false → starts ≡ child.StartFailed pumps.reads ∷ [] → StartsPumps pumps ok starts
  no_writer : (reader : ℕ) → ok ≡ false → starts ≡ child.Started pumps.reads reader ∷ child.StartFailed pumps.writes ∷ [] → StartsPumps pumps ok starts

-- a spawner's calls have grown by starts like these, and just the children are kept that they named
pub record StartsBy (Like : List child.Call → Type 0) (old : Option (List child.Call)) (kept : List ℕ) (new : Option (List child.Call)) : Type 0 where
  pub starts : List child.Call
  pub are : Like starts
  pub grows : Grows old starts new
  pub stands : StandsFor starts kept

-- the same where children were kept before: they and those that the starts named are
pub record StartsMore (Like : List child.Call → Type 0) (old : Option (List child.Call)) (before after : List ℕ) (new : Option (List child.Call)) : Type 0 where
  pub starts : List child.Call
  pub are : Like starts
  pub grows : Grows old starts new
  pub stands : (calls : List child.Call) → StandsFor calls before → StandsFor (calls ++ starts) after

-- after these starts each child that they named was stopped, each behind so many calls on what the children serve, and `stopped` says whether each stop went well; none is left but by a stop that failed
pub record StartsAndStops (starts : List child.Call) (stopped : Bool) (after : ℕ) (old new : Option (List child.Call)) : Type 0 where
  pub tries : List Try
  pub each : map (λ try. try.child) tries ≡ alive starts
  pub all : stopped ≡ list_all (λ try. try.ok) tries
  pub grows : Grows old (starts ++ stops after tries) new
  pub left : LeavesFailedAlone tries (alive (starts ++ stops after tries))

-- ---- reaching a modem ----

-- whatever is at the address
pub data ReachesAtOnce (address : Address) (result : Result (Unit {0}) ReachFault) (on_link : List link.Call) (starts : List child.Call) : Type 0 where
  reached : result ≡ Ok tt → on_link ≡ link.Opened address true ∷ [] → starts ≡ [] → ReachesAtOnce address result on_link starts
  not_there : result ≡ Err fault.LinkFault → on_link ≡ link.Opened address false ∷ [] → starts ≡ [] → ReachesAtOnce address result on_link starts

-- a node: its bridge is opened, its pumps are started, and they are paired; a link that opened in vain is closed
pub data ReachesBehindPumps (address : Address) (pumps : PumpWords) (result : Result (Unit {0}) ReachFault) (on_link : List link.Call) (starts : List child.Call) : Type 0 where
  paired : result ≡ Ok tt → on_link ≡ link.Opened address true ∷ link.Paired true ∷ [] → StartsPumps pumps true starts → ReachesBehindPumps address pumps result on_link starts
  no_bridge : result ≡ Err fault.LinkFault → on_link ≡ link.Opened address false ∷ [] → starts ≡ [] → ReachesBehindPumps address pumps result on_link starts
  no_pump : result ≡ Err fault.StartFault → on_link ≡ link.Opened address true ∷ link.Closed ∷ [] → StartsPumps pumps false starts → ReachesBehindPumps address pumps result on_link starts
  not_paired : result ≡ Err fault.LinkFault → on_link ≡ link.Opened address true ∷ link.Paired false ∷ link.Closed ∷ [] → StartsPumps pumps true starts → ReachesBehindPumps address pumps result on_link starts

-- so many openings failed
abbrev pub refused : ℕ → Address → List link.Call
refused times address = replicate times (link.Opened address false)

-- a proxy: it is started where the first opening fails, and then the link is opened until it is there, in at most 20 openings
pub data ReachesByProxy (address : Address) (words : List (List ℕ)) (result : Result (Unit {0}) ReachFault) (on_link : List link.Call) (starts : List child.Call) : Type 0 where
  was_there : result ≡ Ok tt → on_link ≡ link.Opened address true ∷ [] → starts ≡ [] → ReachesByProxy address words result on_link starts
  not_started : result ≡ Err fault.StartFault → on_link ≡ refused 1 address → starts ≡ child.StartFailed words ∷ [] → ReachesByProxy address words result on_link starts
  came : (proxy times : ℕ) → result ≡ Ok tt → times < 19 → on_link ≡ refused 1 address ++ refused times address ++ link.Opened address true ∷ []
      → starts ≡ child.Started words proxy ∷ [] → ReachesByProxy address words result on_link starts
  never_came : (proxy : ℕ) → result ≡ Err fault.NoProxy → on_link ≡ refused 1 address ++ refused 19 address → starts ≡ child.Started words proxy ∷ [] → ReachesByProxy address words result on_link starts

-- a modem is reached so
abbrev pub Reaches : Path → Result (Unit {0}) ReachFault → List link.Call → List child.Call → Type 0
Reaches (Direct (AtOnce address)) result = ReachesAtOnce address result
Reaches (Direct (BehindPumps address pumps)) result = ReachesBehindPumps address pumps result
Reaches (ByProxy address words) result = ReachesByProxy address words result

-- the calls on the link and on the spawner have grown by some like these, and just the children are kept that they named
pub record ReachesBy (Like : List link.Call → List child.Call → Type 0) (link_old : Option (List link.Call)) (spawner_old : Option (List child.Call)) (kept : List ℕ) (link_new : Option (List link.Call)) (spawner_new : Option (List child.Call)) : Type 0 where
  pub on_link : List link.Call
  pub starts : List child.Call
  pub are : Like on_link starts
  pub link_grows : Grows link_old on_link link_new
  pub spawner_grows : Grows spawner_old starts spawner_new
  pub stands : StandsFor starts kept

-- once a proxy was started: the link is opened until it is there, in at most 19 openings
abbrev pub OpensInTime : Address → Result (Unit {0}) ReachFault → Option (List link.Call) → Option (List link.Call) → Type 0
OpensInTime address (Ok t) old new = (times : ℕ) × (times < 19) × Grows old (refused times address ++ link.Opened address true ∷ []) new
OpensInTime address (Err why) old new = (why ≡ fault.NoProxy) × Grows old (refused 19 address) new

-- a link fault comes of a count that rose; where a proxy is asked, of none of openings
abbrev pub LinkFails : {L : Type 0} → Path → (L → ℕ) → (L → ℕ) → L → L → Type 0
LinkFails (Direct place) faults open_faults old new = Rose (faults old) (faults new) ⊎ Rose (open_faults old) (open_faults new)
LinkFails (ByProxy address words) faults open_faults old new = Rose (faults old) (faults new)
