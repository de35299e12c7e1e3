-- Whatever is drawn, each client of a rig gets the bytes that it gets alone.
use Rattle.std.proofs.Common.{◌≡◌, ◌≢◌, ℕ, ◌+◌, ◌*◌, ◌≤◌, true, false, not, ◌==◌, List, [], ◌∷◌, ◌++◌, length, filter, codes, decimal, bytes_eq, refl, ap, ◌∙◌, arith, append_assoc}
use Rattle.std.specs.List.{list_all, range_with_len}
use Rattle.std.proofs.lemmas.Bool.{and_from, eq-eqb, not_from_false}
use Rattle.std.proofs.lemmas.List.Elements.{All-from_recursion}
use Rattle.proxy_history.specs.Events.{Event}
use Rattle.proxy_history.specs.Connections.{contains, is_present}
use Rattle.proxy_history.specs.Modem.{now}
use Rattle.proxy_history.specs.History as proxy
use Rattle.proxy_history.proofs.Folds.{time_agrees}
use Rattle.proxy_history.specs.View.{Entry}
use Rattle.proxy_history.specs.Rendering.{Rendering}
use Rattle.proxy_solo.specs.Law.{tells_of_others}
use Rattle.proxy_solo.proofs.Lists.{every}
use Rattle.qmi_proxy.specs.Text.{view_of}
use Rattle.qmi_proxy.specs.History.{qmi_protocol, history, text_for}
use Rattle.qmi_proxy.proofs.Walk.{Asks, orderly}
use Rattle.qmi_solo.specs.Law.{AreSound, IsLetAlone}
use Rattle.qmi_solo.proofs.Law.{gets_the_same_alone}
use Rattle.rig_runs.specs.Qmi.{setup, script, qmi_rig}
use Rattle.rig_runs.specs.Qmi as rig
use Rattle.rig_runs.specs.Rig.{played, ended}
use Rattle.rig_runs.specs.Lines.{is_let_alone, gets_the_same, AreForShares, counted, equal, Summary, summary, line, lines_of}
use Rattle.rig_laws.specs.Laws.{OfEachRig, EventsMayCome, NobodyIsDisturbed, EachGetsTheSame, RefusalsAreForShares, LastLinesSayAll}
use Rattle.rig_laws.proofs.Lists.{in_range, filter-all, length-range, each_of}
use Rattle.proxy_solo.proofs.Undisturbed.{AreUndisturbed}
use Rattle.rig_laws.proofs.Harmless.{AreHarmless, undisturbed, refused_for_shares}
use Rattle.rig_laws.proofs.Plain.{ArePlain, AtEach, IsHarmlessNow}
use Rattle.rig_laws.proofs.Events.{AllAreServed}
use Rattle.rig_laws.proofs.Time.{rig_time}
use Rattle.rig_laws.proofs.Turns.{IsUsual, all_is_usual}

same_bytes : (bytes : List ℕ) → bytes_eq bytes bytes ≡ true
same_bytes [] = refl
same_bytes (byte ∷ bytes) = and_from (byte == byte) (bytes_eq bytes bytes) (eq-eqb byte byte refl) (same_bytes bytes)

let_alone : (entries : List Entry) → AreUndisturbed entries → list_all (λ entry. not (tells_of_others entry)) entries ≡ true
let_alone [] all = refl
let_alone (entry ∷ entries) all = and_from (not (tells_of_others entry)) (list_all (λ e. not (tells_of_others e)) entries) (not_from_false (tells_of_others entry) all.0) (let_alone entries all.1)

let_alone_now : (c : ℕ) (events : List Event) → AreSound setup events → AreHarmless setup (history setup events) → IsLetAlone setup c events
let_alone_now c events sound harmless = record {
  sound = sound;
  undisturbed = All-from_recursion (λ (entry : Entry). tells_of_others entry ≡ false) (view_of c (history setup events)) (undisturbed setup c (history setup events) harmless);
}

module _ (clients turns number : ℕ) (some : 1 ≤ clients) (within : clients ≤ 64) where
  abbrev events : List Event
  events = qmi_rig clients turns number

  usual : IsUsual clients some within (ended (rig.cast clients) (played (rig.cast clients) script turns number))
  usual = all_is_usual clients some within turns number

  sound : AreSound setup events
  sound = usual.stands.going.sound

  nobody : (c : ℕ) → AreUndisturbed (view_of c (history setup events))
  nobody c = undisturbed setup c (history setup events) usual.stands.going.calm.harmless

  all_are_counted : counted setup clients events ≡ range_with_len 1 clients
  all_are_counted =
      filter-all (is_let_alone setup (history setup events)) (range_with_len 1 clients)
      (every (λ (c : ℕ). is_let_alone setup (history setup events) c ≡ true) (λ c. let_alone (view_of c (history setup events)) (nobody c)) (range_with_len 1 clients))

  gets_it : (c : ℕ) → 1 ≤ c → gets_the_same setup events c ≡ true
  gets_it c low =
      let client : c ≢ 0 = λ e. absurd (omega (arith, low, e)) in
      let alone : IsLetAlone setup c events = let_alone_now c events sound usual.stands.going.calm.harmless in
      ap (λ (r : Rendering). bytes_eq (text_for setup c events).bytes r.bytes) (gets_the_same_alone setup c events client alone) ∙ same_bytes (text_for setup c events).bytes

  all_are_equal : equal setup clients events ≡ range_with_len 1 clients
  all_are_equal =
      ap (filter (gets_the_same setup events)) all_are_counted
      ∙ filter-all (gets_the_same setup events) (range_with_len 1 clients) (each_of (λ (c : ℕ). gets_the_same setup events c ≡ true) clients 1 (omega arith) gets_it)

  is_there : (c : ℕ) → 1 ≤ c → c ≤ clients → is_present c (history setup events) ≡ true
  is_there c low high = ap (contains c) usual.stands.going.calm.there ∙ in_range clients 1 c low (omega (arith, high))

  only_for_shares : AreForShares setup (history setup events)
  only_for_shares = refused_for_shares setup (history setup events) usual.stands.going.calm.harmless

pub events_may_come : EventsMayCome
events_may_come clients turns number some within = sound clients turns number some within

pub nobody_is_disturbed : NobodyIsDisturbed
nobody_is_disturbed clients turns number some within = all_are_counted clients turns number some within

pub each_gets_the_same : EachGetsTheSame
each_gets_the_same clients turns number some within = all_are_equal clients turns number some within

pub refusals_are_for_shares : RefusalsAreForShares
refusals_are_for_shares clients turns number some within = only_for_shares clients turns number some within

-- ---- every moment ----

pub rigs_are_plain : OfEachRig (λ clients turns events. ArePlain setup events)
rigs_are_plain clients turns number some within = (usual clients turns number some within).stands.going.plain

pub rigs_are_harmless : OfEachRig (λ clients turns events. AtEach (IsHarmlessNow setup) events)
rigs_are_harmless clients turns number some within = (usual clients turns number some within).stands.going.moments

-- so it is of each moment
let_alone_at_each : (c : ℕ) (events : List Event) → AreSound setup events → AtEach (IsHarmlessNow setup) events → AtEach (IsLetAlone setup c) events
let_alone_at_each c [] sound moments = let_alone_now c [] sound moments.harmless
let_alone_at_each c (event ∷ events) sound moments = (let_alone_now c (event ∷ events) sound moments.0.harmless, let_alone_at_each c events sound.1 moments.1)

pub each_is_let_alone : OfEachRig (λ clients turns events. (c : ℕ) → AtEach (IsLetAlone setup c) events)
each_is_let_alone clients turns number some within c =
    let going = (usual clients turns number some within).stands.going in let_alone_at_each c (qmi_rig clients turns number) going.sound going.moments

-- in the end nothing waits for anybody
pub all_are_served : OfEachRig (λ clients turns events. AllAreServed setup events)
all_are_served clients turns number some within = (usual clients turns number some within).stands.served

pub nothing_waits : OfEachRig (λ clients turns events. (c : ℕ) → 1 ≤ c → c ≤ clients → (text_for setup c events).waiting ≡ [])
nothing_waits clients turns number some within c low high = all_are_served clients turns number some within c (is_there clients turns number some within c low high)

-- so many turns take no longer
pub rigs_end_in_time : OfEachRig (λ clients turns events. now (history setup events) ≤ 1000 * turns + 60000)
unfolding proxy.history now
rigs_end_in_time clients turns number some within = rig_time (rig.cast clients) script refl (λ event events. time_agrees (qmi_protocol setup) (Asks setup) (orderly setup) event events) turns number

-- ---- the lines ----

abbrev first_lines : Summary → List ℕ
first_lines s =
    line (codes "clients") s.clients ++ line (codes "turns") s.turns ++ line (codes "forwarded") s.forwarded ++ line (codes "answered") s.answered
    ++ line (codes "expired") s.expired ++ line (codes "late") s.late ++ codes "refused" ++ codes " " ++ decimal s.refused

abbrev equal_line : (n m : ℕ) → List ℕ
equal_line n m = codes "equal " ++ decimal n ++ codes " of " ++ decimal m ++ codes "\n"

-- lines that are put together from the front
together : (a b c d e f g h i j k l m n o : List ℕ) → a ++ b ++ c ++ d ++ e ++ f ++ (g ++ h ++ i ++ j) ++ k ++ l ++ m ++ n ++ o ≡ (a ++ b ++ c ++ d ++ e ++ f ++ g ++ h ++ i) ++ j ++ (k ++ l ++ m ++ n ++ o)
together a b c d e f g h i j k l m n o = simp append_assoc

lines_end : (s : Summary) → lines_of s ≡ first_lines s ++ codes "\n" ++ equal_line s.equal s.counted
lines_end s =
    together (line (codes "clients") s.clients) (line (codes "turns") s.turns) (line (codes "forwarded") s.forwarded) (line (codes "answered") s.answered)
    (line (codes "expired") s.expired) (line (codes "late") s.late) (codes "refused") (codes " ") (decimal s.refused) (codes "\n")
    (codes "equal ") (decimal s.equal) (codes " of ") (decimal s.counted) (codes "\n")

pub last_lines_say_all : LastLinesSayAll
last_lines_say_all clients turns number some within =
    let events : List Event = qmi_rig clients turns number in
    let s : Summary = summary setup clients turns events in
    let same : length (equal setup clients events) ≡ clients = ap length (each_gets_the_same clients turns number some within) ∙ length-range clients 1 in
    let all : length (counted setup clients events) ≡ clients = ap length (nobody_is_disturbed clients turns number some within) ∙ length-range clients 1 in
    record {
      others = first_lines s;
      whole = lines_end s ∙ ap (λ (n : ℕ). first_lines s ++ codes "\n" ++ equal_line n s.counted) same ∙ ap (λ (n : ℕ). first_lines s ++ codes "\n" ++ equal_line clients n) all;
    }
