-- Each client of a rig gets the bytes that it gets alone. Lists of events have the newest first.
use Rattle.std.proofs.Common.{◌≡◌, ◌≢◌, ℕ, zero, suc, ◌+◌, ◌≤◌, Bool, true, false, not, ◌&&◌, List, [], ◌∷◌, ◌++◌, length, filter, refl, ap, ap₂, sym, ◌∙◌, arith, append_assoc}
use Rattle.std.specs.Prelude.{codes, decimal, bytes_eq}
use Rattle.std.specs.List.{list_all, range_with_len, AllByRecursion}
use Rattle.std.proofs.lemmas.Slice.Eq.{bytes_eq-Decides}
use Rattle.std.proofs.lemmas.List.Elements.{All-from_recursion}
use Rattle.proxy_history.specs.Events.{Event}
use Rattle.proxy_history.specs.Facts.{Fact}
use Rattle.proxy_history.specs.Rendering.{Rendering}
use Rattle.proxy_history.specs.View.{Entry}
use Rattle.proxy_solo.specs.Law.{tells_of_others}
use Rattle.mbim_proxy.specs.Step.{view_of}
use Rattle.mbim_proxy.specs.History.{mbim_protocol, history, text_for}
use Rattle.mbim_solo.specs.Law.{IsLetAlone}
use Rattle.mbim_solo.specs.Solo.{mbim_alone, solo}
use Rattle.mbim_solo.proofs.Law.{gets_the_same_alone, served_proxies_are_roomy}
use Rattle.rig_runs.specs.Counts.{Summary, is_let_alone, gets_the_same, line, lines_of}
use Rattle.rig_runs.specs.Rig.{device, time_limit}
use Rattle.rig_runs.specs.Mbim.{setup, mbim_rig}
use Rattle.rig_runs.specs.MbimLines.{counted, equal, summary}
use Rattle.rig_laws_mbim.specs.Law.{all_equal, EndsWithLine, IsFair, EachRunIsFair}
use Rattle.rig_laws.proofs.Lists.{filter-all, length-range, each_of}
use Rattle.proxy_solo.proofs.Undisturbed.{AreUndisturbed}
use Rattle.rig_laws_mbim.proofs.Harmless.{undisturbed, refused_for_shares}
use Rattle.rig_laws_mbim.proofs.Playing.{rig_stands}

all_are : (entries : List Entry) → AreUndisturbed entries → list_all (λ entry. not (tells_of_others entry)) entries ≡ true
all_are [] all = refl
all_are (entry ∷ entries) all = ap (λ (b : Bool). not b && list_all (λ entry. not (tells_of_others entry)) entries) all.0 ∙ all_are entries all.1

itself : (xs : List ℕ) → bytes_eq xs xs ≡ true
itself xs = (bytes_eq-Decides xs xs).1 refl

-- ---- the last line ----

last_five : (x a b c d e : List ℕ) → x ++ a ++ b ++ c ++ d ++ e ≡ x ++ (a ++ b ++ c ++ d ++ e)
last_five x a b c d e = with_e
  where
    with_c : x ++ a ++ b ++ c ≡ x ++ (a ++ b ++ c)
    with_c = ap (λ (l : List ℕ). l ++ c) (append_assoc x a b) ∙ append_assoc x (a ++ b) c

    with_d : x ++ a ++ b ++ c ++ d ≡ x ++ (a ++ b ++ c ++ d)
    with_d = ap (λ (l : List ℕ). l ++ d) with_c ∙ append_assoc x (a ++ b ++ c) d

    with_e : x ++ a ++ b ++ c ++ d ++ e ≡ x ++ (a ++ b ++ c ++ d ++ e)
    with_e = ap (λ (l : List ℕ). l ++ e) with_d ∙ append_assoc x (a ++ b ++ c ++ d) e

module _ (s : Summary) where
  abbrev last_line : List ℕ
  last_line = codes "equal " ++ decimal s.equal ++ codes " of " ++ decimal s.counted ++ codes "\n"

  -- the lines before the one that counts the refusals, and that one without its line feed
  abbrev first_lines : List ℕ
  first_lines =
      line (codes "clients") s.clients
      ++ line (codes "turns") s.turns
      ++ line (codes "forwarded") s.forwarded
      ++ line (codes "answered") s.answered
      ++ line (codes "expired") s.expired
      ++ line (codes "late") s.late

  abbrev refusals : List ℕ
  refusals = codes "refused" ++ codes " " ++ decimal s.refused

  ends_with_last : (last : List ℕ) → last_line ≡ last → EndsWithLine last (lines_of s)
  ends_with_last last is = record {
    front = first_lines ++ refusals;
    lines =
        last_five (first_lines ++ line (codes "refused") s.refused) (codes "equal ") (decimal s.equal) (codes " of ") (decimal s.counted) (codes "\n")
        ∙ ap (λ (l : List ℕ). first_lines ++ line (codes "refused") s.refused ++ l) is
        ∙ ap (λ (l : List ℕ). l ++ last) (sym (append_assoc first_lines refusals (codes "\n")));
  }

module _ (clients turns number : ℕ) (some : 1 ≤ clients) (within : clients ≤ 64) where
  abbrev events : List Event
  events = mbim_rig clients turns number

  abbrev facts : List Fact
  facts = history setup events

  counts : (c : ℕ) → is_let_alone (mbim_protocol setup) facts c ≡ true
  counts c = all_are (view_of c facts) (undisturbed c facts (rig_stands clients some within turns number).going.calm.harmless)

  undisturbed_ones : counted setup clients events ≡ range_with_len 1 clients
  undisturbed_ones = filter-all (is_let_alone (mbim_protocol setup) facts) (range_with_len 1 clients) (each_of (λ (c : ℕ). is_let_alone (mbim_protocol setup) facts c ≡ true) clients 1 (omega arith) (λ c low. counts c))

  is_let : (c : ℕ) → IsLetAlone setup c events
  is_let c = record {
    sound = (rig_stands clients some within turns number).going.sound;
    undisturbed = All-from_recursion (λ (entry : Entry). tells_of_others entry ≡ false) (view_of c facts) (undisturbed c facts (rig_stands clients some within turns number).going.calm.harmless);
  }

  gets : (c : ℕ) → 1 ≤ c → gets_the_same (mbim_protocol setup) (mbim_alone setup) events c ≡ true
  gets c low =
      let client : c ≢ 0 = λ e. absurd (omega (arith, low, e)) in
      let same : text_for setup c (solo setup c events) ≡ text_for setup c events = gets_the_same_alone setup c events (served_proxies_are_roomy device time_limit false) client (is_let c) in
      ap (λ (r : Rendering). bytes_eq (text_for setup c events).bytes r.bytes) same ∙ itself (text_for setup c events).bytes

  same_ones : equal setup clients events ≡ range_with_len 1 clients
  same_ones =
      ap (filter (gets_the_same (mbim_protocol setup) (mbim_alone setup) events)) undisturbed_ones
      ∙ filter-all (gets_the_same (mbim_protocol setup) (mbim_alone setup) events) (range_with_len 1 clients) (each_of (λ (c : ℕ). gets_the_same (mbim_protocol setup) (mbim_alone setup) events c ≡ true) clients 1 (omega arith) gets)

  abbrev last_of : (equals counts : ℕ) → List ℕ
  last_of equals counts = codes "equal " ++ decimal equals ++ codes " of " ++ decimal counts ++ codes "\n"

  last_is : last_of (length (equal setup clients events)) (length (counted setup clients events)) ≡ all_equal clients
  last_is = ap₂ last_of (ap length same_ones ∙ length-range clients 1) (ap length undisturbed_ones ∙ length-range clients 1)

  each_is_fair : IsFair clients turns (mbim_rig clients turns number)
  each_is_fair = record {
    sound = (rig_stands clients some within turns number).going.sound;
    undisturbed = undisturbed_ones;
    same = same_ones;
    refused_for_shares = refused_for_shares facts (rig_stands clients some within turns number).going.calm.harmless;
    last_line = ends;
  }
    where
      ends : EndsWithLine (all_equal clients) (lines_of (summary setup clients turns events))
      ends = ends_with_last (summary setup clients turns events) (all_equal clients) last_is

pub each_run_is_fair : EachRunIsFair
each_run_is_fair clients turns number some within = each_is_fair clients turns number some within
