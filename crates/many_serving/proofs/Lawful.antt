-- A proxy of one device that keeps the rules keeps those of several: there is no other device.
use Rattle.std.proofs.Common.{◌≡◌, ℕ, ◌<◌, false, ◌==◌, map, List, ◌∷◌, refl, arith}
use Rattle.std.proofs.lemmas.Bool.Decides.{nat_tests}
use Rattle.proxy_history.specs.Proxy.{Proxy}
use Rattle.proxy_history.specs.Proxy as one
use Rattle.many_io.specs.Record.{without_device}
use Rattle.many_serving.specs.Lawful.{IsLawful}
use Rattle.many_serving.specs.One.{only_of}

no_other : (d e : ℕ) → d < 1 → e < 1 → (d == e) ≡ false → ⊥
no_other d e first second other = grind (arith, nat_tests)

pub only_lawful : (p : Proxy) → one.IsLawful p → IsLawful (only_of p)
only_lawful p rules = record {
  nobody = rules.nobody;
  none_dropped = rules.none_dropped;
  no_bytes = rules.no_bytes;
  no_modem_bytes = λ d within. rules.no_modem_bytes;
  joined = λ c past rise. rules.joined c (map without_device past);
  grown = λ c event past rise leaves.
      let more = rules.grown c (without_device event) (map without_device past) leaves in
      record { more = more.more; text = more.text; waiting = more.waiting };
  taken_text = λ c count past. rules.taken_text c count (map without_device past);
  taken_waiting = λ c count past. rules.taken_waiting c count (map without_device past);
  took_other = λ c count d past. rules.took_other c count d (map without_device past);
  left_other = λ c d past. rules.left_other c d (map without_device past);
  modem_took_other = λ d count c past within. rules.modem_took_other count c (map without_device past);
  took_present = λ c count past. rules.took_present c count (map without_device past);
  modem_took_present = λ d count past within. rules.modem_took_present count (map without_device past);
  left_present = λ c past rise. rules.left_present c (map without_device past);
  took_away = λ c count d past within. rules.took_away c count (map without_device past);
  left_away = λ c d past within. rules.left_away c (map without_device past);
  other_away = λ d e event past of within also other. absurd (no_other d e within also other);
  gone_away = λ d past within. rules.gone_away (map without_device past);
  modem_taken = λ d count past within.
      let taken = rules.modem_taken count (map without_device past) in
      record { more = taken.more; waiting = taken.waiting };
  backlog_lessens = λ d count past within. rules.backlog_lessens count (map without_device past);
  took_other_modem = λ d count e past within also other. absurd (no_other d e within also other);
  took_dropped = λ c count past. rules.took_dropped c count (map without_device past);
  left_dropped = λ c past. rules.left_dropped c (map without_device past);
  modem_took_dropped = λ d count past within. rules.modem_took_dropped count (map without_device past);
  back_dropped = λ d past within. rules.back_dropped (map without_device past);
}
