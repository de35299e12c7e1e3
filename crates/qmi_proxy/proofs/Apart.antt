-- Two requests in use are told apart by their serial numbers, and in one space by their transaction numbers.
use Rattle.std.proofs.Common.{◌≡◌, ℕ, ◌≤◌, true, false, if◌then◌else◌, ◌==◌, List, arith, Contains}
use Rattle.std.proofs.lemmas.Bool.Decides.{nat_tests}
use Rattle.proxy_history.specs.Facts.{Fact, Request}
use Rattle.proxy_history.specs.Requests.{in_use}
use Rattle.proxy_history.specs.Sound.{IsSound}
use Rattle.proxy_history.proofs.Sound.{forwarded_from_in_use, same_serial}
use Rattle.proxy_history.proofs.SoundLaws.{in_use_differ}
use Rattle.proxy_history.proofs.Given.{same_number}
use Rattle.qmi_proxy.specs.Limits.{qmi_limits}
use Rattle.qmi_proxy.specs.Spaces.{limit_of, top_of, control_space}

pub record Apart (r q : Request) : Type 0 where
  pub serial : (r.serial == q.serial) ≡ true → q ≡ r
  pub number : (r.space == q.space) ≡ true → (r.number == q.number) ≡ true → q ≡ r

pub within : (space : ℕ) → limit_of space ≤ top_of space
within space = elim (space == control_space) as (λ b. (if b then 255 else 1024) ≤ (if b then 255 else 65535)) [ true ↦ omega arith | false ↦ omega arith ]

abbrev pub IsSoundQmi : List Fact → Type 0
IsSoundQmi past = IsSound qmi_limits past

pub apart_in_use : (past : List Fact) (q r : Request) → IsSoundQmi past → Contains (in_use past) q → Contains (in_use past) r → Apart r q
apart_in_use past q r sound at_q at_r = record {
  serial = λ e. same_serial qmi_limits past q r sound (forwarded_from_in_use past q at_q) (forwarded_from_in_use past r at_r) (grind (arith, nat_tests, e));
  number = λ space number. same_number (in_use past) q r (in_use_differ qmi_limits within past sound) at_q at_r (grind (arith, nat_tests, space)) (grind (arith, nat_tests, number));
}
