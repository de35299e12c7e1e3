-- A request to open that an open modem answers reads as one that waits and is then answered, and tells the same.
use Rattle.std.proofs.Common.{◌≡◌, false, [], ◌∷◌, ◌++◌, refl}
use Rattle.proxy_history.specs.Facts.{Fact, Verdict, Own, Share, Foreign, Away, Full, Forward, Ready, Waits, Judged}
use Rattle.proxy_history.specs.Connections.{present, message_count}
use Rattle.proxy_history.specs.Requests.{in_use, pending}
use Rattle.proxy_history.specs.ClientIds.{held}
use Rattle.proxy_history.specs.Modem.{is_away}
use Rattle.proxy_solo.proofs.Reading.{Reads, is_judged}
use Rattle.mbim_solo.specs.Solo.{restated}

pub by_verdict : (P : Verdict → Type 0) → P Own → P Share → P Foreign → P Away → P Full → P Forward → P Ready → P Waits → (verdict : Verdict) → P verdict
by_verdict P own share foreign away full forward ready waits Own = own
by_verdict P own share foreign away full forward ready waits Share = share
by_verdict P own share foreign away full forward ready waits Foreign = foreign
by_verdict P own share foreign away full forward ready waits Away = away
by_verdict P own share foreign away full forward ready waits Full = full
by_verdict P own share foreign away full forward ready waits Forward = forward
by_verdict P own share foreign away full forward ready waits Ready = ready
by_verdict P own share foreign away full forward ready waits Waits = waits

pub reads : Reads restated
unfolding present message_count in_use pending held is_away
reads = record {
  plain = plain;
  present = λ d place m verdict facts. by_verdict (λ v. present (restated (Judged d place m v) ++ facts) ≡ present facts) refl refl refl refl refl refl refl refl verdict;
  count = λ c d place m verdict facts. by_verdict (λ v. message_count c (restated (Judged d place m v) ++ facts) ≡ message_count c (Judged d place m v ∷ facts)) refl refl refl refl refl refl refl refl verdict;
  in_use = λ d place m verdict facts. by_verdict (λ v. in_use (restated (Judged d place m v) ++ facts) ≡ in_use facts) refl refl refl refl refl refl refl refl verdict;
  pending = λ d place m verdict facts. by_verdict (λ v. pending (restated (Judged d place m v) ++ facts) ≡ pending facts) refl refl refl refl refl refl refl refl verdict;
  held = λ d place m verdict facts. by_verdict (λ v. held (restated (Judged d place m v) ++ facts) ≡ held facts) refl refl refl refl refl refl refl refl verdict;
  away = λ away d place m verdict facts. by_verdict (λ v. is_away away (restated (Judged d place m v) ++ facts) ≡ is_away away facts) refl refl refl refl refl refl refl refl verdict;
}
  where
    plain : (fact : Fact) → is_judged fact ≡ false → restated fact ≡ fact ∷ []
    plain (Judged d place m verdict) is = absurd (cc)
    plain fact is = refl
