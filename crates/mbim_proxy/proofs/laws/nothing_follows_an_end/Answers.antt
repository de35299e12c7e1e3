use Rattle.std.proofs.Common.{List, ap, ◌∙◌, subst}
use Rattle.proxy_history.specs.Facts.{Fact}
use Rattle.proxy_history.specs.Sound.{IsSound}
use Rattle.proxy_history.proofs.SoundLaws.{gone_view_stays, ends_are_last}
use Rattle.mbim_proxy.specs.Step.{blank, view_of}
use Rattle.mbim_proxy.specs.History.{history}
use Rattle.mbim_proxy.proofs.Sound.{histories_are_sound}
use Rattle.mbim_proxy.proofs.laws.nothing_follows_an_end.Goals as goal

pub returns : goal.returns
returns c = record {
  nothing = λ s events conn why later earlier some whole none.
      ap (λ (facts : List Fact). view_of conn facts) whole
      ∙ gone_view_stays s.limits blank conn some why later earlier (subst (λ (facts : List Fact). IsSound s.limits facts) whole (histories_are_sound s events)) none;
  last = λ s events conn some. ends_are_last s.limits blank conn some (history s events) (histories_are_sound s events);
}
