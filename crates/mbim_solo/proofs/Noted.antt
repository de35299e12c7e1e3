-- What is noted in a history of the MBIM proxy is noted in a client's part of it; and what that part tells.
use Rattle.std.proofs.Common.{◌≡◌, ℕ, Bool, ◌&&◌, if◌then◌else◌, List, ◌∷◌, ◌++◌, ap, sym, ◌∙◌, is_some}
use Rattle.kit_bytes.specs.Indications.{wants}
use Rattle.proxy_history.specs.Facts.{Fact}
use Rattle.proxy_history.specs.Connections.{contains, present, is_present}
use Rattle.proxy_history.specs.Rendering.{Rendering}
use Rattle.proxy_history.specs.Noting.{rendering, receivers_of}
use Rattle.proxy_solo.specs.Part.{concerns, as_known}
use Rattle.proxy_solo.proofs.Lists.{contains-filter}
use Rattle.proxy_solo.proofs.Queries.{present-part}
use Rattle.proxy_solo.proofs.Noting.{noted}
use Rattle.proxy_solo.proofs.Noting as alone
use Rattle.mbim_proxy.specs.Setup.{Setup}
use Rattle.mbim_proxy.specs.Known.{Known}
use Rattle.mbim_proxy.specs.Step.{blank, known_from, known_now}
use Rattle.mbim_proxy.specs.Text.{mbim_wording, note}
use Rattle.mbim_proxy.specs.Lists.{open_ones, list_of, receivers, waiting}
use Rattle.mbim_proxy.proofs.Waiting.{waits_is}
use Rattle.mbim_solo.specs.Solo.{restated}
use Rattle.mbim_solo.specs.Part.{part}
use Rattle.mbim_solo.proofs.Reading.{reads}
use Rattle.mbim_solo.proofs.Views.{known_view, OpenOnce, text-part, known-part}

module _ (s : Setup) (c : ℕ) where
  abbrev pub end_known : List Fact → List Fact
  end_known facts = alone.end_known s.limits (mbim_wording s) c facts

  pub over : (past : List Fact) → OpenOnce s c past → (rendering s.limits (mbim_wording s) c past).is_over ≡ (alone.known_rendering s.limits (mbim_wording s) c (part c past)).is_over
  over past once = ap (λ (r : Rendering). r.is_over) (sym (text-part s c past once))

  pub noted-part : (fact : Fact) (past : List Fact) → OpenOnce s c (fact ∷ past) → contains c (receivers_of fact) ≡ concerns c fact
      → part c (note s fact past) ≡ (if concerns c fact then end_known (restated (as_known blank c fact) ++ part c past) else part c past)
  noted-part fact past once same = noted s.limits (mbim_wording s) restated reads c (OpenOnce s c) (λ d before good. (tt, good)) (λ before good. over before good) fact past once same

  -- ---- who is told ----

  -- what the part tells of the client
  abbrev pub known_in : List Fact → Known
  known_in facts = known_from s (known_view s c facts)

  abbrev pub is_told : (uuid : List ℕ) → (cid : ℕ) → List Fact → Bool
  is_told uuid cid facts = (is_present c facts && (known_in facts).opened) && wants (known_in facts).list uuid cid

  abbrev pub is_waiting : List Fact → Bool
  is_waiting facts = is_present c facts && is_some (known_in facts).waits

  pub told-part : (uuid : List ℕ) (cid : ℕ) (past : List Fact) → OpenOnce s c past → contains c (receivers s uuid cid past) ≡ is_told uuid cid (part c past)
  told-part uuid cid past once =
      contains-filter c (λ (d : ℕ). wants (list_of s d past) uuid cid) (open_ones s past)
      ∙ ap (λ (b : Bool). b && wants (list_of s c past) uuid cid) (contains-filter c (λ (d : ℕ). (known_now s d past).opened) (present past))
      ∙ ap (λ (b : Bool). (b && (known_now s c past).opened) && wants (list_of s c past) uuid cid) (sym (present-part s.limits blank restated reads c past))
      ∙ ap (λ (k : Known). (is_present c (part c past) && k.opened) && wants k.list uuid cid) (sym (known-part s c past once))

  pub waiting-part : (past : List Fact) → OpenOnce s c past → contains c (waiting s past) ≡ is_waiting (part c past)
  waiting-part past once =
      waits_is s c past
      ∙ ap (λ (b : Bool). b && is_some (known_now s c past).waits) (sym (present-part s.limits blank restated reads c past))
      ∙ ap (λ (k : Known). is_present c (part c past) && is_some k.waits) (sym (known-part s c past once))
