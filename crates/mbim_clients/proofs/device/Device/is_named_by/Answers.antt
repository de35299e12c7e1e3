use Rattle.std.proofs.Common.{◌≡◌, ℕ, ◌<◌, ◌↔◌, Bool, true, false, IsTrue, List, All, refl, sym, subst, ap, ◌∙◌, arith}
use Rattle.std.proofs.lemmas.List.{get_or_default}
use Rattle.std.specs.Str.{all_scalars}
use Rattle.kit_bytes.specs.Utf16.{utf16_bytes}
use Rattle.mbim_services.specs.Paths.{HasPath}
use Rattle.mbim_proxy.specs.Configuration.{names_device}
use Rattle.mbim_proxy.proofs.Named.{names_by_its_layout}
use Rattle.mbim_clients.proofs.device.Device.is_named_by.Goals as goal

same_tests : (a b : Bool) → (IsTrue a → IsTrue b) → (IsTrue b → IsTrue a) → a ≡ b
same_tests true b there back = sym (there refl)
same_tests false true there back = back refl
same_tests false false there back = refl

names_it : (device path buffer : List ℕ) (result : Bool) → path ≡ utf16_bytes device → IsTrue (all_scalars device) → All (λ byte. byte < 256) buffer → IsTrue result ↔ HasPath buffer path → result ≡ names_device device buffer
names_it device path buffer result is scalars bytes told =
    let law = names_by_its_layout device buffer scalars bytes in
    same_tests result (names_device device buffer) (λ yes. law.1 (subst (HasPath buffer) is (told.0 yes))) (λ yes. told.1 (subst (HasPath buffer) (sym is) (law.0 yes)))

pub returns : goal.returns
returns c =
    let buffer : List ℕ = c.args.buffer.now in
    names_it c.self.inside.text c.as_slice.result.now buffer c.config_path_is.result (c.as_slice.ensures ∙ c.self.invariant.path) c.self.invariant.scalars (λ i d below. rw (get_or_default buffer i d 0 below) (omega (arith, c.type_inv.buffer i))) c.config_path_is.ensures
    ∙ ap (λ (device : List ℕ). names_device device buffer) c.self.view_is
