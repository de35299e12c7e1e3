-- Behind each event the modem was last asked for all that the open clients subscribe to, where it may be asked.
use Rattle.std.proofs.Common.{◌≡◌, ℕ, Bool, true, false, not, ◌&&◌, List, refl, ap, sym, ◌∙◌, subst, Option, Some, None, is_some, if◌then◌else◌}
use Rattle.kit_bytes.specs.Subscriptions.{Pair}
use Rattle.mbim_frame.specs.Frame.{size_of}
use Rattle.mbim_services.specs.SubscribeLists.{is_same_list}
use Rattle.mbim_proxy.specs.Forwarding.{own_subscribe}
use Rattle.mbim_proxy.specs.Setup.{Setup}
use Rattle.mbim_proxy.proofs.SameLists.{same_list_is}
use Rattle.mbim_state.specs.Core.{ModemSide, MbimState, setup_of}
use Rattle.mbim_state.specs.Transitions.{merged_in, is_free, number_at, send_under, finish}
use Rattle.mbim_core.specs.Asks.{IsAskedForAll, TheModemIsAskedForAll}
use Rattle.mbim_core.specs.Lawful.{is_lawful}
use Rattle.mbim_core.specs.Meaning.{setup_by, mbim_meaning}
use Rattle.proxy_core.specs.Core.{handlers_in, lasting_in, meet}
use Rattle.proxy_core.proofs.Lasting.{met}

module _ (x : MbimState) where
  abbrev list : List Pair
  list = merged_in x.table.present

  -- that was asked for by such a side
  abbrev Asked : ModemSide → Type 0
  Asked side = is_free side ≡ true → is_some (number_at (setup_of side) (own_subscribe list) side) ≡ true → side.last_list ≡ list

  by : (free same : Bool) (number : Option ℕ) → is_free x.beside ≡ free → is_same_list list x.beside.last_list ≡ same → number_at (setup_of x.beside) (own_subscribe list) x.beside ≡ number
      → Asked (send_under (setup_of x.beside) list (if free && not same then number else None) x.beside)
  by false same number free is under = λ may. absurd (let clash : false ≡ true = sym free ∙ may in cc)
  by true true number free is under = λ may some. sym (same_list_is list x.beside.last_list is)
  by true false None free is under = λ may some. absurd (let clash : false ≡ true = sym (ap (λ (o : Option ℕ). is_some o) under) ∙ some in cc)
  by true false (Some number) free is under = λ may some. refl

  finished : IsAskedForAll (finish (setup_of x.beside) x)
  finished = by (is_free x.beside) (is_same_list list x.beside.last_list) (number_at (setup_of x.beside) (own_subscribe list) x.beside) refl refl refl

pub stepped : TheModemIsAskedForAll
stepped event core =
    let behind : MbimState = (meet mbim_meaning size_of event core).state in
    let lasts : setup_of behind.beside ≡ setup_of core.state.beside = ap setup_by (met mbim_meaning (handlers_in mbim_meaning core) (is_lawful.lasts (lasting_in mbim_meaning core)) size_of event core) in
    subst (λ (s : Setup). IsAskedForAll (finish s behind)) lasts (finished behind)
