-- A request that is read by a line of the table is of this line, and its numbers are in range.
use Rattle.std.proofs.Common.{◌≡◌, ℕ, ◌<◌, Bool, true, false, nat_lt, List, Option, Some, None, refl, rules, subst}
use Rattle.std.proofs.lemmas.Bool.{ltb-true}
use Rattle.std.proofs.lemmas.Option.{same_Some}
use Rattle.std.specs.Prelude.{option_map, option_and_then, cond}
use Rattle.std.specs.List.{AllByRecursion}
use Rattle.qmi_values.specs.Value.{Value, number, integer, text, elements, members}
use Rattle.qmi_services.specs.Table as table
use Rattle.qmi_services.specs.Table.{Row, rows}
use Rattle.qmi_services.specs.Modem.{input_of, is_at, row_at}
use Rattle.qmi_services.proofs.Found.{find-holds}
use Rattle.sim_qmi.specs.declared.request.Request.{Request}
use Rattle.sim_qmi.specs.declared.request.Request.TheVariants.{Ctl, Wds, Dms, Wms}
use Rattle.sim_qmi.specs.declared.ctl.CtlRequest.TheVariants as ctl
use Rattle.sim_qmi.specs.declared.wds.WdsRequest.TheVariants as wds
use Rattle.sim_qmi.specs.declared.dms.DmsRequest.TheVariants as dms
use Rattle.sim_qmi.specs.declared.wms.WmsRequest.TheVariants as wms
use Rattle.sim_qmi.specs.Ctl.{release_in}
use Rattle.sim_qmi.specs.Fits.{IsInRange}
use Rattle.sim_qmi.specs.Inputs.{byte_in, first_in, second_in}
use Rattle.sim_qmi.specs.Requests.{main_input, request_in, row_of}
use Rattle.sim_qmi.proofs.Halves.{with_input, others, all_lines}

pub record IsOf (row : Row) (request : Request) : Type 0 where
  pub line : row_of request ≡ row
  pub range : IsInRange request

-- ---- bytes ----

if_below_lem : (b : Bool) (m n : ℕ) → (b ≡ true → m < 256) → cond b (Some m) None ≡ Some n → n < 256
if_below_lem true m n below is = subst (λ (k : ℕ). k < 256) (same_Some m n is) (below refl)
if_below_lem false m n below is = absurd cc

byte_below : (v : Value) (n : ℕ) → byte_in v ≡ Some n → n < 256
byte_below (number m) n is = if_below_lem (nat_lt m 256) m n (ltb-true m 256) is
byte_below (integer z) n is = absurd cc
byte_below (text octets) n is = absurd cc
byte_below (elements inside) n is = absurd cc
byte_below (members inside) n is = absurd cc

AreBelow : Option ℕ → Type 0
AreBelow o = (n : ℕ) → o ≡ Some n → n < 256

input_below : (input : Option Value) → AreBelow (option_and_then byte_in input)
unfolding AreBelow
input_below None n is = absurd cc
input_below (Some v) n is = byte_below v n is

-- ---- from what is read to the request ----

-- what is read, where anything is, is a request of this line
abbrev Found : Row → Option Request → Type 0
Found row None = Unit {0}
Found row (Some request) = IsOf row request

mapped : {A B : Type 0} (row : Row) (g : B → Request) (f : A → B) (read : Option A) → ((a : A) → IsOf row (g (f a))) → Found row (option_map g (option_map f read))
mapped row g f None of = tt
mapped row g f (Some a) of = of a

allocated : (service : Option ℕ) → AreBelow service → Found table.allocate (option_map Ctl (option_map ctl.Allocate service))
unfolding AreBelow
allocated None below = tt
allocated (Some service) below = record { line = refl; range = below service refl }

released : (service id : Option ℕ) → AreBelow service → AreBelow id → Found table.release (option_map Ctl (option_and_then (λ s. option_map (ctl.Release s) id) service))
unfolding AreBelow
released None id service_below id_below = tt
released (Some service) None service_below id_below = tt
released (Some service) (Some id) service_below id_below = record { line = refl; range = (service_below service refl, id_below id refl) }

release_read : (input : Option Value) → Found table.release (option_map Ctl (option_and_then release_in input))
release_read None = tt
release_read (Some v) = released (option_and_then byte_in (first_in v)) (option_and_then byte_in (second_in v)) (input_below (first_in v)) (input_below (second_in v))

-- ---- all lines ----

abbrev Reads : Row → Type 0
Reads row = (tlvs : List ℕ) → Found row (request_in row tlvs)

of_input : AllByRecursion Reads with_input
of_input = (
  λ tlvs. allocated (option_and_then byte_in (input_of table.allocate main_input tlvs)) (input_below (input_of table.allocate main_input tlvs)),
  (
    λ tlvs. release_read (input_of table.release main_input tlvs),
    (
      λ tlvs. mapped table.proxy_open Ctl (λ (path : Value). ctl.ProxyOpen) _ (λ a. record { line = refl; range = tt }),
      (
        λ tlvs. mapped table.set_operating_mode Dms dms.SetOperatingMode _ (λ a. record { line = refl; range = tt }),
        (
          λ tlvs. mapped table.stop_network Wds wds.StopNetwork _ (λ a. record { line = refl; range = tt }),
          (
            λ tlvs. mapped table.raw_send Wms (λ (message : Value). wms.RawSend) _ (λ a. record { line = refl; range = tt }),
            (
              λ tlvs. mapped table.raw_read Wms wms.RawRead _ (λ a. record { line = refl; range = tt }),
              (
                λ tlvs. mapped table.delete Wms (λ (storage : Value). wms.Delete _) _ (λ a. record { line = refl; range = tt }),
                (
                  λ tlvs. mapped table.list_messages Wms (λ (storage : Value). wms.ListMessages) _ (λ a. record { line = refl; range = tt }),
                  tt,
                ),
              ),
            ),
          ),
        ),
      ),
    ),
  ),
)

-- the others read no input
of_others : AllByRecursion Reads others
of_others = search rules

each : AllByRecursion Reads rows
each = all_lines Reads of_input of_others

found-of : (row : Row) (found : Option Request) (request : Request) → Found row found → found ≡ Some request → IsOf row request
found-of row None request of is = absurd cc
found-of row (Some read) request of is = subst (IsOf row) (same_Some read request is) of

pub request-of : (service id : ℕ) (row : Row) (tlvs : List ℕ) (request : Request) → row_at service id ≡ Some row → request_in row tlvs ≡ Some request → IsOf row request
unfolding row_at
request-of service id row tlvs request at is = found-of row (request_in row tlvs) request (find-holds Reads (is_at service id) rows row each at tlvs) is
