-- What the table of the code stands for.
use Rattle.std.specs.Prelude.{ℕ, List, option_map}
use Rattle.mbim_fields.specs.View.{shape_view}
use Rattle.mbim_services.specs.declared.table.Row as declared
use Rattle.mbim_services.specs.declared.table.Service.{Service}
use Rattle.mbim_services.specs.declared.table.Service.TheVariants.{BasicConnect, Sms, Ussd, Phonebook, Stk, ProxyControl}
use Rattle.mbim_services.specs.Table.{Row, basic_connect, sms, ussd, phonebook, stk, proxy_control}

-- the bytes of a service's UUID
abbrev pub service_view : Service → List ℕ
service_view BasicConnect = basic_connect
service_view Sms = sms
service_view Ussd = ussd
service_view Phonebook = phonebook
service_view Stk = stk
service_view ProxyControl = proxy_control

abbrev pub row_view : declared.Row → Row
row_view row = record {
  service = service_view row.service;
  cid = row.cid;
  query = option_map shape_view row.query;
  set = option_map shape_view row.set;
  done = shape_view row.done;
}
