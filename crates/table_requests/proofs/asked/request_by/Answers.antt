use Rattle.std.proofs.Common.{List, ℕ, Result, Err, sym, ap, ◌∙◌, subst}
use Rattle.std.proofs.lemmas.Result.{err_from_is_err_and}
use Rattle.message_tables.specs.Tables.{value_of}
use Rattle.message_tables.specs.View.{message_view}
use Rattle.named_messages.specs.Reading.{named_in}
use Rattle.table_requests.specs.declared.request_fault.RequestFault.{RequestFault}
use Rattle.table_requests.specs.Calls.{Gives}
use Rattle.table_requests.specs.Requests.{Asked, asked, request_by, request_with}
use Rattle.table_requests.specs.View.{asked_view}
use Rattle.table_requests.proofs.Faults.{Gives-tables, Gives-asked, is_short, request_by_is, reads_back}
use Rattle.table_requests.proofs.asked.request_by.Goals as goal

pub returns-in_err-message : goal.returns-in_err-message
unfolding request_by
returns-in_err-message c =
    let p = err_from_is_err_and c.from_residual.result c.from_residual.ensures.1 in
    rw (p.1, p.2) (record { exact = Gives-tables asked_view (named_in c.args.name.now c.args.tables.now) c.args.json.now c.in_err-message.field-0.0 c.in_err-message.ensures.exact; short = tt; sound = tt; reads_back = tt })

pub returns-in_err-tlvs : goal.returns-in_err-tlvs
returns-in_err-tlvs c =
    let p = err_from_is_err_and c.from_residual-in_err-tlvs.result c.from_residual-in_err-tlvs.ensures.1 in
    let message = message_view c.in_ok-message.message in
    let gives =
    Gives-asked (λ (octets : List ℕ). octets) asked_view message (request_with message.input (value_of c.args.json.now)) c.in_err-tlvs.field-0.0 c.in_err-tlvs.ensures in
    let is = request_by_is c.args.tables.now c.args.name.now c.args.json.now message c.in_ok-message.ensures.exact in
    rw (p.1, p.2) (record { exact = subst (λ (stated : Result Asked RequestFault). Gives asked_view stated (Err c.in_err-tlvs.field-0.0)) (sym is) gives; short = tt; sound = tt; reads_back = tt })

pub returns-clause-exact : goal.returns-clause-exact
returns-clause-exact c =
    request_by_is c.args.tables.now c.args.name.now c.args.json.now (message_view c.in_ok-message.message) c.in_ok-message.ensures.exact
    ∙ ap (asked (message_view c.in_ok-message.message)) c.in_ok-tlvs.ensures

pub returns-clause-short : goal.returns-clause-short
returns-clause-short c = is_short (message_view c.in_ok-message.message).input (value_of c.args.json.now) c.in_ok-tlvs.tlvs c.in_ok-tlvs.ensures

pub returns-clause-reads_back : goal.returns-clause-reads_back
returns-clause-reads_back c = reads_back (message_view c.in_ok-message.message) (value_of c.args.json.now) c.in_ok-tlvs.tlvs c.in_ok-message.ensures.sound c.in_ok-tlvs.ensures
