use Rattle.std.proofs.Common.{◌++◌, length, ap, sym, ◌∙◌, arith, length-append, flat_map}
use Rattle.kit_bytes.specs.Numbers.{number_bytes}
use Rattle.mbim_fields.proofs.RoundTrip.{number_bytes-length}
use Rattle.mbim_services.specs.Writing.{subscription_in, cids_in, first_uuid}
use Rattle.mbim_services.proofs.Runs.{Puts-then, structure-length, first-is}
use Rattle.mbim_services.proofs.lists.put_structure.Goals as goal

pub returns-clause-end : goal.returns-clause-end
returns-clause-end c =
    let first = ap length (first-is c.args.run.now c.index-run-0.result c.requires.some) in
    omega (arith, c.put_cids.ensures.end, c.put_number-cids.ensures.end, c.put-count.ensures.end, ap length c.as_bytes.ensures, first, structure-length (subscription_in c.args.run.now))

pub returns-clause-put : goal.returns-clause-put
returns-clause-put c =
    let first = first-is c.args.run.now c.index-run-0.result c.requires.some in
    let cids = cids_in c.args.run.now in
    let uuid = rw (c.as_bytes.ensures, ← first) at c.put-count.ensures.put in
    let count = rw c.cid_count.ensures.count at c.put_number-cids.ensures.put in
    let uuid_long = ap length (c.as_bytes.ensures ∙ sym first) in
    let both = Puts-then c.args.at c.put-count.result (first_uuid c.args.run.now) (number_bytes 4 (length cids)) c.args.into.now c.put-count.new.into c.put_number-cids.new.into uuid count (omega (arith, c.put-count.ensures.end, uuid_long)) in
    Puts-then c.args.at c.put_number-cids.result (first_uuid c.args.run.now ++ number_bytes 4 (length cids)) (flat_map (number_bytes 4) cids) c.args.into.now c.put_number-cids.new.into c.put_cids.new.into both c.put_cids.ensures.put
    (omega (arith, c.put_number-cids.ensures.end, c.put-count.ensures.end, uuid_long, length-append (first_uuid c.args.run.now) (number_bytes 4 (length cids)), number_bytes-length 4 (length cids)))
