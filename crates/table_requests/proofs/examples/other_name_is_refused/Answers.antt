use Rattle.std.proofs.Common.{List, ℕ, Err, codes, ap, refl}
use Rattle.std.specs.Char.{is_ascii}
use Rattle.std.proofs.lemmas.Bool.{ltb-true}
use Rattle.std.proofs.lemmas.List.Sums.{AllPass-from_list_all}
use Rattle.std.proofs.lemmas.Str.{chars-IsAscii}
use Rattle.std.proofs.lemmas.Str.Ascii.{IsAscii-from_all}
use Rattle.json_values.specs.Texts.{digits_in, hex_in, octets_in}
use Rattle.table_requests.specs.declared.request_fault.RequestFault.TheVariants.{NoTlv}
use Rattle.table_requests.specs.Requests.{request_of}
use Rattle.table_requests.proofs.examples.other_name_is_refused.Goals as goal

pub returns : goal.returns
unfolding request_of digits_in hex_in octets_in lib.Utf8.encode
returns c =
    let ascii = IsAscii-from_all (codes "Infos") (λ k d within. ltb-true _ _ (AllPass-from_list_all is_ascii (codes "Infos") refl k d within)) in
    ap (λ (name : List ℕ). Err (NoTlv name)) (chars-IsAscii (codes "Infos") ascii)
