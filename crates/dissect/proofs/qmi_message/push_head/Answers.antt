use Rattle.std.proofs.Common.{ℕ, List, ◌++◌, ◌∙◌, ap, Option, option_map, Bor, codes, decimal}
use Rattle.message_tables.specs.declared.message.Message.{Message}
use Rattle.message_tables.specs.View.{message_view}
use Rattle.qmux_frame.specs.declared.head.Head.{Head}
use Rattle.qmicli_print.specs.declared.shown.Shown.TheVariants.{Service}
use Rattle.qmicli_print.specs.Words.{word_of}
use Rattle.dissect.specs.Qmi.{head_kind, head_line, id_digits, kind_word, service_by, title}
use Rattle.dissect.proofs.Joined.{then_one, then_two}
use Rattle.dissect.proofs.qmi_message.push_head.Goals as goal

pub returns : goal.returns
unfolding head_line
returns c =
    let old : List ℕ = c.args.text.now in
    let head : Head = c.args.head in
    let place : List ℕ = decimal c.args.place in
    let name : List ℕ = service_by head.service (word_of Service head.service) in
    let word : List ℕ = kind_word (head_kind head) in
    let name_is = c.in_ok-push_service.ensures ∙ ap (λ (w : Option (List ℕ)). c.extend_from_slice.new.self ++ service_by head.service w) c.service_word.ensures in
    let kind_is =
    c.in_ok-push_number.ensures ∙ ap (λ (l : List ℕ). (c.push_id.new.text ++ l) ++ decimal c.from.result) (c.kind_word.ensures ∙ ap kind_word c.kind.ensures)
    ∙ ap (λ (n : ℕ). (c.push_id.new.text ++ word) ++ decimal n) c.from.ensures in
    let number_is = c.in_ok-push_number-2.ensures ∙ ap (λ (n : ℕ). (c.push_number.new.text ++ codes " number ") ++ decimal n) c.from-2.ensures in
    let named : List ℕ = (place ++ codes " ") ++ name in
    let digits : List ℕ = (named ++ codes " 0x") ++ id_digits head.message in
    let clients : List ℕ = (digits ++ word) ++ decimal head.cid in
    let numbers : List ℕ = (clients ++ codes " number ") ++ decimal head.number in
    let last : List ℕ = title (option_map (λ (message : Bor Message). message_view message.now) c.args.form) in
    let to_name = then_one old (place ++ codes " ") name (then_one old place (codes " ") c.in_ok-push_decimal.ensures c.in_ok-extend_from_slice.ensures.ok) name_is in
    let to_digits = then_one old (named ++ codes " 0x") (id_digits head.message) (then_one old named (codes " 0x") to_name c.in_ok-extend_from_slice-2.ensures.ok) c.in_ok-push_id.ensures in
    let to_numbers = then_two old clients (codes " number ") (decimal head.number) (then_two old digits word (decimal head.cid) to_digits kind_is) number_is in
    then_one old (numbers ++ last) (codes "\n") (then_one old numbers last to_numbers c.in_ok-push_title.ensures) c.in_ok-extend_from_slice-3.ensures.ok
