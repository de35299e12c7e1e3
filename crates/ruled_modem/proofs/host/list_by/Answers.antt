use Rattle.std.proofs.Common.{◌≡◌, ℕ, Bool, ◌&&◌, List, Option, Some, None, is_some, if◌then◌else◌, sym, ap, ◌∙◌}
use Rattle.mbim_frame.specs.declared.bodies.CommandHead.{CommandHead}
use Rattle.mbim_frame.specs.Bodies.{buffer_of}
use Rattle.sim_mbim.specs.BasicConnect.{list_taken}
use Rattle.ruled_modem.specs.Host.{list_by, sets_list}
use Rattle.ruled_modem.proofs.host.list_by.Goals as goal

-- of a command that was found, by whether it sets a list that the modem takes
of_command : (bytes buffer : List ℕ) (head : CommandHead) (found : Option CommandHead) (sets : Bool) → found ≡ Some head → bytes ≡ buffer → sets ≡ (sets_list head && is_some (list_taken bytes))
    → list_by buffer found ≡ (if sets then Some bytes else None)
of_command bytes buffer head found sets is same asked =
    ap (list_by buffer) is
    ∙ ap (λ (b : List ℕ). if sets_list head && is_some (list_taken b) then Some b else None) (sym same)
    ∙ ap (λ (b : Bool). if b then Some bytes else None) (sym asked)

pub returns-then-not-is_list : goal.returns-then-not-is_list
returns-then-not-is_list c =
    sym (
    of_command c.buffer_in-buffer.result.now _ c.in-Some.head _ c.is_list.result (sym c.command_in.ensures.exact ∙ c.in-Some.is) (c.buffer_in-buffer.ensures ∙ ap buffer_of c.body_in.ensures) c.is_list.ensures
    ∙ ap (λ (b : Bool). if b then Some c.buffer_in-buffer.result.now else None) c.if-not-is_list.true
    )

pub returns : goal.returns
returns c =
    sym (
    of_command c.buffer_in-buffer.result.now _ c.in-Some.head _ c.is_list.result (sym c.command_in.ensures.exact ∙ c.in-Some.is) (c.buffer_in-buffer.ensures ∙ ap buffer_of c.body_in.ensures) c.is_list.ensures
    ∙ ap (λ (b : Bool). if b then Some c.buffer_in-buffer.result.now else None) c.if-not-is_list.false
    ∙ ap Some (sym c.in_ok-from_slice.ensures)
    )
