use Rattle.std.proofs.Common.{refl}
use Rattle.std.proofs.lemmas.Result.{err_from_is_err_and}
use Rattle.tool_words.specs.MbimCommands.{context_of}
use Rattle.tool_words.proofs.Chains.{first_fails, later_fails}
use Rattle.tool_words.proofs.mbim_commands.context_of.Goals as goal

pub returns-in_err-session_id : goal.returns-in_err-session_id
unfolding context_of
returns-in_err-session_id c =
    let p = err_from_is_err_and c.from_residual.result c.from_residual.ensures.1 in
    rw (p.1, p.2) (first_fails _ _ _ c.in_err-session_id.ensures)

pub returns-in_err-access_string : goal.returns-in_err-access_string
unfolding context_of
returns-in_err-access_string c =
    let p = err_from_is_err_and c.from_residual-in_err-access_string.result c.from_residual-in_err-access_string.ensures.1 in
    rw (p.1, p.2) (later_fails _ _ _ _ c.in_ok-session_id.ensures (first_fails _ _ _ c.in_err-access_string.ensures))

pub returns-in_err-username : goal.returns-in_err-username
unfolding context_of
returns-in_err-username c =
    let p = err_from_is_err_and c.from_residual-in_err-username.result c.from_residual-in_err-username.ensures.1 in
    rw (p.1, p.2) (later_fails _ _ _ _ c.in_ok-session_id.ensures (later_fails _ _ _ _ c.in_ok-access_string.ensures (later_fails _ _ _ _ c.in_ok-ip_type.ensures (first_fails _ _ _ c.in_err-username.ensures))))

pub returns-in_err-password : goal.returns-in_err-password
unfolding context_of
returns-in_err-password c =
    let p = err_from_is_err_and c.from_residual-in_err-password.result c.from_residual-in_err-password.ensures.1 in
    rw (p.1, p.2) (later_fails _ _ _ _ c.in_ok-session_id.ensures (later_fails _ _ _ _ c.in_ok-access_string.ensures (later_fails _ _ _ _ c.in_ok-ip_type.ensures (later_fails _ _ _ _ c.in_ok-username.ensures (first_fails _ _ _ c.in_err-password.ensures)))))

pub returns : goal.returns
unfolding context_of
returns c =
    rw (
      c.in_ok-session_id.ensures,
      c.in_ok-access_string.ensures,
      c.in_ok-ip_type.ensures,
      c.in_ok-username.ensures,
      c.in_ok-password.ensures,
    ) refl
