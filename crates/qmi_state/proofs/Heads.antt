-- What is kept of a request says of its message what its answer needs.
use Rattle.std.proofs.Common.{◌≡◌, ℕ, ◌<◌, ◌==◌, List, take, slice_index, refl, ap, arith, Option}
use Rattle.std.proofs.lemmas.List.{get_or-take}
use Rattle.qmux_frame.specs.Head.{service_of, is_control, cid_of, number_of}
use Rattle.qmux_frame.specs.Control.{allocate, is_command, release}
use Rattle.qmux_frame.specs.Reply.{result_reply}
use Rattle.qmi_proxy.specs.FromModem.{id_change}
use Rattle.qmi_state.specs.Asked.{asked_of}
use Rattle.qmi_state.specs.Transitions.{change_by}

kept : (m : List ℕ) (k : ℕ) → k < 12 → slice_index (take 12 m) k ≡ slice_index m k
kept m k within = get_or-take 12 m k 0 within

pub service_kept : (m : List ℕ) → service_of (take 12 m) ≡ service_of m
service_kept m = kept m 4 (omega arith)

pub client_kept : (m : List ℕ) → cid_of (take 12 m) ≡ cid_of m
client_kept m = kept m 5 (omega arith)

control_kept : (m : List ℕ) → is_control (take 12 m) ≡ is_control m
control_kept m = ap (λ (n : ℕ). n == 0) (service_kept m)

pub number_kept : (m : List ℕ) → number_of (take 12 m) ≡ number_of m
number_kept m = rw (kept m 4 (omega arith), kept m 7 (omega arith), kept m 8 (omega arith)) refl

command_kept : (id : ℕ) (m : List ℕ) → is_command id (take 12 m) ≡ is_command id m
command_kept id m = rw (kept m 4 (omega arith), kept m 8 (omega arith), kept m 9 (omega arith), kept m 10 (omega arith)) refl

pub reply_kept : (m : List ℕ) (error : ℕ) → result_reply (take 12 m) error ≡ result_reply m error
reply_kept m error = rw (kept m 4 (omega arith), kept m 5 (omega arith), kept m 7 (omega arith), kept m 8 (omega arith), kept m 9 (omega arith), kept m 10 (omega arith)) refl

pub change_is : (c : ℕ) (request m : List ℕ) (holder : Option ℕ) → change_by c (asked_of request) m holder ≡ id_change c request m holder
unfolding asked_of
change_is c request m holder = rw (command_kept allocate request, command_kept release request) refl
