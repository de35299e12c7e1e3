-- The replies that a client's own view decides: no other client and nothing of the modem has a say in them. A view has the newest entry first.
-- Source of the reply to a Proxy Open: `process_internal_proxy_open` in libqmi's src/libqmi-glib/qmi-proxy.c. The refusals are this proxy's own.
use Rattle.std.specs.Prelude.{ℕ, Bool, false, not, ◌&&◌, ◌||◌, if◌then◌else◌, List}
use Rattle.qmux_frame.specs.Control.{is_sync, is_proxy_open}
use Rattle.proxy_history.specs.Facts.{Verdict, Own}
use Rattle.proxy_history.specs.View.{Entry, Said}
use Rattle.proxy_history.specs.Wording.{told_by}
use Rattle.qmi_proxy.specs.Errors.{no_error, malformed_message, internal, invalid_client_id}
use Rattle.qmi_proxy.specs.Messages.{opens, is_malformed, has_bad_id}

-- the client's own view decides, from whether the client has opened the device; else what all clients share does
abbrev pub view_decides : (opened : Bool) → (message : List ℕ) → Bool
view_decides opened m = is_malformed m || is_proxy_open m || not opened || is_sync m || has_bad_id m

-- the error of the reply, 0 for success: that of the first that fits, and of a bad client id where no other does
abbrev pub own_error : (device : List ℕ) → (opened : Bool) → (message : List ℕ) → ℕ
own_error device opened m =
    if is_malformed m then malformed_message
    else if opens device m then no_error
    else if is_proxy_open m then internal
    else if not opened then internal
    else if is_sync m then no_error
    else invalid_client_id

-- the message opened the device
abbrev pub is_opening : List ℕ → List ℕ → Verdict → Bool
is_opening device m Own = not (is_malformed m) && opens device m
is_opening device m _ = false

-- whether the client has opened the device once it has this entry, from whether it had before
abbrev pub step : List ℕ → Bool → Entry → Bool
step device opened (Said m verdict) = is_opening device m verdict || opened
step device opened _ = opened

-- the client has opened the device
abbrev pub is_open : List ℕ → List Entry → Bool
is_open device entries = told_by false (step device) entries
