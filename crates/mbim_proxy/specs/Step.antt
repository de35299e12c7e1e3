-- How each entry of a client's view changes what the view tells. A view has the newest entry first.
use Rattle.std.specs.Prelude.{ℕ, ◌+◌, true, false, ◌==◌, List, [], ◌∷◌, Some, None, if◌then◌else◌}
use Rattle.mbim_frame.specs.declared.status.TheConstants.{SUCCESS}
use Rattle.mbim_frame.specs.Numbers.{u32_at}
use Rattle.mbim_frame.specs.Head.{number_of, with_number}
use Rattle.mbim_frame.specs.Bodies.{uuid_of, cid_of}
use Rattle.mbim_fragments.specs.Runs.{Joining, Whole}
use Rattle.mbim_fragments.specs.Assembling.{joining_behind, assembled_after}
use Rattle.proxy_history.specs.Facts.{Fact, Verdict, Own, Forward, Ready, Waits}
use Rattle.proxy_history.specs.View.{Entry, Said, Response, Refused, OpenedWith, Shut, view}
use Rattle.proxy_history.specs.Wording.{told_by}
use Rattle.mbim_proxy.specs.Setup.{Setup, fragment_for}
use Rattle.mbim_proxy.specs.Known.{Ask, Known, fresh, without_ask}
use Rattle.mbim_proxy.specs.OwnReplies.{OwnReply, Closes, Configures, Subscribes, is_open_request, is_command_fragment, own_reply}

abbrev pub whole_body : Joining → List ℕ
whole_body (Whole body) = body
whole_body _ = []

-- the body of the command that the message completes
abbrev pub command_with : Setup → Known → (message : List ℕ) → List ℕ
command_with s known m = whole_body (joining_behind s.longest_body known.begun m)

abbrev pub ask_of : Setup → Known → (message : List ℕ) → Ask
ask_of s known m = record {
  place = known.sent + 1;
  number = number_of m;
  uuid = uuid_of (command_with s known m);
  cid = cid_of (command_with s known m);
}

-- what a message changes, whatever comes of it
abbrev pub with_message : Setup → (message : List ℕ) → Known → Known
with_message s m known = record known {
  sent = known.sent + 1;
  begun = if is_command_fragment m then assembled_after s.longest_body known.begun m else known.begun;
  fragment = if is_open_request m then fragment_for s (u32_at m 12) else known.fragment;
}

-- what a reply changes that the client's own view decides
abbrev pub with_reply : OwnReply → Known → Known
with_reply Closes known = record known { opened = false }
with_reply (Configures command) known = record known { configured = true }
with_reply (Subscribes command list) known = record known { list = list }
with_reply _ known = known

-- what the verdict on a message changes; the first is what was told before the message
abbrev pub with_verdict : Setup → (before : Known) → (message : List ℕ) → Verdict → Known → Known
with_verdict s before m Own known = with_reply (own_reply s before m) known
with_verdict s before m Ready known = record known { opened = true }
with_verdict s before m Waits known = record known { waits = Some (number_of m) }
with_verdict s before m Forward known = record known { asks = ask_of s before m ∷ known.asks }
with_verdict s before m _ known = known

abbrev pub step : Setup → Known → Entry → Known
step s known (Said m verdict) = with_verdict s known m verdict (with_message s m known)
step s known (Response place m) = record known { asks = without_ask place known.asks }
step s known (Refused place cause) = record known { asks = without_ask place known.asks }
step s known (OpenedWith status) = record known { waits = None; opened = status == SUCCESS }
step s known Shut = record known { opened = false }
step s known _ = known

-- what entries tell
abbrev pub known_from : Setup → List Entry → Known
known_from s entries = told_by (fresh s) (step s) entries

-- ---- of a connection ----

-- a message without its number
abbrev pub blank : List ℕ → List ℕ
blank m = with_number 0 m

abbrev pub view_of : (conn : ℕ) → List Fact → List Entry
view_of c past = view blank c past

abbrev pub known_now : Setup → (conn : ℕ) → List Fact → Known
known_now s c past = known_from s (view_of c past)
