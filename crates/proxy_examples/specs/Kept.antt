-- Examples of client ids whose holders went, and that the proxy itself releases after a minute.
use Rattle.std.specs.Prelude.{◌≡◌, ℕ, List, [], ◌∷◌, ◌++◌, codes, map, Some, None}
use Rattle.kit_bytes.specs.Hex.{hex}
use Rattle.proxy_history.specs.Events.{Event, Piece, Left, ModemPiece, Now}
use Rattle.proxy_history.specs.Facts.{Fact}
use Rattle.proxy_history.specs.Requests.{in_use, pending}
use Rattle.proxy_history.specs.ClientIds.{holder, kept}
use Rattle.qmi_proxy.specs.Setup.{Setup}
use Rattle.qmi_proxy.specs.History as proxy
use Rattle.proxy_examples.specs.Story.{setup, opened, allocate, id_5, get_model, model_refused, both_open}

abbrev pub releasing : Setup
releasing = record setup { release = Some 60000 }

abbrev pub history : List Event → List Fact
history events = proxy.history releasing events

abbrev pub to_modem : List Event → List ℕ
to_modem events = proxy.to_modem releasing events

abbrev pub bytes_for : ℕ → List Event → List ℕ
bytes_for c events = (proxy.text_for releasing c events).bytes

-- the proxy's own Release of DMS id 5 under the number 2, and the modem's answers to it that tell success and error 7
abbrev pub own_release : List ℕ
own_release = hex (codes "01 10 00 00 00 00 00 02 23 00 05 00 01 02 00 02 05")

abbrev pub released : List ℕ
released = hex (codes "01 12 00 80 00 00 01 02 23 00 07 00 02 04 00 00 00 00 00")

abbrev pub not_released : List ℕ
not_released = hex (codes "01 12 00 80 00 00 01 02 23 00 07 00 02 04 00 01 00 07 00")

-- client 1 gets DMS id 5, and goes at 1,000
abbrev pub holder_goes : List Event → List Event
holder_goes story = both_open (Piece 1 allocate ∷ ModemPiece id_5 ∷ Now 1000 ∷ Left 1 ∷ story)

pub record KeptForItsTime : Type 0 where
  pub before : to_modem (holder_goes (Now 60999 ∷ [])) ≡ allocate
  pub after : to_modem (holder_goes (Now 61000 ∷ [])) ≡ allocate ++ own_release
  -- without a time it is kept for ever
  pub never : proxy.to_modem setup (holder_goes (Now 1000000 ∷ [])) ≡ allocate

-- the proxy is the holder until its request is answered, whatever the answer says
abbrev pub answered : List ℕ → List Event
answered answer = holder_goes (Now 61000 ∷ Piece 2 get_model ∷ ModemPiece answer ∷ Piece 2 get_model ∷ [])

pub record ProxyHoldsMeanwhile : Type 0 where
  pub second : bytes_for 2 (answered released) ≡ opened ++ model_refused
  pub modem : to_modem (answered released) ≡ allocate ++ own_release ++ get_model
  pub anyhow : to_modem (answered not_released) ≡ allocate ++ own_release ++ get_model

-- an id that another client adopted is kept no more
abbrev pub adopted : List Event
adopted = holder_goes (Now 60999 ∷ Piece 2 get_model ∷ Now 61000 ∷ [])

pub record AdoptedIsNotReleased : Type 0 where
  pub modem : to_modem adopted ≡ allocate ++ get_model
  pub kept : kept (history adopted) ≡ []

-- no answer comes: nobody holds the id, and the number stays in use
abbrev pub unanswered : List Event
unanswered = holder_goes (Now 61000 ∷ Now 91000 ∷ [])

pub record ExpiresAsAnyOther : Type 0 where
  pub holder : holder 2 5 (history unanswered) ≡ None
  pub waits : pending (history unanswered) ≡ []
  pub used : map (λ r. r.number) (in_use (history unanswered)) ≡ 2 ∷ []
