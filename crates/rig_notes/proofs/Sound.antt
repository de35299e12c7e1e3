-- Where events may come, no client takes more than waits for it. A list of events has the newest first.
use Rattle.std.proofs.Common.{ℕ, List, [], ◌∷◌}
use Rattle.proxy_history.specs.Events.{Event, Joined, Piece, Left, ModemPiece, ModemGone, ModemBack, Now, Took, ModemTook}
use Rattle.proxy_history.specs.Facts.{Fact}
use Rattle.proxy_history.specs.Coming.{AreSound}
use Rattle.proxy_history.specs.Lawful.{proxy_of}
use Rattle.proxy_history.specs.Protocol.{Protocol}
use Rattle.rig_notes.proofs.Fitting.{TakesWhatWaits}

pub takes_what_waits : {Known : Type 0} (p : Protocol Known) (own : List Fact → ℕ) (events : List Event) → AreSound p events → TakesWhatWaits (proxy_of p own) events
takes_what_waits p own [] sound = tt
takes_what_waits p own (Joined c ∷ events) sound = takes_what_waits p own events sound.1
takes_what_waits p own (Piece c bytes ∷ events) sound = takes_what_waits p own events sound.1
takes_what_waits p own (Left c ∷ events) sound = takes_what_waits p own events sound.1
takes_what_waits p own (ModemPiece bytes ∷ events) sound = takes_what_waits p own events sound.1
takes_what_waits p own (ModemGone ∷ events) sound = takes_what_waits p own events sound.1
takes_what_waits p own (ModemBack ∷ events) sound = takes_what_waits p own events sound.1
takes_what_waits p own (Now time ∷ events) sound = takes_what_waits p own events sound.1
takes_what_waits p own (Took c count ∷ events) sound = (sound.0, takes_what_waits p own events sound.1)
takes_what_waits p own (ModemTook count ∷ events) sound = takes_what_waits p own events sound.1
