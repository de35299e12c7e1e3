-- Examples of a Release: what it frees, and what it leaves.
use Rattle.std.specs.Prelude.{◌≡◌, ℕ, List, [], ◌∷◌, ◌++◌, codes, Some, None}
use Rattle.kit_bytes.specs.Hex.{hex}
use Rattle.proxy_history.specs.Events.{Event, Piece, ModemPiece, Now}
use Rattle.proxy_history.specs.Requests.{numbers_in_use}
use Rattle.proxy_history.specs.ClientIds.{holder}
use Rattle.proxy_examples.specs.Story.{opened, get_model, model_refused, both_open, bytes_for, to_modem, history}
use Rattle.proxy_examples.specs.Answers.{model_aborted}
use Rattle.proxy_examples.specs.ClientIds.{release_5, released}

-- the success of a Release with number 2, and its refusals that tell errors 7 and 4; the modem's own refusal has number 1
abbrev pub released_2 : List ℕ
released_2 = hex (codes "01 17 00 80 00 00 01 02 23 00 0C 00 02 04 00 00 00 00 00 01 02 00 02 05")

abbrev pub modem_refuses : List ℕ
modem_refuses = hex (codes "01 12 00 80 00 00 01 01 23 00 07 00 02 04 00 01 00 07 00")

abbrev pub release_refused : List ℕ
release_refused = hex (codes "01 12 00 80 00 00 01 02 23 00 07 00 02 04 00 01 00 07 00")

abbrev pub release_aborted : List ℕ
release_aborted = hex (codes "01 12 00 80 00 00 01 02 23 00 07 00 02 04 00 01 00 04 00")

-- client 2 gives id 5 back twice; between the two answers client 1 adopts it, and the second answer doesn't take it from client 1
abbrev pub releases_twice : List Event
releases_twice =
    both_open (
    Piece 2 get_model ∷ Piece 2 release_5 ∷ Piece 2 release_5
    ∷ ModemPiece released ∷ Piece 1 get_model ∷ ModemPiece released_2 ∷ [])

pub record SecondReleaseFreesNothing : Type 0 where
  pub holder : holder 2 5 (history releases_twice) ≡ Some 1
  pub second : bytes_for 2 releases_twice ≡ opened ++ released_2 ++ released_2

-- the modem refuses the Release
abbrev pub release_is_refused : List Event
release_is_refused = both_open (Piece 2 get_model ∷ Piece 2 release_5 ∷ ModemPiece modem_refuses ∷ [])

pub record RefusedReleaseFreesNothing : Type 0 where
  pub holder : holder 2 5 (history release_is_refused) ≡ Some 2
  pub second : bytes_for 2 release_is_refused ≡ opened ++ release_refused

-- the answer to the Release comes behind its deadline: it frees its number, and no id
abbrev pub release_is_late : List Event
release_is_late = both_open (Piece 2 get_model ∷ Piece 2 release_5 ∷ Now 30000 ∷ ModemPiece released ∷ [])

pub record LateReleaseFreesNothing : Type 0 where
  pub holder : holder 2 5 (history release_is_late) ≡ Some 2
  pub in_use : numbers_in_use 0 (history release_is_late) ≡ []
  pub second : bytes_for 2 release_is_late ≡ opened ++ release_aborted ++ model_aborted

-- client 1 uses id 6, and the answer to client 2's Release of id 5 names id 6: what was asked for is freed
abbrev pub get_model_of_6 : List ℕ
get_model_of_6 = hex (codes "01 0C 00 00 02 06 00 01 00 22 00 00 00")

abbrev pub released_6 : List ℕ
released_6 = hex (codes "01 17 00 80 00 00 01 01 23 00 0C 00 02 04 00 00 00 00 00 01 02 00 02 06")

abbrev pub another_is_named : List Event
another_is_named = both_open (Piece 1 get_model_of_6 ∷ Piece 2 get_model ∷ Piece 2 release_5 ∷ ModemPiece released_6 ∷ [])

pub record WhatWasAskedIsFreed : Type 0 where
  pub asked : holder 2 5 (history another_is_named) ≡ None
  pub named : holder 2 6 (history another_is_named) ≡ Some 1

-- client 1 releases an id that nobody holds: it is the id's holder until the answer comes
abbrev pub releases_nobodys : List Event
releases_nobodys = both_open (Piece 1 release_5 ∷ Piece 2 get_model ∷ [])

abbrev pub release_5_as_1 : List ℕ
release_5_as_1 = hex (codes "01 10 00 00 00 00 00 01 23 00 05 00 01 02 00 02 05")

pub record ReleasersHoldTheirIds : Type 0 where
  pub holder : holder 2 5 (history releases_nobodys) ≡ Some 1
  pub second : bytes_for 2 releases_nobodys ≡ opened ++ model_refused
  pub modem : to_modem releases_nobodys ≡ release_5_as_1
