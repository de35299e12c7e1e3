-- Commands in turn, and one more behind them.
use Rattle.std.proofs.Common.{◌≡◌, ℕ, ◌<◌, ◌+◌, List, [], ◌∷◌, ◌++◌, Option, Some, None, length, map, take, slice_index_or, sym, ◌∙◌, ap}
use Rattle.std.specs.Prelude.{filter_map, option_map}
use Rattle.std.proofs.lemmas.List.{append-nil, map-append, take_more}
use Rattle.std.proofs.lemmas.List.Elements.{filter_map-append}
use Rattle.tool_words.specs.Commands.{CommandLine}
use Rattle.transparency.specs.Lines.{Named, named_view}
use Rattle.transparency.specs.Tools.{plain_request, plain_requests}
use Rattle.transparency.specs.declared.lines.NamedRequest.{NamedRequest}

module _ {C R : Type 0} (line : C → CommandLine R) (commands : List C) (i : ℕ) (c : C) (lt : i < length commands) (at : c ≡ slice_index_or commands i c) where
  one_more : plain_requests line (take (i + 1) commands) ≡ plain_requests line (take i commands) ++ filter_map (plain_request line) (c ∷ [])
  unfolding plain_requests
  one_more =
      ap (filter_map (plain_request line)) (take_more commands i c lt ∙ ap (λ (x : C). take i commands ++ x ∷ []) (sym at))
      ∙ filter_map-append (plain_request line) (take i commands) (c ∷ [])

  -- it has a value
  pub passes : (requests : List (NamedRequest R)) → map named_view requests ≡ plain_requests line (take i commands) → (line c).request None ≡ None
      → map named_view requests ≡ plain_requests line (take (i + 1) commands)
  passes requests so_far is =
      so_far ∙ sym (append-nil _)
      ∙ ap (λ (r : Option R). plain_requests line (take i commands) ++ filter_map (λ (r : Option R). option_map (λ asked. record { option = (line c).spelling.name; asked = asked }) r) (r ∷ [])) (sym is)
      ∙ sym one_more

  -- it has none
  pub adds : (requests : List (NamedRequest R)) (named : NamedRequest R) → map named_view requests ≡ plain_requests line (take i commands) → (line c).request None ≡ Some named.request
      → named.option.now ≡ (line c).spelling.name → map named_view (requests ++ named ∷ []) ≡ plain_requests line (take (i + 1) commands)
  adds requests named so_far is name =
      map-append named_view requests (named ∷ [])
      ∙ ap (λ (l : List (Named R)). l ++ named_view named ∷ []) so_far
      ∙ ap (λ (option : List ℕ). plain_requests line (take i commands) ++ (record (named_view named) { option = option }) ∷ []) name
      ∙ ap (λ (r : Option R). plain_requests line (take i commands) ++ filter_map (λ (r : Option R). option_map (λ asked. record { option = (line c).spelling.name; asked = asked }) r) (r ∷ [])) (sym is)
      ∙ sym one_more
