use Rattle.std.proofs.Common.{◌≡◌, ℕ, ◌+◌, ◌/◌, ◌%◌, ◌<◌, Bool, true, false, List, [], ◌∷◌, ◌++◌, refl, sym, ap, ap₂, ◌∙◌, arith, encode_utf8_all, if◌then◌else◌}
use Rattle.std.specs.Prelude.{nat_lt}
use Rattle.std.proofs.lemmas.Str.{encodes_same, encode_ascii}
use Rattle.sim_mbim.specs.BasicConnect.{digit, two_digits, three_digits, network_digits}
use Rattle.sim_mbim.proofs.network.provider_id.Goals as goal

ascii-more : (char : ℕ) (chars : List ℕ) → char < 128 → encode_utf8_all chars ≡ chars → encode_utf8_all (char ∷ chars) ≡ char ∷ chars
ascii-more char chars below is = ap (λ bytes. bytes ++ encode_utf8_all chars) (encode_ascii char below) ∙ ap (λ l. char ∷ l) is

digit-more : (unit n : ℕ) (chars : List ℕ) → encode_utf8_all chars ≡ chars → encode_utf8_all (digit unit n ∷ chars) ≡ digit unit n ∷ chars
digit-more unit n chars is = ascii-more (digit unit n) chars (omega arith) is

network-ascii : (three : Bool) (n : ℕ) → encode_utf8_all (if three then three_digits n else two_digits n) ≡ (if three then three_digits n else two_digits n)
network-ascii true n = digit-more 100 n _ (digit-more 10 n _ (digit-more 1 n [] refl))
network-ascii false n = digit-more 10 n _ (digit-more 1 n [] refl)

pub returns : goal.returns
returns c =
    let country : ℕ = c.args.profile.now.mcc in
    let network : ℕ = c.args.profile.now.mnc in
    let spelled : encode_utf8_all c.from.result ≡ three_digits country ++ network_digits network =
    c.from.ensures ∙ c.in_ok-push_network.ensures ∙ ap (λ (l : List ℕ). l ++ network_digits c.mnc.result) (c.in_ok-push_three.ensures ∙ ap (λ (l : List ℕ). l ++ three_digits c.mcc.result) c.new-id.ensures.bytes)
    ∙ ap₂ (λ (a b : ℕ). three_digits a ++ network_digits b) c.mcc.ensures.same c.mnc.ensures.same in
    encodes_same c.from.result (three_digits country ++ network_digits network) (spelled ∙ sym (digit-more 100 country _ (digit-more 10 country _ (digit-more 1 country _ (network-ascii (nat_lt 99 network) network)))))
