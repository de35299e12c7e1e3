-- Lists of bytes, each a number.
use Rattle.std.proofs.Common.{◌≡◌, ℕ, suc, ◌%◌, ◌<◌, List, [], ◌∷◌, ◌++◌, length, map, refl, arith}
use Rattle.std.proofs.lemmas.Bool.{lt-ltb}
use Rattle.std.proofs.lemmas.List.{length-map}
use Rattle.std.specs.Prelude.{IsTrue}
use Rattle.std.specs.List.{flat_map, list_all}
use Rattle.std.specs.Cmp.Derive.{both_true}
use Rattle.framing.specs.Framing.{AreBytes}
use Rattle.kit_bytes.specs.Numbers.{number_bytes}
use Rattle.qmi_shapes.specs.declared.shape.Prefix.TheVariants.{Counted}
use Rattle.qmi_shapes.specs.Form.{unsigned, array}
use Rattle.qmi_values.specs.Value.{number, elements, list_of, values_of}
use Rattle.qmi_values.proofs.Spellings.{list_of-values_of}
use Rattle.tlv_values.specs.Spelling.{unsigned_fits, fits, spelling}

each-fits : (bytes : List ℕ) → AreBytes bytes → IsTrue (list_all (fits (unsigned 1)) (map number bytes))
each-fits [] are = refl
each-fits (byte ∷ bytes) are = both_true (lt-ltb byte 256 (are 0)) (each-fits bytes (λ at. are (suc at)))

pub bytes-fit : (size : ℕ) (bytes : List ℕ) → AreBytes bytes → IsTrue (unsigned_fits size (length bytes)) → IsTrue (fits (array (Counted size) (unsigned 1)) (elements (values_of (map number bytes))))
bytes-fit size bytes are count =
    let all : list_of (values_of (map number bytes)) ≡ map number bytes = list_of-values_of (map number bytes) in
    rw (all, length-map bytes number) (both_true count (each-fits bytes are))

each-spelled : (bytes : List ℕ) → AreBytes bytes → flat_map (spelling (unsigned 1)) (map number bytes) ≡ bytes
each-spelled [] are = refl
each-spelled (byte ∷ bytes) are =
    let low : byte % 256 ≡ byte = let small : byte < 256 = are 0 in omega arith in
    rw (low, each-spelled bytes (λ at. are (suc at))) refl

pub bytes-spelled : (size : ℕ) (bytes : List ℕ) → AreBytes bytes → spelling (array (Counted size) (unsigned 1)) (elements (values_of (map number bytes))) ≡ number_bytes size (length bytes) ++ bytes
bytes-spelled size bytes are =
    let all : list_of (values_of (map number bytes)) ≡ map number bytes = list_of-values_of (map number bytes) in
    rw (all, length-map bytes number, each-spelled bytes are) refl
