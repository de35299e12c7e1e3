-- The digits of a few numbers.
use Rattle.std.proofs.Common.{◌≡◌, codes, decimal, arith}
use Rattle.std.proofs.lemmas.Fmt.{decimal-digits_of}

pub of_2 : decimal 2 ≡ codes "2"
of_2 = decimal-digits_of 2 (omega arith) (omega arith)

pub of_127 : decimal 127 ≡ codes "127"
of_127 = decimal-digits_of 127 (omega arith) (omega arith)

pub of_128 : decimal 128 ≡ codes "128"
of_128 = decimal-digits_of 128 (omega arith) (omega arith)

pub of_byte : decimal 255 ≡ codes "255"
of_byte = decimal-digits_of 255 (omega arith) (omega arith)

pub of_two_bytes : decimal 65535 ≡ codes "65535"
of_two_bytes = decimal-digits_of 65535 (omega arith) (omega arith)
