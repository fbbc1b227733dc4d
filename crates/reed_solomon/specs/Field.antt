-- GF(128): a symbol is a polynomial in α of degree below 7 over the bits, bit 6 standing for α^6, with α^7 = α^3 + 1.
-- A sum is bitwise, bit_xor.
use Rattle.std.specs.Prelude.{ℕ, zero, suc, ◌*◌, ◌/◌, ◌%◌, bit_xor}

-- α times a symbol: each power moves up by one, and α^7 comes back as α^3 + 1
unfoldable pub alpha : ℕ → ℕ
alpha a = bit_xor (a % 64 * 2) (a / 64 % 2 * 9)

-- α^k times a symbol
unfoldable pub raised : ℕ → ℕ → ℕ
raised zero a = a
raised (suc k) a = alpha (raised k a)

-- the sum of α^i times b over the lowest n powers α^i that stand in a
unfoldable pub times_low : ℕ → ℕ → ℕ → ℕ
times_low zero a b = 0
times_low (suc n) a b = bit_xor (a % 2 * b) (times_low n (a / 2) (alpha b))

-- the product of two symbols
unfoldable pub times : ℕ → ℕ → ℕ
times a b = times_low 7 a b
