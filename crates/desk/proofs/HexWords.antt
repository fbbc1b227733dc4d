-- Words that are not all hexadecimal digits.
use Rattle.std.specs.Prelude.{if◌then◌else◌, Some, None, is_some, nat_le, ◌&&◌, ◌-◌}
use Rattle.std.proofs.Common.{◌≡◌, ℕ, Bool, true, false, ◌||◌, List, [], ◌∷◌, Result, Ok, Err, refl, sym, inl, inr, ◌∙◌}
use Rattle.std.specs.Char.{is_ascii_hexdigit}
use Rattle.std.specs.List.{list_all}
use Rattle.std.proofs.lemmas.List.Sums.{list_all-from_AllPass}
use Rattle.std.proofs.lemmas.Bool.{false≢true}
use Rattle.hex.specs.Hex.{decode_of, is_hex_digit}
use Rattle.hex.specs.declared.error.FromHexError.{FromHexError}
use Rattle.hex.proofs.HexLemmas.{decode_of-err, decode_of-ok}
use Rattle.desk.specs.Loads.{decoded}
use Rattle.desk.specs.declared.trouble.Trouble.TheVariants.{NoNumber}

one_of : (d a b : Bool) (x y z : ℕ) → ((d || a) || b) ≡ is_some (if a then Some x else if b then Some y else if d then Some z else None)
one_of true true b x y z = refl
one_of true false true x y z = refl
one_of true false false x y z = refl
one_of false true b x y z = refl
one_of false false true x y z = refl
one_of false false false x y z = refl

-- the test of a digit is that of the library
digit_test : (c : ℕ) → is_ascii_hexdigit c ≡ is_hex_digit c
digit_test c =
    one_of (nat_le 48 c && nat_le c 57) (nat_le 65 c && nat_le c 70) (nat_le 97 c && nat_le c 102) (c - 55) (c - 87) (c - 48)

digits_test : (s : List ℕ) → list_all is_ascii_hexdigit s ≡ list_all is_hex_digit s
digits_test [] = refl
digits_test (c ∷ s) = rw (digit_test c, digits_test s)

module _ (s : List ℕ) (wrong : list_all is_ascii_hexdigit s ≡ false) where
  told : (r : Result (List ℕ) FromHexError) → decode_of s ≡ r → decoded r ≡ Err NoNumber
  told (Ok bytes) e =
      let all = list_all-from_AllPass is_hex_digit s (decode_of-ok s bytes e).1 in
      absurd (false≢true (sym wrong ∙ digits_test s ∙ all))
  told (Err why) e = elim (decode_of-err s why e) [ inl odd ↦ rw odd.1 refl | inr bad ↦ rw bad.1 refl ]

  pub no_number : decoded (decode_of s) ≡ Err NoNumber
  no_number = told (decode_of s) refl
