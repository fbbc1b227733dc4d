-- Laws of the bits of a packet: the fields of its header, and the zeros behind it.
use Rattle.std.proofs.Common.{◌≡◌, ℕ, zero, suc, ◌*◌, ◌<◌, ◌≤◌, Bool, true, false, eqb, List, [], ◌∷◌, ◌++◌, length, get_or, take, drop, replicate, sym, refl, ap, ◌∙◌, arith, take-add}
use Rattle.std.proofs.lemmas.List.{drop_more, length-append}
use Rattle.std.proofs.lemmas.Bool.{and_parts, eqb-true, leb-true, ltb-true}
use Rattle.bits.specs.Bits.{◌⊕◌, AllBelow, bits_of, number_of}
use Rattle.bits.proofs.Bits.{field_bits, length-bits_of, length-spread, number_of-bits_of}
use Rattle.packets.specs.declared.reading.Fields.{Fields}
use Rattle.packets.specs.Packets.{Content, Fits, all_zero, fields_in, has_room, header_bits, packet_bits, packet_length, stated}

pub length-header_bits : (c : Content) → length (header_bits c) ≡ 32
unfolding header_bits bits_of
length-header_bits c = refl

pub length-packet_bits : (c : Content) → length (packet_bits c) ≡ packet_length c * 8
unfolding packet_bits
length-packet_bits c =
    simp (length-append, length-header_bits, length-spread, length-bits_of) (omega arith)

-- the fields of a content's header
abbrev pub fields_of : Content → ℕ → ℕ → Fields
fields_of c total id =
    record { total = total; header = record { toggle = c.toggle; last = c.last; id = id }; first = eqb c.id 0; indicator = false; reserved = 0 }

pub fields_of_lem : (c : Content) (rest : List Bool) → packet_length c < 4096 → c.id < 1024 → fields_in (header_bits c ++ rest) ≡ fields_of c (packet_length c) c.id
unfolding header_bits bits_of number_of fields_in
fields_of_lem c rest short small =
    ap (λ n. fields_of c n (number_of (bits_of 10 c.id))) (number_of-bits_of 12 (packet_length c) short) ∙
    ap (λ n. fields_of c (packet_length c) n) (number_of-bits_of 10 c.id small)

-- fields that are right are those of the content that they state
pub fields_back : (f : Fields) (block : List ℕ) (n : ℕ) → f.total ≡ n → f.first ≡ eqb f.header.id 0 → f.indicator ≡ false → f.reserved ≡ 0 →
    f ≡ fields_of (stated f block) n f.header.id
fields_back f block n total first indicator reserved =
    let made : ℕ → Bool → Bool → ℕ → Fields =
    λ t a i r. record { total = t; header = f.header; first = a; indicator = i; reserved = r } in
    ap (λ t. made t f.first f.indicator f.reserved) total ∙
    (ap (λ a. made n a f.indicator f.reserved) first ∙
    (ap (λ i. made n (eqb f.header.id 0) i f.reserved) indicator ∙ ap (λ r. made n (eqb f.header.id 0) false r) reserved))

one_zero : false ∷ [] ≡ bits_of 1 0
unfolding bits_of
one_zero = refl

-- bits with the fields of a content begin with its header
pub header_back : (bits : List Bool) (c : Content) → 32 ≤ length bits → fields_in bits ≡ fields_of c (packet_length c) c.id → header_bits c ≡ take 32 bits
unfolding header_bits fields_in
header_back bits c h e =
    let front : bits_of 12 (packet_length c) ≡ take 12 bits = ap (λ f. bits_of 12 f.total) (sym e) ∙ field_bits 0 12 bits (omega arith) in
    let ident : bits_of 10 c.id ≡ take 10 (drop 15 bits) = ap (λ f. bits_of 10 f.header.id) (sym e) ∙ field_bits 15 10 bits (omega arith) in
    let zeros : bits_of 6 0 ≡ take 6 (drop 26 bits) = ap (λ f. bits_of 6 f.reserved) (sym e) ∙ field_bits 26 6 bits (omega arith) in
    let three : get_or bits 12 false ∷ get_or bits 13 false ∷ get_or bits 14 false ∷ [] ≡ take 3 (drop 12 bits) =
    rw (drop_more bits 12 false (omega arith), drop_more bits 13 false (omega arith), drop_more bits 14 false (omega arith)) in
    let flags : c.toggle ∷ eqb c.id 0 ∷ c.last ∷ [] ≡ take 3 (drop 12 bits) =
    ap (λ f. f.header.toggle ∷ f.first ∷ f.header.last ∷ []) (sym e) ∙ three in
    let one : get_or bits 25 false ∷ [] ≡ take 1 (drop 25 bits) = rw (drop_more bits 25 false (omega arith)) in
    let mark : bits_of 1 0 ≡ take 1 (drop 25 bits) = sym one_zero ∙ (ap (λ f. f.indicator ∷ []) (sym e) ∙ one) in
    let to15 : take 15 bits ≡ take 12 bits ++ take 3 (drop 12 bits) = take-add 12 3 bits in
    let to25 : take 25 bits ≡ take 15 bits ++ take 10 (drop 15 bits) = take-add 15 10 bits in
    let to26 : take 26 bits ≡ take 25 bits ++ take 1 (drop 25 bits) = take-add 25 1 bits in
    let to32 : take 32 bits ≡ take 26 bits ++ take 6 (drop 26 bits) = take-add 26 6 bits in
    cc

pub same_bits : (a b : Bool) → a ⊕ b ≡ false → a ≡ b
same_bits true true e = refl
same_bits true false e = e
same_bits false true e = sym e
same_bits false false e = refl

pub sum_self : (a : Bool) → a ⊕ a ≡ false
sum_self true = refl
sum_self false = refl

pub zeros_from : (xs : List ℕ) → all_zero xs ≡ true → xs ≡ replicate (length xs) 0
zeros_from [] e = refl
zeros_from (x ∷ xs) e =
    let parts = and_parts (eqb x 0) (all_zero xs) e in
    let first = eqb-true x 0 parts.0 in
    let rest = zeros_from xs parts.1 in
    cc

pub zeros_all : (n : ℕ) → all_zero (replicate n 0) ≡ true
zeros_all zero = refl
zeros_all (suc n) = zeros_all n

pub fits_from : (size : ℕ) (c : Content) → has_room size c.id (length c.bytes) ≡ true → AllBelow 256 c.bytes → Fits size c
fits_from size c e octets =
    let a = and_parts _ _ e in
    let b = and_parts _ _ a.1 in
    let d = and_parts _ _ b.1 in
    let f = and_parts _ _ d.1 in
    record {
      least = leb-true _ _ a.0;
      most = leb-true _ _ b.0;
      numbered = ltb-true _ _ d.0;
      some = leb-true _ _ f.0;
      within = leb-true _ _ f.1;
      octets = octets;
    }
