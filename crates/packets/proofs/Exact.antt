-- A block is read exactly where it is the block of a packet.
use Rattle.std.proofs.Common.{◌≡◌, ℕ, ◌+◌, ◌-◌, ◌*◌, ◌≤◌, Bool, true, false, eqb, List, ◌++◌, length, take, drop, replicate, Some, None, Option, sym, refl, ap, ◌∙◌, subst, inl, inr, arith, lit<, take-add}
use Rattle.std.proofs.lemmas.List.{append_assoc, drop_at, length-append, length-drop, length-replicate, length-take, length-take-le, take_all, take-append-drop, take_at}
use Rattle.std.proofs.lemmas.Bool.{both_ways, cases_Bool, eq-eqb, eqb-true, le-ltb, ltb-false, not-false, not_from_true, or_from, or_parts}
use Rattle.std.proofs.lemmas.Option.{none-some, same_Some}
use Rattle.bits.specs.Bits.{AllBelow, bits_of, cut, field_at, spread}
use Rattle.bits.specs.Crc.{crc16_of}
use Rattle.bits.proofs.Bits.{cut-spread, cut_below, field_below, field_bits, length-bits_of, length-spread, length_cut, number_of-bits_of, spread_cut}
use Rattle.bits.proofs.ByteLaws.{below-append, below-drop, below-replicate, below-take, drop-spread, same_from_spread, spread-append, take-spread}
use Rattle.bits.proofs.Remainders.{crc_below}
use Rattle.packets.specs.declared.reading.Fields.{Fields}
use Rattle.packets.specs.Packets.{Content, Fits, Reads, all_zero, bad_block, block_of, covered_bits, fields_in, header_bits, is_bad, packet_bits, packet_bytes, packet_in, packet_length, stated, wrong_size}
use Rattle.packets.proofs.BitLaws.{fields_back, fields_of_lem, fields_of, header_back, length-header_bits, length-packet_bits, same_bits, sum_self, zeros_all, zeros_from}

-- none of the conditions that make a block bad
pub record Good (f : Fields) (block : List ℕ) (bits : List Bool) : Type 0 where
  pub least : 7 ≤ f.total
  pub within : f.total ≤ length block
  pub check : field_at (8 * (f.total - 2)) 16 bits ≡ crc16_of (take (8 * (f.total - 2)) bits)
  pub indicator : f.indicator ≡ false
  pub reserved : f.reserved ≡ 0
  pub first : f.first ≡ eqb f.header.id 0
  pub filler : all_zero (drop f.total block) ≡ true

pub good_from : (f : Fields) (block : List ℕ) (bits : List Bool) → bad_block f block bits ≡ false → Good f block bits
unfolding bad_block
good_from f block bits e =
    let size = or_parts _ _ e in
    let bounds = or_parts _ _ size.0 in
    let check = or_parts _ _ size.1 in
    let reserved = or_parts _ _ check.1 in
    let zeros = or_parts _ _ reserved.0 in
    let rest = or_parts _ _ reserved.1 in
    record {
      least = ltb-false _ _ bounds.0;
      within = ltb-false _ _ bounds.1;
      check = eqb-true _ _ (not-false _ check.0);
      indicator = zeros.0;
      reserved = eqb-true _ _ (not-false _ zeros.1);
      first = same_bits _ _ rest.0;
      filler = not-false _ rest.1;
    }

good_not_bad : (f : Fields) (block : List ℕ) (bits : List Bool) → Good f block bits → bad_block f block bits ≡ false
unfolding bad_block
good_not_bad f block bits g =
    or_from _ _ (or_from _ _ (le-ltb _ _ g.least) (le-ltb _ _ g.within))
    (or_from _ _ (not_from_true _ (eq-eqb _ _ g.check))
    (or_from _ _ (or_from _ _ g.indicator (not_from_true _ (eq-eqb _ _ g.reserved)))
    (or_from _ _ (rw g.first (sum_self _)) (not_from_true _ g.filler))))

-- a good block is the block of what it states
module _ (block : List ℕ) (octets : AllBelow 256 block) (g : Good (fields_in (spread 8 block)) block (spread 8 block)) where
  abbrev bits : List Bool
  bits = spread 8 block

  abbrev total : ℕ
  total = (fields_in (spread 8 block)).total

  abbrev content : Content
  content = stated (fields_in (spread 8 block)) block

  long : length bits ≡ length block * 8
  long = length-spread 8 block

  data_length : length content.bytes ≡ total - 6
  data_length = simp (length-take, length-drop) (omega (arith, g.least, g.within))

  whole_length : packet_length content ≡ total
  whole_length = omega (arith, data_length, g.least)

  header : header_bits content ≡ take 32 bits
  header =
      header_back bits content (omega (arith, long, g.least, g.within))
      (fields_back (fields_in bits) block (packet_length content) (sym whole_length) g.first g.indicator g.reserved)

  covered : covered_bits content ≡ take (8 * (total - 2)) bits
  covered =
      let least = g.least in
      let within = g.within in
      let room : total - 6 ≤ length (drop 4 block) = rw length-drop (omega arith) in
      let bytes : spread 8 content.bytes ≡ take ((total - 6) * 8) (drop 32 bits) =
      sym (rw (drop-spread 8 4 32 block (omega arith) refl) (take-spread 8 (total - 6) ((total - 6) * 8) (drop 4 block) room refl)) in
      let end : 8 * (total - 2) ≡ 32 + (total - 6) * 8 = omega arith in
      rw (header, bytes, end) (sym (take-add 32 ((total - 6) * 8) bits))

  packet : packet_bits content ≡ take (total * 8) bits
  unfolding packet_bits
  packet =
      let least = g.least in
      let within = g.within in
      let size = long in
      let end : total * 8 ≡ 8 * (total - 2) + 16 = omega arith in
      rw (covered, ← g.check, field_bits (8 * (total - 2)) 16 bits (omega arith), end) (sym (take-add (8 * (total - 2)) 16 bits))

  pub good_block : block ≡ block_of (length block) content
  unfolding block_of
  good_block =
      let within = g.within in
      let front : length (take total block) ≡ total = length-take-le total block within in
      let bytes : cut 8 total (spread 8 (take total block)) ≡ take total block =
      rw front at (cut-spread 8 (take total block) (below-take 256 total block octets)) in
      let zeros : drop total block ≡ replicate (length block - total) 0 = rw (length-drop total block) at (zeros_from (drop total block) g.filler) in
      rw (whole_length, packet, take-spread 8 total (total * 8) block within refl, bytes, ← zeros) (sym (take-append-drop total block))

  pub good_fits : 7 ≤ length block → length block ≤ 1440 → Fits (length block) content
  unfolding fields_in
  good_fits least most =
      record {
        least = least;
        most = most;
        numbered = field_below 15 10 bits;
        some = omega (arith, data_length, g.least);
        within = omega (arith, data_length, g.least, g.within);
        octets = below-take 256 (total - 6) (drop 4 block) (below-drop 256 4 block octets);
      }

-- what is written is read
module _ (size : ℕ) (c : Content) (fits : Fits size c) where
  abbrev block_made : List ℕ
  block_made = block_of size c

  abbrev count : ℕ
  count = packet_length c

  abbrev zeros-behind : List ℕ
  zeros-behind = replicate (size - packet_length c) 0

  abbrev check_made : ℕ
  check_made = crc16_of (covered_bits c)

  abbrev check_and_zeros : List Bool
  check_and_zeros = bits_of 16 (crc16_of (covered_bits c)) ++ spread 8 (replicate (size - packet_length c) 0)

  block-length : length block_made ≡ size
  unfolding block_of
  block-length = simp (length-append, length_cut, length-replicate) (omega (arith, fits.least, fits.within))

  octets_of : AllBelow 256 block_made
  unfolding block_of
  octets_of = below-append 256 (packet_bytes c) zeros-behind (cut_below 8 count (packet_bits c)) (below-replicate 256 (size - packet_length c) 0 (lit< tt))

  covered_length : length (covered_bits c) ≡ 8 * (count - 2)
  covered_length = simp (length-append, length-header_bits, length-spread) (omega arith)

  block-bits : spread 8 block_made ≡ covered_bits c ++ check_and_zeros
  unfolding block_of packet_bits
  block-bits =
      let long : length (packet_bits c) ≡ count * 8 = length-packet_bits c in
      let whole : spread 8 (packet_bytes c) ≡ packet_bits c =
      spread_cut 8 count (packet_bits c) (omega (arith, long)) ∙ take_all (count * 8) (packet_bits c) (omega (arith, long)) in
      rw (spread-append 8 (packet_bytes c) zeros-behind, whole) (append_assoc (covered_bits c) (bits_of 16 check_made) (spread 8 zeros-behind))

  fields : fields_in (spread 8 block_made) ≡ fields_of c count c.id
  fields =
      rw (block-bits, append_assoc)
      (fields_of_lem c (spread 8 c.bytes ++ check_and_zeros) (omega (arith, fits.within, fits.most)) fits.numbered)

  front : take (8 * (count - 2)) (spread 8 block_made) ≡ covered_bits c
  front = rw block-bits (take_at (covered_bits c) check_and_zeros (8 * (count - 2)) covered_length)

  check : field_at (8 * (count - 2)) 16 (spread 8 block_made) ≡ check_made
  check =
      rw (
        block-bits,
        drop_at (covered_bits c) check_and_zeros (8 * (count - 2)) covered_length,
        take_at (bits_of 16 check_made) (spread 8 zeros-behind) 16 (length-bits_of 16 check_made),
      )
      (number_of-bits_of 16 check_made (crc_below 16 4129 (covered_bits c)))

  filler : drop count block_made ≡ zeros-behind
  unfolding block_of
  filler = drop_at (packet_bytes c) zeros-behind count (length_cut 8 count (packet_bits c))

  good_of : Good (fields_in (spread 8 block_made)) block_made (spread 8 block_made)
  good_of =
      rw fields
      (record {
        least = omega (arith, fits.some);
        within = rw block-length (omega (arith, fits.least, fits.within));
        check = check ∙ ap crc16_of (sym front);
        indicator = refl;
        reserved = refl;
        first = refl;
        filler = ap all_zero filler ∙ zeros_all (size - packet_length c);
      })

  data_of : take (count - 6) (drop 4 block_made) ≡ c.bytes
  data_of =
      let m : count - 6 ≡ length c.bytes = omega arith in
      let room : count - 6 ≤ length (drop 4 block_made) = rw (length-drop 4 block_made, block-length) (omega (arith, fits.least, fits.within)) in
      let four : 4 ≤ length block_made = rw block-length (omega (arith, fits.least)) in
      let part = take (count - 6) (drop 4 block_made) in
      let left : spread 8 part ≡ take ((count - 6) * 8) (drop 32 (spread 8 block_made)) =
      sym (rw (drop-spread 8 4 32 block_made four refl) (take-spread 8 (count - 6) ((count - 6) * 8) (drop 4 block_made) room refl)) in
      let right : take ((count - 6) * 8) (drop 32 (spread 8 block_made)) ≡ spread 8 c.bytes =
      rw (block-bits, append_assoc, drop_at (header_bits c) (spread 8 c.bytes ++ check_and_zeros) 32 (length-header_bits c))
      (take_at (spread 8 c.bytes) check_and_zeros ((count - 6) * 8) (length-spread 8 c.bytes ∙ ap (λ n. n * 8) (sym m))) in
      same_from_spread 8 part c.bytes (below-take 256 (count - 6) (drop 4 block_made) (below-drop 256 4 block_made octets_of)) fits.octets
      (length-take-le (count - 6) (drop 4 block_made) room ∙ m) (left ∙ right)

  same-content : stated (fields_in (spread 8 block_made)) block_made ≡ c
  same-content = rw fields (ap (λ (l : List ℕ). record { toggle = c.toggle; last = c.last; id = c.id; bytes = l }) data_of)

  right_size : wrong_size (length block_made) ≡ false
  right_size = rw block-length (or_from _ _ (le-ltb _ _ fits.least) (le-ltb _ _ fits.most))

  pub written_read : packet_in block_made ≡ Some c
  unfolding packet_in
  written_read =
      let good : is_bad block_made ≡ false = or_from _ _ right_size (good_not_bad _ _ _ good_of) in
      rw good (ap Some same-content)

-- a block that is bad holds nothing
pub bad_none : (block : List ℕ) → is_bad block ≡ true → packet_in block ≡ None
unfolding packet_in
bad_none block e = rw e

pub good_some : (block : List ℕ) → is_bad block ≡ false → packet_in block ≡ Some (stated (fields_in (spread 8 block)) block)
unfolding packet_in
good_some block e = rw e

-- a block of a size that no block has is read right
pub size_reads : (block : List ℕ) → wrong_size (length block) ≡ true → Reads block None
size_reads block e c = (
  λ s. absurd (none-some c s),
  λ fits same. absurd (both_ways _ (or_from _ _ (le-ltb _ _ fits.least) (le-ltb _ _ fits.most)) e),
)

-- a block is read exactly where it is the block of a packet
pub exact : (block : List ℕ) → AllBelow 256 block → wrong_size (length block) ≡ false → Reads block (packet_in block)
exact block octets size c =
    let bounds = or_parts _ _ size in
    let least : 7 ≤ length block = ltb-false _ _ bounds.0 in
    let most : length block ≤ 1440 = ltb-false _ _ bounds.1 in (
      λ e.
          elim (cases_Bool (is_bad block)) [
            | inl bad ↦ absurd (none-some c (sym (bad_none block bad) ∙ e))
            | inr good ↦
                let g = good_from _ _ _ (or_parts _ _ good).1 in
                let same = same_Some (stated (fields_in (spread 8 block)) block) c (sym (good_some block good) ∙ e) in (
                  subst (λ d. Fits (length block) d) same (good_fits block octets g least most),
                  subst (λ d. block ≡ block_of (length block) d) same (good_block block octets g),
                )
          ],
      λ fits same. subst (λ b. packet_in b ≡ Some c) (sym same) (written_read (length block) c fits),
    )

pub reads_from : (block : List ℕ) (answer : Option Content) → AllBelow 256 block → wrong_size (length block) ≡ false → answer ≡ packet_in block → Reads block answer
reads_from block answer octets size e = subst (Reads block) (sym e) (exact block octets size)
