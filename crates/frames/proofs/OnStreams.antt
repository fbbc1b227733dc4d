-- What is decided of a stream's first cells is what is decided of all. Assumes nothing.
use Rattle.std.proofs.Common.{◌≡◌, ℕ, zero, suc, ◌+◌, ◌*◌, ◌/◌, ◌≤◌, Bool, List, [], ◌∷◌, ◌++◌, length, take, Ok, Err, Result, refl, sym, ap, ◌∙◌, subst, mul-suc, mul-zero, length-append, take-add, ℤ, lit≤, arith}
use Rattle.std.proofs.lemmas.Int.{ints}
use Rattle.std.proofs.lemmas.List.{drop_at, length-take-le, take-take, take_all, take_at}
use Rattle.codes.specs.Mending.{Within}
use Rattle.codes.specs.Symbols.{differing, Below128}
use Rattle.bits.specs.Bits.{cut}
use Rattle.modes.specs.Modes.{tis_count}
use Rattle.modes.specs.declared.mode.TisConstellation.{TisConstellation}
use Rattle.modes.specs.declared.mode.TisConstellation.TheVariants.{Qam4, Qam16}
use Rattle.lineup.specs.Stated.{coding_of, stated_tis}
use Rattle.lineup.specs.declared.mode.Mode.{Mode}
use Rattle.streams.specs.Records.{with_check}
use Rattle.streams.specs.Tis.{tis_fields}
use Rattle.modes.specs.declared.station.Tis.{Tis}
use Rattle.modem.specs.TisStream.{tis_message, tis_order}
use Rattle.modes.specs.Modes.{data_number}
use Rattle.modes.specs.declared.mode.DataConstellation.{DataConstellation}
use Rattle.modes.specs.declared.mode.DataConstellation.TheVariants.{Qam4 as DataQam4, Qam16 as DataQam16, Qam64 as DataQam64}
use Rattle.lineup.specs.LineUps.{data_words}
use Rattle.frames.specs.Frames.{data_order}
use Rattle.cells.specs.Cells.{Steady, apart, cell_bits}
use Rattle.cells.specs.Mapping.{decided_bits, Moved}
use Rattle.cells.specs.declared.cell.Cell.{Cell}
use Rattle.streams.specs.declared.records.BadRecord.{BadRecord}
use Rattle.modem.specs.Carrying.{cells_of, message_of, symbols_of}
use Rattle.modem.specs.Reading.{ReadsBack, StreamAnswer, wrong_symbols}
use Rattle.modem.specs.declared.carrying.Reading.{Reading}
use Rattle.modem.specs.declared.fault.StreamFault.{StreamFault}
use Rattle.modem.specs.declared.fault.StreamFault.TheVariants.{Reach, Record}
use Rattle.lineup.specs.Layouts.{kind_count}
use Rattle.lineup.specs.declared.kind.CellKind.{CellKind}
use Rattle.frames.specs.Laying.{cells_in, picked}
use Rattle.frames.proofs.OnPlans.{length_cells, length_picked}
use Rattle.modem.proofs.Carries.{cut_front, symbols_near}

module _ (decided : Cell → List Bool) (width : ℕ) (sized : (x : Cell) → length (decided x) ≡ width) where
  pub length-decided : (cells : List Cell) → length (decided_bits decided cells) ≡ width * length cells
  length-decided [] = rw mul-zero
  length-decided (x ∷ cells) = rw (length-append, sized, length-decided cells) (omega (arith, mul-suc width (length cells)))

  -- what is decided of the first cells is what comes first of what is decided
  pub decided_front : (c : ℕ) (xs : List Cell) → take (width * c) (decided_bits decided xs) ≡ decided_bits decided (take c xs)
  decided_front zero xs = rw (mul-zero width) refl
  decided_front (suc c) [] = take_all (width * suc c) [] (omega arith)
  decided_front (suc c) (x ∷ xs) =
      let more : width * suc c ≡ width + width * c = omega (arith, mul-suc width c) in
      let rest = decided_bits decided xs in
      rw (more, take-add width (width * c) (decided x ++ rest), take_at (decided x) rest width (sized x), drop_at (decided x) rest width (sized x), decided_front c xs) refl

  pub same_bits : (c : ℕ) (xs ys : List Cell) → take c xs ≡ take c ys → take (width * c) (decided_bits decided xs) ≡ take (width * c) (decided_bits decided ys)
  same_bits c xs ys e = decided_front c xs ∙ ap (decided_bits decided) e ∙ sym (decided_front c ys)

  -- cells that begin with the same cells, enough for the symbols, are decided for the same symbols
  pub same_symbols : (n c : ℕ) (xs ys : List Cell) → n * 7 ≤ width * c → take c xs ≡ take c ys → symbols_of decided n xs ≡ symbols_of decided n ys
  same_symbols n c xs ys room e =
      sym (cut_front 7 n (width * c) (decided_bits decided xs) room) ∙ ap (cut 7 n) (same_bits c xs ys e) ∙ cut_front 7 n (width * c) (decided_bits decided ys) room

  -- the cells of a kind that a plan's numbers begin with
  pub first_symbols : (n count : ℕ) (kind : CellKind) (plan : List CellKind) (numbers : List ℤ) (xs ys : List Cell) → length numbers ≡ 2 * length plan → n * 7 ≤ width * count → count ≤ kind_count kind plan →
      xs ≡ take count (picked kind plan (cells_in numbers)) ++ ys → symbols_of decided n xs ≡ symbols_of decided n (picked kind plan (cells_in numbers))
  first_symbols n count kind plan numbers xs ys size room few e =
      let all = picked kind plan (cells_in numbers) in
      let long = length_picked kind plan (cells_in numbers) (length_cells (length plan) numbers size) in
      ap (symbols_of decided n) e
      ∙ same_symbols n count (take count all ++ ys) all room (take_at (take count all) ys count (length-take-le count all (omega arith)))

  -- as many bits as the first cells have
  pub bits_front : (m count : ℕ) (xs : List Cell) → m ≤ width * count → take m (decided_bits decided (take count xs)) ≡ take m (decided_bits decided xs)
  bits_front m count xs room = ap (take m) (sym (decided_front count xs)) ∙ take-take m (width * count) (decided_bits decided xs) room

-- an answer is about the symbols that are decided
pub answer_of : (k n : ℕ) (word : List ℕ → List ℕ) (reach : ℕ) (decided : Cell → List Bool) {R : Type 0} (record_bits : R → List Bool) (read_bits : List Bool → Result R BadRecord) (xs ys : List Cell) (r : Result (Reading R) StreamFault) →
    symbols_of decided n xs ≡ symbols_of decided n ys → StreamAnswer k n word reach decided record_bits read_bits xs r → StreamAnswer k n word reach decided record_bits read_bits ys r
answer_of k n word reach decided record_bits read_bits xs ys (Ok got) same w = subst (λ s. Within (λ (x : ℕ). x) k word reach s (message_of k (record_bits got.stated)) got.mended) same w
answer_of k n word reach decided record_bits read_bits xs ys (Err (Reach f)) same none =
    λ m e w. none m e (subst (λ s. Within (λ (x : ℕ). x) k word reach s m e) (sym same) w)
answer_of k n word reach decided record_bits read_bits xs ys (Err (Record f)) same found =
    (found.0, found.1, subst (λ s. Within (λ (x : ℕ). x) k word reach s found.0 found.1) same found.2, found.3)

-- cells that are as they were sent
none_apart : (a : ℤ) → apart a a ≤ 255
none_apart a = omega (arith, ints)

pub still : (xs : List Cell) → Moved xs xs
still [] = tt
still (x ∷ xs) = ((none_apart x.real, none_apart x.imaginary), still xs)

-- are decided for the word's symbols
pub sent_symbols : (point : List Bool → Cell) (decided : Cell → List Bool) (width count n : ℕ) (word : List ℕ) → Steady point width decided → length word ≡ n → Below128 (λ (x : ℕ). x) word → n * 7 ≤ width * count →
    symbols_of decided n (cells_of point width count word) ≡ word
sent_symbols point decided width count n word steady size below room =
    symbols_near point decided width count n word (cells_of point width count word) steady size below room (still (cells_of point width count word))

-- what is read back by some cells is heard by others that the same symbols are decided from
pub heard : (k n : ℕ) (word : List ℕ → List ℕ) (reach : ℕ) (decided : Cell → List Bool) {R : Type 0} (record_bits : R → List Bool) (read_bits : List Bool → Result R BadRecord) (point : List Bool → Cell) (width count : ℕ) (xs ys : List Cell) (r : Result (Reading R) StreamFault) →
    symbols_of decided n xs ≡ symbols_of decided n ys → ReadsBack k n word reach decided record_bits read_bits point width count xs r → (sent : R) (near : List Cell) →
    symbols_of decided n near ≡ symbols_of decided n (cells_of point width count (word (message_of k (record_bits sent)))) → wrong_symbols decided n near ys ≤ reach →
    r ≡ Ok (record { stated = sent; mended = wrong_symbols decided n near ys })
heard k n word reach decided record_bits read_bits point width count xs ys r same back sent near alike few =
    let cells = cells_of point width count (word (message_of k (record_bits sent))) in
    let wrong : wrong_symbols decided n cells xs ≡ wrong_symbols decided n near ys = ap (λ a. differing (λ (x : ℕ). x) a (symbols_of decided n xs)) (sym alike) ∙ ap (differing (λ (x : ℕ). x) (symbols_of decided n near)) same in
    back sent cells (still cells) (rw wrong few) ∙ ap (λ e. Ok (record { stated = sent; mended = e })) wrong

-- the word of the TIS has room on its cells
pub tis_room : (c : TisConstellation) → 29 * 7 ≤ cell_bits (tis_order c) * tis_count c
tis_room Qam4 = lit≤ tt
tis_room Qam16 = lit≤ tt

pub tis_more_room : (c : TisConstellation) → 29 * 7 ≤ cell_bits (tis_order c) * 102
tis_more_room Qam4 = lit≤ tt
tis_more_room Qam16 = lit≤ tt

-- a TIS that states the mode's data coding has the message of the mode and its station
fields_stated : (t : Tis) (m : Mode) → t.coding ≡ coding_of m → tis_fields t ≡ tis_fields (stated_tis m t.station)
unfolding tis_fields
fields_stated t m e = rw e refl

pub message_stated : (t : Tis) (m : Mode) → t.coding ≡ coding_of m → tis_message t ≡ tis_message (stated_tis m t.station)
message_stated t m e = ap (λ f. message_of 9 (with_check f)) (fields_stated t m e)

-- each data word has two bits in a cell
pub word_bits : (d : DataConstellation) → cell_bits (data_order d) ≡ 2 * data_words (data_number d)
word_bits DataQam4 = refl
word_bits DataQam16 = refl
word_bits DataQam64 = refl

-- so that the words fill half as many cells as one has bits
pub words_fit : (d : DataConstellation) (n half : ℕ) → 2 * half ≡ n → data_words (data_number d) * n ≤ cell_bits (data_order d) * half
words_fit DataQam4 n half e = omega arith
words_fit DataQam16 n half e = omega arith
words_fit DataQam64 n half e = omega arith

pub words_enough : (d : DataConstellation) (n cells : ℕ) → 2 * (n / 2) ≡ n → n / 2 ≤ cells → data_words (data_number d) * n ≤ cell_bits (data_order d) * cells
words_enough DataQam4 n cells e h = omega arith
words_enough DataQam16 n cells e h = omega arith
words_enough DataQam64 n cells e h = omega arith
