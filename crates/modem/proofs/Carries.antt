-- A record, its message, a word and its cells, and back. Assumes nothing.
use Rattle.std.proofs.Common.{◌≡◌, ℕ, zero, suc, ◌+◌, ◌-◌, ◌*◌, ◌≤◌, Bool, List, [], length, take, drop, sym, refl, ap, ◌∙◌, suc-mul, arith}
use Rattle.std.proofs.lemmas.List.{append-nil, length-take, take_all, take-take, drop-take}
use Rattle.codes.specs.Symbols.{Below128}
use Rattle.cells.specs.Cells.{Steady}
use Rattle.cells.specs.Mapping.{Moved, decided_bits}
use Rattle.cells.specs.declared.cell.Cell.{Cell}
use Rattle.cells.proofs.Streams.{steady_stream}
use Rattle.bits.specs.Bits.{cut, spread}
use Rattle.bits.specs.Scrambling.{scrambled}
use Rattle.bits.proofs.Bits.{length-spread, spread_cut, cut-spread_128}
use Rattle.bits.proofs.Sequences.{scrambled-scrambled, length-scrambled}
use Rattle.modem.specs.Carrying.{message_of, record_of, cells_of, symbols_of}

-- only the bits that are cut count
pub cut_front : (w n m : ℕ) (bs : List Bool) → n * w ≤ m → cut w n (take m bs) ≡ cut w n bs
unfolding cut
cut_front w zero m bs h = refl
cut_front w (suc n) m bs h =
    let more : suc n * w ≡ n * w + w = suc-mul n w in
    let le : w ≤ m = omega arith in
    let e : m ≡ w + (m - w) = omega arith in
    let tail : drop w (take m bs) ≡ take (m - w) (drop w bs) = ap (λ (k : ℕ). drop w (take k bs)) e ∙ drop-take w (m - w) bs in
    rw (take-take w m bs le, tail, cut_front w n (m - w) (drop w bs) (omega arith))

pub cut_taken : (n m : ℕ) (bits all : List Bool) → bits ≡ take m all → length bits ≡ n * 7 → cut 7 n bits ≡ cut 7 n all
cut_taken n m bits all e size =
    let le : n * 7 ≤ m = omega (arith, length-take m all, ap length e) in
    ap (cut 7 n) e ∙ cut_front 7 n m all le

-- a record comes back from its message
pub record_back : (k : ℕ) (bits : List Bool) → length bits ≡ k * 7 → record_of (message_of k bits) ≡ bits
record_back k bits h =
    let size = length-scrambled 0 bits in
    ap (scrambled 0) (spread_cut 7 k (scrambled 0 bits) (omega arith) ∙ take_all (k * 7) (scrambled 0 bits) (omega arith))
    ∙ scrambled-scrambled 0 bits

-- and a message from its record
pub message_back : (k : ℕ) (m : List ℕ) → length m ≡ k → Below128 (λ (x : ℕ). x) m → message_of k (record_of m) ≡ m
message_back k m size below =
    let all : cut 7 (length m) (spread 7 m) ≡ m = rw append-nil at (cut-spread_128 m [] below) in
    ap (cut 7 k) (scrambled-scrambled 0 (spread 7 m)) ∙ ap (λ (n : ℕ). cut 7 n (spread 7 m)) (sym size) ∙ all

-- cells of a word, moved by at most 255 units on each axis, are decided for its symbols
pub symbols_near : (point : List Bool → Cell) (decided : Cell → List Bool) (width count n : ℕ) (word : List ℕ) (near : List Cell) →
    Steady point width decided → length word ≡ n → Below128 (λ (x : ℕ). x) word → n * 7 ≤ width * count →
    Moved (cells_of point width count word) near → symbols_of decided n near ≡ word
symbols_near point decided width count n word near steady size below room moved =
    let bits = length-spread 7 word in
    let fits : length (spread 7 word) ≤ width * count = rw (bits, size) room in
    let same : take (length (spread 7 word)) (decided_bits decided near) ≡ spread 7 word = steady_stream point width decided steady count (spread 7 word) near fits moved in
    let back : cut 7 (length word) (spread 7 word) ≡ word = rw append-nil at (cut-spread_128 word [] below) in
    let front : cut 7 n (take (length (spread 7 word)) (decided_bits decided near)) ≡ cut 7 n (decided_bits decided near) = cut_front 7 n (length (spread 7 word)) (decided_bits decided near) (rw (bits, size) (omega arith)) in
    sym front ∙ ap (cut 7 n) same ∙ ap (λ (k : ℕ). cut 7 k (spread 7 word)) (sym size) ∙ back
