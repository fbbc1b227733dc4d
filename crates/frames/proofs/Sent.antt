-- What is read of a frame that was sent: its streams' cells, symbols and bits. Assumes nothing.
use Rattle.std.proofs.Common.{◌≡◌, ℕ, zero, suc, ◌+◌, ◌*◌, ◌/◌, ◌<◌, ◌≤◌, Bool, true, false, cond, List, [], ◌∷◌, ◌++◌, length, take, drop, refl, sym, ap, ◌∙◌, mul_assoc, mul_comm, mul-zero, mul-suc, suc-mul, zero-mul, arith}
use Rattle.std.proofs.lemmas.List.{drop_at, drop-drop, drop-take, length-append, length-drop, length-take-le, take_at, take-take}
use Rattle.codes.specs.Symbols.{Below128}
use Rattle.bits.specs.Bits.{spread}
use Rattle.bits.specs.Scrambling.{scrambled}
use Rattle.bits.proofs.Bits.{cut-below_128, length-spread, length_cut}
use Rattle.bits.proofs.Sequences.{length-scrambled}
use Rattle.cells.specs.Cells.{Steady, cell_bits}
use Rattle.cells.specs.Mapping.{decided_bits, mapped}
use Rattle.cells.specs.declared.cell.Cell.{Cell}
use Rattle.cells.specs.declared.cell.Order.{Order}
use Rattle.cells.specs.declared.cell.Order.TheVariants.{Four}
use Rattle.cells.proofs.Streams.{steady_stream}
use Rattle.lineup.specs.declared.kind.CellKind.{CellKind}
use Rattle.lineup.specs.declared.kind.CellKind.TheVariants.{Mis, Tis, Data}
use Rattle.lineup.specs.declared.mode.Mode.{Mode}
use Rattle.lineup.specs.Layouts.{Roomy, block_length_of, kind_count, words_of}
use Rattle.lineup.specs.Kinds.{kind_number, plan_bytes}
use Rattle.lineup.specs.Stated.{stated_mis, stated_tis}
use Rattle.modes.specs.Modes.{tis_count}
use Rattle.modes.specs.declared.mode.TisConstellation.{TisConstellation}
use Rattle.modes.specs.declared.mode.TisConstellation.TheVariants.{Qam4 as Tis4, Qam16 as Tis16}
use Rattle.modes.specs.declared.station.Station.{Station}
use Rattle.modem.specs.Carrying.{symbols_of}
use Rattle.modem.specs.MisStream.{mis_cells, mis_message}
use Rattle.modem.specs.TisStream.{tis_cells, tis_message, tis_order}
use Rattle.frames.specs.Frames.{Sending, block_frame, data_bits, data_cells, data_order}
use Rattle.frames.specs.Laying.{cell_for, first, laid, left, of_kind, picked}
use Rattle.frames.specs.Reading.{Mending, data_stream, mis_symbols, tis_symbols}
use Rattle.frames.specs.Words.{coded, part}
use Rattle.frames.proofs.OnPlans.{counted, is_counted}
use Rattle.frames.proofs.OnStreams.{same_bits, same_symbols, sent_symbols, still, tis_more_room, tis_room, word_bits}

-- the first n cells of a stream, (0, 0) where none is left
pub padded : ℕ → List Cell → List Cell
padded zero xs = []
padded (suc n) xs = first xs ∷ padded n (drop 1 xs)

-- one cell of a plan, of the kind or not
one_picked : (b : Bool) (x : Cell) (xs mine : List Cell) (n : ℕ) → (b ≡ true → x ≡ first mine) → xs ≡ padded n (cond b (drop 1 mine) mine) →
    cond b (x ∷ xs) xs ≡ padded (cond b (1 + n) n) mine
unfolding padded
one_picked true x xs mine n here rest = let e : 1 + n ≡ suc n = omega arith in rw (e, here refl, rest) refl
one_picked false x xs mine n here rest = rest

-- the stream of the kind, among the three
module _ (wanted : CellKind) (mine : (m t d : List Cell) → List Cell)
    (here : (kind : CellKind) (m t d : List Cell) → of_kind wanted kind ≡ true → cell_for kind m t d ≡ first (mine m t d))
    (behind : (kind : CellKind) (m t d : List Cell) → mine (left Mis kind m) (left Tis kind t) (left Data kind d) ≡ left wanted kind (mine m t d)) where
  picked_counted : (plan : List CellKind) (m t d : List Cell) → picked wanted plan (laid plan m t d) ≡ padded (counted (kind_number wanted) (plan_bytes plan)) (mine m t d)
  unfolding padded picked laid
  picked_counted [] m t d = refl
  picked_counted (kind ∷ plan) m t d =
      one_picked (of_kind wanted kind) (cell_for kind m t d) (picked wanted plan (laid plan (left Mis kind m) (left Tis kind t) (left Data kind d))) (mine m t d)
      (counted (kind_number wanted) (plan_bytes plan)) (here kind m t d)
      (picked_counted plan (left Mis kind m) (left Tis kind t) (left Data kind d) ∙ ap (padded (counted (kind_number wanted) (plan_bytes plan))) (behind kind m t d))

  picked_laid : (plan : List CellKind) (m t d : List Cell) → picked wanted plan (laid plan m t d) ≡ padded (kind_count wanted plan) (mine m t d)
  picked_laid plan m t d = picked_counted plan m t d ∙ ap (λ n. padded n (mine m t d)) (is_counted wanted plan)

mis_here : (kind : CellKind) (m t d : List Cell) → of_kind Mis kind ≡ true → cell_for kind m t d ≡ first m
mis_here Mis m t d e = refl
mis_here kind m t d e = cc

tis_here : (kind : CellKind) (m t d : List Cell) → of_kind Tis kind ≡ true → cell_for kind m t d ≡ first t
tis_here Tis m t d e = refl
tis_here kind m t d e = cc

data_here : (kind : CellKind) (m t d : List Cell) → of_kind Data kind ≡ true → cell_for kind m t d ≡ first d
data_here Data m t d e = refl
data_here kind m t d e = cc

-- of cells that were laid, those of a stream are its own, and (0, 0) behind them
pub picked_mis : (plan : List CellKind) (m t d : List Cell) → picked Mis plan (laid plan m t d) ≡ padded (kind_count Mis plan) m
picked_mis = picked_laid Mis (λ m t d. m) mis_here (λ kind m t d. refl)

pub picked_tis : (plan : List CellKind) (m t d : List Cell) → picked Tis plan (laid plan m t d) ≡ padded (kind_count Tis plan) t
picked_tis = picked_laid Tis (λ m t d. t) tis_here (λ kind m t d. refl)

pub picked_data : (plan : List CellKind) (m t d : List Cell) → picked Data plan (laid plan m t d) ≡ padded (kind_count Data plan) d
picked_data = picked_laid Data (λ m t d. d) data_here (λ kind m t d. refl)

-- the first cells are the stream's own
pub padded_front : (c n : ℕ) (xs : List Cell) → c ≤ n → c ≤ length xs → take c (padded n xs) ≡ take c xs
unfolding padded
padded_front zero n xs h k = refl
padded_front (suc c) zero xs h k = absurd (omega arith)
padded_front (suc c) (suc n) [] h k = absurd (omega arith)
padded_front (suc c) (suc n) (x ∷ xs) h k = ap (λ l. x ∷ l) (padded_front c n xs (omega arith) (omega arith))

pub cells_mapped : (point : List Bool → Cell) (width count : ℕ) (bits : List Bool) → length (mapped point width count bits) ≡ count
unfolding mapped
cells_mapped point width zero bits = refl
cells_mapped point width (suc count) bits = ap suc (cells_mapped point width count (drop width bits))

-- the first part of bits, and a later one
pub part_first : (w : ℕ) (bits : List Bool) → part w 0 bits ≡ take w bits
part_first w bits = rw (mul-zero w) refl

pub part_next : (w i : ℕ) (bits : List Bool) → part w (suc i) bits ≡ part w i (drop w bits)
part_next w i bits = ap (take w) (ap (λ m. drop m bits) (omega (arith, mul-suc w i)) ∙ sym (drop-drop (w * i) w bits))

-- a part of the first bits
pub part_front : (n count i : ℕ) (bits : List Bool) → i < count → part n i (take (count * n) bits) ≡ part n i bits
part_front n zero i bits h = absurd (omega arith)
part_front n (suc count) zero bits h =
    let more : suc count * n ≡ count * n + n = suc-mul count n in
    part_first n (take (suc count * n) bits) ∙ take-take n (suc count * n) bits (omega arith) ∙ sym (part_first n bits)
part_front n (suc count) (suc i) bits h =
    let more : suc count * n ≡ n + count * n = omega (arith, suc-mul count n) in
    part_next n i (take (suc count * n) bits)
    ∙ ap (part n i) (ap (λ m. drop n (take m bits)) more ∙ drop-take n (count * n) bits)
    ∙ part_front n count i (drop n bits) (omega arith)
    ∙ sym (part_next n i bits)

module _ (word : List Bool → List Bool) (k n : ℕ) (sized : (x : List Bool) → length x ≡ k → length (word x) ≡ n) where
  word_size : (count : ℕ) (messages : List Bool) → length messages ≡ suc count * k → length (word (take k messages)) ≡ n
  word_size count messages e =
      let more : suc count * k ≡ count * k + k = suc-mul count k in
      sized (take k messages) (length-take-le k messages (omega arith))

  left_size : (count : ℕ) (messages : List Bool) → length messages ≡ suc count * k → length (drop k messages) ≡ count * k
  left_size count messages e =
      let more : suc count * k ≡ count * k + k = suc-mul count k in
      length-drop k messages ∙ omega arith

  pub length-coded : (count : ℕ) (messages : List Bool) → length messages ≡ count * k → length (coded word k count messages) ≡ count * n
  unfolding coded
  length-coded zero messages e = sym (zero-mul n)
  length-coded (suc count) messages e =
      omega (
        arith,
        suc-mul count n,
        length-append (word (take k messages)) (coded word k count (drop k messages)),
        word_size count messages e,
        length-coded count (drop k messages) (left_size count messages e),
      )

  -- a part of data words is the word of that part of the messages
  pub coded_part : (count i : ℕ) (messages : List Bool) → i < count → length messages ≡ count * k → part n i (coded word k count messages) ≡ word (part k i messages)
  unfolding coded
  coded_part zero i messages h e = absurd (omega arith)
  coded_part (suc count) zero messages h e =
      let first = word (take k messages) in
      let rest = coded word k count (drop k messages) in
      part_first n (first ++ rest) ∙ take_at first rest n (word_size count messages e) ∙ ap word (sym (part_first k messages))
  coded_part (suc count) (suc i) messages h e =
      let first = word (take k messages) in
      let rest = coded word k count (drop k messages) in
      part_next n i (first ++ rest) ∙ ap (part n i) (drop_at first rest n (word_size count messages e))
      ∙ coded_part count i (drop k messages) (omega arith) (left_size count messages e)
      ∙ ap word (sym (part_next k i messages))

-- what is known of the code and the constellation of a stream of symbols
pub record StreamKnown (k n : ℕ) (word : List ℕ → List ℕ) (point : Order → List Bool → Cell) (decided : Order → Cell → List Bool) : Type 0 where
  pub sized : (x : List ℕ) → length x ≡ k → length (word x) ≡ n
  pub below : (x : List ℕ) → length x ≡ k → Below128 (λ (y : ℕ). y) x → Below128 (λ (y : ℕ). y) (word x)
  pub bits : (o : Order) (x : Cell) → length (decided o x) ≡ cell_bits o
  pub steady : (o : Order) → Steady (point o) (cell_bits o) (decided o)

-- by what the laws of a code of fixed lengths and of a constellation say
pub stream_known : {k n K N : ℕ} {word : List ℕ → List ℕ} {point : Order → List Bool → Cell} {decided : Order → Cell → List Bool} → K ≡ k → N ≡ n
    → ((x : List ℕ) → length x ≡ K → length (word x) ≡ N) → ((x : List ℕ) → length x ≡ K → Below128 (λ (y : ℕ). y) x → Below128 (λ (y : ℕ). y) (word x))
    → ((o : Order) (x : Cell) → length (decided o x) ≡ cell_bits o) → ((o : Order) → Steady (point o) (cell_bits o) (decided o)) → StreamKnown k n word point decided
stream_known k n sized below bits steady =
    record { sized = λ x h. sized x (h ∙ sym k) ∙ n; below = λ x h l. below x (h ∙ sym k) l; bits = bits; steady = steady }

-- and of those of the data
pub record DataKnown (k n : ℕ) (word : List Bool → List Bool) (point : Order → List Bool → Cell) (decided : Order → Cell → List Bool) : Type 0 where
  pub sized : (x : List Bool) → length x ≡ k → length (word x) ≡ n
  pub bits : (o : Order) (x : Cell) → length (decided o x) ≡ cell_bits o
  pub steady : (o : Order) → Steady (point o) (cell_bits o) (decided o)

tis_few : (t : TisConstellation) → tis_count t ≤ 102
tis_few Tis4 = omega arith
tis_few Tis16 = omega arith

-- all cells of half a word's bits have the bits of all words
words_room : (words w n : ℕ) → w ≡ 2 * words → 2 * (n / 2) ≡ n → w * (n / 2) ≡ words * n
words_room words w n e even = rw (e, mul_comm 2 words) (mul_assoc words 2 (n / 2) ∙ ap (λ i. words * i) even)

module _ (s : Sending) (m : Mending) (plan : List CellKind) (mode : Mode) (station : Station) (block : List ℕ) where
  abbrev sent_mis : List Cell
  sent_mis = mis_cells s.mis_word (s.mis_point Four) (stated_mis mode)

  abbrev sent_tis : List Cell
  sent_tis = tis_cells s.tis_word s.tis_point mode.tis (stated_tis mode station)

  abbrev sent_data : List Cell
  sent_data = data_cells s mode block

  abbrev frame : List Cell
  frame = block_frame s plan mode station block

  -- the symbols of the MIS are those of its cells, which are its word
  module _ (known : StreamKnown 2 4 s.mis_word s.mis_point m.mis_decided) where
    pub mis_sent : 14 ≤ kind_count Mis plan → mis_symbols m plan mode frame ≡ symbols_of (m.mis_decided Four) 4 sent_mis
    mis_sent room =
        ap (symbols_of (m.mis_decided Four) 4) (picked_mis plan sent_mis sent_tis sent_data)
        ∙ same_symbols (m.mis_decided Four) 2 (known.bits Four) 4 14 (padded (kind_count Mis plan) sent_mis) sent_mis (omega arith)
        (padded_front 14 (kind_count Mis plan) sent_mis room (omega (arith, cells_mapped (s.mis_point Four) 2 14 (spread 7 (s.mis_word (mis_message (stated_mis mode)))))))

    pub mis_word_sent : 14 ≤ kind_count Mis plan → mis_symbols m plan mode frame ≡ s.mis_word (mis_message (stated_mis mode))
    mis_word_sent room =
        let message = mis_message (stated_mis mode) in
        let size : length message ≡ 2 = length_cut 7 2 _ in
        mis_sent room ∙ sent_symbols (s.mis_point Four) (m.mis_decided Four) 2 14 4 (s.mis_word message) (known.steady Four)
        (known.sized message size) (known.below message size (cut-below_128 2 _)) (omega arith)

  -- and so are those of the TIS
  module _ (known : StreamKnown 9 29 s.tis_word s.tis_point m.tis_decided) where
    pub tis_sent : tis_count mode.tis ≤ kind_count Tis plan → tis_symbols m plan mode frame ≡ symbols_of (m.tis_decided (tis_order mode.tis)) 29 sent_tis
    tis_sent room =
        let o = tis_order mode.tis in
        let c = tis_count mode.tis in
        let size = cells_mapped (s.tis_point o) (cell_bits o) 102 (spread 7 (s.tis_word (tis_message (stated_tis mode station)))) in
        ap (symbols_of (m.tis_decided o) 29) (picked_tis plan sent_mis sent_tis sent_data)
        ∙ same_symbols (m.tis_decided o) (cell_bits o) (known.bits o) 29 c (padded (kind_count Tis plan) sent_tis) sent_tis (tis_room mode.tis)
        (padded_front c (kind_count Tis plan) sent_tis room (omega (arith, size, tis_few mode.tis)))

    pub tis_word_sent : tis_count mode.tis ≤ kind_count Tis plan → tis_symbols m plan mode frame ≡ s.tis_word (tis_message (stated_tis mode station))
    tis_word_sent room =
        let o = tis_order mode.tis in
        let message = tis_message (stated_tis mode station) in
        let size : length message ≡ 9 = length_cut 7 9 _ in
        tis_sent room ∙ sent_symbols (s.tis_point o) (m.tis_decided o) (cell_bits o) 102 29 (s.tis_word message) (known.steady o)
        (known.sized message size) (known.below message size (cut-below_128 9 _)) (tis_more_room mode.tis)

  module _ (known : DataKnown s.k s.n s.data_word s.data_point m.data_decided) (roomy : Roomy mode plan s.k s.n) (size : length block ≡ block_length_of mode s.k) where
    -- the messages of the data words
    pub message_bits : length (scrambled 0 (spread 8 block)) ≡ words_of mode * s.k
    message_bits = omega (arith, length-scrambled 0 (spread 8 block), length-spread 8 block, roomy.octets)

    coded_bits : length (data_bits s mode block) ≡ words_of mode * s.n
    coded_bits = length-coded s.data_word s.k s.n known.sized (words_of mode) (scrambled 0 (spread 8 block)) message_bits

    -- the first bits of the data are those of the words
    pub data_sent : take (words_of mode * s.n) (data_stream m plan mode frame) ≡ data_bits s mode block
    data_sent =
        let o = data_order mode.«data» in
        let c = s.n / 2 in
        let bits = data_bits s mode block in
        let room : cell_bits o * c ≡ words_of mode * s.n = words_room (words_of mode) (cell_bits o) s.n (word_bits mode.«data») roomy.pairs in
        let count = cells_mapped (s.data_point o) (cell_bits o) c bits in
        let front = padded_front c (kind_count Data plan) sent_data roomy.«data» (omega (arith, count)) in
        let same = same_bits (m.data_decided o) (cell_bits o) (known.bits o) c (padded (kind_count Data plan) sent_data) sent_data front in
        let steady = steady_stream (s.data_point o) (cell_bits o) (m.data_decided o) (known.steady o) c bits sent_data (omega (arith, coded_bits, room)) (still sent_data) in
        let all : take (words_of mode * s.n) (decided_bits (m.data_decided o) sent_data) ≡ bits = rw coded_bits at steady in
        ap (λ l. take (words_of mode * s.n) (decided_bits (m.data_decided o) l)) (picked_data plan sent_mis sent_tis sent_data)
        ∙ rw room at same ∙ all

    -- and each of their parts is a word
    pub part_sent : (i : ℕ) → i < words_of mode → part s.n i (data_stream m plan mode frame) ≡ part s.n i (data_bits s mode block)
    part_sent i h = sym (part_front s.n (words_of mode) i (data_stream m plan mode frame) h) ∙ ap (part s.n i) data_sent

    pub word_sent : (i : ℕ) → i < words_of mode → part s.n i (data_stream m plan mode frame) ≡ s.data_word (part s.k i (scrambled 0 (spread 8 block)))
    word_sent i h = part_sent i h ∙ coded_part s.data_word s.k s.n known.sized (words_of mode) i (scrambled 0 (spread 8 block)) h message_bits
