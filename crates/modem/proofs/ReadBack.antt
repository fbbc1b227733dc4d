-- What reading a stream answers is what was sent. Assumes nothing.
use Rattle.std.proofs.Common.{◌≡◌, ℕ, ◌*◌, ◌<◌, ◌≤◌, Bool, List, length, Ok, Err, Result, sym, refl, ap, ◌∙◌, subst}
use Rattle.codes.specs.Symbols.{differing, Below128}
use Rattle.codes.specs.Mending.{Within}
use Rattle.codes.specs.declared.words.BeyondReach.{BeyondReach}
use Rattle.codes.proofs.Mends.{one_within}
use Rattle.cells.specs.Cells.{Steady}
use Rattle.cells.specs.Mapping.{Moved, decided_bits}
use Rattle.cells.specs.declared.cell.Cell.{Cell}
use Rattle.bits.specs.Scrambling.{scrambled}
use Rattle.streams.specs.declared.records.BadRecord.{BadRecord}
use Rattle.bits.proofs.Bits.{length_cut, cut-below_128}
use Rattle.modem.specs.Carrying.{ToldApart, message_of, record_of, cells_of, symbols_of}
use Rattle.modem.specs.Reading.{RecordMended, StreamWithin, StreamAnswer, ReadsBack, wrong_symbols}
use Rattle.modem.specs.declared.carrying.Reading.{Reading}
use Rattle.modem.specs.declared.fault.StreamFault.{StreamFault}
use Rattle.modem.specs.declared.fault.StreamFault.TheVariants.{Reach, Record}
use Rattle.streams.specs.Records.{ReadsBits}
use Rattle.modem.proofs.Carries.{record_back, message_back, symbols_near}

-- the symbols given, by the code's own length
pub given_symbols : (decided : Cell → List Bool) (n l : ℕ) (given : List ℕ) (cells : List Cell) → given ≡ symbols_of decided l cells → length given ≡ n → given ≡ symbols_of decided n cells
given_symbols decided n l given cells e size =
    let same : l ≡ n = sym (length_cut 7 l (decided_bits decided cells)) ∙ ap length (sym e) ∙ size in
    e ∙ ap (λ i. symbols_of decided i cells) same

-- a message within reach, by another name for the symbols given
pub within_given : (word : List ℕ → List ℕ) (reach k : ℕ) (given named m : List ℕ) (e : ℕ) → given ≡ named →
    Within (λ (x : ℕ). x) k word reach named m e → Within (λ (x : ℕ). x) k word reach given m e
within_given word reach k given named m e same w = rw same w

-- a code's lengths by other names
pub mended_sizes : (k k' n n' : ℕ) (word : List ℕ → List ℕ) (reach : ℕ) (decided : Cell → List Bool) (cells : List Cell) (before after : List ℕ) (bits_before bits_after : List Bool) (r : Result ℕ BeyondReach) →
    k ≡ k' → n ≡ n' → RecordMended k n word reach decided cells before after bits_before bits_after r → RecordMended k' n' word reach decided cells before after bits_before bits_after r
mended_sizes k k' n n' word reach decided cells before after bits_before bits_after r p q h =
    subst (λ (i : ℕ). RecordMended i n' word reach decided cells before after bits_before bits_after r) p
    (subst (λ (i : ℕ). RecordMended k i word reach decided cells before after bits_before bits_after r) q h)

-- the message that was mended is that of what its record states
pub stated_within : (k n : ℕ) (word : List ℕ → List ℕ) (reach : ℕ) (decided : Cell → List Bool) {R : Type 0} (record_bits : R → List Bool) (cells : List Cell) (m : List ℕ) (bits : List Bool) (e : ℕ) (r : R) →
    bits ≡ record_bits r → bits ≡ record_of m → StreamWithin k n word reach decided cells m e → StreamWithin k n word reach decided cells (message_of k (record_bits r)) e
stated_within k n word reach decided record_bits cells m bits e r is of w =
    let same : message_of k (record_bits r) ≡ m = ap (message_of k) (sym is ∙ of) ∙ message_back k m w.size w.below in
    rw same w

Ok-one : {R : Type 0} (x y : R) → ◌≡◌ {A = Result R BadRecord} (Ok x) (Ok y) → x ≡ y
Ok-one x y e = cc

-- a stream's records: as long as the message's symbols
module _ (k : ℕ) {R : Type 0} (record_bits : R → List Bool) (record-size : (r : R) → length (record_bits r) ≡ k * 7) where
  message_size_lem : (r : R) → length (message_of k (record_bits r)) ≡ k
  message_size_lem r = length_cut 7 k (scrambled 0 (record_bits r))

  message-below : (r : R) → Below128 (λ (x : ℕ). x) (message_of k (record_bits r))
  message-below r = cut-below_128 k (scrambled 0 (record_bits r))

  -- the record of a message that is also another record's is that record
  one_record : (m : List ℕ) (r : R) → m ≡ message_of k (record_bits r) → record_of m ≡ record_bits r
  one_record m r e = ap record_of e ∙ record_back k (record_bits r) (record-size r)

  -- records that tell apart what is stated are told apart by words
  pub told_apart : (word : List ℕ → List ℕ) (distance : ℕ)
      → ((m o : List ℕ) → length m ≡ k → length o ≡ k → Below128 (λ (x : ℕ). x) m → Below128 (λ (x : ℕ). x) o → differing (λ (x : ℕ). x) (word m) (word o) < distance → m ≡ o)
      → (sent : R) → ((other : R) → record_bits other ≡ record_bits sent → other ≡ sent) → ToldApart record_bits k word distance sent
  told_apart word distance distant sent only other few =
      let same = distant (message_of k (record_bits sent)) (message_of k (record_bits other)) (message_size_lem sent) (message_size_lem other) (message-below sent) (message-below other) few in
      only other (sym (one_record (message_of k (record_bits other)) other refl) ∙ one_record (message_of k (record_bits other)) sent (sym same))

-- what is found on the way to an answer
module _ (k n : ℕ) (word : List ℕ → List ℕ) (reach : ℕ) (decided : Cell → List Bool) {R : Type 0} (record_bits : R → List Bool) (read_bits : List Bool → Result R BadRecord) where
  abbrev pub Found : List Cell → Result (Reading R) StreamFault → Type 0
  Found cells (Ok got) = (m : List ℕ) × StreamWithin k n word reach decided cells m got.mended × ReadsBits record_bits (record_of m) (Ok got.stated)
  Found cells (Err (Reach f)) = (m : List ℕ) (e : ℕ) → StreamWithin k n word reach decided cells m e → ⊥
  Found cells (Err (Record f)) =
      (m : List ℕ) × (e : ℕ) × StreamWithin k n word reach decided cells m e × (read_bits (record_of m) ≡ Err f) × ReadsBits record_bits (record_of m) (Err f)

module _ (k n : ℕ) (word : List ℕ → List ℕ) (distance reach : ℕ) (point : List Bool → Cell) (decided : Cell → List Bool) (width : ℕ)
    {R : Type 0} (record_bits : R → List Bool) (read_bits : List Bool → Result R BadRecord)
    (record-size : (r : R) → length (record_bits r) ≡ k * 7)
    (sized : (m : List ℕ) → length m ≡ k → length (word m) ≡ n)
    (below : (m : List ℕ) → length m ≡ k → Below128 (λ (x : ℕ). x) m → Below128 (λ (x : ℕ). x) (word m))
    (distant : (m o : List ℕ) → length m ≡ k → length o ≡ k → Below128 (λ (x : ℕ). x) m → Below128 (λ (x : ℕ). x) o → differing (λ (x : ℕ). x) (word m) (word o) < distance → m ≡ o)
    (unique : 2 * reach < distance)
    (steady : Steady point width decided) where
  -- what was sent is within reach
  sent_within : (count : ℕ) → n * 7 ≤ width * count → (sent : R) (near cells : List Cell) → Moved (cells_of point width count (word (message_of k (record_bits sent)))) near
      → wrong_symbols decided n near cells ≤ reach
      → StreamWithin k n word reach decided cells (message_of k (record_bits sent)) (wrong_symbols decided n near cells)
  sent_within count room sent near cells moved close =
      let m = message_of k (record_bits sent) in
      let same : symbols_of decided n near ≡ word m =
      symbols_near point decided width count n (word m) near steady (sized m (message_size_lem k record_bits record-size sent)) (below m (message_size_lem k record_bits record-size sent) (message-below k record_bits record-size sent)) room moved in
      record {
        size = message_size_lem k record_bits record-size sent;
        below = message-below k record_bits record-size sent;
        places = ap (λ l. differing (λ (x : ℕ). x) l (symbols_of decided n cells)) (sym same);
        near = close;
      }

  only : (cells : List Cell) (m o : List ℕ) (e f : ℕ) → StreamWithin k n word reach decided cells m e → StreamWithin k n word reach decided cells o f → m ≡ o
  only cells m o e f =
      one_within (λ (x : ℕ). x) k n distance reach word sized distant unique (symbols_of decided n cells) m o e f (length_cut 7 n (decided_bits decided cells))

  module _ (cells : List Cell) (count : ℕ) (room : n * 7 ≤ width * count) where
    -- where no word is within reach nothing was sent
    none_sent : (f : BeyondReach) → ((m : List ℕ) (e : ℕ) → StreamWithin k n word reach decided cells m e → ⊥)
        → ReadsBack k n word reach decided record_bits read_bits point width count cells (Err (Reach f))
    none_sent f none sent near moved close = absurd (none (message_of k (record_bits sent)) _ (sent_within count room sent near cells moved close))

    -- the message within reach is the one that was sent, and its record is read as what was sent
    module _ (m : List ℕ) (e : ℕ) (got : StreamWithin k n word reach decided cells m e) (r : Result R BadRecord) (exactly : ReadsBits record_bits (record_of m) r) where
      read_as_sent : (sent : R) (near : List Cell) → Moved (cells_of point width count (word (message_of k (record_bits sent)))) near
          → wrong_symbols decided n near cells ≤ reach → (r ≡ Ok sent) × (e ≡ wrong_symbols decided n near cells)
      read_as_sent sent near moved close =
          let w = sent_within count room sent near cells moved close in
          let same = only cells m (message_of k (record_bits sent)) e _ got w in (
            (exactly sent).1 (one_record k record_bits record-size m sent same),
            sym got.places ∙ ap (λ l. differing (λ (x : ℕ). x) (word l) (symbols_of decided n cells)) same ∙ w.places,
          )

    good_sent : (m : List ℕ) (e : ℕ) → StreamWithin k n word reach decided cells m e → (x : R) → ReadsBits record_bits (record_of m) (Ok x)
        → ReadsBack k n word reach decided record_bits read_bits point width count cells (Ok (record { stated = x; mended = e }))
    good_sent m e got x exactly sent near moved close =
        let both = read_as_sent m e got (Ok x) exactly sent near moved close in
        let same : x ≡ sent = Ok-one x sent both.0 in
        ap (λ y. Ok (record { stated = y; mended = e })) same ∙ ap (λ i. Ok (record { stated = sent; mended = i })) both.1

    bad_sent : (m : List ℕ) (e : ℕ) → StreamWithin k n word reach decided cells m e → (f : BadRecord) → ReadsBits record_bits (record_of m) (Err f)
        → ReadsBack k n word reach decided record_bits read_bits point width count cells (Err (Record f))
    bad_sent m e got f exactly sent near moved close =
        let both = read_as_sent m e got (Err f) exactly sent near moved close in
        let bad = both.0 in
        cc

  -- an answer by what was found is right, and answers what was sent
  pub right : (cells : List Cell) (answer : Result (Reading R) StreamFault) → Found k n word reach decided record_bits read_bits cells answer
      → StreamAnswer k n word reach decided record_bits read_bits cells answer
      × ((count : ℕ) → n * 7 ≤ width * count → ReadsBack k n word reach decided record_bits read_bits point width count cells answer)
  right cells (Ok got) f = (
    stated_within k n word reach decided record_bits cells f.0 (record_of f.0) got.mended got.stated ((f.2 got.stated).0 refl) refl f.1,
    λ count room. good_sent cells count room f.0 got.mended f.1 got.stated f.2,
  )
  right cells (Err (Reach b)) f = (f, λ count room. none_sent cells count room b f)
  right cells (Err (Record b)) f = ((f.0, f.1, f.2, f.3), λ count room. bad_sent cells count room f.0 f.1 f.2 b f.4)
