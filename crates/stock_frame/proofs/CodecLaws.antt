-- Both round trips, once for every format: reading a written frame gives the message, writing a read message gives the bytes.
use Prim.Native.Nat.{ℕ, ◌+◌, ◌^◌, ◌≤◌, ◌<◌}
use mathlib.Core.Path.{◌≡◌, refl, sym, ◌∙◌}
use mathlib.Core.Bool.{Bool, true}
use mathlib.Core.List.{List, [], ◌∷◌, ◌++◌}
use native.Mathlib.Omega.{arith}
use lib.ListN.{length, get_or}
use lib.Dec.{eqb, ltb, lit<}
use borrow.Author.Tests.{ltb-true, lt-ltb, le-leb, eq-eqb, eqb-true}
use Rattle.digits.specs.Tests.{all_of}
use Rattle.digits.proofs.Bools.{and_right, no_false}
use Rattle.digits.proofs.TestLaws.{holds, all, ◌also◌, together}
use Rattle.layout.specs.Cells.{size, good_cells, fits, encode}
use Rattle.frame.specs.Codec as common
use Rattle.frame.proofs.CodecLaws as laws
use Rattle.stock_frame.specs.Outline.{header, own, body, kind_values, kind_cells}
use Rattle.stock_frame.specs.Format.{Format, values_of, ranged, around}
use Rattle.stock_frame.specs.Codec.{Codec, legal_tests, legal, frame_of}
pub use Rattle.stock_frame.specs.Reads.{Reads}
use Rattle.stock_frame.specs.Reads.{Bodied}
use Rattle.stock_frame.proofs.OutlineLaws.{header-law}
use Rattle.stock_frame.proofs.FormatLaws.{range-bounds}

-- what a format has to show: a message that has its shape and the numbers that it stands for tell each other
pub record Lawful {M : Type 0} (C : Codec M) (Shaped : M → Type 0) : Type 0 where
  pub low : 14 ≤ C.form.least
  pub high : C.form.most ≤ 1024
  pub number_fits : C.form.number < 100
  pub version-fits : C.form.version < 100
  pub cells_told : (m : M) → Shaped m → fits (C.cells m) (C.values m) ≡ true → C.form.cells (encode (C.cells m) (C.values m)) ≡ C.cells m
  pub message-values : (m : M) → Shaped m → legal C m ≡ true → C.message (C.seq m) (C.values m) ≡ m
  pub seq-message : (n : ℕ) (vs : List ℕ) → C.seq (C.message n vs) ≡ n
  pub cells-message : (n : ℕ) (b : List ℕ) → Bodied C.form b → C.cells (C.message n (values_of C.form b)) ≡ C.form.cells b
  pub values-message : (n : ℕ) (b : List ℕ) → Bodied C.form b → C.values (C.message n (values_of C.form b)) ≡ values_of C.form b
  pub tidy-message : (n : ℕ) (b : List ℕ) → Bodied C.form b → C.tidy (C.message n (values_of C.form b)) ≡ true
  pub shaped-message : (n : ℕ) (b : List ℕ) → Bodied C.form b → Shaped (C.message n (values_of C.form b))

-- ---- what legal says, by name
module _ {M : Type 0} (C : Codec M) (m : M) (l : legal C m ≡ true) where
  pub legal-seq : C.seq m < 10 ^ 8
  legal-seq = ltb-true (C.seq m) (10 ^ 8) (holds (legal_tests C m) l 0)

  pub legal-range : ranged C.form (size (C.cells m)) ≡ true
  legal-range = holds (legal_tests C m) l 1

  pub legal-levels : C.form.levels (C.values m) ≡ true
  legal-levels = holds (legal_tests C m) l 2

  pub legal-fits : fits (C.cells m) (C.values m) ≡ true
  legal-fits = holds (legal_tests C m) l 3

  pub legal-timed : C.form.timed (C.values m) ≡ true
  legal-timed = holds (legal_tests C m) l 4

  pub legal-ruled : C.form.ruled (C.values m) ≡ true
  legal-ruled = holds (legal_tests C m) l 5

  pub legal-tidy : C.tidy m ≡ true
  legal-tidy = holds (legal_tests C m) l 6

-- ---- a format's messages as those of a kind of the common frame
-- what the rules ask beside good digits: of the header's numbers, of the body's length, and of its numbers
abbrev pub common_rules : Format → List ℕ → ℕ → List ℕ → List Bool
common_rules F ks n vs =
    eqb (get_or ks 0 0) 1
    ∷ eqb (get_or ks 1 0) F.number
    ∷ eqb (get_or ks 2 0) F.version
    ∷ ranged F n
    ∷ F.levels vs
    ∷ F.timed vs
    ∷ F.ruled vs
    ∷ []

abbrev pub as_common : {M : Type 0} → Codec M → common.Codec header M
as_common C = record {
  told = C.form.cells;
  rules = λ none ks n vs. all_of (common_rules C.form ks n vs);
  before = λ m. [];
  behind = λ m. 1 ∷ C.form.number ∷ C.form.version ∷ C.seq m ∷ [];
  cells = C.cells;
  values = C.values;
  tidy = C.tidy;
  message = λ none ks vs. C.message (get_or ks 3 0) vs;
}

-- no cells hold no numbers, and the header's four hold four
none-fit : (vs : List ℕ) → fits [] vs ≡ true → [] ≡ vs
none-fit [] h = refl
none-fit (v ∷ vs) h = absurd (no_false h)

four-fit : (ks : List ℕ) → fits kind_cells ks ≡ true → get_or ks 0 0 ∷ get_or ks 1 0 ∷ get_or ks 2 0 ∷ get_or ks 3 0 ∷ [] ≡ ks
four-fit (a ∷ b ∷ c ∷ d ∷ []) h = refl
four-fit [] h = absurd (no_false h)
four-fit (a ∷ []) h = absurd (no_false (and_right (ltb a 100) _ h))
four-fit (a ∷ b ∷ []) h = absurd (no_false (and_right (ltb b 100) _ (and_right (ltb a 100) _ h)))
four-fit (a ∷ b ∷ c ∷ []) h = absurd (no_false (and_right (ltb c 100) _ (and_right (ltb b 100) _ (and_right (ltb a 100) _ h))))
four-fit (a ∷ b ∷ c ∷ d ∷ e ∷ ks) h =
    absurd (no_false (and_right (ltb d (10 ^ 8)) _ (and_right (ltb c 100) _ (and_right (ltb b 100) _ (and_right (ltb a 100) _ h)))))

-- the common rules on a header's numbers and a body are those of the format by their names
module _ (F : Format) (ks b : List ℕ) where
  abbrev tests : List Bool
  tests = common_rules F ks (length b) (values_of F b)

  pub rules-head : all_of tests ≡ true → (get_or ks 0 0 ≡ 1) × (get_or ks 1 0 ≡ F.number) × (get_or ks 2 0 ≡ F.version)
  rules-head r = (eqb-true (get_or ks 0 0) 1 (holds tests r 0), eqb-true (get_or ks 1 0) F.number (holds tests r 1), eqb-true (get_or ks 2 0) F.version (holds tests r 2))

  pub rules-bodied : eqb (size (F.cells b)) (length b) ≡ true → good_cells (F.cells b) b ≡ true → all_of tests ≡ true → Bodied F b
  rules-bodied s g r = record {
    within-range = holds tests r 3;
    levelled = holds tests r 4;
    sized = s;
    good-digits = g;
    good-times = holds tests r 5;
    good-fields = holds tests r 6;
  }

  pub bodied-rules : get_or ks 0 0 ≡ 1 → get_or ks 1 0 ≡ F.number → get_or ks 2 0 ≡ F.version → Bodied F b → all_of tests ≡ true
  bodied-rules bu fm ve o =
      together tests
      (eq-eqb (get_or ks 0 0) 1 bu
      also eq-eqb (get_or ks 1 0) F.number fm
      also eq-eqb (get_or ks 2 0) F.version ve
      also o.within-range
      also o.levelled
      also o.good-times
      also o.good-fields
      also all)

module _ {M : Type 0} (C : Codec M) (Shaped : M → Type 0) (law : Lawful C Shaped) where
  -- ---- a message is legal by the common tests exactly where it is by the stock exchange's
  pub legal-common : (m : M) → legal C m ≡ true → common.legal (as_common C) m ≡ true
  legal-common m l =
      let range = range-bounds C.form (size (C.cells m)) (legal-range C m l) in
      together (common.legal_tests (as_common C) m)
      (refl
      also together _ (lt-ltb 1 100 (lit< tt) also lt-ltb C.form.number 100 law.number_fits also lt-ltb C.form.version 100 law.version-fits also lt-ltb (C.seq m) (10 ^ 8) (legal-seq C m l) also refl also all)
      also le-leb 14 (around + size (C.cells m)) (omega (arith, law.low, range.0))
      also le-leb (around + size (C.cells m)) 1024 (omega (arith, law.high, range.1))
      also legal-fits C m l
      also together (common_rules C.form (1 ∷ C.form.number ∷ C.form.version ∷ C.seq m ∷ []) (size (C.cells m)) (C.values m))
      (refl also eq-eqb C.form.number C.form.number refl also eq-eqb C.form.version C.form.version refl
      also legal-range C m l also legal-levels C m l also legal-timed C m l also legal-ruled C m l also all)
      also legal-tidy C m l
      also all)

  pub common-legal : (m : M) → common.legal (as_common C) m ≡ true → legal C m ≡ true
  common-legal m l =
      let ks : List ℕ = 1 ∷ C.form.number ∷ C.form.version ∷ C.seq m ∷ [] in
      let rules = laws.legal-rules (as_common C) m l in
      let tests = common_rules C.form ks (size (C.cells m)) (C.values m) in
      let four = ltb 1 100 ∷ ltb C.form.number 100 ∷ ltb C.form.version 100 ∷ ltb (C.seq m) (10 ^ 8) ∷ true ∷ [] in
      together (legal_tests C m)
      (holds four (laws.legal-rear (as_common C) m l) 3
      also holds tests rules 3
      also holds tests rules 4
      also laws.legal-fits (as_common C) m l
      also holds tests rules 5
      also holds tests rules 6
      also laws.legal-tidy (as_common C) m l
      also all)

  -- ---- what the common round trips ask
  pub common-lawful : common.Lawful (as_common C) Shaped
  common-lawful = record {
    header-law = header-law;
    cells_told = λ m s l. law.cells_told m s (laws.legal-fits (as_common C) m l);
    message-values = λ m s l. law.message-values m s (common-legal m l);
    before-message = λ vs ks b a. none-fit vs a.front_fits;
    behind-message = λ vs ks b a.
        let head = rules-head C.form ks b a.ruled in
        (λ i. sym head.0 i ∷ sym head.1 i ∷ sym head.2 i ∷ law.seq-message (get_or ks 3 0) (values_of C.form b) i ∷ [])
        ∙ four-fit ks a.rear-fits;
    cells-message = λ vs ks b a. law.cells-message (get_or ks 3 0) b (bodied ks b a);
    values-message = λ vs ks b a. law.values-message (get_or ks 3 0) b (bodied ks b a);
    tidy-message = λ vs ks b a. law.tidy-message (get_or ks 3 0) b (bodied ks b a);
    shaped-message = λ vs ks b a. law.shaped-message (get_or ks 3 0) b (bodied ks b a);
  }
    where
      bodied : (ks b : List ℕ) {vs : List ℕ} → common.Allowed (as_common C) vs ks b → Bodied C.form b
      bodied ks b a = rules-bodied C.form ks b a.sized a.good-digits a.ruled

  -- ---- a frame that the rules allow, in both words
  pub reads-common : (t : List ℕ) (m : M) → Reads C t m → common.Reads (as_common C) t m
  reads-common t m rd = record {
    outlined = rd.outlined;
    sized = rd.bodied.sized;
    good-digits = rd.bodied.good-digits;
    ruled = bodied-rules C.form (kind_values (own t)) (body (own t)) rd.is-business rd.is-format rd.is-version rd.bodied;
    meant = rd.meant;
  }

  pub common-reads : (t : List ℕ) (m : M) → common.Reads (as_common C) t m → Reads C t m
  common-reads t m rd =
      let head = rules-head C.form (kind_values (own t)) (body (own t)) rd.ruled in
      record {
        outlined = rd.outlined;
        is-business = head.0;
        is-format = head.1;
        is-version = head.2;
        bodied = rules-bodied C.form (kind_values (own t)) (body (own t)) rd.sized rd.good-digits rd.ruled;
        meant = rd.meant;
      }

  -- ---- reading a written frame gives the message, whatever follows the frame
  module _ (m : M) (s : Shaped m) (l : legal C m ≡ true) where
    pub length-frame_of : length (frame_of C m) ≡ around + size (C.cells m)
    length-frame_of = laws.length-frame_of (as_common C) Shaped common-lawful m s (legal-common m l)

    pub own-frame_of : (r : List ℕ) → own (frame_of C m ++ r) ≡ frame_of C m
    own-frame_of = laws.own-frame_of (as_common C) Shaped common-lawful m s (legal-common m l)

    pub read-written : (r : List ℕ) → Reads C (frame_of C m ++ r) m
    read-written r = common-reads (frame_of C m ++ r) m (laws.read-written (as_common C) Shaped common-lawful m s (legal-common m l) r)

  -- ---- writing a read message gives the bytes
  module _ (t : List ℕ) (m : M) (rd : Reads C t m) where
    pub shaped-read : Shaped m
    shaped-read = laws.shaped-read (as_common C) Shaped common-lawful t m (reads-common t m rd)

    pub legal-read : legal C m ≡ true
    legal-read = common-legal m (laws.legal-read (as_common C) Shaped common-lawful t m (reads-common t m rd))

    pub written_read : frame_of C m ≡ own t
    written_read = laws.written_read (as_common C) Shaped common-lawful t m (reads-common t m rd)
