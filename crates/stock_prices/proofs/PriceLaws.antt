-- Format twelve's messages and numbers tell each other, by induction over the slots; so both round trips hold.
use Prim.Native.Nat.{ℕ, zero, suc, ◌+◌, ◌*◌}
use mathlib.Core.Path.{◌≡◌, refl, ap, ap₂, ◌∙◌, subst}
use mathlib.Core.Bool.{true}
use mathlib.Core.List.{List, [], ◌∷◌, ◌++◌}
use native.Mathlib.Omega.{arith}
use lib.ListN.{length, get_or, take, drop, length-append, length-drop, take-append-drop}
use lib.Seq.{take_at, drop_at, length-take-le}
use lib.Dec.{lit<, lit≤}
use Rattle.amounts.specs.Amounts.{as_price, as_quantity}
use Rattle.layout.specs.Cells.{Cell, digits, size, decode}
use Rattle.stock_frame.specs.Outline.{own}
use Rattle.stock_frame.specs.Codec.{legal, frame_of}
use Rattle.layout.proofs.CellLaws.{length-decode, size-append}
use Rattle.stock_frame.proofs.CodecLaws.{Lawful, Reads, read-written, written_read}
use Rattle.stock_prices.specs.declared.Slot.{Slot}
use Rattle.stock_prices.specs.declared.Prices.{Prices}
use Rattle.stock_prices.specs.Prices.{slot_cells, slots_cells, slot_of, slots_of, slot_values, slots_values, codes_long, twelve_cells, twelve_codec, ShapedPrices}

-- ---- a list of n by its places
abbrev spread : ℕ → List ℕ → List ℕ
spread zero l = []
spread (suc n) l = get_or l 0 0 ∷ spread n (drop 1 l)

spread-all : (n : ℕ) (l : List ℕ) → length l ≡ n → spread n l ≡ l
spread-all zero [] h = refl
spread-all zero (a ∷ l) h = absurd (omega arith)
spread-all (suc n) [] h = absurd (omega arith)
spread-all (suc n) (a ∷ l) h = ap (λ (r : List ℕ). a ∷ r) (spread-all n l (omega arith))

-- ---- one slot: a code of six and six numbers
abbrev pub amount_cells : List Cell
amount_cells = digits 9 ∷ digits 9 ∷ digits 9 ∷ digits 9 ∷ digits 8 ∷ digits 12 ∷ []

pub length-slot_values : (s : Slot) → length s.code ≡ 6 → length (slot_values s) ≡ 12
length-slot_values s l = length-append s.code _ ∙ ap (λ (n : ℕ). n + 6) l

pub slot-made : (code : List ℕ) (p h w t q m : ℕ) → length code ≡ 6
    → slot_of (code ++ (p ∷ h ∷ w ∷ t ∷ q ∷ m ∷ [])) ≡ record { code = code; opening = as_price p; highest = as_price h; lowest = as_price w; last = as_price t; total = as_quantity q; time = m }
slot-made code p h w t q m l =
    subst
    (λ (c : List ℕ). slot_of (c ++ (p ∷ h ∷ w ∷ t ∷ q ∷ m ∷ [])) ≡ record { code = c; opening = as_price p; highest = as_price h; lowest = as_price w; last = as_price t; total = as_quantity q; time = m })
    (spread-all 6 code l) refl

pub slot_of-values : (s : Slot) → length s.code ≡ 6 → slot_of (slot_values s) ≡ s
slot_of-values s l = slot-made s.code s.opening.0 s.highest.0 s.lowest.0 s.last.0 s.total.0 s.time l

pub slot_values-of : (vs : List ℕ) → length vs ≡ 12 → slot_values (slot_of vs) ≡ vs
slot_values-of vs l = subst (λ (v : List ℕ). slot_values (slot_of v) ≡ v) (spread-all 12 vs l) refl

-- ---- any number of slots
pub slots_of-values : (k : ℕ) (ss : List Slot) → length ss ≡ k → codes_long ss → slots_of k (slots_values ss) ≡ ss
slots_of-values zero [] h c = refl
slots_of-values zero (s ∷ ss) h c = absurd (omega arith)
slots_of-values (suc k) [] h c = absurd (omega arith)
slots_of-values (suc k) (s ∷ ss) h c =
    ap₂ (λ (x : Slot) (l : List Slot). x ∷ l)
    (ap slot_of (take_at (slot_values s) (slots_values ss) 12 (length-slot_values s c.0)) ∙ slot_of-values s c.0)
    (ap (slots_of k) (drop_at (slot_values s) (slots_values ss) 12 (length-slot_values s c.0)) ∙ slots_of-values k ss (omega arith) c.1)

module _ (k : ℕ) (vs : List ℕ) (l : length vs ≡ suc k * 12) where
  first_slot : length (take 12 vs) ≡ 12
  first_slot = length-take-le 12 vs (omega arith)

  other-slots : length (drop 12 vs) ≡ k * 12
  other-slots = rw length-drop (omega arith)

pub slots_values-of : (k : ℕ) (vs : List ℕ) → length vs ≡ k * 12 → slots_values (slots_of k vs) ≡ vs
slots_values-of zero [] l = refl
slots_values-of zero (v ∷ vs) l = absurd (omega arith)
slots_values-of (suc k) vs l =
    ap₂ ◌++◌ (slot_values-of (take 12 vs) (first_slot k vs l)) (slots_values-of k (drop 12 vs) (other-slots k vs l))
    ∙ take-append-drop 12 vs

pub length-slots_of : (k : ℕ) (vs : List ℕ) → length (slots_of k vs) ≡ k
length-slots_of zero vs = refl
length-slots_of (suc k) vs = ap suc (length-slots_of k (drop 12 vs))

pub codes-slots_of : (k : ℕ) (vs : List ℕ) → length vs ≡ k * 12 → codes_long (slots_of k vs)
codes-slots_of zero vs l = tt
codes-slots_of (suc k) vs l =
    (length-take-le 6 (take 12 vs) (omega (arith, first_slot k vs l)), codes-slots_of k (drop 12 vs) (other-slots k vs l))

-- ---- the layout of n slots
pub length-slots_cells : (n : ℕ) → length (slots_cells n) ≡ n * 12
unfolding slots_cells
length-slots_cells zero = refl
length-slots_cells (suc n) = length-append slot_cells (slots_cells n) ∙ omega (arith, length-slots_cells n)

pub size-slots_cells : (n : ℕ) → size (slots_cells n) ≡ n * 36
unfolding slots_cells
size-slots_cells zero = refl
size-slots_cells (suc n) = size-append slot_cells (slots_cells n) ∙ omega (arith, size-slots_cells n)

-- the numbers in a body: the count, and twelve a slot
pub length-values : (b : List ℕ) → length (drop 1 (decode twelve_cells b)) ≡ 120
length-values b = length-decode (slots_cells 10) (drop 1 b) ∙ length-slots_cells 10

-- ---- the format's law, and the round trips
pub prices-lawful : Lawful twelve_codec ShapedPrices
prices-lawful = record {
  low = lit≤ tt;
  high = lit≤ tt;
  number_fits = lit< tt;
  version-fits = lit< tt;
  cells_told = λ m s f. refl;
  message-values = λ m s l. ap (λ (ss : List Slot). record { seq = m.seq; count = m.count; slots = ss }) (slots_of-values 10 m.slots s.slots-long s.codes-long);
  seq-message = λ n vs. refl;
  cells-message = λ n b o. refl;
  values-message = λ n b o. ap (λ (l : List ℕ). get_or (decode twelve_cells b) 0 0 ∷ l) (slots_values-of 10 (drop 1 (decode twelve_cells b)) (length-values b));
  tidy-message = λ n b o. refl;
  shaped-message = λ n b o. record {
    slots-long = length-slots_of 10 (drop 1 (decode twelve_cells b));
    codes-long = codes-slots_of 10 (drop 1 (decode twelve_cells b)) (length-values b);
  };
}

-- a written frame is read as its message, whatever follows it
pub read-written-prices : (m : Prices) → ShapedPrices m → legal twelve_codec m ≡ true → (r : List ℕ) → Reads twelve_codec (frame_of twelve_codec m ++ r) m
read-written-prices m s l r = read-written twelve_codec ShapedPrices prices-lawful m s l r

-- a message that was read is written as the frame's own bytes
pub written-read-prices : (t : List ℕ) (m : Prices) → Reads twelve_codec t m → frame_of twelve_codec m ≡ own t
written-read-prices t m rd = written_read twelve_codec ShapedPrices prices-lawful t m rd
