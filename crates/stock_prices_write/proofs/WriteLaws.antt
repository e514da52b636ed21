-- Writing prices: which messages are legal, and the cells of the body put one behind another.
use Rattle.std.specs.Prelude.{Err, Result}
use Prim.Native.Nat.{ℕ, suc, ◌+◌, ◌-◌, ◌^◌, ◌≤◌, ◌<◌}
use mathlib.Core.Path.{◌≡◌, refl, sym, ap, ap₂, ◌∙◌, subst}
use mathlib.Core.Bool.{Bool, true, false, ◌&&◌, and-true, and-false}
use mathlib.Core.List.{List, [], ◌∷◌, ◌++◌}
use native.Mathlib.Omega.{arith}
use native.Mathlib.Numerals.{add-one}
use lib.ListN.{length, get_or, drop, replicate}
use lib.Seq.{drop-cons, sets, length-sets}
use lib.Dec.{leb, ltb}
use borrow.Author.Tests.{lt-ltb, ltb-true, leb-true}
use Rattle.digits.specs.Packed.{width, packed}
use Rattle.digits.specs.Fields.{put_at}
use Rattle.digits.proofs.Bools.{and_left, and_right}
use Rattle.digits.proofs.PackedLaws.{length-packed, lt-width}
use Rattle.digits.proofs.FieldLaws.{put-fits, length-put_at}
use Rattle.layout.specs.Cells.{Cell, raw, digits, size, fits, encode}
use Rattle.stock_frame.specs.Format.{around, ranged}
use Rattle.stock_frame.specs.Codec.{legal, frame_of}
use Rattle.stock_frame.specs.Writing.{write_answer, written_over, close_answer, closed_over}
use Rattle.layout.proofs.CellLaws.{length-encode}
use Rattle.layout.proofs.PutLaws.{sets_behind}
use Rattle.stock_frame.proofs.CodecLaws.{legal-fits}
use Rattle.stock_prices.specs.declared.Slot.{Slot}
use Rattle.stock_prices.specs.declared.Prices.{Prices}
use Rattle.stock_prices.specs.Prices.{slot_cells, slots_cells, slot_values, slots_values, slots_pass, slot_timed, slot_ruled, codes_long, twelve, twelve_cells, twelve_codec, prices_values, ShapedPrices}
use Rattle.layout.proofs.AppendLaws.{fits-append, encode-append}
use Rattle.layout.proofs.RawLaws.{fits-raws, encode-raws}
use Rattle.stock_prices.proofs.PriceLaws.{amount_cells, length-slot_values, size-slots_cells, prices-lawful}
use Rattle.stock_frame.proofs.MessageLaws.{message-short, message-closed}
use Rattle.stock_prices_write.proofs.PassLaws.{codes_at}
use Rattle.answers.specs.declared.WriteError.{WriteError}
use Rattle.answers.specs.declared.WriteError.TheVariants.{NoRoom}

-- ---- a field put, and then the cells behind it
put-cell : (n v : ℕ) (cs : List Cell) (vs b b' : List ℕ) (k k' : ℕ) → width n ≤ 9 → k + width n ≡ k' → k' ≤ length b → v < 10 ^ n → b' ≡ put_at v (width n) b k
    → (sets b' k' (encode cs vs) ≡ sets b k (encode (digits n ∷ cs) (v ∷ vs))) × (length b' ≡ length b)
put-cell n v cs vs b b' k k' w q r h e = (
  ap (λ (x : List ℕ). sets x k' (encode cs vs)) (e ∙ (put-fits v (width n) b k w (omega arith) (lt-width n v h)).1)
      ∙ sets_behind (packed (width n) v) (encode cs vs) b k k' (ap (λ (j : ℕ). k + j) (length-packed (width n) v) ∙ q),
  ap length e ∙ length-put_at v (width n) b k,
)

-- ---- one slot
module _ (s : Slot) (l : length s.code ≡ 6) where
  abbrev amounts : List ℕ
  amounts = s.opening.0 ∷ s.highest.0 ∷ s.lowest.0 ∷ s.last.0 ∷ s.total.0 ∷ s.time ∷ []

  pub slot_fits_is : fits slot_cells (slot_values s)
      ≡ (ltb s.opening.0 1000000000 && (ltb s.highest.0 1000000000 && (ltb s.lowest.0 1000000000 && (ltb s.last.0 1000000000 && (ltb s.total.0 100000000 && (ltb s.time 1000000000000 && true))))))
  slot_fits_is = subst (λ (n : ℕ). fits (replicate n raw ++ amount_cells) (slot_values s) ≡ fits amount_cells amounts) l (fits-raws s.code amount_cells amounts)

  -- the last two of its numbers
  pub total-small : fits slot_cells (slot_values s) ≡ true → s.total.0 < 10 ^ 8
  total-small f =
      let g : fits amount_cells amounts ≡ true = sym slot_fits_is ∙ f in
      let g₁ = and_right (ltb s.opening.0 (10 ^ 9)) _ g in
      let g₂ = and_right (ltb s.highest.0 (10 ^ 9)) _ g₁ in
      let g₃ = and_right (ltb s.lowest.0 (10 ^ 9)) _ g₂ in
      ltb-true s.total.0 (10 ^ 8) (and_left _ _ (and_right (ltb s.last.0 (10 ^ 9)) _ g₃))

  pub time-small : fits slot_cells (slot_values s) ≡ true → s.time < 10 ^ 12
  time-small f =
      let g : fits amount_cells amounts ≡ true = sym slot_fits_is ∙ f in
      let g₁ = and_right (ltb s.opening.0 (10 ^ 9)) _ g in
      let g₂ = and_right (ltb s.highest.0 (10 ^ 9)) _ g₁ in
      let g₃ = and_right (ltb s.lowest.0 (10 ^ 9)) _ g₂ in
      let g₄ = and_right (ltb s.last.0 (10 ^ 9)) _ g₃ in
      ltb-true s.time (10 ^ 12) (and_left _ _ (and_right (ltb s.total.0 (10 ^ 8)) _ g₄))

  slot-bytes : encode slot_cells (slot_values s) ≡ s.code ++ encode amount_cells amounts
  slot-bytes = subst (λ (n : ℕ). encode (replicate n raw ++ amount_cells) (slot_values s) ≡ s.code ++ encode amount_cells amounts) l (encode-raws s.code amount_cells amounts)

  -- the fields put one behind another
  module _ (f : fits slot_cells (slot_values s) ≡ true) (buf b₀ b₁ b₂ b₃ b₄ b₅ b₆ : List ℕ) (at : ℕ) (room : at + 36 ≤ length buf)
      (e₀ : b₀ ≡ sets buf at s.code) (e₁ : b₁ ≡ put_at s.opening.0 5 b₀ (at + 6)) (e₂ : b₂ ≡ put_at s.highest.0 5 b₁ (at + 11))
      (e₃ : b₃ ≡ put_at s.lowest.0 5 b₂ (at + 16)) (e₄ : b₄ ≡ put_at s.last.0 5 b₃ (at + 21)) (e₅ : b₅ ≡ put_at s.total.0 4 b₄ (at + 26))
      (e₆ : b₆ ≡ put_at s.time 6 b₅ (at + 30)) where
    pub slot-put : b₆ ≡ sets buf at (encode slot_cells (slot_values s))
    slot-put =
        let g : fits amount_cells amounts ≡ true = sym slot_fits_is ∙ f in
        let g₁ = and_right (ltb s.opening.0 (10 ^ 9)) _ g in
        let g₂ = and_right (ltb s.highest.0 (10 ^ 9)) _ g₁ in
        let g₃ = and_right (ltb s.lowest.0 (10 ^ 9)) _ g₂ in
        let g₄ = and_right (ltb s.last.0 (10 ^ 9)) _ g₃ in
        let g₅ = and_right (ltb s.total.0 (10 ^ 8)) _ g₄ in
        let room₀ : at + 36 ≤ length b₀ = omega (arith, ap length e₀, length-sets buf at s.code) in
        let p₁ = put-cell 9 s.opening.0 (digits 9 ∷ digits 9 ∷ digits 9 ∷ digits 8 ∷ digits 12 ∷ []) (s.highest.0 ∷ s.lowest.0 ∷ s.last.0 ∷ s.total.0 ∷ s.time ∷ []) b₀ b₁ (at + 6) (at + 11) (omega arith) (omega arith) (omega arith) (ltb-true s.opening.0 (10 ^ 9) (and_left _ _ g)) e₁ in
        let room₁ : at + 36 ≤ length b₁ = omega (arith, p₁.1) in
        let p₂ = put-cell 9 s.highest.0 (digits 9 ∷ digits 9 ∷ digits 8 ∷ digits 12 ∷ []) (s.lowest.0 ∷ s.last.0 ∷ s.total.0 ∷ s.time ∷ []) b₁ b₂ (at + 11) (at + 16) (omega arith) (omega arith) (omega arith) (ltb-true s.highest.0 (10 ^ 9) (and_left _ _ g₁)) e₂ in
        let room₂ : at + 36 ≤ length b₂ = omega (arith, p₂.1) in
        let p₃ = put-cell 9 s.lowest.0 (digits 9 ∷ digits 8 ∷ digits 12 ∷ []) (s.last.0 ∷ s.total.0 ∷ s.time ∷ []) b₂ b₃ (at + 16) (at + 21) (omega arith) (omega arith) (omega arith) (ltb-true s.lowest.0 (10 ^ 9) (and_left _ _ g₂)) e₃ in
        let room₃ : at + 36 ≤ length b₃ = omega (arith, p₃.1) in
        let p₄ = put-cell 9 s.last.0 (digits 8 ∷ digits 12 ∷ []) (s.total.0 ∷ s.time ∷ []) b₃ b₄ (at + 21) (at + 26) (omega arith) (omega arith) (omega arith) (ltb-true s.last.0 (10 ^ 9) (and_left _ _ g₃)) e₄ in
        let room₄ : at + 36 ≤ length b₄ = omega (arith, p₄.1) in
        let p₅ = put-cell 8 s.total.0 (digits 12 ∷ []) (s.time ∷ []) b₄ b₅ (at + 26) (at + 30) (omega arith) (omega arith) (omega arith) (ltb-true s.total.0 (10 ^ 8) (and_left _ _ g₄)) e₅ in
        let room₅ : at + 36 ≤ length b₅ = omega (arith, p₅.1) in
        let p₆ = put-cell 12 s.time ([]) ([]) b₅ b₆ (at + 30) (at + 36) (omega arith) (omega arith) (omega arith) (ltb-true s.time (10 ^ 12) (and_left _ _ g₅)) e₆ in
        p₆.0 ∙ p₅.0 ∙ p₄.0 ∙ p₃.0 ∙ p₂.0 ∙ p₁.0
        ∙ ap (λ (x : List ℕ). sets x (at + 6) (encode amount_cells amounts)) e₀
        ∙ sets_behind s.code (encode amount_cells amounts) buf at (at + 6) (ap (λ (j : ℕ). at + j) l)
        ∙ ap (sets buf at) (sym slot-bytes)

-- ---- all slots, from slot i on
fits_next : (k : ℕ) (s : Slot) (ss : List Slot) → length s.code ≡ 6
    → fits (slots_cells (suc k)) (slots_values (s ∷ ss)) ≡ (fits slot_cells (slot_values s) && fits (slots_cells k) (slots_values ss))
unfolding slots_cells
fits_next k s ss l = fits-append slot_cells (slots_cells k) (slot_values s) (slots_values ss) (length-slot_values s l)

encode-next : (k : ℕ) (s : Slot) (ss : List Slot) → length s.code ≡ 6
    → encode (slots_cells (suc k)) (slots_values (s ∷ ss)) ≡ encode slot_cells (slot_values s) ++ encode (slots_cells k) (slots_values ss)
unfolding slots_cells
encode-next k s ss l = encode-append slot_cells (slots_cells k) (slot_values s) (slots_values ss) (length-slot_values s l)

fits-none : fits (slots_cells 0) [] ≡ true
unfolding slots_cells
fits-none = refl

encode-none : (vs : List ℕ) → encode (slots_cells 0) vs ≡ []
unfolding slots_cells
encode-none vs = refl

module _ (ss : List Slot) (l : length ss ≡ 10) (c : codes_long ss) where
  -- whether the slots from i on fit, and their bytes
  abbrev pub fits_from : ℕ → Bool
  fits_from i = fits (slots_cells (10 - i)) (slots_values (drop i ss))

  abbrev pub bytes_from : ℕ → List ℕ
  bytes_from i = encode (slots_cells (10 - i)) (slots_values (drop i ss))

  module _ (d : Slot) (i : ℕ) (h : i < 10) where
    k : 10 - i ≡ suc (10 - (i + 1))
    k = omega arith

    at_slot : drop i ss ≡ get_or ss i d ∷ drop (i + 1) ss
    at_slot = drop-cons ss i d (omega arith) ∙ ap (λ (j : ℕ). get_or ss i d ∷ drop j ss) (sym (add-one i))

    long : length (get_or ss i d).code ≡ 6
    long = codes_at ss i d c (omega arith)

    pub fits-turn : fits_from i ≡ (fits slot_cells (slot_values (get_or ss i d)) && fits_from (i + 1))
    fits-turn =
        ap₂ (λ (j : ℕ) (r : List Slot). fits (slots_cells j) (slots_values r)) k at_slot
        ∙ fits_next (10 - (i + 1)) (get_or ss i d) (drop (i + 1) ss) long

    bytes-turn : bytes_from i ≡ encode slot_cells (slot_values (get_or ss i d)) ++ bytes_from (i + 1)
    bytes-turn =
        ap₂ (λ (j : ℕ) (r : List Slot). encode (slots_cells j) (slots_values r)) k at_slot
        ∙ encode-next (10 - (i + 1)) (get_or ss i d) (drop (i + 1) ss) long

    pub fits-fails : fits_from i ≡ fits_from 0 → fits slot_cells (slot_values (get_or ss i d)) ≡ false → fits_from 0 ≡ false
    fits-fails inv e = sym inv ∙ fits-turn ∙ ap (λ (t : Bool). t && fits_from (i + 1)) e

    pub fits-again : fits_from i ≡ fits_from 0 → fits slot_cells (slot_values (get_or ss i d)) ≡ true → fits_from (i + 1) ≡ fits_from 0
    fits-again inv e = sym (sym inv ∙ fits-turn ∙ ap (λ (t : Bool). t && fits_from (i + 1)) e)

    -- slots that fit
    module _ (f : fits_from i ≡ true) where
      both : (fits slot_cells (slot_values (get_or ss i d)) && fits_from (i + 1)) ≡ true
      both = sym fits-turn ∙ f

      pub this-fits : fits slot_cells (slot_values (get_or ss i d)) ≡ true
      this-fits = and_left _ _ both

      pub others-fit : fits_from (i + 1) ≡ true
      others-fit = and_right (fits slot_cells (slot_values (get_or ss i d))) _ both

      -- a slot put, and the bytes of those behind it
      pub put-turn : (at : ℕ) (buf b : List ℕ) → b ≡ sets buf at (encode slot_cells (slot_values (get_or ss i d)))
          → sets b (at + 36) (bytes_from (i + 1)) ≡ sets buf at (bytes_from i)
      put-turn at buf b e =
          let x = encode slot_cells (slot_values (get_or ss i d)) in
          ap (λ (y : List ℕ). sets y (at + 36) (bytes_from (i + 1))) e
          ∙ sets_behind x (bytes_from (i + 1)) buf at (at + 36) (ap (λ (n : ℕ). at + n) (length-encode slot_cells (slot_values (get_or ss i d)) this-fits))
          ∙ ap (sets buf at) (sym bytes-turn)

  pub fits-done : (i : ℕ) → 10 ≤ i → i ≤ 10 → fits_from i ≡ fits_from 0 → fits_from 0 ≡ true
  fits-done i h u inv =
      let e : i ≡ 10 = omega arith in
      sym inv ∙ ap fits_from e ∙ ap (λ (r : List Slot). fits (slots_cells 0) (slots_values r)) (let o : length ss ≤ 10 = omega arith in lib.ListN.drop_of_length-le ss o) ∙ fits-none

  pub bytes-done : (i : ℕ) → 10 ≤ i → i ≤ 10 → bytes_from i ≡ []
  bytes-done i h u = let e : i ≡ 10 = omega arith in ap bytes_from e ∙ encode-none (slots_values (drop 10 ss))

-- ---- a legal message, test by test
legal-test : (a c f t p q r : Bool) → (q ≡ true → c ≡ true)
    → (a && (true && (true && ((c && f) && (t && (((p && q) && r) && true)))))) ≡ (a && ((p && q) && (f && (t && r))))
legal-test false c f t p q r h = refl
legal-test true c f t false q r h = ap (λ (x : Bool). (c && f) && x) (and-false t) ∙ and-false (c && f)
legal-test true c f t true false r h = ap (λ (x : Bool). (c && f) && x) (and-false t) ∙ and-false (c && f)
legal-test true c f t true true r h = ap₂ (λ (x y : Bool). (x && f) && (t && y)) (h refl) (and-true r)

whole : size twelve_cells ≡ 361
whole = ap (λ (n : ℕ). 1 + n) (size-slots_cells 10)

pub legal_is : (m : Prices) → legal twelve_codec m
    ≡ (ltb m.seq 100000000 && ((leb 1 m.count && leb m.count 10)
    && (fits (slots_cells 10) (slots_values m.slots) && (slots_pass slot_timed 10 m.count (slots_values m.slots) && slots_pass slot_ruled 10 m.count (slots_values m.slots)))))
legal_is m =
    ap (λ (n : ℕ). ltb m.seq 100000000 && (ranged twelve n && (true && (fits twelve_cells (prices_values m)
    && (slots_pass slot_timed 10 m.count (slots_values m.slots)
    && (((leb 1 m.count && leb m.count 10) && slots_pass slot_ruled 10 m.count (slots_values m.slots)) && true)))))) whole
    ∙ legal-test (ltb m.seq 100000000) (ltb m.count 100) (fits (slots_cells 10) (slots_values m.slots)) (slots_pass slot_timed 10 m.count (slots_values m.slots))
    (leb 1 m.count) (leb m.count 10) (slots_pass slot_ruled 10 m.count (slots_values m.slots))
    (λ q. lt-ltb m.count 100 (omega (arith, leb-true m.count 10 q)))

-- ---- a legal message written
module _ (m : Prices) (s : ShapedPrices m) (l : legal twelve_codec m ≡ true) where
  pub slots-fit : fits (slots_cells 10) (slots_values m.slots) ≡ true
  slots-fit = and_right (ltb m.count 100) _ (legal-fits twelve_codec m l)

  pub count-small : m.count < 100
  count-small = ltb-true m.count 100 (and_left _ _ (legal-fits twelve_codec m l))

  pub prices-short : (buf : List ℕ) → length buf < 374
      → (Err NoRoom ≡ write_answer (legal twelve_codec m) (frame_of twelve_codec m) buf) × (buf ≡ written_over (legal twelve_codec m) (frame_of twelve_codec m) buf)
  prices-short buf h = message-short twelve_codec ShapedPrices prices-lawful m s l buf (omega (arith, whole))

  -- the count put, then the slots, and the frame closed
  pub prices-closed : (buf b₁ b₂ u : List ℕ) (answer : Result ℕ WriteError) → 374 ≤ length buf
      → b₁ ≡ put_at m.count 1 buf 10 → b₂ ≡ sets b₁ 11 (encode (slots_cells 10) (slots_values m.slots))
      → answer ≡ close_answer 12 3 m.seq 374 b₂ → u ≡ closed_over 12 3 m.seq 374 b₂
      → (answer ≡ write_answer (legal twelve_codec m) (frame_of twelve_codec m) buf) × (u ≡ written_over (legal twelve_codec m) (frame_of twelve_codec m) buf)
  prices-closed buf b₁ b₂ u answer h e₁ e₂ p q =
      let w : 374 ≡ around + size twelve_cells = omega (arith, whole) in
      let c = put-cell 2 m.count (slots_cells 10) (slots_values m.slots) buf b₁ 10 11 (omega arith) refl (omega arith)
      (ltb-true m.count 100 (and_left _ _ (legal-fits twelve_codec m l))) e₁ in
      message-closed twelve_codec ShapedPrices prices-lawful m s l buf b₂ u answer (omega arith) (e₂ ∙ c.0)
      (p ∙ ap (λ (n : ℕ). close_answer 12 3 m.seq n b₂) w) (q ∙ ap (λ (n : ℕ). closed_over 12 3 m.seq n b₂) w)
