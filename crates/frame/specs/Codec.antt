-- The messages of a kind: the numbers that a message stands for, and the message that numbers stand for.
use Rattle.std.specs.Prelude.{ℕ, ◌+◌, ◌≤◌, ◌<◌, ◌-◌, ◌^◌, ◌≡◌, Bool, true, List, [], ◌∷◌, length, eqb, leb}
use Rattle.digits.specs.Tests.{all_of}
use Rattle.layout.specs.Cells.{Cell, size, good_cells, decode, fits, encode}
use Rattle.frame.specs.Header.{Header, around, own, body, front, rear, Outlined}
use Rattle.frame.specs.Writing.{frame_around}

pub record Codec (H : Header) (M : Type 0) : Type 0 where
  -- the cells of a body, which its bytes may tell
  pub told : List ℕ → List Cell
  -- what the rules ask beside good digits: of the header's numbers before and behind the length, the body's length, and its numbers
  pub rules : List ℕ → List ℕ → ℕ → List ℕ → Bool
  -- of a message: the header's numbers, the cells of its body, and the numbers in them
  pub before : M → List ℕ
  pub behind : M → List ℕ
  pub cells : M → List Cell
  pub values : M → List ℕ
  -- what the cells do not hold: unused places are zero, and what is said twice agrees
  pub tidy : M → Bool
  -- the message of the numbers in a header and in a body
  pub message : List ℕ → List ℕ → List ℕ → M

-- the numbers in a body
abbrev pub values_of : {H : Header} {M : Type 0} → Codec H M → List ℕ → List ℕ
values_of C b = decode (C.told b) b

-- the numbers of a header and the body b are such that the rules allow
pub record Allowed {H : Header} {M : Type 0} (C : Codec H M) (vs ws b : List ℕ) : Type 0 where
  pub front_fits : fits H.before vs ≡ true
  pub rear-fits : fits H.after ws ≡ true
  pub sized : eqb (size (C.told b)) (length b) ≡ true
  pub good-digits : good_cells (C.told b) b ≡ true
  pub ruled : C.rules vs ws (length b) (values_of C b) ≡ true

-- the bytes t begin with a frame of the codec's kind that the rules allow, and m is the message that its bytes mean
pub record Reads {H : Header} {M : Type 0} (C : Codec H M) (t : List ℕ) (m : M) : Type 0 where
  pub outlined : Outlined H t
  pub sized : let b = body H (own H t) in eqb (size (C.told b)) (length b) ≡ true
  pub good-digits : let b = body H (own H t) in good_cells (C.told b) b ≡ true
  pub ruled : let f = own H t in let b = body H f in
      C.rules (front H f) (rear H f) (length b) (values_of C b) ≡ true
  pub meant : let f = own H t in m ≡ C.message (front H f) (rear H f) (values_of C (body H f))

-- what a message has to keep: each field's range, and the rules
abbrev pub legal_tests : {H : Header} {M : Type 0} → Codec H M → M → List Bool
legal_tests {H} C m =
    fits H.before (C.before m)
    ∷ fits H.after (C.behind m)
    ∷ leb H.least (around H + size (C.cells m))
    ∷ leb (around H + size (C.cells m)) H.most
    ∷ fits (C.cells m) (C.values m)
    ∷ C.rules (C.before m) (C.behind m) (size (C.cells m)) (C.values m)
    ∷ C.tidy m
    ∷ []

-- a message that breaks none of them
abbrev pub legal : {H : Header} {M : Type 0} → Codec H M → M → Bool
legal C m = all_of (legal_tests C m)

-- the frame of a message
abbrev pub frame_of : {H : Header} {M : Type 0} → Codec H M → M → List ℕ
frame_of {H} C m = frame_around H (C.before m) (C.behind m) (encode (C.cells m) (C.values m))

-- what a header has to show: the length field and the whole length tell each other
pub record HeaderLaw (H : Header) : Type 0 where
  pub counts_whole : (n : ℕ) → H.whole (H.counts n) ≡ around H + n
  pub whole-counts : (k : ℕ) → H.least ≤ H.whole k → H.counts (H.whole k - around H) ≡ k
  pub counts-small : (n : ℕ) → around H + n ≤ H.most → H.counts n < 10 ^ 4
  pub least-around : around H ≤ H.least
  pub least-most : H.least ≤ H.most

-- what a kind of messages has to show: a message that has its shape and the numbers that it stands for tell each other
pub record Lawful {H : Header} {M : Type 0} (C : Codec H M) (Shaped : M → Type 0) : Type 0 where
  pub header-law : HeaderLaw H
  pub cells_told : (m : M) → Shaped m → legal C m ≡ true → C.told (encode (C.cells m) (C.values m)) ≡ C.cells m
  pub message-values : (m : M) → Shaped m → legal C m ≡ true → C.message (C.before m) (C.behind m) (C.values m) ≡ m
  pub before-message : (vs ws b : List ℕ) → Allowed C vs ws b → C.before (C.message vs ws (values_of C b)) ≡ vs
  pub behind-message : (vs ws b : List ℕ) → Allowed C vs ws b → C.behind (C.message vs ws (values_of C b)) ≡ ws
  pub cells-message : (vs ws b : List ℕ) → Allowed C vs ws b → C.cells (C.message vs ws (values_of C b)) ≡ C.told b
  pub values-message : (vs ws b : List ℕ) → Allowed C vs ws b → C.values (C.message vs ws (values_of C b)) ≡ values_of C b
  pub tidy-message : (vs ws b : List ℕ) → Allowed C vs ws b → C.tidy (C.message vs ws (values_of C b)) ≡ true
  pub shaped-message : (vs ws b : List ℕ) → Allowed C vs ws b → Shaped (C.message vs ws (values_of C b))
