-- The stock exchange's frame written is read, and a whole outline is one that was written so: the laws of the common frame, of its header.
use Prim.Native.Nat.{ℕ, ◌+◌, ◌^◌, ◌≤◌, ◌<◌}
use mathlib.Core.Path.{◌≡◌, refl, ap, ◌∙◌}
use mathlib.Core.Bool.{true}
use mathlib.Core.List.{List, [], ◌∷◌, ◌++◌}
use native.Mathlib.Omega.{arith}
use lib.ListN.{length, take}
use lib.Dec.{lit≤}
use borrow.Author.Tests.{lt-ltb}
use Rattle.digits.proofs.Bools.{and_both}
use Rattle.layout.specs.Cells.{fits}
use Rattle.layout.specs.Checks.{first_fail}
use Rattle.frame.specs.Codec.{HeaderLaw}
use Rattle.frame.proofs.HeaderLaws as common
pub use Rattle.frame.proofs.SealLaws.{length-sealed, inner-sealed, check-sealed, ended-sealed}
use Rattle.stock_frame.specs.Outline.{header, business, format, version, sequence, length_bytes, length_of, own, body, kind_cells, kind_values, length_right, outline_checks}
use Rattle.stock_frame.specs.Format.{around}
use Rattle.stock_frame.specs.Reads.{Outlined}
use Rattle.stock_frame.specs.Writing.{frame_around}

-- the length counts the whole frame
pub header-law : HeaderLaw header
header-law = record {
  counts_whole = λ n. refl;
  whole-counts = λ k h. omega arith;
  counts-small = λ n h. omega arith;
  least-around = lit≤ tt;
  least-most = lit≤ tt;
}

-- ---- the checks by their names
pub outlined-passes : (t : List ℕ) → Outlined t → first_fail (outline_checks t) ≡ 0
outlined-passes = common.outlined-passes header

pub passes-outlined : (t : List ℕ) → first_fail (outline_checks t) ≡ 0 → Outlined t
passes-outlined = common.passes-outlined header

-- ---- a frame around a body is read as it was written, whatever follows it
module _ (format version seq : ℕ) (b : List ℕ) (hf : format < 100) (hv : version < 100) (hs : seq < 10 ^ 8) where
  kinds-fit : fits kind_cells (1 ∷ format ∷ version ∷ seq ∷ []) ≡ true
  kinds-fit = and_both (lt-ltb format 100 hf) (and_both (lt-ltb version 100 hv) (and_both (lt-ltb seq (10 ^ 8) hs) refl))

  abbrev ks : List ℕ
  ks = 1 ∷ format ∷ version ∷ seq ∷ []

  pub length-frame : length (frame_around format version seq b) ≡ around + length b
  length-frame = common.length-frame header header-law [] ks b refl kinds-fit

  pub body-frame : body (frame_around format version seq b) ≡ b
  body-frame = common.body-frame header header-law [] ks b refl kinds-fit

  pub kind-frame : kind_values (frame_around format version seq b) ≡ 1 ∷ format ∷ version ∷ seq ∷ []
  kind-frame = common.rear-frame header header-law [] ks b refl kinds-fit

  module _ (low : 1 ≤ length b) (high : around + length b ≤ 1024) (r : List ℕ) where
    pub own-frame : own (frame_around format version seq b ++ r) ≡ frame_around format version seq b
    own-frame = common.own-frame header header-law [] ks b refl kinds-fit (omega arith) high r

    pub outlined-frame : Outlined (frame_around format version seq b ++ r)
    outlined-frame = common.outlined-frame header header-law [] ks b refl kinds-fit (omega arith) high r

-- ---- a whole outline is a frame around its body
pub length-bytes-taken : (n : ℕ) (t : List ℕ) → 3 ≤ n → length_bytes (take n t) ≡ length_bytes t
length-bytes-taken = common.length-bytes-taken header header-law

-- a right length is within its bounds
pub right-length : (t : List ℕ) → length_right t ≡ true → (14 ≤ length_of t) × (length_of t ≤ 1024)
right-length = common.right-length header header-law

module _ (t : List ℕ) (o : Outlined t) where
  pub least-length : 14 ≤ length_of t
  least-length = common.least-length header header-law t o

  pub within-line : length_of t ≤ length t
  within-line = common.within-line header header-law t o

  pub length-own : length (own t) ≡ length_of t
  length-own = common.length-own header header-law t o

  pub length-body : around + length (body (own t)) ≡ length_of t
  length-body = common.length-body header header-law t o

  pub own-frame_around : (b : business (own t) ≡ 1) → own t ≡ frame_around (format (own t)) (version (own t)) (sequence (own t)) (body (own t))
  own-frame_around b =
      common.own-frame_around header header-law t o
      ∙ ap (λ (x : ℕ). Rattle.frame.specs.Writing.frame_around header [] (x ∷ format (own t) ∷ version (own t) ∷ sequence (own t) ∷ []) (body (own t))) b
