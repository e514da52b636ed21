-- What the header's bytes hold: the time and the number in eight of them read at once, the version in the one behind.
use Prim.Native.Nat.{ℕ, ◌+◌, ◌*◌, ◌/◌, ◌%◌, ◌≤◌, ◌<◌}
use mathlib.Core.Path.{◌≡◌, refl, sym, ap, ap₂, ◌∙◌}
use mathlib.Core.Bool.{Bool, true, false, cond, ◌&&◌, and-true, and-false}
use mathlib.Core.List.{List, [], ◌∷◌, ◌++◌}
use native.Mathlib.Omega.{arith}
use lib.ListN.{length, get_or, take, drop, length-drop}
use lib.Seq.{drop-cons, drop-drop, drop_at, take-add, take-take, length-take-le}
use borrow.Author.Tests.{le-leb, lt-leb}
use Rattle.digits.specs.Packed.{good_byte, good, value}
use Rattle.words.specs.Blocks.{block_of, no_block, block_at}
use Rattle.words.specs.declared.blocks.Block.{Block}
use Rattle.layout.specs.Cells.{Cell, digits, good_cells, decode}
use Rattle.layout.proofs.RawLaws.{good-raws, decode-raws}
use Rattle.layout.proofs.WholeLaws.{good-append, good-wholes}
use Rattle.frame.specs.Header.{front, head_good}
use Rattle.derivatives_frame.specs.Outline.{header, head_of}
use Rattle.derivatives_frame.specs.declared.head.Head.{Head}
use Rattle.frame.proofs.LineSteps.{two_bytes}

-- the cells that are digits
abbrev packed_cells : List Cell
packed_cells = digits 8 ∷ digits 8 ∷ digits 2 ∷ []

module _ (f : List ℕ) (long : 12 ≤ length f) (h : Block) (read : h ≡ block_at 8 4 f 3) where
  halves : h ≡ block_of 4 (take 8 (drop 3 f))
  halves = read ∙ ap (λ (t : Bool). cond t (block_of 4 (take 8 (drop 3 f))) no_block) (le-leb (3 + 8) (length f) (omega arith))

  -- the version's byte, and what stands behind it
  apart : drop 8 (drop 3 f) ≡ get_or f 11 0 ∷ drop 12 f
  apart = drop-drop 8 3 f ∙ drop-cons f 11 0 (omega arith)

  behind-raws : drop 2 (drop 1 f) ≡ drop 3 f
  behind-raws = drop-drop 2 1 f

  enough : 9 ≤ length (drop 3 f)
  enough = rw length-drop (omega arith)

  -- no digit is bad exactly where none of the eight bytes and none of the version is
  head-good : head_good header f ≡ (h.good && good_byte (get_or f 11 0))
  head-good =
      and-true (good_cells header.before (drop 1 f))
      ∙ good-raws 2 packed_cells (drop 1 f)
      ∙ ap (good_cells packed_cells) behind-raws
      ∙ good-wholes (4 ∷ 4 ∷ 1 ∷ []) (drop 3 f) enough
      ∙ ap good (take-add 8 1 (drop 3 f) ∙ ap (λ (l : List ℕ). take 8 (drop 3 f) ++ take 1 l) apart)
      ∙ good-append (take 8 (drop 3 f)) (get_or f 11 0 ∷ [])
      ∙ ap₂ ◌&&◌ (sym (ap (λ (r : Block). r.good) halves)) (and-true (good_byte (get_or f 11 0)))

  -- where a test fails
  pub bad-block : h.good ≡ false → head_good header f ≡ false
  bad-block b = head-good ∙ rw b

  bad-version : good_byte (get_or f 11 0) ≡ false → head_good header f ≡ false
  bad-version b = head-good ∙ rw (b, and-false)

  pub bad-high : 9 < get_or f 11 0 / 16 → head_good header f ≡ false
  bad-high b = bad-version (rw (lt-leb (get_or f 11 0 / 16) 9 b))

  pub bad-low : 9 < get_or f 11 0 % 16 → head_good header f ≡ false
  bad-low b = bad-version (rw (lt-leb (get_or f 11 0 % 16) 9 b, and-false))

  -- where none does
  pub all-good : h.good ≡ true → get_or f 11 0 / 16 ≤ 9 → get_or f 11 0 % 16 ≤ 9 → head_good header f ≡ true
  all-good g high low = head-good ∙ rw (g, le-leb (get_or f 11 0 / 16) 9 high, le-leb (get_or f 11 0 % 16) 9 low)

  -- the numbers
  first-is : value (take 4 (drop 3 f)) ≡ h.first
  first-is = sym (ap (λ (r : Block). r.first) halves ∙ ap value (take-take 4 8 (drop 3 f) (omega arith)))

  last-is : value (take 4 (drop 4 (drop 3 f))) ≡ h.last
  last-is =
      sym
      (ap (λ (r : Block). r.last) halves
      ∙ ap (λ (l : List ℕ). value (drop 4 l)) (take-add 4 4 (drop 3 f))
      ∙ ap value (drop_at (take 4 (drop 3 f)) (take 4 (drop 4 (drop 3 f))) 4 (length-take-le 4 (drop 3 f) (omega (arith, enough)))))

  version-is : value (take 1 (drop 4 (drop 4 (drop 3 f)))) ≡ get_or f 11 0 / 16 * 10 + get_or f 11 0 % 16
  version-is = ap (λ (l : List ℕ). value (take 1 l)) (drop-drop 4 4 (drop 3 f) ∙ apart) ∙ omega arith

  numbers : front header f ≡ get_or f 1 0 ∷ get_or f 2 0 ∷ h.first ∷ h.last ∷ (get_or f 11 0 / 16 * 10 + get_or f 11 0 % 16) ∷ []
  numbers =
      decode-raws 2 packed_cells (drop 1 f) (rw length-drop (omega arith))
      ∙ ap₂ (λ (l m : List ℕ). l ++ decode packed_cells m) (two_bytes f 1 2 refl (omega arith)) behind-raws
      ∙ ap₂ (λ (x y : ℕ). get_or f 1 0 ∷ get_or f 2 0 ∷ x ∷ y ∷ value (take 1 (drop 4 (drop 4 (drop 3 f)))) ∷ []) first-is last-is
      ∙ ap (λ (x : ℕ). get_or f 1 0 ∷ get_or f 2 0 ∷ h.first ∷ h.last ∷ x ∷ []) version-is

  abbrev numbered : List ℕ → Head
  numbered vs = record { market = get_or vs 0 0; kind = get_or vs 1 0; sent = get_or vs 2 0; seq = get_or vs 3 0; version = get_or vs 4 0; length = length f }

  pub head-is : record { market = get_or f 1 0; kind = get_or f 2 0; sent = h.first; seq = h.last; version = get_or f 11 0 / 16 * 10 + get_or f 11 0 % 16; length = length f } ≡ head_of f
  head-is = ap numbered (sym numbers)
