-- A reading by its steps: the outline, and the body behind its header.
use Rattle.std.specs.Prelude.{Err, Ok}
use Prim.Native.Nat.{ℕ, ◌+◌, ◌-◌, ◌≤◌}
use mathlib.Core.Path.{◌≡◌, refl, sym, ap, ap₂, ◌∙◌}
use mathlib.Core.Bool.{Bool, true, false, cond, ◌&&◌, and-true}
use mathlib.Core.List.{List}
use native.Mathlib.Omega.{arith}
use lib.ListN.{length, take, drop, length-drop}
use lib.Dec.{eqb}
use borrow.Author.Tests.{ne_eqb}
use Rattle.layout.specs.Cells.{size, good_cells}
use Rattle.layout.specs.Checks.{first_fail}
use Rattle.layout.proofs.CheckLaws.{only-fails}
use Rattle.answers.specs.Answers.{named}
use Rattle.answers.specs.declared.Answer.{Answer}
use Rattle.frame.specs.Header.{around, length_of, own, body, front, rear, outline_checks, Outlined}
use Rattle.frame.proofs.HeaderLaws.{length-own, length-body, around-length, within-line}
use Rattle.frame.proofs.OutlineSteps.{body-part}
use Rattle.exchange.specs.Reading.{Behind, answer_by}
use Rattle.exchange.proofs.ReadingLaws.{checks-outlined, checks-not, answer-not, answer-outlined}
use Rattle.derivatives_frame.specs.Outline.{header, market, kind, sent, sequence, version, head_of, outline_of}
use Rattle.derivatives_frame.specs.declared.head.Head.{Head}
use Rattle.derivatives_frame.proofs.HeaderHolds.{law}
use Rattle.derivatives_frame.proofs.PartLaws.{whole-outlined, not-outlined}
use Rattle.derivatives_index.specs.Index.{number_of, cells_of, body_length, values_of, index_checks, index_of, index_codec, no_index, body_place, index_reading}
use Rattle.derivatives_index.specs.declared.index.Index.{Index}
use Rattle.derivatives_index.specs.declared.index.IndexReading.{IndexReading}
use Rattle.derivatives_index.proofs.IndexLaws.{size-index, two-lengths}
use Rattle.derivatives_reading.specs.Reading.{derivatives, is_index, answer_of, index_in, index_at}

-- the cells of a body of a right length take all its bytes
pub size-cells : (b : List ℕ) → body_length (length b) ≡ true → size (cells_of b) ≡ length b
size-cells b h = omega (arith, size-index (length b - 9), (two-lengths (length b) h).0)

-- the exchange's own checks answer 7 to 13, and 11 where a digit of the body is bad
pub behind : Behind derivatives
behind = record {
  from-seven = λ f. refl;
  to-thirteen = λ f. refl;
  bad-digit = λ f e.
      let b = body header f in
      let checks = index_checks (market f) (kind f) (sent f) (version f) b in
      let h = only-fails 11 (take 3 checks) (good_cells (cells_of b) b) (drop 4 checks) refl refl (λ z. omega arith) e in
      (h.1, omega (arith, size-cells b h.0.1.1.0));
}

-- every kind is called by one of the two numbers
pub one_of_two : (k : ℕ) → is_index (number_of k) ≡ true
one_of_two k = go (eqb k 53)
  where
    go : (b : Bool) → is_index (cond b 60 64) ≡ true
    go true = refl
    go false = refl

-- ---- no whole outline
module _ (t : List ℕ) (a : Answer) (e : outline_of t ≡ Err a) where
  pub read-not : record { answer = a; index = no_index } ≡ index_at t
  unfolding answer_of index_in
  read-not =
      let n = not-outlined t a e in
      let same = n.1 ∙ answer-not derivatives behind t (record { format = 0; seq = 0; length = length_of header t }) refl n.0 in
      let none : no_index ≡ index_in t =
      sym (ap (λ (b : Bool). cond (b && is_index (number_of (kind (own header t)))) (index_codec.message (front header (own header t)) (rear header (own header t)) (values_of (body header (own header t)))) no_index)
      (ap (λ (k : ℕ). eqb k 0) (checks-not derivatives t n.0) ∙ ne_eqb (first_fail (outline_checks header t)) 0 n.0)) in
      ap₂ (λ (x : Answer) (i : Index). record { answer = x; index = i }) same none

-- ---- a whole outline at a place on a line, and its body as the part `&line[s..e]`
module _ (line : List ℕ) (at : ℕ) (h : Head) (e : outline_of (drop at line) ≡ Ok h) where
  abbrev t : List ℕ
  t = drop at line

  outlined : Outlined header t
  outlined = (whole-outlined t h e).0

  is-head : h ≡ head_of (own header t)
  is-head = (whole-outlined t h e).1

  pub head-length : h.length ≡ length_of header t
  head-length = ap (λ (x : Head). x.length) is-head ∙ length-own header law t outlined

  -- the frame stands on the line
  pub head-least : 17 ≤ h.length
  head-least = omega (arith, head-length, around-length header law t outlined)

  pub head-within : at + h.length ≤ length line
  head-within = omega (arith, head-length, within-line header law t outlined, length-drop at line, head-least)

  module _ (r : IndexReading) (s end : ℕ) (p : s ≡ at + 14) (q : end + 3 ≡ at + h.length)
      (is : r ≡ index_reading h (take (end - s) (drop s line))) where
    part : take (end - s) (drop s line) ≡ body header (own header t)
    part = body-part header law line at s end outlined p (q ∙ ap (λ (k : ℕ). at + k) head-length)

    pub read_whole : r ≡ index_at t
    unfolding answer_of index_in index_reading
    read_whole =
        let f = own header t in
        let b = body header f in
        let n = first_fail (index_checks (market f) (kind f) (sent f) (version f) b) in
        let same : named n (record { format = number_of (kind f); seq = sequence f; length = around header + length b }) (body_place b n) ≡ answer_by derivatives t =
        ap (λ (k : ℕ). named n (record { format = number_of (kind f); seq = sequence f; length = k }) (body_place b n)) (length-body header law t outlined)
        ∙ answer-outlined derivatives behind t outlined in
        let message : cond (eqb n 0) (index_of (market f) (kind f) (sent f) (sequence f) (values_of b)) no_index ≡ index_in t =
        sym (ap₂ (λ (k : ℕ) (x : Bool). cond (eqb k 0 && x) (index_of (market f) (kind f) (sent f) (sequence f) (values_of b)) no_index)
        (checks-outlined derivatives t outlined) (one_of_two (kind f))
        ∙ ap (λ (x : Bool). cond x (index_of (market f) (kind f) (sent f) (sequence f) (values_of b)) no_index) (and-true (eqb n 0))) in
        is ∙ ap₂ index_reading is-head part
        ∙ ap₂ (λ (x : Answer) (i : Index). record { answer = x; index = i }) same message
