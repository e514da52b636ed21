-- The outline check by check: what each check that fails answers, and what the header's digits tell.
use Rattle.std.specs.Prelude.{Err, None, Ok, Option, Result, Some}
use Prim.Native.Nat.{ℕ, ◌+◌, ◌-◌, ◌*◌, ◌%◌, ◌≤◌, ◌<◌}
use mathlib.Core.Path.{◌≡◌, refl, sym, ap, ap₂, ◌∙◌}
use mathlib.Core.Bool.{Bool, true, false, cond, ◌&&◌}
use mathlib.Core.List.{List, [], ◌∷◌}
use native.Mathlib.Omega.{arith}
use lib.ListN.{length, get_or, take, drop, length-drop}
use lib.Seq.{drop-cons, take-length, take-take, get_or-take, get_or-drop, length-take-le}
use lib.Dec.{eqb, leb}
use borrow.Author.Tests.{eq-eqb, ne_eqb, le-leb}
use Rattle.digits.specs.Packed.{good_byte, good, two, value, good_field}
use Rattle.words.specs.Blocks.{block_of, no_block, block_at}
use Rattle.words.specs.declared.blocks.Block.{Block}
use Rattle.digits.proofs.Bools.{and_left, and_both}
use Rattle.digits.proofs.TestLaws.{holds}
use Rattle.digits.proofs.PackedLaws.{two-lt}
use Rattle.layout.specs.Cells.{good_cells, decode}
use Rattle.layout.specs.Places.{first_bad}
use Rattle.layout.specs.Checks.{first_fail}
use Rattle.answers.specs.Answers.{named}
use Rattle.words.specs.Xor.{xor_of}
use Rattle.frame.specs.Header.{last_checks}
use Rattle.frame.proofs.OutlineSteps as common
use Rattle.frame.proofs.LineSteps as line
use Rattle.stock_frame.specs.Outline.{header, length_bytes, length_cells, length_of, own, inner, kind_cells, check_byte, ended, length_right, outline_checks, head_of, outline_place, outline_of}
use Rattle.answers.specs.declared.Answer.TheVariants.{NoFrame, Refused}
use Rattle.stock_frame.proofs.OutlineLaws.{length-bytes-taken, right-length}
use Rattle.layout.proofs.WholeLaws.{good-wholes}
use Rattle.stock_frame.specs.declared.head.Head.{Head}
use Rattle.answers.specs.declared.Answer.{Answer}

-- ---- the first check that fails answers
module _ (t : List ℕ) where
  pub answered : (k : ℕ) → first_fail (outline_checks t) ≡ k
      → cond (eqb k 0) (Ok (head_of (own t))) (Err (named k (record { format = 0; seq = 0; length = length_of t }) (outline_place k t))) ≡ outline_of t
  unfolding outline_of
  answered k e = ap (λ (n : ℕ). cond (eqb n 0) (Ok (head_of (own t))) (Err (named n (record { format = 0; seq = 0; length = length_of t }) (outline_place n t)))) (sym e)

  pub check-none : length t < 1 → Err (NoFrame 2 None) ≡ outline_of t
  check-none h = answered 2 (common.fails-empty header t h)

  module _ (some : 1 ≤ length t) where
    pub check-first : (get_or t 0 0 ≡ 27 → ⊥) → Err (NoFrame 1 None) ≡ outline_of t
    check-first h = answered 1 (common.fails-first header t some h)

    module _ (starts : get_or t 0 0 ≡ 27) where
      pub check-three : length t < 3 → Err (NoFrame 2 None) ≡ outline_of t
      check-three h = answered 2 (common.fails-header header t some starts h)

      module _ (three : 3 ≤ length t) where
        pub check-length : length_right t ≡ false → Err (NoFrame 3 (first_bad length_cells 2 (length_bytes t))) ≡ outline_of t
        check-length h = answered 3 (common.fails-length header t some starts three h)

        module _ (right : length_right t ≡ true) where
          pub check-whole : length t < length_of t → Err (NoFrame 2 None) ≡ outline_of t
          check-whole h = answered 2 (common.fails-whole header t some starts three right h)

          module _ (whole : length_of t ≤ length t) where
            left-checks : first_fail (outline_checks t) ≡ first_fail (last_checks header (own t))
            left-checks = common.passed-whole header t some starts three right whole

            pub check-end : ended (own t) ≡ false → Err (NoFrame 4 None) ≡ outline_of t
            check-end h = answered 4 (left-checks ∙ rw h)

            module _ (ends : ended (own t) ≡ true) where
              pub check-byte : (check_byte (own t) ≡ xor_of (inner (own t)) → ⊥) → Err (NoFrame 5 None) ≡ outline_of t
              check-byte h = answered 5 (left-checks ∙ rw (ends, ne_eqb (check_byte (own t)) (xor_of (inner (own t))) h))

              module _ (checked : check_byte (own t) ≡ xor_of (inner (own t))) where
                pub check-head : good_cells kind_cells (drop 3 (own t)) ≡ false → Err (Refused 6 (length_of t) (first_bad kind_cells 6 (drop 3 (own t)))) ≡ outline_of t
                check-head h =
                    answered 6 (left-checks ∙ rw (ends, eq-eqb (check_byte (own t)) (xor_of (inner (own t))) checked, h))

                pub check-all : good_cells kind_cells (drop 3 (own t)) ≡ true → Ok (head_of (own t)) ≡ outline_of t
                check-all h =
                    answered 0 (left-checks ∙ rw (ends, eq-eqb (check_byte (own t)) (xor_of (inner (own t))) checked, h))

-- ---- the header's digits: x is the length's last byte, g what follows it
module _ (x : ℕ) (g : List ℕ) (long : 7 ≤ length g) where
  pub head-good : good_byte x ≡ true → good (take 8 (x ∷ g)) ≡ good_cells kind_cells g
  head-good h = ap (λ (t : Bool). t && good (take 7 g)) h ∙ sym (good-wholes (1 ∷ 1 ∷ 1 ∷ 4 ∷ []) g long)

-- six digits behind others
six-digits : (x a b c : ℕ) → a < 100 → b < 100 → c < 100 → (((x * 100 + a) * 100 + b) * 100 + c) % 1000000 ≡ (a * 100 + b) * 100 + c
six-digits x a b c ha hb hc = omega arith

pub head-kind : (x : ℕ) (g : List ℕ) → 3 ≤ length g → good (take 7 g) ≡ true
    → value (take 4 (take 8 (x ∷ g))) % 1000000
    ≡ (get_or (decode kind_cells g) 0 0 * 100 + get_or (decode kind_cells g) 1 0) * 100 + get_or (decode kind_cells g) 2 0
head-kind x (a ∷ b ∷ c ∷ g) l h =
    let tests = good_byte a ∷ good_byte b ∷ good_byte c ∷ good (take 4 g) ∷ [] in
    let e : ((0 + two a) * 100 + (0 + two b)) * 100 + (0 + two c) ≡ (two a * 100 + two b) * 100 + two c = omega arith in
    six-digits (0 + two x) (two a) (two b) (two c) (two-lt a (holds tests h 0)) (two-lt b (holds tests h 1)) (two-lt c (holds tests h 2)) ∙ sym e
head-kind x [] l h = absurd (omega arith)
head-kind x (a ∷ []) l h = absurd (omega arith)
head-kind x (a ∷ b ∷ []) l h = absurd (omega arith)

pub head-number : (x : ℕ) (g : List ℕ) → 3 ≤ length g → value (drop 4 (take 8 (x ∷ g))) ≡ get_or (decode kind_cells g) 3 0
head-number x (a ∷ b ∷ c ∷ g) l = refl
head-number x [] l = absurd (omega arith)
head-number x (a ∷ []) l = absurd (omega arith)
head-number x (a ∷ b ∷ []) l = absurd (omega arith)

-- ---- the bytes of the length, one by one
pub length-bytes : (t : List ℕ) → 3 ≤ length t → length_bytes t ≡ get_or t 1 0 ∷ get_or t 2 0 ∷ []
length-bytes (a ∷ b ∷ c ∷ t) h = refl
length-bytes [] h = absurd (omega arith)
length-bytes (a ∷ []) h = absurd (omega arith)
length-bytes (a ∷ b ∷ []) h = absurd (omega arith)

-- the length that two bytes give, if they give one
abbrev pub length_in : ℕ → ℕ → Option ℕ
length_in a b = cond (length_right (27 ∷ a ∷ b ∷ [])) (Some (length_of (27 ∷ a ∷ b ∷ []))) None

-- the length that they give
module _ (t : List ℕ) (three : 3 ≤ length t) where
  same-right : length_right t ≡ length_right (27 ∷ get_or t 1 0 ∷ get_or t 2 0 ∷ [])
  same-right = ap (λ (bs : List ℕ). good_field 4 bs && (leb 14 (value bs) && leb (value bs) 1024)) (length-bytes t three)

  same_length : length_of t ≡ length_of (27 ∷ get_or t 1 0 ∷ get_or t 2 0 ∷ [])
  same_length = ap value (length-bytes t three)

  pub length_last : length_right t ≡ true → good_byte (get_or t 2 0) ≡ true
  length_last right =
      let g : good (get_or t 1 0 ∷ get_or t 2 0 ∷ []) ≡ true = ap good (sym (length-bytes t three)) ∙ and_left (good (length_bytes t)) _ (and_left (good_field 4 (length_bytes t)) _ right) in
      holds (good_byte (get_or t 1 0) ∷ good_byte (get_or t 2 0) ∷ true ∷ []) g 1

  module _ (r : Option ℕ) (is : r ≡ length_in (get_or t 1 0) (get_or t 2 0)) where
    by-test : r ≡ cond (length_right t) (Some (length_of t)) None
    by-test = is ∙ ap₂ (λ (b : Bool) (k : ℕ). cond b (Some k) None) (sym same-right) (sym same_length)

    pub length_none : r ≡ None → length_right t ≡ false
    length_none = line.length_none header t r by-test

    pub length_some : (n : ℕ) → r ≡ Some n → (length_right t ≡ true) × (n ≡ length_of t)
    length_some = line.length_some header t r by-test

-- ---- the outline is that of the frame's own bytes

module _ (t : List ℕ) (starts : get_or t 0 0 ≡ 27) (three : 3 ≤ length t) (right : length_right t ≡ true) (whole : length_of t ≤ length t) where
  least : 14 ≤ length_of t
  least = (right-length t right).0

  own-bytes : length_bytes (own t) ≡ length_bytes t
  own-bytes = length-bytes-taken (length_of t) t (omega (arith, least))

  pub own-length : length_of (own t) ≡ length_of t
  own-length = ap value own-bytes

  pub own-count : length (own t) ≡ length_of t
  own-count = length-take-le (length_of t) t whole

  pub own-right : length_right (own t) ≡ true
  own-right = ap (λ (bs : List ℕ). good_field 4 bs && (leb 14 (value bs) && leb (value bs) 1024)) own-bytes ∙ right

  pub own-starts : get_or (own t) 0 0 ≡ 27
  own-starts = get_or-take (length_of t) t 0 0 (omega (arith, least)) ∙ starts

  pub own-own : own (own t) ≡ own t
  own-own = ap (λ (k : ℕ). take k (own t)) own-length ∙ take-take (length_of t) (length_of t) t (omega arith)

-- the outline of a number: the frame's own bytes, those of its length, and the length
abbrev placed : ℕ → List ℕ → List ℕ → ℕ → Result Head Answer
placed n m bs l =
    cond (eqb n 0) (Ok (head_of m))
    (Err (named n (record { format = 0; seq = 0; length = l })
    (cond (eqb n 3) (first_bad length_cells 2 bs) (cond (eqb n 6) (first_bad kind_cells 6 (drop 3 m)) None))))

-- any bytes behind the frame's own change nothing
pub outline-own : (t : List ℕ) → get_or t 0 0 ≡ 27 → 3 ≤ length t → length_right t ≡ true → length_of t ≤ length t → outline_of (own t) ≡ outline_of t
unfolding outline_of
outline-own t starts three right whole =
    let f = own t in
    let count = own-count t starts three right whole in
    let told = own-length t starts three right whole in
    let same = own-own t starts three right whole in
    let checks : first_fail (outline_checks f) ≡ first_fail (outline_checks t) =
    common.passed-whole header f (omega (arith, count, least t starts three right whole)) (own-starts t starts three right whole) (omega (arith, count, least t starts three right whole)) (own-right t starts three right whole) (omega arith)
    ∙ ap (λ (m : List ℕ). first_fail (last_checks header m)) same
    ∙ sym (common.passed-whole header t (omega arith) starts three right whole) in
    let bytes = own-bytes t starts three right whole in
    ap₂ (λ (n l : ℕ). cond (eqb n 0) (Ok (head_of (own f))) (Err (named n (record { format = 0; seq = 0; length = l }) (outline_place n f)))) checks told
    ∙ ap₂ (λ (m bs : List ℕ). placed (first_fail (outline_checks t)) m bs (length_of t)) same bytes

-- ---- a frame's own bytes f, test by test
module _ (f : List ℕ) (long : 14 ≤ length f) (starts : get_or f 0 0 ≡ 27) (right : length_right f ≡ true) (told : length_of f ≡ length f) where
  is-own : own f ≡ f
  is-own = ap (λ (k : ℕ). take k f) told ∙ take-length f

  pub own-return : (get_or f (length f - 2) 0 ≡ 13 → ⊥) → Err (NoFrame 4 None) ≡ outline_of f
  own-return h =
      check-end f (omega arith) starts (omega arith) right (omega arith)
      (ap ended is-own ∙ ap (λ (t : Bool). t && eqb (get_or f (length f - 1) 0) 10) (ne_eqb (get_or f (length f - 2) 0) 13 h))

  module _ (cr : get_or f (length f - 2) 0 ≡ 13) where
    pub own-feed : (get_or f (length f - 1) 0 ≡ 10 → ⊥) → Err (NoFrame 4 None) ≡ outline_of f
    own-feed h =
        check-end f (omega arith) starts (omega arith) right (omega arith)
        (ap ended is-own ∙ ap₂ ◌&&◌ (eq-eqb (get_or f (length f - 2) 0) 13 cr) (ne_eqb (get_or f (length f - 1) 0) 10 h))

    module _ (lf : get_or f (length f - 1) 0 ≡ 10) (x : ℕ) (is : x ≡ xor_of (take (length f - 3 - 1) (drop 1 f))) where
      ends : ended (own f) ≡ true
      ends = ap ended is-own ∙ and_both (eq-eqb (get_or f (length f - 2) 0) 13 cr) (eq-eqb (get_or f (length f - 1) 0) 10 lf)

      covers : xor_of (inner (own f)) ≡ x
      covers =
          let e : length f - 3 - 1 ≡ length f - 4 = omega arith in
          sym (is ∙ ap (λ (k : ℕ). xor_of (take k (drop 1 f))) e ∙ ap (λ (m : List ℕ). xor_of (inner m)) (sym is-own))

      pub own-check : (get_or f (length f - 3) 0 ≡ x → ⊥) → Err (NoFrame 5 None) ≡ outline_of f
      own-check h =
          check-byte f (omega arith) starts (omega arith) right (omega arith) ends
          (λ q. h (sym (ap check_byte is-own) ∙ q ∙ covers))

      module _ (same : get_or f (length f - 3) 0 ≡ x) (h : Block) (read : h ≡ block_at 8 4 f 2) where
        checked : check_byte (own f) ≡ xor_of (inner (own f))
        checked = ap check_byte is-own ∙ same ∙ sym covers

        -- the length's last byte, and what follows
        apart : drop 2 f ≡ get_or f 2 0 ∷ drop 3 f
        apart = drop-cons f 2 0 (omega arith)

        enough : 7 ≤ length (drop 3 f)
        enough = rw length-drop (omega arith)

        halves : h ≡ block_of 4 (take 8 (get_or f 2 0 ∷ drop 3 f))
        halves =
            read ∙ ap (λ (t : Bool). cond t (block_of 4 (take 8 (drop 2 f))) no_block) (le-leb (2 + 8) (length f) (omega arith))
            ∙ ap (λ (m : List ℕ). block_of 4 (take 8 m)) apart

        digits-good : h.good ≡ good_cells kind_cells (drop 3 (own f))
        digits-good =
            ap (λ (r : Block). r.good) halves ∙ head-good (get_or f 2 0) (drop 3 f) enough (length_last f (omega arith) right)
            ∙ ap (λ (m : List ℕ). good_cells kind_cells (drop 3 m)) (sym is-own)

        pub own-head : h.good ≡ false → (p : Option ℕ) → p ≡ first_bad kind_cells 6 (drop 3 f) → Err (Refused 6 (length f) p) ≡ outline_of f
        own-head b p at =
            ap₂ (λ (k : ℕ) (x : Option ℕ). Err (Refused 6 k x)) (sym told) (at ∙ ap (λ (m : List ℕ). first_bad kind_cells 6 (drop 3 m)) (sym is-own))
            ∙ check-head f (omega arith) starts (omega arith) right (omega arith) ends checked (sym digits-good ∙ b)

        pub own-whole : h.good ≡ true → Ok (record { kind = h.first % 1000000; seq = h.last; length = length f }) ≡ outline_of f
        own-whole b =
            let g : good (take 7 (drop 3 f)) ≡ true =
            sym (good-wholes (1 ∷ 1 ∷ 1 ∷ 4 ∷ []) (drop 3 f) enough) ∙ ap (λ (m : List ℕ). good_cells kind_cells (drop 3 m)) (sym is-own) ∙ sym digits-good ∙ b in
            let k = ap (λ (r : Block). r.first % 1000000) halves ∙ head-kind (get_or f 2 0) (drop 3 f) (omega (arith, enough)) g in
            let s = ap (λ (r : Block). r.last) halves ∙ head-number (get_or f 2 0) (drop 3 f) (omega (arith, enough)) in
            ap₂ (λ (x y : ℕ). Ok (record { kind = x; seq = y; length = length f })) k s
            ∙ ap (λ (m : List ℕ). Ok (head_of m)) (sym is-own)
            ∙ check-all f (omega arith) starts (omega arith) right (omega arith) ends checked (sym digits-good ∙ b)

-- ---- a line from a place on, test by test
module _ (line : List ℕ) (at : ℕ) where
  byte_at : (k : ℕ) → get_or (drop at line) k 0 ≡ get_or line (at + k) 0
  byte_at k = get_or-drop at line k 0

  first-at : get_or (drop at line) 0 0 ≡ get_or line at 0
  first-at = let e : at + 0 ≡ at = omega arith in byte_at 0 ∙ ap (λ (k : ℕ). get_or line k 0) e

  pub line-none : length line ≤ at → Err (NoFrame 2 None) ≡ outline_of (drop at line)
  line-none h = check-none (drop at line) (rw length-drop (omega arith))

  module _ (some : at < length line) where
    pub line_first : (get_or line at 0 ≡ 27 → ⊥) → Err (NoFrame 1 None) ≡ outline_of (drop at line)
    line_first h = check-first (drop at line) (rw length-drop (omega arith)) (λ q. h (sym first-at ∙ q))

    module _ (starts : get_or line at 0 ≡ 27) where
      pub line-three : length line - at < 3 → Err (NoFrame 2 None) ≡ outline_of (drop at line)
      line-three h = check-three (drop at line) (rw length-drop (omega arith)) (first-at ∙ starts) (rw length-drop (omega arith))

      module _ (three : 3 ≤ length line - at) (r : Option ℕ) (is : r ≡ length_in (get_or line (at + 1) 0) (get_or line (at + 2) 0)) where
        enough-at : 3 ≤ length (drop at line)
        enough-at = rw length-drop three

        length_at : r ≡ length_in (get_or (drop at line) 1 0) (get_or (drop at line) 2 0)
        length_at = is ∙ ap₂ length_in (sym (byte_at 1)) (sym (byte_at 2))

        pub line-length : r ≡ None → (p : Option ℕ) → p ≡ first_bad length_cells 2 (length_bytes (drop at line)) → Err (NoFrame 3 p) ≡ outline_of (drop at line)
        line-length z p said =
            ap (λ (x : Option ℕ). Err (NoFrame 3 x)) said
            ∙ check-length (drop at line) (rw length-drop (omega arith)) (first-at ∙ starts) enough-at
            (length_none (drop at line) enough-at r length_at z)

        module _ (n : ℕ) (length-is : r ≡ Some n) where
          right-at : length_right (drop at line) ≡ true
          right-at = (length_some (drop at line) enough-at r length_at n length-is).0

          told_at : n ≡ length_of (drop at line)
          told_at = (length_some (drop at line) enough-at r length_at n length-is).1

          pub line-whole : length line - at < n → Err (NoFrame 2 None) ≡ outline_of (drop at line)
          line-whole h =
              check-whole (drop at line) (rw length-drop (omega arith)) (first-at ∙ starts) enough-at right-at
              (rw (length-drop, ← told_at) h)

          module _ (whole : n ≤ length line - at) where
            whole-at : length_of (drop at line) ≤ length (drop at line)
            whole-at = rw (length-drop, ← told_at) whole

            part-own : take (at + n - at) (drop at line) ≡ own (drop at line)
            part-own = let e : at + n - at ≡ n = omega arith in ap (λ (k : ℕ). take k (drop at line)) (e ∙ told_at)

            -- what the frame's own part has to be
            pub line-part : (14 ≤ length (take (at + n - at) (drop at line))) × (get_or (take (at + n - at) (drop at line)) 0 0 ≡ 27)
                × (length_right (take (at + n - at) (drop at line)) ≡ true)
                × (length_of (take (at + n - at) (drop at line)) ≡ length (take (at + n - at) (drop at line)))
            line-part =
                let t = drop at line in
                let s = first-at ∙ starts in
                let count = own-count t s enough-at right-at whole-at in
                rw part-own (
                  omega (arith, count, least t s enough-at right-at whole-at),
                  own-starts t s enough-at right-at whole-at,
                  own-right t s enough-at right-at whole-at,
                  own-length t s enough-at right-at whole-at ∙ sym count,
                )

            pub line-own : outline_of (take (at + n - at) (drop at line)) ≡ outline_of (drop at line)
            line-own = ap outline_of part-own ∙ outline-own (drop at line) (first-at ∙ starts) enough-at right-at whole-at
