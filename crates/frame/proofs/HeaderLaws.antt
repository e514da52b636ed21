-- The common frame written is read, and a whole outline is one that was written so; whatever bytes follow. Over any header.
use Prim.Native.Nat.{ℕ, suc, ◌+◌, ◌-◌, ◌^◌, ◌≤◌, ◌<◌}
use mathlib.Core.Path.{◌≡◌, refl, sym, ap, ap₂, ◌∙◌}
use mathlib.Core.Bool.{true, ◌&&◌}
use mathlib.Core.List.{List, [], ◌∷◌, ◌++◌, append_assoc}
use native.Mathlib.Omega.{arith}
use lib.ListN.{length, get_or, take, drop, length-append, length-drop, take-append-drop}
use lib.Seq.{take_at, drop_at, length-take-le, take-add, drop-drop, drop-cons, get_or-take}
use lib.Dec.{eqb, leb}
use borrow.Author.Tests.{eq-eqb, le-leb, leb-true, eqb-true}
use Rattle.digits.specs.Packed.{good_field, value, packed}
use Rattle.digits.proofs.PackedLaws.{length-packed, value-field-packed, good-field-packed, packed-field-value}
use Rattle.digits.proofs.Bools.{and_left, and_right, and_both}
use Rattle.digits.proofs.TestLaws.{holds}
use Rattle.layout.specs.Cells.{size, good_cells, decode, fits, encode}
use Rattle.layout.specs.Checks.{first_fail}
use Rattle.words.specs.Xor.{xor_of}
use Rattle.frame.specs.Header.{Header, length_at, length_end, start, around, length_bytes, length_of, own, inner, body, front, rear, head_good, check_byte, ended, length_right, outline_checks, Outlined}
use Rattle.frame.specs.Writing.{sealed, head_bytes, frame_around}
use Rattle.frame.specs.Codec.{HeaderLaw}
use Rattle.layout.proofs.CellLaws.{length-encode, good-encode, decode-encode, encode-decode, fits-decode}
use Rattle.layout.proofs.CheckLaws.{check-holds, checks-after}
use Rattle.frame.proofs.SealLaws.{length-sealed, check-sealed, ended-sealed}

-- ---- the checks by their names
module _ (H : Header) (t : List ℕ) where
  pub outlined-passes : Outlined H t → first_fail (outline_checks H t) ≡ 0
  outlined-passes o =
      rw (o.some, o.starts, o.headed, o.lengthed, o.whole, o.ends, o.checked, o.packed-head)

  pub passes-outlined : first_fail (outline_checks H t) ≡ 0 → Outlined H t
  passes-outlined p =
      let checks = outline_checks H t in
      let p1 = checks-after 1 (leb 1 (length t)) (drop 1 checks) p in
      let p2 = checks-after 0 (eqb (get_or t 0 0) 27) (drop 2 checks) p1 in
      let p3 = checks-after 1 (leb (length_end H) (length t)) (drop 3 checks) p2 in
      let p4 = checks-after 2 (length_right H t) (drop 4 checks) p3 in
      let p5 = checks-after 1 (leb (length_of H t) (length t)) (drop 5 checks) p4 in
      let p6 = checks-after 3 (ended (own H t)) (drop 6 checks) p5 in
      let p7 = checks-after 4 (eqb (check_byte (own H t)) (xor_of (inner (own H t)))) (drop 7 checks) p6 in
      record {
        some = check-holds 1 (leb 1 (length t)) (drop 1 checks) p;
        starts = check-holds 0 (eqb (get_or t 0 0) 27) (drop 2 checks) p1;
        headed = check-holds 1 (leb (length_end H) (length t)) (drop 3 checks) p2;
        lengthed = check-holds 2 (length_right H t) (drop 4 checks) p3;
        whole = check-holds 1 (leb (length_of H t) (length t)) (drop 5 checks) p4;
        ends = check-holds 3 (ended (own H t)) (drop 6 checks) p5;
        checked = check-holds 4 (eqb (check_byte (own H t)) (xor_of (inner (own H t)))) (drop 7 checks) p6;
        packed-head = check-holds 5 (head_good H (own H t)) [] p7;
      }

-- ---- the bytes p before the length, its bytes l, those behind it k, the body b, and anything behind the frame
module _ (H : Header) (p l k b : List ℕ) (lp : length p ≡ size H.before) (ll : length l ≡ 2) (lk : length k ≡ size H.after) where
  abbrev i : List ℕ
  i = (p ++ (l ++ k)) ++ b

  abbrev end : List ℕ
  end = xor_of i ∷ 13 ∷ 10 ∷ []

  length-parts : length (sealed i) ≡ around H + length b
  length-parts =
      length-sealed i
      ∙ omega (arith, length-append (p ++ (l ++ k)) b, length-append p (l ++ k), length-append l k)

  module _ (r : List ℕ) where
    abbrev more : List ℕ
    more = b ++ (end ++ r)

    regroup : drop 1 (sealed i ++ r) ≡ p ++ (l ++ (k ++ more))
    regroup = simp append_assoc

    -- what stands from the length on, and behind it
    at_length : drop (length_at H) (sealed i ++ r) ≡ l ++ (k ++ more)
    at_length =
        sym (drop-drop (size H.before) 1 (sealed i ++ r)) ∙ ap (drop (size H.before)) regroup
        ∙ drop_at p (l ++ (k ++ more)) (size H.before) lp

    at-rear : drop (length_end H) (sealed i ++ r) ≡ k ++ more
    at-rear =
        let e : length_end H ≡ length_at H + 2 = omega arith in
        ap (λ (n : ℕ). drop n (sealed i ++ r)) e ∙ sym (drop-drop 2 (length_at H) (sealed i ++ r)) ∙ ap (drop 2) at_length
        ∙ drop_at l (k ++ more) 2 ll

    at_body : drop (start H) (sealed i ++ r) ≡ more
    at_body =
        sym (drop-drop (size H.after) (length_end H) (sealed i ++ r)) ∙ ap (drop (size H.after)) at-rear
        ∙ drop_at k more (size H.after) lk

    length-bytes-parts : length_bytes H (sealed i ++ r) ≡ l
    length-bytes-parts = ap (take 2) at_length ∙ take_at l (k ++ more) 2 ll

  -- the frame alone
  alone : sealed i ++ [] ≡ sealed i
  alone = mathlib.Core.List.append-nil (sealed i)

  body-parts : body H (sealed i) ≡ b
  body-parts =
      let rest : drop (start H) (sealed i) ≡ b ++ end =
      ap (drop (start H)) (sym alone) ∙ at_body [] ∙ ap (λ (m : List ℕ). b ++ m) (mathlib.Core.List.append-nil end) in
      ap₂ (λ (n : ℕ) (m : List ℕ). take (n - around H) m) length-parts rest ∙ take_at b end (around H + length b - around H) (omega arith)

  rear-parts : drop (length_end H) (sealed i) ≡ k ++ more []
  rear-parts = ap (drop (length_end H)) (sym alone) ∙ at-rear []

  front-parts : drop 1 (sealed i) ≡ p ++ (l ++ (k ++ more []))
  front-parts = ap (drop 1) (sym alone) ∙ regroup []

  -- the checks hold where the bytes before the body say what they should
  module _ (gl : good_field 4 l ≡ true) (vl : H.whole (value l) ≡ around H + length b)
      (low : H.least ≤ around H + length b) (high : around H + length b ≤ H.most)
      (gp : (x : List ℕ) → good_cells H.before (p ++ x) ≡ true) (gk : (x : List ℕ) → good_cells H.after (k ++ x) ≡ true) (r : List ℕ) where
    told : length_of H (sealed i ++ r) ≡ around H + length b
    told = ap (λ (x : List ℕ). H.whole (value x)) (length-bytes-parts r) ∙ vl

    own-parts : own H (sealed i ++ r) ≡ sealed i
    own-parts = take_at (sealed i) r (length_of H (sealed i ++ r)) (length-parts ∙ sym told)

    enough : around H + length b ≤ length (sealed i ++ r)
    enough = omega (arith, length-append (sealed i) r, length-parts)

    outlined-parts : Outlined H (sealed i ++ r)
    outlined-parts =
        let f = sealed i in
        record {
          some = le-leb 1 (length (f ++ r)) (omega (arith, enough));
          starts = refl;
          headed = le-leb (length_end H) (length (f ++ r)) (omega (arith, enough));
          lengthed =
              and_both (ap (good_field 4) (length-bytes-parts r) ∙ gl)
              (rw told (and_both (le-leb H.least (around H + length b) low) (le-leb (around H + length b) H.most high)));
          whole = rw told (le-leb (around H + length b) (length (f ++ r)) enough);
          ends = ap ended own-parts ∙ ended-sealed i;
          checked = rw own-parts (eq-eqb (check_byte f) (xor_of (inner f)) (check-sealed i));
          packed-head =
              ap (head_good H) own-parts
              ∙ ap₂ (λ (x y : List ℕ). good_cells H.before x && good_cells H.after y) front-parts rear-parts
              ∙ and_both (gp (l ++ (k ++ more []))) (gk (more []));
        }

-- ---- a frame around a body is read as it was written, whatever follows it
module _ (H : Header) (law : HeaderLaw H) (vs ws b : List ℕ) (fv : fits H.before vs ≡ true) (fw : fits H.after ws ≡ true) where
  abbrev p : List ℕ
  p = encode H.before vs

  abbrev l : List ℕ
  l = packed 2 (H.counts (length b))

  abbrev k : List ℕ
  k = encode H.after ws

  lp : length p ≡ size H.before
  lp = length-encode H.before vs fv

  ll : length l ≡ 2
  ll = length-packed 2 (H.counts (length b))

  lk : length k ≡ size H.after
  lk = length-encode H.after ws fw

  pub length-frame : length (frame_around H vs ws b) ≡ around H + length b
  length-frame = length-parts H p l k b lp ll lk

  pub body-frame : body H (frame_around H vs ws b) ≡ b
  body-frame = body-parts H p l k b lp ll lk

  pub front-frame : front H (frame_around H vs ws b) ≡ vs
  front-frame = ap (decode H.before) (front-parts H p l k b lp ll lk) ∙ decode-encode H.before vs (l ++ (k ++ more H p l k b lp ll lk [])) fv

  pub rear-frame : rear H (frame_around H vs ws b) ≡ ws
  rear-frame = ap (decode H.after) (rear-parts H p l k b lp ll lk) ∙ decode-encode H.after ws (more H p l k b lp ll lk []) fw

  module _ (low : H.least ≤ around H + length b) (high : around H + length b ≤ H.most) (r : List ℕ) where
    small : H.counts (length b) < 10 ^ 4
    small = law.counts-small (length b) high

    says : H.whole (value l) ≡ around H + length b
    says = ap H.whole (value-field-packed 4 (H.counts (length b)) small) ∙ law.counts_whole (length b)

    pub own-frame : own H (frame_around H vs ws b ++ r) ≡ frame_around H vs ws b
    own-frame =
        own-parts H p l k b lp ll lk (good-field-packed 4 (H.counts (length b)) small) says low high
        (λ x. good-encode H.before vs x fv) (λ x. good-encode H.after ws x fw) r

    pub outlined-frame : Outlined H (frame_around H vs ws b ++ r)
    outlined-frame =
        outlined-parts H p l k b lp ll lk (good-field-packed 4 (H.counts (length b)) small) says low high
        (λ x. good-encode H.before vs x fv) (λ x. good-encode H.after ws x fw) r

-- ---- a whole outline is a frame around its body
-- a part of some bytes is the same in enough of them
pub part-taken : (k n m : ℕ) (l : List ℕ) → n + k ≤ m → take k (drop n (take m l)) ≡ take k (drop n l)
part-taken k Prim.Native.Nat.zero m l h = lib.Seq.take-take k m l (omega arith)
part-taken k (suc n) Prim.Native.Nat.zero l h = absurd (omega arith)
part-taken k (suc n) (suc m) [] h = refl
part-taken k (suc n) (suc m) (x ∷ l) h = part-taken k n m l (omega arith)

module _ (H : Header) (law : HeaderLaw H) where
  -- a right length is within its bounds
  pub right-length : (t : List ℕ) → length_right H t ≡ true → (H.least ≤ length_of H t) × (length_of H t ≤ H.most)
  right-length t r =
      let tests = good_field 4 (length_bytes H t) ∷ leb H.least (length_of H t) ∷ leb (length_of H t) H.most ∷ [] in
      (leb-true H.least (length_of H t) (holds tests r 1), leb-true (length_of H t) H.most (holds tests r 2))

  pub length-bytes-taken : (n : ℕ) (t : List ℕ) → length_end H ≤ n → length_bytes H (take n t) ≡ length_bytes H t
  length-bytes-taken n t h = part-taken 2 (length_at H) n t (omega arith)

  module _ (t : List ℕ) (o : Outlined H t) where
    pub least-length : H.least ≤ length_of H t
    least-length = (right-length t o.lengthed).0

    pub most-length : length_of H t ≤ H.most
    most-length = (right-length t o.lengthed).1

    pub around-length : around H ≤ length_of H t
    around-length = omega (arith, least-length, law.least-around)

    pub within-line : length_of H t ≤ length t
    within-line = leb-true (length_of H t) (length t) o.whole

    pub length-own : length (own H t) ≡ length_of H t
    length-own = length-take-le (length_of H t) t within-line

    first-own : get_or (own H t) 0 0 ≡ 27
    first-own = get_or-take (length_of H t) t 0 0 (omega (arith, around-length)) ∙ eqb-true (get_or t 0 0) 27 o.starts

    end-own : drop (length (own H t) - 4) (drop 1 (own H t)) ≡ xor_of (inner (own H t)) ∷ 13 ∷ 10 ∷ []
    end-own =
        let f = own H t in
        let n = length (own H t) in
        let big : 6 ≤ n = omega (arith, length-own, around-length) in
        let i2 : suc (n - 3) ≡ n - 2 = omega arith in
        let i1 : suc (n - 2) ≡ n - 1 = omega arith in
        let i0 : suc (n - 1) ≡ n = omega arith in
        let at3 : 1 + (n - 4) ≡ n - 3 = omega arith in
        let e1 : drop (n - 1) f ≡ get_or f (n - 1) 0 ∷ [] =
        drop-cons f (n - 1) 0 (omega arith) ∙ ap (λ (k : ℕ). get_or f (n - 1) 0 ∷ drop k f) i0 ∙ ap (λ (l : List ℕ). get_or f (n - 1) 0 ∷ l) (lib.Seq.drop-length f) in
        let e2 : drop (n - 2) f ≡ get_or f (n - 2) 0 ∷ get_or f (n - 1) 0 ∷ [] =
        drop-cons f (n - 2) 0 (omega arith) ∙ ap (λ (k : ℕ). get_or f (n - 2) 0 ∷ drop k f) i1 ∙ ap (λ (l : List ℕ). get_or f (n - 2) 0 ∷ l) e1 in
        let e3 : drop (n - 3) f ≡ get_or f (n - 3) 0 ∷ get_or f (n - 2) 0 ∷ get_or f (n - 1) 0 ∷ [] =
        drop-cons f (n - 3) 0 (omega arith) ∙ ap (λ (k : ℕ). get_or f (n - 3) 0 ∷ drop k f) i2 ∙ ap (λ (l : List ℕ). get_or f (n - 3) 0 ∷ l) e2 in
        let c : check_byte f ≡ xor_of (inner f) = eqb-true (check_byte f) (xor_of (inner f)) o.checked in
        let d : get_or f (n - 2) 0 ≡ 13 = eqb-true (get_or f (n - 2) 0) 13 (and_left _ _ o.ends) in
        let e : get_or f (n - 1) 0 ≡ 10 = eqb-true (get_or f (n - 1) 0) 10 (and_right (eqb (get_or f (n - 2) 0) 13) _ o.ends) in
        drop-drop (n - 4) 1 f ∙ ap (λ (k : ℕ). drop k f) at3 ∙ e3
        ∙ ap (λ (x : ℕ). x ∷ get_or f (n - 2) 0 ∷ get_or f (n - 1) 0 ∷ []) c
        ∙ ap (λ (x : ℕ). xor_of (inner f) ∷ x ∷ get_or f (n - 1) 0 ∷ []) d
        ∙ ap (λ (x : ℕ). xor_of (inner f) ∷ 13 ∷ x ∷ []) e

    own-sealed : own H t ≡ sealed (inner (own H t))
    own-sealed =
        let f = own H t in
        drop-cons f 0 0 (omega (arith, length-own, around-length))
        ∙ ap (λ (x : ℕ). x ∷ drop 1 f) first-own
        ∙ ap (λ (l : List ℕ). 27 ∷ l) (sym (take-append-drop (length f - 4) (drop 1 f)) ∙ ap (λ (l : List ℕ). inner f ++ l) end-own)

    pub length-body : around H + length (body H (own H t)) ≡ length_of H t
    length-body =
        omega (
          arith,
          length-own,
          around-length,
          length-take-le (length (own H t) - around H) (drop (start H) (own H t)) (rw length-drop (omega (arith, length-own, around-length))),
        )

    -- the header's numbers fit their cells
    front_long : size H.before ≤ length (drop 1 (own H t))
    front_long = rw length-drop (omega (arith, length-own, around-length))

    rear-long : size H.after ≤ length (drop (length_end H) (own H t))
    rear-long = rw length-drop (omega (arith, length-own, around-length))

    front-good : good_cells H.before (drop 1 (own H t)) ≡ true
    front-good = and_left _ _ o.packed-head

    rear-good : good_cells H.after (drop (length_end H) (own H t)) ≡ true
    rear-good = and_right (good_cells H.before (drop 1 (own H t))) _ o.packed-head

    pub front_fits : fits H.before (front H (own H t)) ≡ true
    front_fits = fits-decode H.before (drop 1 (own H t)) front_long front-good

    pub rear-fits : fits H.after (rear H (own H t)) ≡ true
    rear-fits = fits-decode H.after (drop (length_end H) (own H t)) rear-long rear-good

    -- the length's bytes are those of what the length counts
    length-packed-own : packed 2 (H.counts (length (body H (own H t)))) ≡ take 2 (drop (length_at H) (own H t))
    length-packed-own =
        let same : length_bytes H (own H t) ≡ length_bytes H t = length-bytes-taken (length_of H t) t (omega (arith, around-length)) in
        let count : length (body H (own H t)) ≡ length_of H t - around H = omega (arith, length-body) in
        let good = ap (good_field 4) same ∙ and_left _ _ o.lengthed in
        let two : length (length_bytes H (own H t)) ≡ 2 =
        length-take-le 2 (drop (length_at H) (own H t)) (rw length-drop (omega (arith, length-own, around-length))) in
        ap (λ (n : ℕ). packed 2 (H.counts n)) count
        ∙ ap (packed 2) (law.whole-counts (value (length_bytes H t)) least-length)
        ∙ ap (λ (x : List ℕ). packed 2 (value x)) (sym same)
        ∙ packed-field-value 4 (length_bytes H (own H t)) two good

    inner-parts : inner (own H t) ≡ head_bytes H (front H (own H t)) (rear H (own H t)) (length (body H (own H t))) ++ body H (own H t)
    inner-parts =
        let f = own H t in
        let m = length f - around H in
        let z = size H.before in
        let a = size H.after in
        let e : length f - 4 ≡ (z + (2 + a)) + m = omega (arith, length-own, around-length) in
        let at1 : 1 + z ≡ length_at H = omega arith in
        let at2 : length_at H + 2 ≡ length_end H = omega arith in
        let at3 : 1 + (z + (2 + a)) ≡ start H = omega arith in
        ap (λ (k : ℕ). take k (drop 1 f)) e ∙ take-add (z + (2 + a)) m (drop 1 f)
        ∙ ap₂ ◌++◌
        (take-add z (2 + a) (drop 1 f)
        ∙ ap₂ ◌++◌ (sym (encode-decode H.before (drop 1 f) front_long front-good))
        (ap (take (2 + a)) (drop-drop z 1 f) ∙ take-add 2 a (drop (length_at H) f)
        ∙ ap₂ ◌++◌ (sym length-packed-own)
        (ap (take a) (drop-drop 2 (length_at H) f ∙ ap (λ (k : ℕ). drop k f) at2) ∙ sym (encode-decode H.after (drop (length_end H) f) rear-long rear-good))))
        (ap (take m) (drop-drop (z + (2 + a)) 1 f ∙ ap (λ (k : ℕ). drop k f) at3))

    pub own-frame_around : own H t ≡ frame_around H (front H (own H t)) (rear H (own H t)) (body H (own H t))
    own-frame_around = own-sealed ∙ ap sealed inner-parts
