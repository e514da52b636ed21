-- An outcome tells what it was made from: nothing of an answer is lost in its one number.
use Rattle.std.specs.Prelude.{Err, None, Ok, Option, Some}
use Prim.Native.Nat.{ℕ, ◌%◌, ◌≤◌, ◌<◌}
use mathlib.Core.Path.{◌≡◌, refl, sym, ap, ap₂, ◌∙◌, subst}
use mathlib.Core.Bool.{Bool, true, false, cond}
use mathlib.Core.List.{List, ◌∷◌}
use native.Mathlib.Numerals.{add-one}
use native.Mathlib.Nat.{mod-eq_of_lt}
use native.Mathlib.Omega.{arith}
use lib.ListN.{length}
use lib.Dec.{eqb, leb}
use borrow.Author.Tests.{eqb-true, ne_eqb, leb-false}
use Rattle.layout.specs.Checks.{Check, must, first_fail}
use Rattle.answers.specs.Answers.{named, answer_number, answer_length, answer_place, written_number}
use Rattle.answers.specs.declared.Frame.{Frame}
use Rattle.answers.specs.declared.Answer.{Answer}
use Rattle.answers.specs.declared.Answer.TheVariants.{Accepted, NoFrame, Refused}
use Rattle.frame.specs.Writing.{write_answer}
use Rattle.stock_frame.proofs.FigureLaws.{number-named}
use Rattle.c_outcomes.specs.Lent.{is_of}
use Rattle.c_outcomes.specs.Outcomes.{outcome, answer_part, format_part, length_part, seq_part, place_number, place_from, read_outcome, past_outcome, write_outcome}
use Rattle.answers.specs.declared.WriteError.TheVariants.{Illegal, NoRoom}

-- the four parts of an outcome are what it was made from
pub outcome-parts : (a f l s : ℕ) → a < 256 → f < 256 → l < 65536
    → (answer_part (outcome a f l s) ≡ a) × (format_part (outcome a f l s) ≡ f) × (length_part (outcome a f l s) ≡ l) × (seq_part (outcome a f l s) ≡ s)
outcome-parts a f l s ha hf hl = (omega arith, omega arith, omega arith, omega arith)

-- ---- what an outcome tells
-- the frame that its figures tell, or the place, and the answer
abbrev pub frame_in : ℕ → Frame
frame_in x = record { format = format_part x; seq = seq_part x; length = length_part x }

abbrev pub answer_in : ℕ → Answer
answer_in x = named (answer_part x) (frame_in x) (place_from (seq_part x))

-- its number is the answer's
pub number_in : (x : ℕ) (a : Answer) → answer_in x ≡ a → answer_part x ≡ answer_number a
number_in x a e = sym (number-named (answer_part x) (frame_in x) (place_from (seq_part x))) ∙ ap answer_number e

-- and the figures are those of an accepted frame
pub frame-in : (x : ℕ) (f : Frame) → answer_in x ≡ Accepted f → (format_part x ≡ f.format) × (length_part x ≡ f.length) × (seq_part x ≡ f.seq)
frame-in x f e =
    let same = go (eqb (answer_part x) 0) (leb (answer_part x) 5) e in
    (ap (λ (g : Frame). g.format) same, ap (λ (g : Frame). g.length) same, ap (λ (g : Frame). g.seq) same)
  where
    go : (t u : Bool) → cond t (Accepted (frame_in x)) (cond u (NoFrame (answer_part x) (place_from (seq_part x))) (Refused (answer_part x) (length_part x) (place_from (seq_part x)))) ≡ Accepted f → frame_in x ≡ f
    go true u q = cc
    go false true q = cc
    go false false q = cc

-- and the place is a refusal's
pub place_in : (x : ℕ) (a : Answer) → answer_in x ≡ a → (answer_number a ≡ 0 → ⊥) → place_from (seq_part x) ≡ answer_place a
place_in x a e other = go (eqb (answer_part x) 0) (leb (answer_part x) 5) refl e
  where
    go : (t u : Bool) → eqb (answer_part x) 0 ≡ t → cond t (Accepted (frame_in x)) (cond u (NoFrame (answer_part x) (place_from (seq_part x))) (Refused (answer_part x) (length_part x) (place_from (seq_part x)))) ≡ a
        → place_from (seq_part x) ≡ answer_place a
    go true u z q = absurd (other (sym (ap answer_number q)))
    go false true z q = ap answer_place q
    go false false z q = ap answer_place q

-- a place below the largest that 32 bits can tell is told
pub place-back : (p : Option ℕ) → ((q : ℕ) → p ≡ Some q → q < 4294967295) → place_from (place_number p) ≡ p
place-back None h = refl
place-back (Some q) h = ap place_from (add-one (q % 4294967295)) ∙ ap Some (mod-eq_of_lt (h q refl))

-- the outcome of an answer with some bytes tells both, where the bytes are those of the frame, if there is one
told : (n bytes : ℕ) (f : Frame) (p : Option ℕ) → n ≤ 13 → bytes < 65536 → (n ≡ 0 → f.format < 256) → place_from (place_number p) ≡ p
    → ((1 ≤ n → n ≤ 5 → ⊥) → bytes ≡ answer_length (named n f p))
    → let x = past_outcome (named n f p) bytes in (answer_in x ≡ named n f p) × (length_part x ≡ bytes)
told n bytes f p few small low back = go (eqb n 0) (leb n 5) refl refl
  where
    go : (x y : Bool) → eqb n 0 ≡ x → leb n 5 ≡ y → let a = cond x (Accepted f) (cond y (NoFrame n p) (Refused n f.length p)) in
        ((1 ≤ n → n ≤ 5 → ⊥) → bytes ≡ answer_length a) → (answer_in (past_outcome a bytes) ≡ a) × (length_part (past_outcome a bytes) ≡ bytes)
    go true y e q same =
        let z : n ≡ 0 = eqb-true n 0 e in
        let o = outcome-parts 0 f.format bytes f.seq (omega arith) (low z) small in
        let long = o.2 ∙ same (λ u v. omega arith) in
        (λ i. named (o.0 i) (record { format = o.1 i; seq = o.3 i; length = long i }) (place_from (o.3 i)), o.2)
    go false true e q same =
        let o = outcome-parts n 0 bytes (place_number p) (omega arith) (omega arith) small in
        let x = outcome n 0 bytes (place_number p) in
        (ap (λ (k : ℕ). named k (frame_in x) (place_from (seq_part x))) o.0 ∙ rw (e, q) (ap (NoFrame n) (ap place_from o.3 ∙ back)), o.2)
    go false false e q same =
        let o = outcome-parts n 0 bytes (place_number p) (omega arith) (omega arith) small in
        let x = outcome n 0 bytes (place_number p) in
        let long = o.2 ∙ same (λ u v. omega (arith, leb-false n 5 q)) in
        (ap (λ (k : ℕ). named k (frame_in x) (place_from (seq_part x))) o.0 ∙ rw (e, q) (ap₂ (Refused n) long (ap place_from o.3 ∙ back)), o.2)

-- the length beside an answer is that of a frame, or 0
length-small : (n : ℕ) (f : Frame) (p : Option ℕ) → ((1 ≤ n → n ≤ 5 → ⊥) → f.length ≤ 1024) → answer_length (named n f p) ≤ 1024
length-small n f p long = go (eqb n 0) (leb n 5) refl refl
  where
    go : (x y : Bool) → eqb n 0 ≡ x → leb n 5 ≡ y → answer_length (cond x (Accepted f) (cond y (NoFrame n p) (Refused n f.length p))) ≤ 1024
    go true y e q = long (λ u v. omega (arith, eqb-true n 0 e))
    go false true e q = omega arith
    go false false e q = long (λ u v. omega (arith, leb-false n 5 q))

-- the format stands beside acceptance only
format-beside : (n : ℕ) (f : Frame) (p : Option ℕ) (k : ℕ) → n ≤ 13 → (n ≡ 0 → f.format < 256) → 1 ≤ k → is_of k (named n f p) ≡ eqb (format_part (read_outcome (named n f p))) k
format-beside n f p k few low one = go (eqb n 0) (leb n 5) refl
  where
    none : (l s : ℕ) → false ≡ eqb (format_part (outcome n 0 l s)) k
    none l s = sym (ne_eqb (format_part (outcome n 0 l s)) k (λ e. omega arith))

    go : (x y : Bool) → eqb n 0 ≡ x → let a = cond x (Accepted f) (cond y (NoFrame n p) (Refused n f.length p)) in is_of k a ≡ eqb (format_part (read_outcome a)) k
    go true y e =
        let small : f.format < 256 = low (eqb-true n 0 e) in
        let is : f.format ≡ format_part (outcome 0 f.format f.length f.seq) = omega arith in
        ap (λ (m : ℕ). eqb m k) is
    go false true e = none 0 (place_number p)
    go false false e = none f.length (place_number p)

-- a reading's outcome has the answer's length for the bytes
read_past : (a : Answer) → read_outcome a ≡ past_outcome a (answer_length a)
read_past (Accepted f) = refl
read_past (NoFrame n p) = refl
read_past (Refused n l p) = refl

-- ---- the answers of a reading
-- none of 1 to 5 is answered only behind the four checks on the length
pub right-before : (n : ℕ) (a b c d : Bool) (rs : List Check) → first_fail (must 2 a ∷ must 1 b ∷ must 2 c ∷ must 3 d ∷ rs) ≡ n → (1 ≤ n → n ≤ 5 → ⊥) → d ≡ true
right-before n true true true true rs e h = refl
right-before n true true true false rs e h = absurd (h (omega arith) (omega arith))
right-before n true true false d rs e h = absurd (h (omega arith) (omega arith))
right-before n true false c d rs e h = absurd (h (omega arith) (omega arith))
right-before n false b c d rs e h = absurd (h (omega arith) (omega arith))

-- an answer whose number, format, length and place have room in an outcome
pub record Tellable (a : Answer) : Type 0 where
  pub frame : Frame
  pub place : Option ℕ
  pub is-named : a ≡ named (answer_number a) frame place
  pub few : answer_number a ≤ 13
  pub low : answer_number a ≡ 0 → frame.format < 256
  pub short : (1 ≤ answer_number a → answer_number a ≤ 5 → ⊥) → frame.length ≤ 1024
  pub near : (q : ℕ) → place ≡ Some q → q < 4294967295

module _ (a : Answer) (h : Tellable a) where
  -- the length beside it is at most 1,024
  pub answer-short : answer_length a ≤ 1024
  answer-short = omega (arith, ap answer_length h.is-named, length-small (answer_number a) h.frame h.place h.short)

  -- the outcome of the answer, with the bytes to go past, tells both
  pub past_back : (bytes : ℕ) → bytes < 65536 → ((1 ≤ answer_number a → answer_number a ≤ 5 → ⊥) → bytes ≡ answer_length a)
      → let x = past_outcome a bytes in (answer_in x ≡ a) × (length_part x ≡ bytes)
  past_back bytes small same =
      subst (λ (b : Answer). let x = past_outcome b bytes in (answer_in x ≡ b) × (length_part x ≡ bytes)) (sym h.is-named)
      (told (answer_number a) bytes h.frame h.place h.few small h.low (place-back h.place h.near)
      (λ n. same n ∙ ap answer_length h.is-named))

  -- a reading's outcome tells the answer
  pub reading-back : answer_in (read_outcome a) ≡ a
  reading-back = ap answer_in (read_past a) ∙ (past_back (answer_length a) (omega (arith, answer-short)) (λ n. refl)).0

  -- it has the answer's number and the length beside it
  pub reading-told : (answer_part (read_outcome a) ≡ answer_number a) × (length_part (read_outcome a) ≡ answer_length a)
  reading-told = (
    number_in (read_outcome a) a reading-back,
    ap length_part (read_past a) ∙ (past_back (answer_length a) (omega (arith, answer-short)) (λ n. refl)).1,
  )

  -- of an accepted frame it has the format, the length and the number
  pub accepted-told : (f : Frame) → a ≡ Accepted f
      → (format_part (read_outcome a) ≡ f.format) × (length_part (read_outcome a) ≡ f.length) × (seq_part (read_outcome a) ≡ f.seq)
  accepted-told f e = frame-in (read_outcome a) f (reading-back ∙ e)

  -- of a refusal it has the place of the bad digit that it tells, or none
  pub place-told : (answer_number a ≡ 0 → ⊥) → place_from (seq_part (read_outcome a)) ≡ answer_place a
  place-told n = place_in (read_outcome a) a reading-back n

  -- it has a format exactly where a frame of the format is accepted, and so where lent memory is filled
  pub format-told : (format : ℕ) → 1 ≤ format → is_of format a ≡ eqb (format_part (read_outcome a)) format
  format-told k one =
      subst (λ (b : Answer). is_of k b ≡ eqb (format_part (read_outcome b)) k) (sym h.is-named)
      (format-beside (answer_number a) h.frame h.place k h.few h.low one)

-- ---- the answers of a writing
-- a writing's outcome has its length, and answer 0
pub write-told : (n : ℕ) → n < 65536 → (answer_part (write_outcome (Ok n)) ≡ 0) × (length_part (write_outcome (Ok n)) ≡ n)
write-told n h = let o = outcome-parts 0 0 n 0 (omega arith) (omega arith) h in (o.0, o.2)

-- the outcome of writing a frame that is short where it is legal has the answer's number, and where it is done the length, which is at most 1,024
pub writing-told : (legal : Bool) (f buf : List ℕ) → (legal ≡ true → length f ≤ 1024) → let w = write_answer legal f buf in
    (answer_part (write_outcome w) ≡ written_number w) × ((n : ℕ) → w ≡ Ok n → (n ≤ 1024) × (length_part (write_outcome w) ≡ n))
writing-told legal f buf short = go legal (leb (length f) (length buf)) short
  where
    go : (t u : Bool) → (t ≡ true → length f ≤ 1024) → let w = cond t (cond u (Ok (length f)) (Err NoRoom)) (Err Illegal) in
        (answer_part (write_outcome w) ≡ written_number w) × ((n : ℕ) → w ≡ Ok n → (n ≤ 1024) × (length_part (write_outcome w) ≡ n))
    go true true s =
        let h = s refl in
        let o = write-told (length f) (omega arith) in
        (o.0, λ n e. let same : length f ≡ n = cc in (omega arith, o.1 ∙ same))
    go true false s = (refl, λ n e. let z : ◌≡◌ {A = ℕ} 0 1 = cc in absurd (omega arith))
    go false u s = (refl, λ n e. let z : ◌≡◌ {A = ℕ} 0 1 = cc in absurd (omega arith))
