-- Reading a body: what its thirteen bytes hold, and one law for each answer.
use Rattle.std.specs.Prelude.{None}
use Prim.Native.Nat.{ℕ, ◌+◌, ◌*◌, ◌/◌, ◌%◌, ◌^◌, ◌≤◌}
use mathlib.Core.Path.{◌≡◌, refl, sym, ap, ap₂, ◌∙◌}
use mathlib.Core.Bool.{Bool, true, false, cond, ◌&&◌, and-true, and-false}
use mathlib.Core.List.{List, [], ◌∷◌, ◌++◌}
use native.Mathlib.Omega.{arith}
use lib.Dec.{eqb, leb}
use lib.ListN.{length, get_or, take, drop, length-drop}
use lib.Seq.{drop-drop, length-take-le, get_or-drop, get_or-take}
use borrow.Author.Tests.{lt-leb, leb-true}
use Rattle.digits.specs.Packed.{good, value, good_field}
use Rattle.words.specs.Blocks.{block_at}
use Rattle.words.specs.declared.blocks.Block.{Block}
use Rattle.digits.proofs.Bools.{and_both}
use Rattle.digits.proofs.Values.{even-field}
use Rattle.layout.specs.Cells.{raw, digits, good_cells}
use Rattle.layout.specs.Checks.{first_fail}
use Rattle.answers.specs.Answers.{named}
use Rattle.stock_frame.specs.Format.{ranged, values_of, body_checks, body_place, body_answer, digit_answer}
use Rattle.answers.specs.declared.Answer.{Answer}
use Rattle.answers.specs.declared.Answer.TheVariants.{Accepted, Refused}
use Rattle.stock_halts.specs.Halts.{nineteen_cells, times_right, nineteen_timed, code_fits, state_right, nineteen_ruled, nineteen, event_of, sending_of, halt_of, no_halt, halt_reading}
use Rattle.stock_halts.specs.declared.Event.{Event}
use Rattle.stock_halts.specs.declared.Sending.{Sending}
use Rattle.stock_halts.specs.declared.Halt.{Halt}
use Rattle.stock_halts.specs.declared.HaltReading.{HaltReading}
use Rattle.layout.proofs.RawLaws.{decode-raws, good-raws}
use Rattle.stock_frame.proofs.BodyCheckLaws.{fails-range, fails-digits, fails-times, fails-fields, fails-none, refused-answer, digit-answer}
use Rattle.stock_halts_read.proofs.TimeLaws.{times-good, first-time, second-time}
use Rattle.stock_halts.proofs.HaltLaws.{code-joined, halt-joined, resume-joined, state-joined, halt-of-joined}

-- ---- the answers
module _ (seq : ℕ) (b : List ℕ) where
  reading-of : (n : ℕ) → first_fail (body_checks nineteen b) ≡ n
      → halt_reading seq b ≡ record {
        answer = named n (record { format = 19; seq = seq; length = 13 + length b }) (body_place nineteen b n);
        halt = cond (eqb n 0) (halt_of seq (values_of nineteen b)) no_halt;
      }
  unfolding halt_reading body_answer
  reading-of n e =
      ap (λ (k : ℕ). record {
        answer = named k (record { format = 19; seq = seq; length = 13 + length b }) (body_place nineteen b k);
        halt = cond (eqb k 0) (halt_of seq (values_of nineteen b)) no_halt;
      }) e

  -- a refusal hands no halt on
  answered-as : (x : HaltReading) → x.answer ≡ body_answer nineteen seq b → x.halt ≡ no_halt → eqb (first_fail (body_checks nineteen b)) 0 ≡ false → x ≡ halt_reading seq b
  unfolding halt_reading
  answered-as x a h z =
      ap₂ (λ (y : Answer) (m : Halt). record { answer = y; halt = m }) a
      (h ∙ sym (ap (λ (t : Bool). cond t (halt_of seq (values_of nineteen b)) no_halt) z))

  pub refused_as : (n : ℕ) → eqb n 0 ≡ false → leb n 5 ≡ false → eqb n 11 ≡ false → first_fail (body_checks nineteen b) ≡ n → (k : ℕ) → k ≡ 13 + length b
      → (x : HaltReading) → (x.answer ≡ Refused n k None) × (x.halt ≡ no_halt) → x ≡ halt_reading seq b
  refused_as n z s d e k w x p =
      answered-as x (p.0 ∙ ap (λ (l : ℕ). Refused n l None) w ∙ refused-answer nineteen seq b n e z s d) p.1 (ap (λ (i : ℕ). eqb i 0) e ∙ z)

  pub digit-as : length b ≤ 13 → first_fail (body_checks nineteen b) ≡ 11
      → (x : HaltReading) → (x.answer ≡ digit_answer nineteen_cells b) × (x.halt ≡ no_halt) → x ≡ halt_reading seq b
  digit-as l e x p = answered-as x (p.0 ∙ digit-answer nineteen seq b nineteen_cells refl (omega arith) e) p.1 (ap (λ (i : ℕ). eqb i 0) e)

-- ---- a wrong length
pub wrong-length : (b : List ℕ) → (length b ≡ 13 → ⊥) → first_fail (body_checks nineteen b) ≡ 9
wrong-length b n = fails-range nineteen b (go (leb 26 (13 + length b)) refl)
  where
    go : (t : Bool) → leb 26 (13 + length b) ≡ t → (t && leb (13 + length b) 26) ≡ false
    go true e =
        let p : 26 ≤ 13 + length b = leb-true 26 (13 + length b) e in
        let q : length b ≤ 13 → ⊥ = λ u. n (omega arith) in
        lt-leb (13 + length b) 26 (omega arith)
    go false e = refl

-- ---- thirteen bytes
module _ (b : List ℕ) (l : length b ≡ 13) where
  within-range : ranged nineteen (length b) ≡ true
  within-range = ap (ranged nineteen) l

  sized : eqb 13 (length b) ≡ true
  sized = ap (eqb 13) l

  -- three bytes of good digits are a field 9(6)
  time-field : (at : ℕ) → at ≤ 10 → good_field 6 (take 3 (drop at b)) ≡ good (take 3 (drop at b))
  time-field at h =
      even-field 6 (take 3 (drop at b)) (ap (λ (n : ℕ). 100 ^ n) (sym (length-take-le 3 (drop at b) (rw length-drop (omega arith)))))

  good-told : good_cells nineteen_cells b ≡ (good (take 3 (drop 6 b)) && good (take 3 (drop 9 b)))
  good-told =
      good-raws 6 (digits 6 ∷ digits 6 ∷ raw ∷ []) b
      ∙ ap₂ ◌&&◌ (time-field 6 (omega arith))
      (and-true (good_field 6 (take 3 (drop 3 (drop 6 b))))
      ∙ ap (λ (k : List ℕ). good_field 6 (take 3 k)) (drop-drop 3 6 b)
      ∙ time-field 9 (omega arith))

  values-told : values_of nineteen b ≡ take 6 b ++ (value (take 3 (drop 6 b)) ∷ value (take 3 (drop 9 b)) ∷ get_or b 12 0 ∷ [])
  values-told =
      decode-raws 6 (digits 6 ∷ digits 6 ∷ raw ∷ []) b (omega arith)
      ∙ ap₂ (λ (x y : List ℕ). take 6 b ++ (value (take 3 (drop 6 b)) ∷ value (take 3 x) ∷ get_or (take 1 y) 0 0 ∷ []))
      (drop-drop 3 6 b) (ap (drop 3) (drop-drop 3 6 b) ∙ drop-drop 3 9 b)
      ∙ ap (λ (x : ℕ). take 6 b ++ (value (take 3 (drop 6 b)) ∷ value (take 3 (drop 9 b)) ∷ x ∷ []))
      (get_or-take 1 (drop 12 b) 0 0 (omega arith) ∙ get_or-drop 12 b 0 0)

  -- ---- both times as the halves of six bytes
  module _ (t : Block) (e : t ≡ block_at 6 2 b 6) where
    good-times : good_cells nineteen_cells b ≡ t.good
    good-times = good-told ∙ sym (times-good b 6 (omega arith) t e)

    -- a bad digit in a time
    pub bad-times : t.good ≡ false → first_fail (body_checks nineteen b) ≡ 11
    bad-times g = fails-digits nineteen b within-range refl sized (good-times ∙ g)

  module _ (t : Block) (e : t ≡ block_at 6 2 b 6) (g : t.good ≡ true) where
    abbrev h : ℕ
    h = t.first * 100 + t.last / 1000000

    abbrev r : ℕ
    r = t.last % 1000000

    good-digits : good_cells nineteen_cells b ≡ true
    good-digits = good-times t e ∙ g

    six-long : length (take 6 b) ≡ 6
    six-long = length-take-le 6 b (omega arith)

    values-are : values_of nineteen b ≡ take 6 b ++ (h ∷ r ∷ get_or b 12 0 ∷ [])
    values-are =
        values-told
        ∙ ap₂ (λ (x y : ℕ). take 6 b ++ (x ∷ y ∷ get_or b 12 0 ∷ [])) (first-time b 6 (omega arith) t e g) (second-time b 6 (omega arith) t e g)

    timed-told : nineteen_timed (values_of nineteen b) ≡ times_right h r
    timed-told =
        ap nineteen_timed values-are
        ∙ ap₂ times_right (halt-joined (take 6 b) six-long h r (get_or b 12 0)) (resume-joined (take 6 b) six-long h r (get_or b 12 0))

    ruled-told : nineteen_ruled (values_of nineteen b) ≡ (code_fits (take 6 b) h r && state_right (get_or b 12 0))
    ruled-told =
        ap nineteen_ruled values-are
        ∙ cc (
          code-joined (take 6 b) six-long h r (get_or b 12 0),
          halt-joined (take 6 b) six-long h r (get_or b 12 0),
          resume-joined (take 6 b) six-long h r (get_or b 12 0),
          state-joined (take 6 b) six-long h r (get_or b 12 0),
        )

    pub wrong-times : times_right h r ≡ false → first_fail (body_checks nineteen b) ≡ 12
    wrong-times m = fails-times nineteen b within-range refl sized good-digits (timed-told ∙ m)

    module _ (m : times_right h r ≡ true) where
      pub wrong-code : code_fits (take 6 b) h r ≡ false → first_fail (body_checks nineteen b) ≡ 13
      wrong-code e =
          fails-fields nineteen b within-range refl sized good-digits (timed-told ∙ m)
          (ruled-told ∙ ap (λ (x : Bool). x && state_right (get_or b 12 0)) e)

      pub wrong-state : state_right (get_or b 12 0) ≡ false → first_fail (body_checks nineteen b) ≡ 13
      wrong-state e =
          fails-fields nineteen b within-range refl sized good-digits (timed-told ∙ m)
          (ruled-told ∙ ap (λ (x : Bool). code_fits (take 6 b) h r && x) e ∙ and-false (code_fits (take 6 b) h r))

      accepted : (n : ℕ) → code_fits (take 6 b) h r ≡ true → state_right (get_or b 12 0) ≡ true
          → halt_reading n b ≡ record {
            answer = Accepted (record { format = 19; seq = n; length = 26 });
            halt = record { seq = n; code = take 6 b; event = event_of (take 6 b) h r; state = sending_of (get_or b 12 0) };
          }
      accepted n p q =
          reading-of n b 0 (fails-none nineteen b within-range refl sized good-digits (timed-told ∙ m) (ruled-told ∙ and_both p q))
          ∙ ap₂ (λ (k : ℕ) (m : Halt). record { answer = Accepted (record { format = 19; seq = n; length = 13 + k }); halt = m }) l
          (ap (halt_of n) values-are ∙ halt-of-joined (take 6 b) six-long h r (get_or b 12 0) n)

      -- the message of the four parts that were read
      pub accepted-as : (n : ℕ) → code_fits (take 6 b) h r ≡ true → state_right (get_or b 12 0) ≡ true
          → (code : List ℕ) (event : Event) (state : Sending) → code ≡ take 6 b → event ≡ event_of code h r → state ≡ sending_of (get_or b 12 0)
          → ◌≡◌ {A = HaltReading} (record { answer = Accepted (record { format = 19; seq = n; length = 26 }); halt = record { seq = n; code = code; event = event; state = state } })
          (halt_reading n b)
      accepted-as n p q code event state e v w = rw (v, w, e) (sym (accepted n p q))
