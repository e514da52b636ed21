-- Writing a halt: which halts are legal, and the cells of the body put one behind another.
use Prim.Native.Nat.{ℕ, ◌^◌, ◌≤◌, ◌<◌}
use mathlib.Core.Path.{◌≡◌, refl, sym, ap, ap₂, ◌∙◌}
use mathlib.Core.Bool.{Bool, true, false, ◌&&◌, ◌||◌, and-true, and-false}
use mathlib.Core.List.{List, [], ◌∷◌, ◌++◌, append_assoc}
use native.Mathlib.Omega.{arith}
use lib.Dec.{eqb, ltb}
use lib.ListN.{length, set, replicate, length-append}
use lib.Seq.{sets}
use borrow.Author.Tests.{eqb-true, lt-ltb, le-ltb}
use Rattle.digits.specs.Packed.{packed}
use Rattle.digits.specs.Fields.{put_at}
use Rattle.digits.proofs.Bools.{and_left, and_right, and_both}
use Rattle.layout.specs.Cells.{raw, digits, fits, encode}
use Rattle.codes_times.specs.Times.{nines, time_of_day}
use Rattle.stock_frame.specs.Codec.{legal}
use Rattle.stock_frame.proofs.CodecLaws.{legal-timed}
use Rattle.stock_halts.specs.Halts.{nineteen_cells, round_times, times_right, nineteen_timed, code_fits, state_right, nineteen_ruled, halt_number, resume_number_of, sending_byte, halt_values, tidy_event, nineteen_codec, ShapedHalt}
use Rattle.stock_halts.specs.declared.Sending.{Sending}
use Rattle.stock_halts.specs.declared.Sending.TheVariants.{Cycle, Instant}
use Rattle.stock_halts.specs.declared.Halt.{Halt}
use Rattle.layout.proofs.RawLaws.{fits-raws, encode-raws}
use Rattle.layout.proofs.PutLaws.{put_next, put-digits}
use Rattle.stock_halts.proofs.HaltLaws.{day-lt, code-joined, halt-joined, resume-joined, state-joined}

-- the state's byte is right
state-told : (s : Sending) → state_right (sending_byte s) ≡ true
state-told Cycle = refl
state-told Instant = refl

-- times that are right have six digits
pub times-fit : (h r : ℕ) → times_right h r ≡ true → (h < 10 ^ 6) × (r < 10 ^ 6)
times-fit h r p = go (round_times h r) refl p
  where
    resumed : (t : Bool) → eqb r (nines 0) ≡ t → (t || time_of_day 0 r) ≡ true → r < 10 ^ 6
    resumed true e q = omega (arith, eqb-true r (nines 0) e)
    resumed false e q = omega (arith, day-lt r q)

    go : (t : Bool) → round_times h r ≡ t → (t || (time_of_day 0 h && (eqb r (nines 0) || time_of_day 0 r))) ≡ true → (h < 10 ^ 6) × (r < 10 ^ 6)
    go true e q = (omega (arith, eqb-true h (nines 0) (and_left _ _ e)), omega (arith, eqb-true r (nines 0) (and_right (eqb h (nines 0)) _ e)))
    go false e q = (omega (arith, day-lt h (and_left _ _ q)), resumed (eqb r (nines 0)) refl (and_right (time_of_day 0 h) _ q))

module _ (m : Halt) (shaped : ShapedHalt m) where
  abbrev h : ℕ
  h = halt_number m.event

  abbrev r : ℕ
  r = resume_number_of m.event

  abbrev s : ℕ
  s = sending_byte m.state

  fits_told : fits nineteen_cells (halt_values m) ≡ (ltb h (10 ^ 6) && (ltb r (10 ^ 6) && true))
  fits_told =
      ap (λ (n : ℕ). fits (replicate n raw ++ (digits 6 ∷ digits 6 ∷ raw ∷ [])) (halt_values m)) (sym shaped.code-long)
      ∙ fits-raws m.code (digits 6 ∷ digits 6 ∷ raw ∷ []) (h ∷ r ∷ s ∷ [])

  timed-told : nineteen_timed (halt_values m) ≡ times_right h r
  timed-told = ap₂ times_right (halt-joined m.code shaped.code-long h r s) (resume-joined m.code shaped.code-long h r s)

  ruled-told : nineteen_ruled (halt_values m) ≡ code_fits m.code h r
  ruled-told =
      cc (
        code-joined m.code shaped.code-long h r s,
        halt-joined m.code shaped.code-long h r s,
        resume-joined m.code shaped.code-long h r s,
        state-joined m.code shaped.code-long h r s,
      )
      ∙ ap (λ (t : Bool). code_fits m.code h r && t) (state-told m.state) ∙ and-true (code_fits m.code h r)

  -- what is legal, test by test
  pub legal-told : legal nineteen_codec m
      ≡ (ltb m.seq (10 ^ 8) && ((ltb h (10 ^ 6) && (ltb r (10 ^ 6) && true)) && (times_right h r && (code_fits m.code h r && tidy_event m.code m.event))))
  legal-told =
      ap (λ (x : Bool). ltb m.seq (10 ^ 8) && (x && (nineteen_timed (halt_values m) && (nineteen_ruled (halt_values m) && tidy_event m.code m.event)))) fits_told
      ∙ ap₂ (λ (x y : Bool). ltb m.seq (10 ^ 8) && ((ltb h (10 ^ 6) && (ltb r (10 ^ 6) && true)) && (x && (y && tidy_event m.code m.event)))) timed-told ruled-told

  pub illegal-seq : 99999999 < m.seq → legal nineteen_codec m ≡ false
  illegal-seq g = legal-told ∙ rw (le-ltb m.seq (10 ^ 8) (omega arith))

  module _ (g : m.seq ≤ 99999999) where
    seq-fits : ltb m.seq (10 ^ 8) ≡ true
    seq-fits = lt-ltb m.seq (10 ^ 8) (omega arith)

    pub illegal-times : times_right h r ≡ false → legal nineteen_codec m ≡ false
    illegal-times e = legal-told ∙ rw (seq-fits, e) (and-false (ltb h (10 ^ 6) && (ltb r (10 ^ 6) && true)))

    module _ (t : times_right h r ≡ true) where
      both-fit : (ltb h (10 ^ 6) && (ltb r (10 ^ 6) && true)) ≡ true
      both-fit = and_both (lt-ltb h (10 ^ 6) (times-fit h r t).0) (and_both (lt-ltb r (10 ^ 6) (times-fit h r t).1) refl)

      pub illegal-code : code_fits m.code h r ≡ false → legal nineteen_codec m ≡ false
      illegal-code e = legal-told ∙ rw (seq-fits, both-fit, t, e)

      pub legal-rest : code_fits m.code h r ≡ true → legal nineteen_codec m ≡ tidy_event m.code m.event
      legal-rest e = legal-told ∙ rw (seq-fits, both-fit, t, e)

  -- ---- the body put
  module _ (l : legal nineteen_codec m ≡ true) where
    legal-times : times_right h r ≡ true
    legal-times = sym timed-told ∙ legal-timed nineteen_codec m l

    encoded : encode nineteen_cells (halt_values m) ≡ ((m.code ++ packed 3 h) ++ packed 3 r) ++ (s ∷ [])
    encoded =
        ap (λ (n : ℕ). encode (replicate n raw ++ (digits 6 ∷ digits 6 ∷ raw ∷ [])) (halt_values m)) (sym shaped.code-long)
        ∙ encode-raws m.code (digits 6 ∷ digits 6 ∷ raw ∷ []) (h ∷ r ∷ s ∷ [])
        ∙ sym (append_assoc (m.code ++ packed 3 h) (packed 3 r) (s ∷ []) ∙ append_assoc m.code (packed 3 h) (packed 3 r ++ (s ∷ [])))

    -- the stores that the code makes: x, y and z are the halt's two times and the state's byte
    pub body-put : (x y z : ℕ) → x ≡ h → y ≡ r → z ≡ s → (buf b₁ b₂ b₃ : List ℕ) → 26 ≤ length buf
        → b₁ ≡ sets buf 10 m.code → b₂ ≡ put_at x 3 b₁ 16 → b₃ ≡ put_at y 3 b₂ 19
        → set b₃ 22 z ≡ sets buf 10 (encode nineteen_cells (halt_values m))
    body-put x y z ex ey ez buf b₁ b₂ b₃ room p₁ q₂ q₃ =
        let n = shaped.code-long in
        let f = times-fit h r legal-times in
        let c₂ : List ℕ = m.code ++ packed 3 h in
        let c₃ : List ℕ = (m.code ++ packed 3 h) ++ packed 3 r in
        let p₂ : b₂ ≡ sets buf 10 c₂ =
        q₂ ∙ ap (λ (v : ℕ). put_at v 3 b₁ 16) ex ∙ put-digits m.code buf b₁ 10 16 p₁ (omega arith) 6 h (omega arith) (omega arith) f.0 in
        let n₂ : length c₂ ≡ 9 = length-append m.code (packed 3 h) ∙ omega arith in
        let p₃ : b₃ ≡ sets buf 10 c₃ =
        q₃ ∙ ap (λ (v : ℕ). put_at v 3 b₂ 19) ey ∙ put-digits c₂ buf b₂ 10 19 p₂ (omega arith) 6 r (omega arith) (omega arith) f.1 in
        let n₃ : length c₃ ≡ 12 = length-append c₂ (packed 3 r) ∙ omega arith in
        ap (set b₃ 22) ez ∙ put_next c₃ buf b₃ 10 22 p₃ (omega arith) (s ∷ []) ∙ ap (sets buf 10) (sym encoded)
