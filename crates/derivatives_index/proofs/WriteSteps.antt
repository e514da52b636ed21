-- Writing an index value: what each test tells of its legality, and the bytes of its body.
use Prim.Native.Nat.{ℕ, ◌+◌, ◌-◌, ◌/◌, ◌^◌, ◌≤◌, ◌<◌}
use mathlib.Core.Path.{◌≡◌, refl, sym, ap, ◌∙◌}
use mathlib.Core.Bool.{Bool, true, false, cond, ◌&&◌}
use mathlib.Core.List.{List, [], ◌∷◌, ◌++◌, append_assoc}
use native.Mathlib.Omega.{arith}
use lib.ListN.{length, take, drop, set, length-append, length-drop}
use lib.Seq.{sets, take_all, length-take-le}
use lib.Dec.{eqb, ltb}
use borrow.Author.Tests.{eq-eqb, lt-ltb, ltb-true, le-leb}
use Rattle.digits.specs.Packed.{packed}
use Rattle.digits.specs.Fields.{put_at}
use Rattle.digits.proofs.Bools.{and_left, and_right, and_both, no_false}
use Rattle.digits.proofs.TestLaws.{all, ◌also◌, together}
use Rattle.layout.specs.Cells.{raw, digits, size, fits, encode}
use Rattle.layout.specs.Bytes.{bytes_over}
use Rattle.layout.proofs.RawLaws.{fits-raws, encode-raws}
use Rattle.layout.proofs.PutLaws.{bytes-in, put_next, put-digits}
use Rattle.codes_times.specs.Times.{time_of_day, code_right, every}
use Rattle.frame.specs.Header.{around}
use Rattle.frame.specs.Codec.{legal_tests, legal}
use Rattle.frame.proofs.CodecLaws.{legal-front, legal-fits, legal-rules, legal-tidy}
use Rattle.derivatives_frame.specs.Outline.{header}
use Rattle.derivatives_index.specs.Index.{known, version_of, free, index_cells, beside, body_length, room, index_values, tidy_index, index_codec, ShapedIndex}
use Rattle.derivatives_index.specs.declared.index.Index.{Index}
use Rattle.derivatives_index.proofs.IndexLaws.{size-index, two-lengths, contract-of, time-of, status-of}

-- ---- what the tests of a number tell
-- a time of day with hundredths has eight digits
pub day-small : (t : ℕ) → time_of_day 2 t ≡ true → t < 10 ^ 8
day-small t h =
    let d : t / 1000000 < 24 = ltb-true (t / 1000000) 24 (and_left _ _ h) in omega arith

-- the bytes behind a place, and the others
pub clear_behind : (l : List ℕ) (n r : ℕ) → length l ≡ r → every (eqb 0) (take (r - n) (drop n l)) ≡ every (eqb 0) (drop n l)
clear_behind l n r e = ap (every (eqb 0)) (take_all (r - n) (drop n l) (rw length-drop (omega arith)))

-- ---- what the tests of a message come to
module _ (m : Index) where
  -- the contract's bytes
  abbrev c : List ℕ
  c = take m.length m.contract

  rules-told : index_codec.rules (index_codec.before m) [] (size (index_cells m.length)) (index_values m)
      ≡ (known m.market m.kind
      && (true
      && (body_length (m.length + beside)
      && ((time_of_day 2 m.sent && time_of_day 2 m.time) && (code_right c && ltb m.status (2 ^ free m.kind))))))
  rules-told =
      let v : eqb (version_of m.kind) (version_of m.kind) ≡ true = eq-eqb (version_of m.kind) (version_of m.kind) refl in
      let t = time-of c m.time m.value.0 m.status in
      let k = contract-of c m.time m.value.0 m.status in
      let s = status-of c m.time m.value.0 m.status in
      λ i. known m.market m.kind
      && (v i
      && (body_length (size-index m.length i)
      && ((time_of_day 2 m.sent && time_of_day 2 (t i)) && (code_right (k i) && ltb (s i) (2 ^ free m.kind)))))

  -- ---- what a legal one keeps
  module _ (l : legal index_codec m ≡ true) where
    all-rules : (known m.market m.kind
        && (body_length (m.length + beside)
        && ((time_of_day 2 m.sent && time_of_day 2 m.time) && (code_right c && ltb m.status (2 ^ free m.kind)))))
        ≡ true
    all-rules = sym rules-told ∙ legal-rules index_codec m l

    keeps-known : known m.market m.kind ≡ true
    keeps-known = and_left _ _ all-rules

    behind-known : (body_length (m.length + beside)
        && ((time_of_day 2 m.sent && time_of_day 2 m.time) && (code_right c && ltb m.status (2 ^ free m.kind))))
        ≡ true
    behind-known = and_right (known m.market m.kind) _ all-rules

    pub keeps-length : body_length (m.length + beside) ≡ true
    keeps-length = and_left _ _ behind-known

    behind-length : ((time_of_day 2 m.sent && time_of_day 2 m.time) && (code_right c && ltb m.status (2 ^ free m.kind))) ≡ true
    behind-length = and_right (body_length (m.length + beside)) _ behind-known

    keeps-times : (time_of_day 2 m.sent && time_of_day 2 m.time) ≡ true
    keeps-times = and_left _ _ behind-length

    keeps-sent : time_of_day 2 m.sent ≡ true
    keeps-sent = and_left _ _ keeps-times

    pub keeps-time : time_of_day 2 m.time ≡ true
    keeps-time = and_right (time_of_day 2 m.sent) _ keeps-times

    keeps-last : (code_right c && ltb m.status (2 ^ free m.kind)) ≡ true
    keeps-last = and_right (time_of_day 2 m.sent && time_of_day 2 m.time) _ behind-length

    keeps-code : code_right c ≡ true
    keeps-code = and_left _ _ keeps-last

    keeps-status : ltb m.status (2 ^ free m.kind) ≡ true
    keeps-status = and_right (code_right c) _ keeps-last

    keeps-seq : m.seq < 10 ^ 8
    keeps-seq = ltb-true m.seq (10 ^ 8) (and_left _ _ (and_right (ltb m.sent (10 ^ 8)) _ (legal-front index_codec m l)))

    -- a short contract or a long one has room
    pub keeps-room : m.length ≤ room
    keeps-room = omega (arith, (two-lengths (m.length + beside) keeps-length).1)

  -- ---- what an illegal one breaks
  illegal : (legal index_codec m ≡ true → ⊥) → false ≡ legal index_codec m
  illegal refuted = go (legal index_codec m) refl
    where
      go : (t : Bool) → legal index_codec m ≡ t → false ≡ legal index_codec m
      go true e = absurd (refuted e)
      go false e = sym e

  pub illegal-length : body_length (m.length + beside) ≡ false → false ≡ legal index_codec m
  illegal-length e = illegal (λ l. no_false (sym e ∙ keeps-length l))

  pub illegal-places : tidy_index m ≡ false → false ≡ legal index_codec m
  illegal-places e = illegal (λ l. no_false (sym e ∙ legal-tidy index_codec m l))

  pub illegal-seq : 99999999 < m.seq → false ≡ legal index_codec m
  illegal-seq h = illegal (λ l. omega (arith, keeps-seq l))

  pub illegal-known : known m.market m.kind ≡ false → false ≡ legal index_codec m
  illegal-known e = illegal (λ l. no_false (sym e ∙ keeps-known l))

  pub illegal-sent : time_of_day 2 m.sent ≡ false → false ≡ legal index_codec m
  illegal-sent e = illegal (λ l. no_false (sym e ∙ keeps-sent l))

  pub illegal-time : time_of_day 2 m.time ≡ false → false ≡ legal index_codec m
  illegal-time e = illegal (λ l. no_false (sym e ∙ keeps-time l))

  pub illegal-code : code_right c ≡ false → false ≡ legal index_codec m
  illegal-code e = illegal (λ l. no_false (sym e ∙ keeps-code l))

  -- ---- a message of the right shape
  module _ (s : ShapedIndex m) where
    c-long : m.length ≤ room → length c ≡ m.length
    c-long h = length-take-le m.length m.contract (omega (arith, s.contract-long))

    fits_told : m.length ≤ room → fits (index_cells m.length) (index_values m) ≡ (ltb m.time (10 ^ 8) && (ltb m.value.0 (10 ^ 8) && true))
    fits_told h =
        ap (λ (n : ℕ). fits (index_cells n) (index_values m)) (sym (c-long h))
        ∙ fits-raws c (digits 8 ∷ digits 8 ∷ raw ∷ []) (m.time ∷ m.value.0 ∷ m.status ∷ [])

    pub keeps-value : legal index_codec m ≡ true → m.value.0 < 10 ^ 8
    keeps-value l =
        ltb-true m.value.0 (10 ^ 8)
        (and_left _ _ (and_right (ltb m.time (10 ^ 8)) _ (sym (fits_told (keeps-room l)) ∙ legal-fits index_codec m l)))

    pub illegal-value : 99999999 < m.value.0 → false ≡ legal index_codec m
    illegal-value h = illegal (λ l. omega (arith, keeps-value l))

    -- all but the status is right
    module _ (n : body_length (m.length + beside) ≡ true) (z : tidy_index m ≡ true) (q : m.seq ≤ 99999999) (v : m.value.0 ≤ 99999999)
        (k : known m.market m.kind ≡ true) (d : time_of_day 2 m.sent ≡ true) (t : time_of_day 2 m.time ≡ true) (p : code_right c ≡ true) where
      has_room : m.length ≤ room
      has_room = omega (arith, (two-lengths (m.length + beside) n).1)

      version-small : (b : Bool) → cond {A = ℕ} b 2 1 < 10 ^ 2
      version-small true = omega arith
      version-small false = omega arith

      legal-all : ltb m.status (2 ^ free m.kind) ≡ true → legal index_codec m ≡ true
      legal-all e =
          let w = size-index m.length in
          together (legal_tests index_codec m)
          (and_both (lt-ltb m.sent (10 ^ 8) (day-small m.sent d))
          (and_both (lt-ltb m.seq (10 ^ 8) (omega arith)) (and_both (lt-ltb (version_of m.kind) (10 ^ 2) (version-small (eqb m.kind 53))) refl))
          also refl
          also le-leb 17 (around header + size (index_cells m.length)) (omega (arith, w))
          also le-leb (around header + size (index_cells m.length)) 1024 (omega (arith, w, has_room))
          also fits_told has_room ∙ and_both (lt-ltb m.time (10 ^ 8) (day-small m.time t)) (and_both (lt-ltb m.value.0 (10 ^ 8) (omega arith)) refl)
          also rules-told ∙ and_both k (and_both n (and_both (and_both d t) (and_both p e)))
          also z
          also all)

      pub legal-status : ltb m.status (2 ^ free m.kind) ≡ legal index_codec m
      legal-status = go (ltb m.status (2 ^ free m.kind)) refl
        where
          go : (x : Bool) → ltb m.status (2 ^ free m.kind) ≡ x → x ≡ legal index_codec m
          go true e = sym (legal-all e)
          go false e = illegal (λ l. no_false (sym e ∙ keeps-status l))

    -- ---- the body put
    module _ (l : legal index_codec m ≡ true) where
      encoded : encode (index_cells m.length) (index_values m) ≡ ((c ++ packed 4 m.time) ++ packed 4 m.value.0) ++ (m.status ∷ [])
      encoded =
          ap (λ (n : ℕ). encode (index_cells n) (index_values m)) (sym (c-long (keeps-room l)))
          ∙ encode-raws c (digits 8 ∷ digits 8 ∷ raw ∷ []) (m.time ∷ m.value.0 ∷ m.status ∷ [])
          ∙ sym (append_assoc (c ++ packed 4 m.time) (packed 4 m.value.0) (m.status ∷ [])
          ∙ append_assoc c (packed 4 m.time) (packed 4 m.value.0 ++ (m.status ∷ [])))

      -- the stores that the code makes
      pub body-put : (buf b₁ b₂ b₃ : List ℕ) → 26 + m.length ≤ length buf
          → b₁ ≡ bytes_over c buf 14 → b₂ ≡ put_at m.time 4 b₁ (14 + m.length) → b₃ ≡ put_at m.value.0 4 b₂ (18 + m.length)
          → set b₃ (22 + m.length) m.status ≡ sets buf 14 (encode (index_cells m.length) (index_values m))
      body-put buf b₁ b₂ b₃ fit q₁ q₂ q₃ =
          let n = c-long (keeps-room l) in
          let p₁ : b₁ ≡ sets buf 14 c = q₁ ∙ sym (bytes-in c buf 14 (omega arith)) in
          let c₂ : List ℕ = c ++ packed 4 m.time in
          let c₃ : List ℕ = (c ++ packed 4 m.time) ++ packed 4 m.value.0 in
          let n₂ : length c₂ ≡ m.length + 4 = length-append c (packed 4 m.time) ∙ omega arith in
          let n₃ : length c₃ ≡ m.length + 8 = length-append c₂ (packed 4 m.value.0) ∙ omega arith in
          let p₂ : b₂ ≡ sets buf 14 c₂ =
          q₂ ∙ put-digits c buf b₁ 14 (14 + m.length) p₁ (omega arith) 8 m.time (omega arith) (omega arith) (day-small m.time (keeps-time l)) in
          let p₃ : b₃ ≡ sets buf 14 c₃ =
          q₃ ∙ put-digits c₂ buf b₂ 14 (18 + m.length) p₂ (omega arith) 8 m.value.0 (omega arith) (omega arith) (keeps-value l) in
          put_next c₃ buf b₃ 14 (22 + m.length) p₃ (omega arith) (m.status ∷ []) ∙ ap (sets buf 14) (sym encoded)
