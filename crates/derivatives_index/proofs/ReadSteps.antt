-- Reading a body: what its bytes hold, which check answers, and the reading at each return.
use Rattle.std.specs.Prelude.{None, Option}
use Prim.Native.Nat.{ℕ, ◌+◌, ◌-◌, ◌^◌, ◌≤◌, ◌<◌}
use mathlib.Core.Path.{◌≡◌, refl, sym, ap, ap₂, ◌∙◌}
use mathlib.Core.Bool.{Bool, true, false, cond, ◌&&◌, ◌||◌}
use mathlib.Core.List.{List, [], ◌∷◌, ◌++◌}
use native.Mathlib.Omega.{arith}
use lib.ListN.{length, get_or, take, drop, replicate, length-drop}
use lib.Seq.{take-add, take-take, take_all, drop_at, drop-drop, get_or-drop, get_or-take, length-take-le}
use lib.Dec.{eqb, ltb}
use borrow.Author.Tests.{eqb-true, ne_eqb, lt-leb, eq-eqb}
use Rattle.digits.specs.Packed.{value}
use Rattle.digits.specs.Halves.{looked}
use Rattle.digits.proofs.Bools.{and_both}
use Rattle.digits.proofs.Places.{inside}
use Rattle.words.specs.Blocks.{block_at, block_of, no_block}
use Rattle.words.specs.declared.blocks.Block.{Block}
use Rattle.layout.specs.Cells.{raw, digits, good_cells}
use Rattle.layout.specs.Places.{first_bad}
use Rattle.layout.specs.Checks.{Check, first_fail}
use Rattle.layout.proofs.CheckLaws.{pass, fail}
use Rattle.layout.proofs.RawLaws.{decode-raws, good-raws}
use Rattle.layout.proofs.WholeLaws.{good-wholes}
use Rattle.codes_times.specs.Times.{time_of_day, code_right}
use Rattle.amounts.specs.Amounts.{as_thousandths}
use Rattle.answers.specs.Answers.{named}
use Rattle.answers.specs.declared.Answer.{Answer}
use Rattle.frame.specs.Header.{around}
use Rattle.derivatives_frame.specs.Outline.{header}
use Rattle.derivatives_frame.specs.declared.head.Head.{Head}
use Rattle.derivatives_index.specs.Index.{known, number_of, version_of, free, beside, body_length, timed, ruled, cells_of, index_cells, values_of, index_checks, room, index_of, no_index, body_place, index_reading}
use Rattle.derivatives_index.specs.declared.index.Index.{Index}
use Rattle.derivatives_index.specs.declared.index.IndexReading.{IndexReading}
use Rattle.derivatives_index.proofs.IndexLaws.{two-lengths, contract-of, time-of, status-of, message-of}

-- ---- bytes one by one
-- a body that has no short contract has a long one
pub long-one : (n : ℕ) → body_length n ≡ true → (n ≡ 12 → ⊥) → n ≡ 17
long-one n h not = eqb-true n 17 (sym (ap (λ (t : Bool). t || eqb n 17) (ne_eqb n 12 not)) ∙ h)

-- the first three bytes, and the first eight
pub three-bytes : (l : List ℕ) → 3 ≤ length l → get_or l 0 0 ∷ get_or l 1 0 ∷ get_or l 2 0 ∷ [] ≡ take 3 l
three-bytes [] h = absurd (omega arith)
three-bytes (a ∷ []) h = absurd (omega arith)
three-bytes (a ∷ b ∷ []) h = absurd (omega arith)
three-bytes (a ∷ b ∷ c ∷ l) h = refl

pub eight-bytes : (l : List ℕ) → 8 ≤ length l
    → get_or l 0 0 ∷ get_or l 1 0 ∷ get_or l 2 0 ∷ get_or l 3 0 ∷ get_or l 4 0 ∷ get_or l 5 0 ∷ get_or l 6 0 ∷ get_or l 7 0 ∷ [] ≡ take 8 l
eight-bytes [] h = absurd (omega arith)
eight-bytes (a ∷ []) h = absurd (omega arith)
eight-bytes (a ∷ b ∷ []) h = absurd (omega arith)
eight-bytes (a ∷ b ∷ c ∷ []) h = absurd (omega arith)
eight-bytes (a ∷ b ∷ c ∷ d ∷ l) h =
    ap (λ (x : List ℕ). a ∷ b ∷ c ∷ d ∷ x) (four l (omega arith))
  where
    four : (x : List ℕ) → 4 ≤ length x → get_or x 0 0 ∷ get_or x 1 0 ∷ get_or x 2 0 ∷ get_or x 3 0 ∷ [] ≡ take 4 x
    four [] k = absurd (omega arith)
    four (p ∷ []) k = absurd (omega arith)
    four (p ∷ q ∷ []) k = absurd (omega arith)
    four (p ∷ q ∷ r ∷ []) k = absurd (omega arith)
    four (p ∷ q ∷ r ∷ s ∷ x) k = refl

-- a short contract and a long one in their room
pub short-contract : (b : List ℕ) → length b ≡ 12
    → get_or b 0 0 ∷ get_or b 1 0 ∷ get_or b 2 0 ∷ 0 ∷ 0 ∷ 0 ∷ 0 ∷ 0 ∷ [] ≡ take (length b - 9) b ++ replicate (room - (length b - 9)) 0
short-contract b l =
    ap (λ (x : List ℕ). x ++ replicate 5 0) (three-bytes b (omega arith))
    ∙ sym (ap (λ (n : ℕ). take (n - 9) b ++ replicate (room - (n - 9)) 0) l)

pub long-contract : (b : List ℕ) → length b ≡ 17
    → get_or b 0 0 ∷ get_or b 1 0 ∷ get_or b 2 0 ∷ get_or b 3 0 ∷ get_or b 4 0 ∷ get_or b 5 0 ∷ get_or b 6 0 ∷ get_or b 7 0 ∷ []
    ≡ take (length b - 9) b ++ replicate (room - (length b - 9)) 0
long-contract b l =
    ap (λ (x : List ℕ). x ++ replicate 0 0) (eight-bytes b (omega arith))
    ∙ sym (ap (λ (n : ℕ). take (n - 9) b ++ replicate (room - (n - 9)) 0) l)

-- the first bad digit is looked for in the whole body
pub whole-looked : (b : List ℕ) (n : ℕ) (r : Option ℕ) → length b ≡ n → n ≤ 65535 → r ≡ first_bad (index_cells (n - beside)) 28 (looked b) → r ≡ first_bad (cells_of b) 28 b
whole-looked b n r l h e =
    e ∙ ap₂ (λ (k : ℕ) (x : List ℕ). first_bad (index_cells (k - beside)) 28 x) (sym l) (take_all 65535 b (omega arith))

-- ---- the checks in order
module _ (h : Head) (b : List ℕ) where
  abbrev checks : List Check
  checks = index_checks h.market h.kind h.sent h.version b

  pub fails-known : known h.market h.kind ≡ false → first_fail checks ≡ 7
  fails-known e = fail 7 (drop 1 checks) e

  module _ (k : known h.market h.kind ≡ true) where
    pub fails-version : (h.version ≡ version_of h.kind → ⊥) → first_fail checks ≡ 8
    fails-version e = pass 7 (drop 1 checks) k ∙ fail 8 (drop 2 checks) (ne_eqb h.version (version_of h.kind) e)

    module _ (v : h.version ≡ version_of h.kind) where
      to-length : first_fail checks ≡ first_fail (drop 2 checks)
      to-length = pass 7 (drop 1 checks) k ∙ pass 8 (drop 2 checks) (eq-eqb h.version (version_of h.kind) v)

      pub fails-length : body_length (length b) ≡ false → first_fail checks ≡ 9
      fails-length e = to-length ∙ fail 9 (drop 3 checks) e

      module _ (l : body_length (length b) ≡ true) where
        pub fails-digits : good_cells (cells_of b) b ≡ false → first_fail checks ≡ 11
        fails-digits e = to-length ∙ pass 9 (drop 3 checks) l ∙ fail 11 (drop 4 checks) e

        module _ (g : good_cells (cells_of b) b ≡ true) where
          to-times : first_fail checks ≡ first_fail (drop 4 checks)
          to-times = to-length ∙ pass 9 (drop 3 checks) l ∙ pass 11 (drop 4 checks) g

          pub fails-times : timed h.sent (values_of b) ≡ false → first_fail checks ≡ 12
          fails-times e = to-times ∙ fail 12 (drop 5 checks) e

          pub fails-rules : timed h.sent (values_of b) ≡ true → ruled h.kind (values_of b) ≡ false → first_fail checks ≡ 13
          fails-rules t e = to-times ∙ pass 12 (drop 5 checks) t ∙ fail 13 [] e

          pub fails-none : timed h.sent (values_of b) ≡ true → ruled h.kind (values_of b) ≡ true → first_fail checks ≡ 0
          fails-none t e = to-times ∙ pass 12 (drop 5 checks) t ∙ pass 13 [] e

-- ---- the readings
module _ (h : Head) (b : List ℕ) where
  abbrev answered : ℕ → IndexReading
  answered n = record {
    answer = named n (record { format = number_of h.kind; seq = h.seq; length = around header + length b }) (body_place b n);
    index = cond (eqb n 0) (index_of h.market h.kind h.sent h.seq (values_of b)) no_index;
  }

  reading-of : (n : ℕ) → first_fail (checks h b) ≡ n → answered n ≡ index_reading h b
  unfolding index_reading
  reading-of n e = ap answered (sym e)

  pub read-refused : (n : ℕ) (r : IndexReading) → 5 < n → eqb n 11 ≡ false → first_fail (checks h b) ≡ n
      → (r.answer ≡ Answer.Refused n (17 + length b) None) × (r.index ≡ no_index) → r ≡ index_reading h b
  read-refused n r big d e p =
      let z : eqb n 0 ≡ false = ne_eqb n 0 (λ q. omega arith) in
      ap₂ (λ (a : Answer) (i : Index). record { answer = a; index = i })
      (p.0 ∙ sym (rw (z, lt-leb n 5 big, d)))
      (p.1 ∙ sym (ap (λ (t : Bool). cond t (index_of h.market h.kind h.sent h.seq (values_of b)) no_index) z))
      ∙ reading-of n e

  pub read-digit : (r : IndexReading) → first_fail (checks h b) ≡ 11
      → (r.answer ≡ Answer.Refused 11 (17 + length b) (first_bad (cells_of b) 28 b)) × (r.index ≡ no_index) → r ≡ index_reading h b
  read-digit r e p = ap₂ (λ (a : Answer) (i : Index). record { answer = a; index = i }) p.0 p.1 ∙ reading-of 11 e

-- ---- what a body holds, by eight bytes behind its contract
module _ (b : List ℕ) (l : body_length (length b) ≡ true) (t : Block) (e : t ≡ block_at 8 4 b (length b - 9)) where
  abbrev n : ℕ
  n = length b - 9

  -- the bytes behind the contract
  abbrev rest : List ℕ
  rest = drop (length b - 9) b

  rest-long : length rest ≡ 9
  rest-long = rw length-drop (omega (arith, two-lengths (length b) l))

  told : t ≡ block_of 4 (take 8 rest)
  told = e ∙ inside 8 n b (block_of 4 (take 8 rest)) no_block (omega (arith, two-lengths (length b) l))

  pub digits-told : good_cells (cells_of b) b ≡ t.good
  digits-told =
      good-raws n (digits 8 ∷ digits 8 ∷ raw ∷ []) b
      ∙ good-wholes (4 ∷ 4 ∷ []) rest (omega (arith, rest-long))
      ∙ sym (ap (λ (x : Block). x.good) told)

  first-told : value (take 4 rest) ≡ t.first
  first-told = ap value (sym (take-take 4 8 rest (omega arith))) ∙ sym (ap (λ (x : Block). x.first) told)

  last-told : value (take 4 (drop 4 rest)) ≡ t.last
  last-told =
      ap value (sym (ap (drop 4) (take-add 4 4 rest) ∙ drop_at (take 4 rest) (take 4 (drop 4 rest)) 4 (length-take-le 4 rest (omega (arith, rest-long)))))
      ∙ sym (ap (λ (x : Block). x.last) told)

  status-told : get_or (take 1 (drop 4 (drop 4 rest))) 0 0 ≡ get_or b (length b - 1) 0
  status-told =
      let k : n + 4 + 4 + 0 ≡ length b - 1 = omega (arith, two-lengths (length b) l) in
      get_or-take 1 (drop 4 (drop 4 rest)) 0 0 (omega arith)
      ∙ ap (λ (x : List ℕ). get_or (drop 4 x) 0 0) (drop-drop 4 n b)
      ∙ ap (λ (x : List ℕ). get_or x 0 0) (drop-drop 4 (n + 4) b)
      ∙ get_or-drop (n + 4 + 4) b 0 0
      ∙ ap (λ (i : ℕ). get_or b i 0) k

  pub values-told : values_of b ≡ take (length b - 9) b ++ (t.first ∷ t.last ∷ get_or b (length b - 1) 0 ∷ [])
  values-told =
      decode-raws n (digits 8 ∷ digits 8 ∷ raw ∷ []) b (omega arith)
      ∙ (λ i. take n b ++ (first-told i ∷ last-told i ∷ status-told i ∷ []))

  pub times-told : (sent : ℕ) → timed sent (values_of b) ≡ (time_of_day 2 sent && time_of_day 2 t.first)
  times-told sent =
      ap (timed sent) values-told
      ∙ ap (λ (x : ℕ). time_of_day 2 sent && time_of_day 2 x) (time-of (take n b) t.first t.last (get_or b (length b - 1) 0))

  pub rules-told : (kind : ℕ) → ruled kind (values_of b) ≡ (code_right (take (length b - 9) b) && ltb (get_or b (length b - 1) 0) (2 ^ free kind))
  rules-told kind =
      ap (ruled kind) values-told
      ∙ ap₂ (λ (x : List ℕ) (s : ℕ). code_right x && ltb s (2 ^ free kind))
      (contract-of (take n b) t.first t.last (get_or b (length b - 1) 0))
      (status-of (take n b) t.first t.last (get_or b (length b - 1) 0))

  -- the message, with its contract in its room
  pub index-told : (code kind sent seq : ℕ) (c : List ℕ) → c ≡ take (length b - 9) b ++ replicate (room - (length b - 9)) 0 → record {
    market = code;
    kind = kind;
    sent = sent;
    seq = seq;
    contract = c;
    length = length b - 9;
    time = t.first;
    value = as_thousandths t.last;
    status = get_or b (length b - 1) 0;
  } ≡ index_of code kind sent seq (values_of b)
  index-told code kind sent seq c p =
      let k : length (take n b) ≡ n = length-take-le n b (omega arith) in
      ap₂ (λ (x : List ℕ) (i : ℕ). record {
        market = code;
        kind = kind;
        sent = sent;
        seq = seq;
        contract = x;
        length = i;
        time = t.first;
        value = as_thousandths t.last;
        status = get_or b (length b - 1) 0;
      }) (p ∙ ap (λ (i : ℕ). take n b ++ replicate (room - i) 0) (sym k)) (sym k)
      ∙ sym (message-of (take n b) t.first t.last (get_or b (length b - 1) 0) code kind sent seq)
      ∙ sym (ap (index_of code kind sent seq) values-told)

-- ---- a body whose outline, version and length are right: each test and its reading
module _ (h : Head) (b : List ℕ) (k : known h.market h.kind ≡ true) (v : h.version ≡ version_of h.kind) (l : body_length (length b) ≡ true)
    (t : Block) (e : t ≡ block_at 8 4 b (length b - 9)) where
  pub bad-digits : t.good ≡ false → first_fail (checks h b) ≡ 11
  bad-digits q = fails-digits h b k v l (digits-told b l t e ∙ q)

  module _ (g : t.good ≡ true) where
    good-digits : good_cells (cells_of b) b ≡ true
    good-digits = digits-told b l t e ∙ g

    pub bad-sent : time_of_day 2 h.sent ≡ false → first_fail (checks h b) ≡ 12
    bad-sent q = fails-times h b k v l good-digits (times-told b l t e h.sent ∙ ap (λ (x : Bool). x && time_of_day 2 t.first) q)

    module _ (s : time_of_day 2 h.sent ≡ true) where
      pub bad-time : time_of_day 2 t.first ≡ false → first_fail (checks h b) ≡ 12
      bad-time q = fails-times h b k v l good-digits (times-told b l t e h.sent ∙ ap₂ ◌&&◌ s q)

      module _ (d : time_of_day 2 t.first ≡ true) where
        both-times : timed h.sent (values_of b) ≡ true
        both-times = times-told b l t e h.sent ∙ and_both s d

        pub bad-contract : code_right (take (length b - 9) b) ≡ false → first_fail (checks h b) ≡ 13
        bad-contract q =
            fails-rules h b k v l good-digits both-times
            (rules-told b l t e h.kind ∙ ap (λ (x : Bool). x && ltb (get_or b (length b - 1) 0) (2 ^ free h.kind)) q)

        module _ (c : code_right (take (length b - 9) b) ≡ true) where
          pub bad-status : ltb (get_or b (length b - 1) 0) (2 ^ free h.kind) ≡ false → first_fail (checks h b) ≡ 13
          bad-status q = fails-rules h b k v l good-digits both-times (rules-told b l t e h.kind ∙ ap₂ ◌&&◌ c q)

          pub read-accepted : ltb (get_or b (length b - 1) 0) (2 ^ free h.kind) ≡ true → (number : ℕ) (room_for : List ℕ) → number ≡ number_of h.kind
              → room_for ≡ take (length b - 9) b ++ replicate (room - (length b - 9)) 0
              → record {
                answer = Answer.Accepted (record { format = number; seq = h.seq; length = 17 + length b });
                index = record {
                  market = h.market;
                  kind = h.kind;
                  sent = h.sent;
                  seq = h.seq;
                  contract = room_for;
                  length = length b - 9;
                  time = t.first;
                  value = as_thousandths t.last;
                  status = get_or b (length b - 1) 0;
                };
              }
              ≡ index_reading h b
          read-accepted q number room_for p r =
              ap₂ (λ (x : ℕ) (i : Index). record { answer = Answer.Accepted (record { format = x; seq = h.seq; length = 17 + length b }); index = i }) p
              (index-told b l t e h.market h.kind h.sent h.seq room_for r)
              ∙ reading-of h b 0 (fails-none h b k v l good-digits both-times (rules-told b l t e h.kind ∙ and_both c q))
