-- An index value and the numbers in its header and its body tell each other: all that both round trips ask of it.
use Prim.Native.Nat.{ℕ, zero, suc, ◌+◌, ◌-◌, ◌^◌, ◌≤◌}
use mathlib.Core.Path.{◌≡◌, refl, sym, ap, ap₂, ◌∙◌}
use mathlib.Core.Bool.{Bool, true, false, ◌&&◌, ◌||◌}
use mathlib.Core.List.{List, [], ◌∷◌, ◌++◌}
use native.Mathlib.Omega.{arith}
use lib.ListN.{length, get_or, take, drop, replicate, length-append, length-replicate, take-append-drop}
use lib.Seq.{take_at, get_or_at, get_or-append-add, drop-cons, drop-length, length-take-le}
use lib.Dec.{eqb, ltb}
use borrow.Author.Tests.{eqb-true}
use Rattle.digits.proofs.Bools.{and_left, and_right, no_false}
use Rattle.layout.specs.Cells.{raw, digits, size, fits, encode}
use Rattle.layout.proofs.CellLaws.{size-append, length-encode, length-decode}
use Rattle.codes_times.specs.Times.{every}
use Rattle.codes_times.proofs.RoomLaws.{filled, length-filled, text-back, rest-tidy}
use Rattle.amounts.specs.Amounts.{as_thousandths}
use Rattle.frame.specs.Codec.{Allowed, legal, Lawful}
use Rattle.frame.proofs.CodecLaws.{legal-fits, legal-rules, legal-tidy}
use Rattle.derivatives_frame.specs.Outline.{header}
use Rattle.derivatives_frame.specs.Closing.{head_numbers}
use Rattle.derivatives_frame.proofs.HeaderHolds.{law}
use Rattle.derivatives_index.specs.Index.{known, version_of, index_cells, beside, body_length, contract_length, contract_in, time_in, value_in, status_in, timed, ruled, cells_of, values_of, room, index_of, index_values, index_codec, ShapedIndex}
use Rattle.derivatives_index.specs.declared.index.Index.{Index}

-- ---- the layout
-- the contract's bytes, and nine more
pub size-index : (n : ℕ) → size (index_cells n) ≡ n + beside
size-index n = size-append (replicate n raw) (digits 8 ∷ digits 8 ∷ raw ∷ []) ∙ ap (λ (k : ℕ). k + beside) (size-raws n)
  where
    size-raws : (k : ℕ) → size (replicate k raw) ≡ k
    size-raws zero = refl
    size-raws (suc k) = omega (arith, size-raws k)

-- as many numbers as the contract has bytes, and three more
pub length-values : (b : List ℕ) → length (values_of b) ≡ length b - beside + 3
length-values b =
    length-decode (cells_of b) b
    ∙ length-append (replicate (length b - beside) raw) (digits 8 ∷ digits 8 ∷ raw ∷ [])
    ∙ ap (λ (k : ℕ). k + 3) (length-replicate (length b - beside) raw)

-- and so the contract's length
pub contract-values : (b : List ℕ) → contract_length (values_of b) ≡ length b - beside
contract-values b = omega (arith, length-values b)

-- a contract of 3 or 8 bytes
pub two-lengths : (n : ℕ) → body_length n ≡ true → (9 ≤ n) × (n ≤ 17)
two-lengths n h = go (eqb n 12) (eqb n 17) refl refl h
  where
    go : (x y : Bool) → eqb n 12 ≡ x → eqb n 17 ≡ y → (x || y) ≡ true → (9 ≤ n) × (n ≤ 17)
    go true y e f q = (omega (arith, eqb-true n 12 e), omega (arith, eqb-true n 12 e))
    go false true e f q = (omega (arith, eqb-true n 17 f), omega (arith, eqb-true n 17 f))
    go false false e f q = absurd (no_false q)

-- ---- the numbers of a body: a contract, and three behind it
module _ (c : List ℕ) (t v s : ℕ) where
  pub length-of : contract_length (c ++ (t ∷ v ∷ s ∷ [])) ≡ length c
  length-of = omega (arith, length-append c (t ∷ v ∷ s ∷ []))

  pub contract-of : contract_in (c ++ (t ∷ v ∷ s ∷ [])) ≡ c
  contract-of = take_at c (t ∷ v ∷ s ∷ []) (contract_length (c ++ (t ∷ v ∷ s ∷ []))) (sym length-of)

  behind : (i : ℕ) → get_or (c ++ (t ∷ v ∷ s ∷ [])) (contract_length (c ++ (t ∷ v ∷ s ∷ [])) + i) 0 ≡ get_or (t ∷ v ∷ s ∷ []) i 0
  behind i = ap (λ (k : ℕ). get_or (c ++ (t ∷ v ∷ s ∷ [])) (k + i) 0) length-of ∙ get_or-append-add c (t ∷ v ∷ s ∷ []) i 0

  pub time-of : time_in (c ++ (t ∷ v ∷ s ∷ [])) ≡ t
  time-of = get_or_at c t (v ∷ s ∷ []) 0 (contract_length (c ++ (t ∷ v ∷ s ∷ []))) (sym length-of)

  pub value_of : value_in (c ++ (t ∷ v ∷ s ∷ [])) ≡ v
  value_of = behind 1

  pub status-of : status_in (c ++ (t ∷ v ∷ s ∷ [])) ≡ s
  status-of = behind 2

  -- the message of them
  pub message-of : (code kind sent seq : ℕ) → index_of code kind sent seq (c ++ (t ∷ v ∷ s ∷ [])) ≡ record {
    market = code;
    kind = kind;
    sent = sent;
    seq = seq;
    contract = c ++ replicate (room - length c) 0;
    length = length c;
    time = t;
    value = as_thousandths v;
    status = s;
  }
  message-of code kind sent seq = λ i. record {
    market = code;
    kind = kind;
    sent = sent;
    seq = seq;
    contract = contract-of i ++ replicate (room - length-of i) 0;
    length = length-of i;
    time = time-of i;
    value = as_thousandths (value_of i);
    status = status-of i;
  }

-- and numbers that are so many are of this form
pub parts-of : (vs : List ℕ) → 3 ≤ length vs → contract_in vs ++ (time_in vs ∷ value_in vs ∷ status_in vs ∷ []) ≡ vs
parts-of vs h =
    let n = contract_length vs in
    let i : suc n ≡ n + 1 = omega arith in
    let j : suc (n + 1) ≡ n + 2 = omega arith in
    let k : suc (n + 2) ≡ length vs = omega arith in
    let third : drop (n + 2) vs ≡ get_or vs (n + 2) 0 ∷ [] =
    drop-cons vs (n + 2) 0 (omega arith) ∙ ap (λ (x : ℕ). get_or vs (n + 2) 0 ∷ drop x vs) k ∙ ap (λ (l : List ℕ). get_or vs (n + 2) 0 ∷ l) (drop-length vs) in
    let second : drop (n + 1) vs ≡ get_or vs (n + 1) 0 ∷ get_or vs (n + 2) 0 ∷ [] =
    drop-cons vs (n + 1) 0 (omega arith) ∙ ap (λ (x : ℕ). get_or vs (n + 1) 0 ∷ drop x vs) j ∙ ap (λ (l : List ℕ). get_or vs (n + 1) 0 ∷ l) third in
    let first : drop n vs ≡ get_or vs n 0 ∷ get_or vs (n + 1) 0 ∷ get_or vs (n + 2) 0 ∷ [] =
    drop-cons vs n 0 (omega arith) ∙ ap (λ (x : ℕ). get_or vs n 0 ∷ drop x vs) i ∙ ap (λ (l : List ℕ). get_or vs n 0 ∷ l) second in
    ap (λ (l : List ℕ). take n vs ++ l) (sym first) ∙ take-append-drop n vs

-- ---- what the rules say, part by part
module _ (hs none : List ℕ) (n : ℕ) (vs : List ℕ) (r : index_codec.rules hs none n vs ≡ true) where
  abbrev code : ℕ
  code = get_or hs 0 0

  abbrev kind : ℕ
  kind = get_or hs 1 0

  behind-known : (eqb (get_or hs 4 0) (version_of kind) && (body_length n && (timed (get_or hs 2 0) vs && ruled kind vs))) ≡ true
  behind-known = and_right (known code kind) _ r

  pub rules-version : get_or hs 4 0 ≡ version_of kind
  rules-version = eqb-true (get_or hs 4 0) (version_of kind) (and_left _ _ behind-known)

  pub rules-length : body_length n ≡ true
  rules-length = and_left _ _ (and_right (eqb (get_or hs 4 0) (version_of kind)) _ behind-known)

-- ---- a message and its numbers tell each other
module _ (m : Index) (s : ShapedIndex m) (l : legal index_codec m ≡ true) where
  pub legal-length : body_length (size (index_cells m.length)) ≡ true
  legal-length = rules-length (index_codec.before m) [] (size (index_cells m.length)) (index_values m) (legal-rules index_codec m l)

  -- the contract has room
  pub legal-room : m.length ≤ room
  legal-room = omega (arith, size-index m.length, (two-lengths (size (index_cells m.length)) legal-length).1)

  cells_told : cells_of (encode (index_cells m.length) (index_values m)) ≡ index_cells m.length
  cells_told =
      let e : length (encode (index_cells m.length) (index_values m)) - beside ≡ m.length =
      omega (arith, length-encode (index_cells m.length) (index_values m) (legal-fits index_codec m l), size-index m.length) in
      ap index_cells e

  message-values : index_of m.market m.kind m.sent m.seq (index_values m) ≡ m
  message-values =
      let c = take m.length m.contract in
      let n : length c ≡ m.length = length-take-le m.length m.contract (omega (arith, legal-room, s.contract-long)) in
      let t : c ++ replicate (room - length c) 0 ≡ m.contract =
      filled m.length room m.contract s.contract-long legal-room (legal-tidy index_codec m l) in
      message-of c m.time m.value.0 m.status m.market m.kind m.sent m.seq
      ∙ ap₂
      (λ (k : ℕ) (x : List ℕ). record {
        market = m.market;
        kind = m.kind;
        sent = m.sent;
        seq = m.seq;
        contract = x;
        length = k;
        time = m.time;
        value = m.value;
        status = m.status;
      }) n t

-- five numbers of a header
five : (hs : List ℕ) → fits header.before hs ≡ true → head_numbers (get_or hs 0 0) (get_or hs 1 0) (get_or hs 2 0) (get_or hs 3 0) (get_or hs 4 0) ≡ hs
five [] f = absurd (no_false f)
five (a ∷ []) f = absurd (no_false f)
five (a ∷ b ∷ []) f = absurd (no_false f)
five (a ∷ b ∷ c ∷ []) f = absurd (no_false (and_right (ltb c (10 ^ 8)) _ f))
five (a ∷ b ∷ c ∷ d ∷ []) f = absurd (no_false (and_right (ltb d (10 ^ 8)) _ (and_right (ltb c (10 ^ 8)) _ f)))
five (a ∷ b ∷ c ∷ d ∷ e ∷ []) f = refl
five (a ∷ b ∷ c ∷ d ∷ e ∷ x ∷ y) f =
    absurd (no_false (and_right (ltb e (10 ^ 2)) _ (and_right (ltb d (10 ^ 8)) _ (and_right (ltb c (10 ^ 8)) _ f))))

none-behind : (ws : List ℕ) → fits [] ws ≡ true → [] ≡ ws
none-behind [] f = refl
none-behind (w ∷ ws) f = absurd (no_false f)

module _ (hs ws b : List ℕ) (a : Allowed index_codec hs ws b) where
  -- the contract's bytes in a body
  abbrev c : List ℕ
  c = contract_in (values_of b)

  three-more : 3 ≤ length (values_of b)
  three-more = omega (arith, length-values b)

  c-long : length c ≡ contract_length (values_of b)
  c-long = length-take-le (contract_length (values_of b)) (values_of b) (omega arith)

  c-room : length c ≤ room
  c-room = omega (arith, c-long, contract-values b, (two-lengths (length b) (rules-length hs ws (length b) (values_of b) a.ruled)).1)

  -- in a message there is room for them
  in-room : c ++ replicate (room - contract_length (values_of b)) 0 ≡ c ++ replicate (room - length c) 0
  in-room = ap (λ (k : ℕ). c ++ replicate (room - k) 0) (sym c-long)

  before-message : head_numbers (get_or hs 0 0) (get_or hs 1 0) (get_or hs 2 0) (get_or hs 3 0) (version_of (get_or hs 1 0)) ≡ hs
  before-message =
      ap (head_numbers (get_or hs 0 0) (get_or hs 1 0) (get_or hs 2 0) (get_or hs 3 0)) (sym (rules-version hs ws (length b) (values_of b) a.ruled))
      ∙ five hs a.front_fits

  values-message : index_values (index_of (get_or hs 0 0) (get_or hs 1 0) (get_or hs 2 0) (get_or hs 3 0) (values_of b)) ≡ values_of b
  values-message =
      ap (λ (l : List ℕ). l ++ (time_in (values_of b) ∷ value_in (values_of b) ∷ status_in (values_of b) ∷ []))
      (ap₂ take (sym c-long) in-room ∙ text-back c room)
      ∙ parts-of (values_of b) three-more

  tidy-message : index_codec.tidy (index_of (get_or hs 0 0) (get_or hs 1 0) (get_or hs 2 0) (get_or hs 3 0) (values_of b)) ≡ true
  tidy-message =
      ap₂ (λ (k : ℕ) (l : List ℕ). every (eqb 0) (drop k l)) (sym c-long) in-room ∙ rest-tidy c room

  shaped-message : ShapedIndex (index_of (get_or hs 0 0) (get_or hs 1 0) (get_or hs 2 0) (get_or hs 3 0) (values_of b))
  shaped-message = record { contract-long = ap length in-room ∙ length-filled room c c-room }

-- all that the round trips ask of a kind
pub index-lawful : Lawful index_codec ShapedIndex
index-lawful = record {
  header-law = law;
  cells_told = cells_told;
  message-values = message-values;
  before-message = before-message;
  behind-message = λ hs ws b a. none-behind ws a.rear-fits;
  cells-message = λ hs ws b a. ap index_cells (contract-values b);
  values-message = values-message;
  tidy-message = tidy-message;
  shaped-message = shaped-message;
}
