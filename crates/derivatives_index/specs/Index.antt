-- The derivatives exchange's index values, I060 and I064: a contract of 3 or 8 bytes, a time, a value in thousandths, a status.
use Rattle.std.specs.Prelude.{ℕ, ◌+◌, ◌-◌, ◌*◌, ◌^◌, ◌≡◌, Bool, cond, ◌&&◌, ◌||◌, List, [], ◌∷◌, ◌++◌, length, get_or, take, drop, replicate, eqb, ltb, None, Option}
use Rattle.layout.specs.Cells.{Cell, raw, digits, good_cells, decode}
use Rattle.layout.specs.Places.{first_bad}
use Rattle.layout.specs.Checks.{Check, must, first_fail}
use Rattle.codes_times.specs.Times.{time_of_day, code_right, every}
use Rattle.amounts.specs.Amounts.{as_thousandths}
use Rattle.answers.specs.Answers.{named}
use Rattle.frame.specs.Header.{start, around}
use Rattle.frame.specs.Codec.{Codec}
use Rattle.derivatives_frame.specs.Outline.{header}
use Rattle.derivatives_frame.specs.Closing.{head_numbers}
use Rattle.derivatives_frame.specs.declared.head.Head.{Head}
use Rattle.derivatives_index.specs.declared.index.Index.{Index}
use Rattle.derivatives_index.specs.declared.index.IndexReading.{IndexReading}

-- ---- the two kinds
-- `1` for futures, `4` for options
abbrev pub is_market : ℕ → Bool
is_market code = eqb code 49 || eqb code 52

-- `5`, which is I060, and `8`, which is I064
abbrev pub is_kind : ℕ → Bool
is_kind kind = eqb kind 53 || eqb kind 56

abbrev pub known : ℕ → ℕ → Bool
known code kind = is_market code && is_kind kind

-- I060 by its number, its version and its free status bits, from bit 0 on; and I064
abbrev pub number_of : ℕ → ℕ
number_of kind = cond (eqb kind 53) 60 64

abbrev pub version_of : ℕ → ℕ
version_of kind = cond (eqb kind 53) 2 1

abbrev pub free : ℕ → ℕ
free kind = cond (eqb kind 53) 1 3

-- ---- the body
-- the bytes of the contract, and behind them the time, the value and the status
abbrev pub index_cells : ℕ → List Cell
index_cells n = replicate n raw ++ (digits 8 ∷ digits 8 ∷ raw ∷ [])

-- a body's bytes beside its contract
abbrev pub beside : ℕ
beside = 9

-- a short contract, or a long one
abbrev pub body_length : ℕ → Bool
body_length n = eqb n 12 || eqb n 17

-- of the numbers in a body: how many are the contract's, and the three behind them
abbrev pub contract_length : List ℕ → ℕ
contract_length vs = length vs - 3

abbrev pub contract_in : List ℕ → List ℕ
contract_in vs = take (contract_length vs) vs

abbrev pub time_in : List ℕ → ℕ
time_in vs = get_or vs (contract_length vs) 0

abbrev pub value_in : List ℕ → ℕ
value_in vs = get_or vs (contract_length vs + 1) 0

abbrev pub status_in : List ℕ → ℕ
status_in vs = get_or vs (contract_length vs + 2) 0

-- check 12: the time of sending and the body's own, hours, minutes, seconds and hundredths
abbrev pub timed : ℕ → List ℕ → Bool
timed sent vs = time_of_day 2 sent && time_of_day 2 (time_in vs)

-- check 13: the contract's bytes, and no reserved bit of the status
abbrev pub ruled : ℕ → List ℕ → Bool
ruled kind vs = code_right (contract_in vs) && ltb (status_in vs) (2 ^ free kind)

-- the cells of a body, and the numbers in it
abbrev pub cells_of : List ℕ → List Cell
cells_of b = index_cells (length b - beside)

abbrev pub values_of : List ℕ → List ℕ
values_of b = decode (cells_of b) b

-- checks 7 to 13, of a header's transmission code, kind, time and version, and a body
abbrev pub index_checks : ℕ → ℕ → ℕ → ℕ → List ℕ → List Check
index_checks code kind sent version b =
    must 7 (known code kind)
    ∷ must 8 (eqb version (version_of kind))
    ∷ must 9 (body_length (length b))
    ∷ must 11 (good_cells (cells_of b) b)
    ∷ must 12 (timed sent (values_of b))
    ∷ must 13 (ruled kind (values_of b))
    ∷ []

-- ---- the message
-- the room for a contract
abbrev pub room : ℕ
room = 8

-- the message of the numbers in a header and in a body: zeros stand behind the contract up to its room
abbrev pub index_of : ℕ → ℕ → ℕ → ℕ → List ℕ → Index
index_of code kind sent seq vs = record {
  market = code;
  kind = kind;
  sent = sent;
  seq = seq;
  contract = contract_in vs ++ replicate (room - contract_length vs) 0;
  length = contract_length vs;
  time = time_in vs;
  value = as_thousandths (value_in vs);
  status = status_in vs;
}

-- the numbers of a message's body, and that the contract's unused places are zero
abbrev pub index_values : Index → List ℕ
index_values m = take m.length m.contract ++ (m.time ∷ m.value.0 ∷ m.status ∷ [])

abbrev pub tidy_index : Index → Bool
tidy_index m = every (eqb 0) (drop m.length m.contract)

-- what the rules ask of the header's numbers, the body's length and its numbers
abbrev pub index_rules : List ℕ → List ℕ → ℕ → List ℕ → Bool
index_rules hs none n vs =
    let kind = get_or hs 1 0 in
    known (get_or hs 0 0) kind && (eqb (get_or hs 4 0) (version_of kind) && (body_length n && (timed (get_or hs 2 0) vs && ruled kind vs)))

abbrev pub index_codec : Codec header Index
index_codec = record {
  told = cells_of;
  rules = index_rules;
  before = λ m. head_numbers m.market m.kind m.sent m.seq (version_of m.kind);
  behind = λ m. [];
  cells = λ m. index_cells m.length;
  values = index_values;
  tidy = tidy_index;
  message = λ hs none vs. index_of (get_or hs 0 0) (get_or hs 1 0) (get_or hs 2 0) (get_or hs 3 0) vs;
}

-- a message's array has its length
pub record ShapedIndex (m : Index) : Type 0 where
  pub contract-long : length m.contract ≡ room

-- the empty index value, which stands beside a refusal
abbrev pub no_index : Index
no_index = record { market = 0; kind = 0; sent = 0; seq = 0; contract = replicate room 0; length = 0; time = 0; value = as_thousandths 0; status = 0 }

-- ---- a body read behind its header
-- beside 11 the place of the first bad digit, in halves from the frame's first byte
abbrev pub body_place : List ℕ → ℕ → Option ℕ
body_place b n = cond (eqb n 11) (first_bad (cells_of b) (2 * start header) b) None

-- the answer of the first check that fails, or acceptance with the message
unfoldable pub index_reading : Head → List ℕ → IndexReading
index_reading h b =
    let n = first_fail (index_checks h.market h.kind h.sent h.version b) in
    record {
      answer = named n (record { format = number_of h.kind; seq = h.seq; length = around header + length b }) (body_place b n);
      index = cond (eqb n 0) (index_of h.market h.kind h.sent h.seq (values_of b)) no_index;
    }
