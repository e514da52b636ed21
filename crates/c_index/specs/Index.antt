-- Index values as a contract, four bytes and three numbers, and back.
use Rattle.std.specs.Prelude.{ℕ, ◌%◌, Bool, cond, ◌||◌, List, [], ◌∷◌, get_or}
use Rattle.amounts.specs.Amounts.{as_thousandths}
use Rattle.answers.specs.declared.Answer.{Answer}
use Rattle.frame.specs.Codec.{legal, frame_of}
use Rattle.frame.specs.Writing.{write_answer, written_over}
use Rattle.derivatives_index.specs.Index.{index_codec}
use Rattle.derivatives_index.specs.declared.index.Index.{Index}
use Rattle.c_outcomes.specs.Outcomes.{write_outcome}
use Rattle.c_outcomes.specs.Lent.{is_of}

-- the market, the kind, the contract's length, which is 3 or 8, and the status
abbrev pub index_bytes : Index → List ℕ
index_bytes m = m.market ∷ m.kind ∷ m.length % 256 ∷ m.status ∷ []

-- the time of sending, the index's own time, and the value in thousandths
abbrev pub index_numbers : Index → List ℕ
index_numbers m = m.sent ∷ m.time ∷ m.value.0 ∷ []

-- the index value of a number, a contract, such bytes and such numbers
abbrev pub index_from : ℕ → List ℕ → List ℕ → List ℕ → Index
index_from seq contract bytes numbers = record {
  market = get_or bytes 0 0;
  kind = get_or bytes 1 0;
  sent = get_or numbers 0 0;
  seq = seq;
  contract = contract;
  length = get_or bytes 2 0;
  time = get_or numbers 1 0;
  value = as_thousandths (get_or numbers 2 0);
  status = get_or bytes 3 0;
}

-- a frame of I060 or I064 is accepted
abbrev pub is_index : Answer → Bool
is_index a = is_of 60 a || is_of 64 a

-- what the index value says if such a frame is accepted, else as it came
abbrev pub lent_index : {A : Type 0} → Answer → A → A → A
lent_index a new old = cond (is_index a) new old

-- an index value written: what it answers, and the buffer afterwards
abbrev pub index_outcome : Index → List ℕ → ℕ
index_outcome m buf = write_outcome (write_answer (legal index_codec m) (frame_of index_codec m) buf)

abbrev pub index_written : Index → List ℕ → List ℕ
index_written m buf = written_over (legal index_codec m) (frame_of index_codec m) buf
