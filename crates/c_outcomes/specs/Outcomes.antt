-- Outcomes: an answer and the figures beside it, in one number of 64 bits.
use Rattle.std.specs.Prelude.{ℕ, zero, suc, ◌+◌, ◌*◌, ◌/◌, ◌%◌, Err, None, Ok, Option, Result, Some}
use Rattle.answers.specs.declared.Answer.{Answer}
use Rattle.answers.specs.declared.Answer.TheVariants.{Accepted, NoFrame, Refused}
use Rattle.answers.specs.declared.WriteError.{WriteError}
use Rattle.answers.specs.declared.WriteError.TheVariants.{Illegal, NoRoom}

-- the answer in 8 bits, then the format in 8, the length in 16 and in 32 the sequence number, of a refusal a place
abbrev pub outcome : ℕ → ℕ → ℕ → ℕ → ℕ
outcome answer format length seq = answer + (256 * format + (65536 * (length % 65536) + 4294967296 * seq))

-- a place in 32 bits: one more than it, and 0 where there is none
abbrev pub place_number : Option ℕ → ℕ
place_number None = 0
place_number (Some p) = p % 4294967295 + 1

-- and back
abbrev pub place_from : ℕ → Option ℕ
place_from zero = None
place_from (suc p) = Some p

-- the four parts of an outcome
abbrev pub answer_part : ℕ → ℕ
answer_part x = x % 256

abbrev pub format_part : ℕ → ℕ
format_part x = x / 256 % 256

abbrev pub length_part : ℕ → ℕ
length_part x = x / 65536 % 65536

abbrev pub seq_part : ℕ → ℕ
seq_part x = x / 4294967296

-- of a reading: 0 with format, length and number; 1 to 5 without a length; 6 to 13 with the length; a refusal with the place of a bad digit, if it tells one
abbrev pub read_outcome : Answer → ℕ
read_outcome (Accepted f) = outcome 0 f.format f.length f.seq
read_outcome (NoFrame n p) = outcome n 0 0 (place_number p)
read_outcome (Refused n l p) = outcome n 0 l (place_number p)

-- of a move: the reading's, with the bytes that it goes past for the length
abbrev pub past_outcome : Answer → ℕ → ℕ
past_outcome (Accepted f) bytes = outcome 0 f.format bytes f.seq
past_outcome (NoFrame n p) bytes = outcome n 0 bytes (place_number p)
past_outcome (Refused n l p) bytes = outcome n 0 bytes (place_number p)

-- of a writing: 0 with the length; 14 and 15 alone
abbrev pub write_outcome : Result ℕ WriteError → ℕ
write_outcome (Ok l) = outcome 0 0 l 0
write_outcome (Err Illegal) = outcome 14 0 0 0
write_outcome (Err NoRoom) = outcome 15 0 0 0
