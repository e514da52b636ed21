-- What the capture's calls answer, in one number.
use Rattle.std.specs.Prelude.{ℕ, ◌+◌, ◌*◌, ◌/◌, ◌%◌, ⊤, Result, Ok, Err}
use Rattle.capture.specs.declared.OtherSize.{OtherSize}
use Rattle.capture.specs.declared.Unsound.{Unsound}
use Rattle.capture.specs.declared.Part.{Part}
use Rattle.capture.specs.Calls.{cleared_number, unsound_number}
use Rattle.capture_append.specs.Appending.{append_number}
use Rattle.capture_append.specs.declared.AppendError.{AppendError}

-- of clearing, which has nothing beside its number
abbrev pub cleared_outcome : Result ⊤ OtherSize → ℕ
cleared_outcome cleared = cleared_number cleared

-- of 33: the first bad block's place stands above it
abbrev pub bad_outcome : ℕ → ℕ
bad_outcome place = 33 + 256 * place

-- of a refusal to read a capture: the bad block's place stands above its number
abbrev pub unsound_outcome : Unsound → ℕ
unsound_outcome Unsound.WrongSize = unsound_number Unsound.WrongSize
unsound_outcome (Unsound.BadBlock place) = bad_outcome place

-- of a refusal to append
abbrev pub append_outcome : AppendError → ℕ
append_outcome (AppendError.Unsound e) = unsound_outcome e
append_outcome AppendError.PayloadLength = append_number AppendError.PayloadLength
append_outcome AppendError.Full = append_number AppendError.Full

-- of an append: the place of the block stands above the answer
abbrev pub taken_outcome : Result ℕ AppendError → ℕ
taken_outcome (Ok place) = 256 * place
taken_outcome (Err e) = append_outcome e

-- of how many blocks are finished, which stands above the answer
abbrev pub held_outcome : Result ℕ Unsound → ℕ
held_outcome (Ok n) = 256 * n
held_outcome (Err e) = unsound_outcome e

-- of a payload: its length in 16 bits from bit 16 on, and from bit 32 on where in the capture it begins
abbrev pub part_outcome : Result Part Unsound → ℕ
part_outcome (Ok part) = 65536 * part.length + 4294967296 * part.start
part_outcome (Err e) = unsound_outcome e

-- the parts of an outcome: its number; above it a place, or how many blocks; a payload's length, and where it begins
abbrev pub number_part : ℕ → ℕ
number_part x = x % 256

abbrev pub place_part : ℕ → ℕ
place_part x = x / 256 % 256

abbrev pub count_part : ℕ → ℕ
count_part x = x / 256

abbrev pub length_part : ℕ → ℕ
length_part x = x / 65536 % 65536

abbrev pub start_part : ℕ → ℕ
start_part x = x / 4294967296
