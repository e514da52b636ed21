-- Format nineteen, version 01, 26 bytes: code 6, halt time 3, resume time 3, state `C` or `I`.
use Rattle.std.specs.Prelude.{ℕ, ◌+◌, ◌-◌, ◌*◌, ◌≡◌, Bool, true, false, cond, ◌&&◌, ◌||◌, List, [], ◌∷◌, ◌++◌, length, get_or, take, replicate, eqb, leb, None, Option, Some}
use Rattle.layout.specs.Cells.{Cell, raw, digits}
use Rattle.layout.specs.Checks.{first_fail}
use Rattle.stock_frame.specs.Format.{Format, values_of, body_checks, body_answer}
use Rattle.codes_times.specs.Times.{time_of_day, nines, every, code_right}
use Rattle.stock_frame.specs.Codec.{Codec}
use Rattle.stock_halts.specs.declared.Event.{Event}
use Rattle.stock_halts.specs.declared.Event.TheVariants.{RoundEnd, Halted}
use Rattle.stock_halts.specs.declared.Sending.{Sending}
use Rattle.stock_halts.specs.declared.Sending.TheVariants.{Cycle, Instant}
use Rattle.stock_halts.specs.declared.Halt.{Halt}
use Rattle.stock_halts.specs.declared.HaltReading.{HaltReading}

-- code, halt time, resume time, state
abbrev pub nineteen_cells : List Cell
nineteen_cells = raw ∷ raw ∷ raw ∷ raw ∷ raw ∷ raw ∷ digits 6 ∷ digits 6 ∷ raw ∷ []

-- the numbers in a body by their names
abbrev pub code_of : List ℕ → List ℕ
code_of vs = take 6 vs

abbrev pub halt_time : List ℕ → ℕ
halt_time vs = get_or vs 6 0

abbrev pub resume_time : List ℕ → ℕ
resume_time vs = get_or vs 7 0

abbrev pub state_byte : List ℕ → ℕ
state_byte vs = get_or vs 8 0

-- both times all nines: the end of a round
abbrev pub round_times : ℕ → ℕ → Bool
round_times h r = eqb h (nines 0) && eqb r (nines 0)

-- check 12: otherwise the halt time is a time of day, and the resume time is still open or a time of day
abbrev pub times_right : ℕ → ℕ → Bool
times_right h r = round_times h r || (time_of_day 0 h && (eqb r (nines 0) || time_of_day 0 r))

abbrev pub nineteen_timed : List ℕ → Bool
nineteen_timed vs = times_right (halt_time vs) (resume_time vs)

-- an ASCII digit
abbrev pub digit_byte : ℕ → Bool
digit_byte b = leb 48 b && leb b 57

-- check 13: the code's bytes, six digits at the end of a round, and the state
abbrev pub code_for : Bool → List ℕ → Bool
code_for round code = code_right code && cond round (every digit_byte code) true

abbrev pub code_fits : List ℕ → ℕ → ℕ → Bool
code_fits code h r = code_for (round_times h r) code

abbrev pub state_right : ℕ → Bool
state_right s = eqb s 67 || eqb s 73

abbrev pub nineteen_ruled : List ℕ → Bool
nineteen_ruled vs = code_fits (code_of vs) (halt_time vs) (resume_time vs) && state_right (state_byte vs)

abbrev pub nineteen : Format
nineteen = record {
  number = 19;
  version = 1;
  least = 26;
  most = 26;
  cells = λ b. nineteen_cells;
  levels = λ vs. true;
  timed = nineteen_timed;
  ruled = nineteen_ruled;
}

-- the number that ASCII digits give
abbrev pub ascii_from : ℕ → List ℕ → ℕ
ascii_from v [] = v
ascii_from v (b ∷ bs) = ascii_from (v * 10 + (b - 48)) bs

-- the message: a round's end gives its number of records in the code
abbrev pub resume_of : ℕ → Option ℕ
resume_of t = cond (eqb t (nines 0)) None (Some t)

abbrev pub event_of : List ℕ → ℕ → ℕ → Event
event_of code h r = cond (round_times h r) (RoundEnd (ascii_from 0 code)) (Halted h (resume_of r))

abbrev pub sending_of : ℕ → Sending
sending_of b = cond (eqb b 67) Cycle Instant

abbrev pub halt_of : ℕ → List ℕ → Halt
halt_of seq vs = record {
  seq = seq;
  code = code_of vs;
  event = event_of (code_of vs) (halt_time vs) (resume_time vs);
  state = sending_of (state_byte vs);
}

-- the numbers of a message
abbrev pub resume_number : Option ℕ → ℕ
resume_number None = nines 0
resume_number (Some t) = t

abbrev pub halt_number : Event → ℕ
halt_number (RoundEnd n) = nines 0
halt_number (Halted t r) = t

abbrev pub resume_number_of : Event → ℕ
resume_number_of (RoundEnd n) = nines 0
resume_number_of (Halted t r) = resume_number r

abbrev pub sending_byte : Sending → ℕ
sending_byte Cycle = 67
sending_byte Instant = 73

abbrev pub halt_values : Halt → List ℕ
halt_values m = m.code ++ (halt_number m.event ∷ resume_number_of m.event ∷ sending_byte m.state ∷ [])

-- the event is the one that the numbers tell: a round's end counts what its code says, a halt is not all nines, a resume at a time is not the open one
abbrev pub same_resume : Option ℕ → Bool
same_resume None = true
same_resume (Some t) = cond (eqb t (nines 0)) false true

abbrev pub tidy_event : List ℕ → Event → Bool
tidy_event code (RoundEnd n) = eqb n (ascii_from 0 code)
tidy_event code (Halted t r) = cond (eqb t (nines 0)) false true && same_resume r

abbrev pub nineteen_codec : Codec Halt
nineteen_codec = record {
  form = nineteen;
  seq = λ m. m.seq;
  cells = λ m. nineteen_cells;
  values = halt_values;
  tidy = λ m. tidy_event m.code m.event;
  message = halt_of;
}

-- a message's arrays have their lengths
pub record ShapedHalt (m : Halt) : Type 0 where
  pub code-long : length m.code ≡ 6

-- the empty halt, which stands beside a refusal
abbrev pub no_halt : Halt
no_halt = record { seq = 0; code = replicate 6 0; event = RoundEnd 0; state = Cycle }

unfoldable pub halt_reading : ℕ → List ℕ → HaltReading
halt_reading seq b = record {
  answer = body_answer nineteen seq b;
  halt = cond (eqb (first_fail (body_checks nineteen b)) 0) (halt_of seq (values_of nineteen b)) no_halt;
}
