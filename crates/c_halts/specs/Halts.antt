-- Halts as numbers, and back.
use Rattle.std.specs.Prelude.{ℕ, Bool, cond, ◌&&◌, List, [], ◌∷◌, ◌++◌, get_or, eqb}
use Rattle.stock_frame.specs.Codec.{legal, frame_of}
use Rattle.stock_frame.specs.Writing.{write_answer, written_over}
use Rattle.c_outcomes.specs.Outcomes.{write_outcome}
use Rattle.stock_halts.specs.Halts.{nineteen_codec, resume_of, resume_number, sending_of, sending_byte, state_right}
use Rattle.stock_halts.specs.declared.Event.{Event}
use Rattle.stock_halts.specs.declared.Event.TheVariants.{RoundEnd, Halted}
use Rattle.stock_halts.specs.declared.Halt.{Halt}

-- an event's three numbers: 0, the number of records and 0 at a round's end; 1, the halt time and the resume time, all nines while open
abbrev pub event_numbers : Event → List ℕ
event_numbers (RoundEnd n) = 0 ∷ n ∷ 0 ∷ []
event_numbers (Halted t r) = 1 ∷ t ∷ resume_number r ∷ []

-- and the state's byte behind them
abbrev pub halt_numbers : Halt → List ℕ
halt_numbers h = event_numbers h.event ++ (sending_byte h.state ∷ [])

-- four numbers are those of a halt: the event is one of the two, a round's end has no resume, the state is one of the two
abbrev pub tells_halt : List ℕ → Bool
tells_halt ns = state_right (get_or ns 3 0) && cond (eqb (get_or ns 0 0) 0) (eqb (get_or ns 2 0) 0) (eqb (get_or ns 0 0) 1)

-- the event of such numbers, and the halt
abbrev pub event_from : List ℕ → Event
event_from ns = cond (eqb (get_or ns 0 0) 0) (RoundEnd (get_or ns 1 0)) (Halted (get_or ns 1 0) (resume_of (get_or ns 2 0)))

abbrev pub halt_from : ℕ → List ℕ → List ℕ → Halt
halt_from seq code ns = record { seq = seq; code = code; event = event_from ns; state = sending_of (get_or ns 3 0) }

-- such numbers and their halt written: what it answers, and the buffer afterwards; numbers that are no halt's are 14
abbrev pub halt_outcome : List ℕ → Halt → List ℕ → ℕ
halt_outcome ns h buf = write_outcome (write_answer (tells_halt ns && legal nineteen_codec h) (frame_of nineteen_codec h) buf)

abbrev pub halt_bytes : List ℕ → Halt → List ℕ → List ℕ
halt_bytes ns h buf = written_over (tells_halt ns && legal nineteen_codec h) (frame_of nineteen_codec h) buf
