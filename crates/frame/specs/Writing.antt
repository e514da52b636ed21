-- A frame written: 27, what the check byte covers, the check byte, 0D 0A; and what a writing answers and leaves.
use Rattle.std.specs.Prelude.{ℕ, ◌-◌, Bool, cond, ◌&&◌, List, [], ◌∷◌, ◌++◌, length, take, drop, leb, Err, Ok, Result}
use Rattle.digits.specs.Packed.{packed}
use Rattle.layout.specs.Cells.{encode}
use Rattle.words.specs.Xor.{xor_of}
use Rattle.frame.specs.Header.{Header, start, around}
use Rattle.answers.specs.declared.WriteError.{WriteError}
use Rattle.answers.specs.declared.WriteError.TheVariants.{Illegal, NoRoom}

-- the bytes around what the check byte covers
abbrev pub sealed : List ℕ → List ℕ
sealed i = 27 ∷ i ++ (xor_of i ∷ 13 ∷ 10 ∷ [])

-- the header's bytes: the numbers before the length, the length of a frame with a body of n bytes, and the numbers behind it
abbrev pub head_bytes : Header → List ℕ → List ℕ → ℕ → List ℕ
head_bytes H vs ws n = encode H.before vs ++ (packed 2 (H.counts n) ++ encode H.after ws)

-- a frame around a body
abbrev pub frame_around : Header → List ℕ → List ℕ → List ℕ → List ℕ
frame_around H vs ws b = sealed (head_bytes H vs ws (length b) ++ b)

-- what writing a frame into a buffer answers, and the buffer afterwards: 14 before 15, and a refusal leaves it
abbrev pub write_answer : Bool → List ℕ → List ℕ → Result ℕ WriteError
write_answer legal f buf = cond legal (cond (leb (length f) (length buf)) (Ok (length f)) (Err NoRoom)) (Err Illegal)

abbrev pub written_over : Bool → List ℕ → List ℕ → List ℕ
written_over legal f buf = cond (legal && leb (length f) (length buf)) (f ++ drop (length f) buf) buf

-- the body stands at its place in a buffer: what closing the frame of n bytes around it answers, if its header's numbers and n are right, and the buffer afterwards
abbrev pub close_answer : Bool → ℕ → List ℕ → Result ℕ WriteError
close_answer right n buf = cond right (cond (leb n (length buf)) (Ok n) (Err NoRoom)) (Err Illegal)

abbrev pub closed_over : Header → Bool → List ℕ → List ℕ → ℕ → List ℕ → List ℕ
closed_over H right vs ws n buf =
    cond (right && leb n (length buf)) (frame_around H vs ws (take (n - around H) (drop (start H) buf)) ++ drop n buf) buf
