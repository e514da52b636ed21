-- Format nineteen is lawful: a halt and the numbers in its body tell each other; so both round trips hold of it.
use Rattle.std.specs.Prelude.{None, Option, Some}
use Prim.Native.Nat.{ℕ, ◌+◌, ◌/◌, ◌<◌}
use mathlib.Core.Path.{◌≡◌, refl, sym, ap, ap₂, ◌∙◌}
use mathlib.Core.Bool.{Bool, true, false, cond, ◌&&◌, ◌||◌}
use mathlib.Core.List.{List, [], ◌∷◌, ◌++◌}
use native.Mathlib.Omega.{arith}
use lib.ListN.{length, get_or, drop, take-append-drop, drop_of_length-le}
use lib.Seq.{take_at, get_or-append-add, drop-cons, length-take-le}
use lib.Dec.{eqb, lit<, lit≤}
use borrow.Author.Tests.{eqb-true, eq-eqb, ne_eqb, ltb-true}
use Rattle.digits.proofs.Bools.{and_left, and_right, and_both, no_false}
use Rattle.stock_frame.specs.Outline.{own}
use Rattle.codes_times.specs.Times.{nines, time_of_day}
use Rattle.stock_frame.specs.Format.{values_of}
use Rattle.stock_frame.specs.Codec.{legal, frame_of}
use Rattle.layout.proofs.CellLaws.{length-decode}
use Rattle.stock_frame.proofs.CodecLaws.{Lawful, Reads, legal-tidy, read-written, written_read}
use Rattle.stock_halts.specs.Halts.{nineteen_cells, code_of, halt_time, resume_time, state_byte, round_times, times_right, code_fits, state_right, nineteen_ruled, nineteen, ascii_from, resume_of, event_of, sending_of, halt_of, resume_number, halt_number, resume_number_of, sending_byte, halt_values, same_resume, tidy_event, nineteen_codec, ShapedHalt}
use Rattle.stock_halts.specs.declared.Event.{Event}
use Rattle.stock_halts.specs.declared.Event.TheVariants.{RoundEnd, Halted}
use Rattle.stock_halts.specs.declared.Sending.{Sending}
use Rattle.stock_halts.specs.declared.Sending.TheVariants.{Cycle, Instant}
use Rattle.stock_halts.specs.declared.Halt.{Halt}

-- a test that failed where it must not hold
not_so : (t : Bool) → cond t false true ≡ true → t ≡ false
not_so true h = absurd (no_false h)
not_so false h = refl

-- ---- numbers, then the event, then the numbers again
resume-back : (r : ℕ) → resume_number (resume_of r) ≡ r
resume-back r = go (eqb r (nines 0)) refl
  where
    go : (t : Bool) → eqb r (nines 0) ≡ t → resume_number (cond t None (Some r)) ≡ r
    go true e = sym (eqb-true r (nines 0) e)
    go false e = refl

-- both times come back from the event
times-back : (code : List ℕ) (h r : ℕ) → (halt_number (event_of code h r) ≡ h) × (resume_number_of (event_of code h r) ≡ r)
times-back code h r = go (round_times h r) refl
  where
    go : (t : Bool) → round_times h r ≡ t
        → (halt_number (cond t (RoundEnd (ascii_from 0 code)) (Halted h (resume_of r))) ≡ h)
        × (resume_number_of (cond t (RoundEnd (ascii_from 0 code)) (Halted h (resume_of r))) ≡ r)
    go true e = (sym (eqb-true h (nines 0) (and_left _ _ e)), sym (eqb-true r (nines 0) (and_right (eqb h (nines 0)) _ e)))
    go false e = (refl, resume-back r)

state-back : (s : ℕ) → state_right s ≡ true → sending_byte (sending_of s) ≡ s
state-back s h = go (eqb s 67) refl h
  where
    go : (t : Bool) → eqb s 67 ≡ t → (t || eqb s 73) ≡ true → sending_byte (cond t Cycle Instant) ≡ s
    go true e k = sym (eqb-true s 67 e)
    go false e k = sym (eqb-true s 73 k)

-- an event that was read says nothing twice
same-resume : (r : ℕ) → same_resume (resume_of r) ≡ true
same-resume r = go (eqb r (nines 0)) refl
  where
    go : (t : Bool) → eqb r (nines 0) ≡ t → same_resume (cond t None (Some r)) ≡ true
    go true e = refl
    go false e = ap (λ (t : Bool). cond t false true) e

-- ---- the event, then its numbers, then the event again
resume-again : (r : Option ℕ) → same_resume r ≡ true → resume_of (resume_number r) ≡ r
resume-again None h = refl
resume-again (Some t) h = ap (λ (b : Bool). cond b None (Some t)) (not_so (eqb t (nines 0)) h)

event-again : (code : List ℕ) (e : Event) → tidy_event code e ≡ true → event_of code (halt_number e) (resume_number_of e) ≡ e
event-again code (RoundEnd n) h = ap RoundEnd (sym (eqb-true n (ascii_from 0 code) h))
event-again code (Halted t r) h =
    let no : eqb t (nines 0) ≡ false = not_so (eqb t (nines 0)) (and_left _ _ h) in
    ap (λ (b : Bool). cond (b && eqb (resume_number r) (nines 0)) (RoundEnd (ascii_from 0 code)) (Halted t (resume_of (resume_number r)))) no
    ∙ ap (Halted t) (resume-again r (and_right (cond (eqb t (nines 0)) false true) _ h))

state-again : (s : Sending) → sending_of (sending_byte s) ≡ s
state-again Cycle = refl
state-again Instant = refl

-- ---- a time of day is below 240000, so never all nines
pub day-lt : (t : ℕ) → time_of_day 0 t ≡ true → t < 240000
day-lt t h = omega (arith, ltb-true (t / 10000) 24 (and_left _ _ h))

day-not-nines : (t : ℕ) → time_of_day 0 t ≡ true → eqb t (nines 0) ≡ false
day-not-nines t h = ne_eqb t (nines 0) (λ e. omega (arith, day-lt t h))

tidy-back : (code : List ℕ) (h r : ℕ) → times_right h r ≡ true → tidy_event code (event_of code h r) ≡ true
tidy-back code h r p = go (round_times h r) p
  where
    go : (t : Bool) → (t || (time_of_day 0 h && (eqb r (nines 0) || time_of_day 0 r))) ≡ true
        → tidy_event code (cond t (RoundEnd (ascii_from 0 code)) (Halted h (resume_of r))) ≡ true
    go true q = eq-eqb (ascii_from 0 code) (ascii_from 0 code) refl
    go false q = and_both (ap (λ (t : Bool). cond t false true) (day-not-nines h (and_left _ _ q))) (same-resume r)

-- ---- nine numbers by their names
last-three : (vs : List ℕ) → length vs ≡ 9 → drop 6 vs ≡ halt_time vs ∷ resume_time vs ∷ state_byte vs ∷ []
last-three vs l =
    drop-cons vs 6 0 (omega arith)
    ∙ ap (λ (k : List ℕ). halt_time vs ∷ k)
    (drop-cons vs 7 0 (omega arith)
    ∙ ap (λ (k : List ℕ). resume_time vs ∷ k) (drop-cons vs 8 0 (omega arith) ∙ ap (λ (k : List ℕ). state_byte vs ∷ k) (drop_of_length-le vs {i = 9} (omega arith))))

module _ (code : List ℕ) (l : length code ≡ 6) (h r s : ℕ) where
  abbrev pub joined : List ℕ
  joined = code ++ (h ∷ r ∷ s ∷ [])

  after-code : (k : ℕ) → get_or joined (6 + k) 0 ≡ get_or (h ∷ r ∷ s ∷ []) k 0
  after-code k = ap (λ (n : ℕ). get_or joined (n + k) 0) (sym l) ∙ get_or-append-add code (h ∷ r ∷ s ∷ []) k 0

  pub code-joined : code_of joined ≡ code
  code-joined = take_at code (h ∷ r ∷ s ∷ []) 6 l

  pub halt-joined : halt_time joined ≡ h
  halt-joined = after-code 0

  pub resume-joined : resume_time joined ≡ r
  resume-joined = after-code 1

  pub state-joined : state_byte joined ≡ s
  state-joined = after-code 2

  pub halt-of-joined : (n : ℕ) → halt_of n joined ≡ record { seq = n; code = code; event = event_of code h r; state = sending_of s }
  halt-of-joined n = cc (code-joined, halt-joined, resume-joined, state-joined)

-- ---- nine numbers make a halt that stands for them
module _ (vs : List ℕ) (l : length vs ≡ 9) where
  pub values-back : (n : ℕ) → nineteen_ruled vs ≡ true → halt_values (halt_of n vs) ≡ vs
  values-back n g =
      let b = times-back (code_of vs) (halt_time vs) (resume_time vs) in
      let s = state-back (state_byte vs) (and_right (code_fits (code_of vs) (halt_time vs) (resume_time vs)) _ g) in
      ap (λ (k : List ℕ). code_of vs ++ k)
      (ap (λ (x : ℕ). x ∷ resume_number_of (halt_of n vs).event ∷ sending_byte (halt_of n vs).state ∷ []) b.0
      ∙ ap (λ (x : ℕ). halt_time vs ∷ x ∷ sending_byte (halt_of n vs).state ∷ []) b.1
      ∙ ap (λ (x : ℕ). halt_time vs ∷ resume_time vs ∷ x ∷ []) s
      ∙ sym (last-three vs l))
      ∙ take-append-drop 6 vs

  pub shaped-back : (n : ℕ) → ShapedHalt (halt_of n vs)
  shaped-back n = record { code-long = length-take-le 6 vs (omega arith) }

-- ---- a halt's numbers make it again
pub halt-again : (m : Halt) → ShapedHalt m → tidy_event m.code m.event ≡ true → halt_of m.seq (halt_values m) ≡ m
halt-again m s h =
    halt-of-joined m.code s.code-long (halt_number m.event) (resume_number_of m.event) (sending_byte m.state) m.seq
    ∙ ap₂ (λ (e : Event) (k : Sending). record { seq = m.seq; code = m.code; event = e; state = k }) (event-again m.code m.event h) (state-again m.state)

-- a body's numbers are nine
nine-values : (b : List ℕ) → length (values_of nineteen b) ≡ 9
nine-values b = length-decode nineteen_cells b

pub halts-lawful : Lawful nineteen_codec ShapedHalt
halts-lawful = record {
  low = lit≤ tt;
  high = lit≤ tt;
  number_fits = lit< tt;
  version-fits = lit< tt;
  cells_told = λ m s f. refl;
  message-values = λ m s l. halt-again m s (legal-tidy nineteen_codec m l);
  seq-message = λ n vs. refl;
  cells-message = λ n b o. refl;
  values-message = λ n b o. values-back (values_of nineteen b) (nine-values b) n o.good-fields;
  tidy-message = λ n b o. tidy-back (code_of (values_of nineteen b)) (halt_time (values_of nineteen b)) (resume_time (values_of nineteen b)) o.good-times;
  shaped-message = λ n b o. shaped-back (values_of nineteen b) (nine-values b) n;
}

-- reading what was written gives the halt, whatever follows the frame
pub read-written-halt : (m : Halt) → ShapedHalt m → legal nineteen_codec m ≡ true → (r : List ℕ) → Reads nineteen_codec (frame_of nineteen_codec m ++ r) m
read-written-halt m s l r = read-written nineteen_codec ShapedHalt halts-lawful m s l r

-- writing what was read gives the frame's bytes
pub written-read-halt : (t : List ℕ) (m : Halt) → Reads nineteen_codec t m → frame_of nineteen_codec m ≡ own t
written-read-halt t m rd = written_read nineteen_codec ShapedHalt halts-lawful t m rd
