-- The numbers and bytes of a message tell it: nothing is lost on the way to a program in C or Rust and back.
use Rattle.std.specs.Prelude.{None, Option, Some}
use Prim.Native.Nat.{ℕ, zero, suc, ◌+◌, ◌-◌, ◌*◌, ◌≤◌}
use mathlib.Core.Path.{◌≡◌, refl, sym, ap, ap₂, ◌∙◌}
use mathlib.Core.Bool.{Bool, true, false, cond}
use mathlib.Core.List.{List, [], ◌∷◌, ◌++◌}
use native.Mathlib.Omega.{arith}
use lib.ListN.{length, get_or, take, drop, replicate, length-append, length-drop}
use lib.Seq.{take_at, drop_at, get_or-drop, drop-drop}
use lib.Dec.{eqb}
use borrow.Author.Tests.{le-leb}
use Rattle.amounts.specs.Amounts.{as_price, as_quantity}
use Rattle.digits.proofs.Bools.{and_right, no_false}
use Rattle.codes_times.specs.Times.{nines, code_at}
use Rattle.stock_notices.specs.Notices.{room, tidy_notice, ShapedNotice}
use Rattle.stock_notices.specs.declared.Notice.{Notice}
use Rattle.stock_notices.proofs.NoticeLaws.{from_parts}
use Rattle.stock_halts.specs.Halts.{resume_of, resume_number, sending_of, sending_byte, same_resume, tidy_event}
use Rattle.stock_halts.specs.declared.Event.{Event}
use Rattle.stock_halts.specs.declared.Event.TheVariants.{RoundEnd, Halted}
use Rattle.stock_halts.specs.declared.Sending.{Sending}
use Rattle.stock_halts.specs.declared.Sending.TheVariants.{Cycle, Instant}
use Rattle.stock_halts.specs.declared.Halt.{Halt}
use Rattle.stock_prices.specs.Prices.{slot_count, codes_long, ShapedPrices}
use Rattle.stock_prices.specs.declared.Slot.{Slot}
use Rattle.stock_prices.specs.declared.Prices.{Prices}
use Rattle.answers.specs.Answers.{answer_length}
use Rattle.stock_reading.specs.Reading.{answer_of, notice_at}
use Rattle.c_outcomes.specs.Lent.{is_of}
use Rattle.c_notices.specs.Notices.{notice_from}
use Rattle.c_notices.proofs.NoticeBytes.{text-told}
use Rattle.c_prices.specs.Slots.{slot_codes, slot_amounts, slot_times, slot_in, slots_in, prices_from}
use Rattle.c_halts.specs.Halts.{event_numbers, halt_numbers, tells_halt, event_from, halt_from}

-- ---- halts
-- each part of a halt by its numbers
resume-back : (r : Option ℕ) → same_resume r ≡ true → resume_of (resume_number r) ≡ r
resume-back None h = refl
resume-back (Some t) h = go (eqb t (nines 0)) h
  where
    go : (x : Bool) → cond x false true ≡ true → cond x None (Some t) ≡ Some t
    go true h = absurd (no_false h)
    go false h = refl

-- a resume at a time is not told as the open one
abbrev pub resume_told : Event → Bool
resume_told (RoundEnd n) = true
resume_told (Halted t r) = same_resume r

event-back : (e : Event) (x : Sending) → resume_told e ≡ true → event_from (event_numbers e ++ (sending_byte x ∷ [])) ≡ e
event-back (RoundEnd n) x h = refl
event-back (Halted t r) x h = ap (Halted t) (resume-back r h)

state-back : (e : Event) (x : Sending) → sending_of (get_or (event_numbers e ++ (sending_byte x ∷ [])) 3 0) ≡ x
state-back (RoundEnd n) Cycle = refl
state-back (RoundEnd n) Instant = refl
state-back (Halted t r) Cycle = refl
state-back (Halted t r) Instant = refl

event-tells : (e : Event) (x : Sending) → tells_halt (event_numbers e ++ (sending_byte x ∷ [])) ≡ true
event-tells (RoundEnd n) Cycle = refl
event-tells (RoundEnd n) Instant = refl
event-tells (Halted t r) Cycle = refl
event-tells (Halted t r) Instant = refl

-- a halt's numbers tell a halt
pub halt-tells : (h : Halt) → tells_halt (halt_numbers h) ≡ true
halt-tells h = event-tells h.event h.state

-- and it is the same halt, unless it resumes at the time that stands for open
pub halt-back : (h : Halt) → resume_told h.event ≡ true → halt_from h.seq h.code (halt_numbers h) ≡ h
halt-back h r =
    ap₂ (λ (e : Event) (x : Sending). record { seq = h.seq; code = h.code; event = e; state = x })
    (event-back h.event h.state r) (state-back h.event h.state)

-- the condition holds of every tidy event
pub tidy-resume : (code : List ℕ) (e : Event) → tidy_event code e ≡ true → resume_told e ≡ true
tidy-resume code (RoundEnd n) h = refl
tidy-resume code (Halted t r) h = and_right (cond (eqb t (nines 0)) false true) (same_resume r) h

-- ---- notices
-- a tidy notice's text and figures are those of the notice alone
pub notice-back : (m : Notice) → ShapedNotice m → m.length ≤ room → tidy_notice m ≡ true → notice_from m.seq m.category (take m.length m.text) ≡ m
notice-back m s h tidy = from_parts m s.text-long h tidy

-- the text's length, which no number hands on, is the frame's without 14
pub notice-length : (t : List ℕ) → is_of 5 (answer_of t) ≡ true → (notice_at t).notice.length ≡ answer_length (answer_of t) - 14
notice-length t is = omega (arith, text-told t 0 (notice_at t) refl is)

-- ---- prices
-- the slots that lists tell from a place on are those whose codes, amounts and times stand there
module _ (codes amounts times : List ℕ) where
  slots-back : (ss : List Slot) (k i : ℕ) → codes_long ss → length ss ≡ k
      → drop (6 * i) codes ≡ slot_codes ss → drop (5 * i) amounts ≡ slot_amounts ss → drop i times ≡ slot_times ss
      → slots_in codes amounts times k i ≡ ss
  slots-back [] zero i l h c a t = refl
  slots-back [] (suc k) i l h c a t = absurd (omega arith)
  slots-back (s ∷ ss) zero i l h c a t = absurd (omega arith)
  slots-back (s ∷ ss) (suc k) i l h c a t =
      let within : 6 * i + 6 ≤ length codes =
      omega (arith, sym (length-drop (6 * i) codes) ∙ ap length c ∙ length-append s.code (slot_codes ss), l.0) in
      let code : code_at codes (6 * i) ≡ s.code =
      ap (λ (x : Bool). cond x (take 6 (drop (6 * i) codes)) (replicate 6 0)) (le-leb (6 * i + 6) (length codes) within)
      ∙ ap (take 6) c ∙ take_at s.code (slot_codes ss) 6 l.0 in
      let amount : (j : ℕ) → get_or amounts (5 * i + j) 0 ≡ get_or (slot_amounts (s ∷ ss)) j 0 =
      λ j. sym (get_or-drop (5 * i) amounts j 0) ∙ ap (λ (x : List ℕ). get_or x j 0) a in
      let opening : get_or amounts (5 * i) 0 ≡ s.opening.0 = ap (λ (n : ℕ). get_or amounts n 0) (let e : 5 * i ≡ 5 * i + 0 = omega arith in e) ∙ amount 0 in
      let time : get_or times i 0 ≡ s.time =
      ap (λ (n : ℕ). get_or times n 0) (let e : i ≡ i + 0 = omega arith in e) ∙ sym (get_or-drop i times 0 0) ∙ ap (λ (x : List ℕ). get_or x 0 0) t in
      let first : slot_in codes amounts times i ≡ s = λ j. record {
        code = code j;
        opening = as_price (opening j);
        highest = as_price (amount 1 j);
        lowest = as_price (amount 2 j);
        last = as_price (amount 3 j);
        total = as_quantity (amount 4 j);
        time = time j;
      } in
      let next-code : drop (6 * suc i) codes ≡ slot_codes ss =
      ap (λ (n : ℕ). drop n codes) (let e : 6 * suc i ≡ 6 * i + 6 = omega arith in e) ∙ sym (drop-drop 6 (6 * i) codes) ∙ ap (drop 6) c ∙ drop_at s.code (slot_codes ss) 6 l.0 in
      let next-amount : drop (5 * suc i) amounts ≡ slot_amounts ss =
      ap (λ (n : ℕ). drop n amounts) (let e : 5 * suc i ≡ 5 * i + 5 = omega arith in e) ∙ sym (drop-drop 5 (5 * i) amounts) ∙ ap (drop 5) a in
      let next-time : drop (suc i) times ≡ slot_times ss =
      ap (λ (n : ℕ). drop n times) (let e : suc i ≡ i + 1 = omega arith in e) ∙ sym (drop-drop 1 i times) ∙ ap (drop 1) t in
      ap₂ (λ (x : Slot) (r : List Slot). x ∷ r) first (slots-back ss k (suc i) l.1 (omega arith) next-code next-amount next-time)

-- the codes, amounts and times of prices are those of the prices alone
pub prices-back : (m : Prices) → ShapedPrices m
    → prices_from m.seq m.count (slot_codes m.slots) (slot_amounts m.slots) (slot_times m.slots) ≡ m
prices-back m s =
    let ss = m.slots in
    ap (λ (x : List Slot). record { seq = m.seq; count = m.count; slots = x })
    (slots-back (slot_codes ss) (slot_amounts ss) (slot_times ss) ss slot_count 0 s.codes-long s.slots-long refl refl refl)
