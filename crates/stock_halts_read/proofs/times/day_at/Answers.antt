-- `times::day_at` meets its contract.
use Prim.Native.Nat.{◌+◌, ◌≤◌}
use mathlib.Core.Path.{sym, ◌∙◌}
use native.Mathlib.Omega.{arith}
use lib.ListN.{get_or}
use borrow.Author.Tests.{lt-ltb, le-ltb}
use Rattle.stock_halts_read.proofs.TimeLaws.{day-bytes, bytes_small, hour-late, hour-right, minute-late, minute-right, second-told}
use Rattle.stock_halts_read.proofs.times.day_at.Goals as goal

pub overflow_cast-x : goal.overflow_cast-x
overflow_cast-x c =
    let small : (get_or c.args.s.now c.args.at 0 ≤ 153) × ((get_or c.args.s.now (c.args.at + 1) 0) ≤ 153) × ((get_or c.args.s.now (c.args.at + 2) 0) ≤ 153) = bytes_small c.args.s.now c.args.at c.requires.0 c.requires.1 in
    omega (arith, small.0, small.1, small.2)

pub overflow_cast-x-2 : goal.overflow_cast-x-2
overflow_cast-x-2 c =
    let small : (get_or c.args.s.now c.args.at 0 ≤ 153) × ((get_or c.args.s.now (c.args.at + 1) 0) ≤ 153) × ((get_or c.args.s.now (c.args.at + 2) 0) ≤ 153) = bytes_small c.args.s.now c.args.at c.requires.0 c.requires.1 in
    omega (arith, small.0, small.1, small.2)

pub overflow_mul-x : goal.overflow_mul-x
overflow_mul-x c =
    let small : (get_or c.args.s.now c.args.at 0 ≤ 153) × ((get_or c.args.s.now (c.args.at + 1) 0) ≤ 153) × ((get_or c.args.s.now (c.args.at + 2) 0) ≤ 153) = bytes_small c.args.s.now c.args.at c.requires.0 c.requires.1 in
    omega (arith, small.0, small.1, small.2)

pub overflow_add-x-2 : goal.overflow_add-x-2
overflow_add-x-2 c =
    let small : (get_or c.args.s.now c.args.at 0 ≤ 153) × ((get_or c.args.s.now (c.args.at + 1) 0) ≤ 153) × ((get_or c.args.s.now (c.args.at + 2) 0) ≤ 153) = bytes_small c.args.s.now c.args.at c.requires.0 c.requires.1 in
    omega (arith, small.0, small.1, small.2)

pub overflow_cast-x-3 : goal.overflow_cast-x-3
overflow_cast-x-3 c =
    let small : (get_or c.args.s.now c.args.at 0 ≤ 153) × ((get_or c.args.s.now (c.args.at + 1) 0) ≤ 153) × ((get_or c.args.s.now (c.args.at + 2) 0) ≤ 153) = bytes_small c.args.s.now c.args.at c.requires.0 c.requires.1 in
    omega (arith, small.0, small.1, small.2)

pub overflow_mul-x-2 : goal.overflow_mul-x-2
overflow_mul-x-2 c =
    let small : (get_or c.args.s.now c.args.at 0 ≤ 153) × ((get_or c.args.s.now (c.args.at + 1) 0) ≤ 153) × ((get_or c.args.s.now (c.args.at + 2) 0) ≤ 153) = bytes_small c.args.s.now c.args.at c.requires.0 c.requires.1 in
    omega (arith, small.0, small.1, small.2)

pub overflow_add-x-4 : goal.overflow_add-x-4
overflow_add-x-4 c =
    let small : (get_or c.args.s.now c.args.at 0 ≤ 153) × ((get_or c.args.s.now (c.args.at + 1) 0) ≤ 153) × ((get_or c.args.s.now (c.args.at + 2) 0) ≤ 153) = bytes_small c.args.s.now c.args.at c.requires.0 c.requires.1 in
    omega (arith, small.0, small.1, small.2)

pub overflow_add-x-5 : goal.overflow_add-x-5
overflow_add-x-5 c =
    let small : (get_or c.args.s.now c.args.at 0 ≤ 153) × ((get_or c.args.s.now (c.args.at + 1) 0) ≤ 153) × ((get_or c.args.s.now (c.args.at + 2) 0) ≤ 153) = bytes_small c.args.s.now c.args.at c.requires.0 c.requires.1 in
    omega (arith, small.0, small.1, small.2)

pub returns-then-x-ne0 : goal.returns-then-x-ne0
returns-then-x-ne0 c =
    let small : (get_or c.args.s.now c.args.at 0 ≤ 153) × ((get_or c.args.s.now (c.args.at + 1) 0) ≤ 153) × ((get_or c.args.s.now (c.args.at + 2) 0) ≤ 153) = bytes_small c.args.s.now c.args.at c.requires.0 c.requires.1 in
    let a = get_or c.args.s.now c.args.at 0 in
    let h = small in
    sym (day-bytes c.args.s.now c.args.at c.requires.0 c.requires.1
    ∙ rw (le-ltb a 36 (hour-late a ((get_or c.args.s.now (c.args.at + 1) 0)) ((get_or c.args.s.now (c.args.at + 2) 0)) h.0 h.1 h.2 c.if-x-ne0.true)))

pub returns-then-x-ne0-2 : goal.returns-then-x-ne0-2
returns-then-x-ne0-2 c =
    let small : (get_or c.args.s.now c.args.at 0 ≤ 153) × ((get_or c.args.s.now (c.args.at + 1) 0) ≤ 153) × ((get_or c.args.s.now (c.args.at + 2) 0) ≤ 153) = bytes_small c.args.s.now c.args.at c.requires.0 c.requires.1 in
    let a = get_or c.args.s.now c.args.at 0 in
    let h = small in
    sym (day-bytes c.args.s.now c.args.at c.requires.0 c.requires.1
    ∙ rw (
      lt-ltb a 36 (hour-right a ((get_or c.args.s.now (c.args.at + 1) 0)) ((get_or c.args.s.now (c.args.at + 2) 0)) h.0 h.1 h.2 c.if-x-ne0.false),
      le-ltb ((get_or c.args.s.now (c.args.at + 1) 0)) 96 (minute-late a ((get_or c.args.s.now (c.args.at + 1) 0)) ((get_or c.args.s.now (c.args.at + 2) 0)) h.0 h.1 h.2 c.if-x-ne0-2.true),
    ))

pub returns : goal.returns
returns c =
    let small : (get_or c.args.s.now c.args.at 0 ≤ 153) × ((get_or c.args.s.now (c.args.at + 1) 0) ≤ 153) × ((get_or c.args.s.now (c.args.at + 2) 0) ≤ 153) = bytes_small c.args.s.now c.args.at c.requires.0 c.requires.1 in
    let a = get_or c.args.s.now c.args.at 0 in
    let h = small in
    second-told a ((get_or c.args.s.now (c.args.at + 1) 0)) ((get_or c.args.s.now (c.args.at + 2) 0)) h.0 h.1 h.2
    ∙ sym (day-bytes c.args.s.now c.args.at c.requires.0 c.requires.1
    ∙ rw (
      lt-ltb a 36 (hour-right a ((get_or c.args.s.now (c.args.at + 1) 0)) ((get_or c.args.s.now (c.args.at + 2) 0)) h.0 h.1 h.2 c.if-x-ne0.false),
      lt-ltb ((get_or c.args.s.now (c.args.at + 1) 0)) 96 (minute-right a ((get_or c.args.s.now (c.args.at + 1) 0)) ((get_or c.args.s.now (c.args.at + 2) 0)) h.0 h.1 h.2 c.if-x-ne0-2.false),
    ))
