-- `slots::slots_in` meets its contract. The loop's invariant: the slots filled and those of the bytes from here on are all slots,
-- and a test of all is what it gave so far with the test from here on.
use Prim.Native.Nat.{ℕ, ◌+◌, ◌-◌, ◌*◌}
use mathlib.Core.Bool.{◌&&◌}
use mathlib.Core.List.{◌++◌}
use mathlib.Core.Path.{◌≡◌, refl, sym, ap, ◌∙◌}
use native.Mathlib.Omega.{arith}
use lib.ListN.{set, take, length-set}
use lib.Dec.{ltb}
use Rattle.stock_prices.specs.Prices.{slot_timed, slot_ruled}
use Rattle.stock_prices_read.proofs.SlotReads.{ruled-is}
use Rattle.stock_prices_read.proofs.SlotsRead.{good_from, slots_from, pass_from, turn-bad, turn-good, turn-slots, turn-pass, done-good, done-slots, done-pass}
use Rattle.stock_prices_read.proofs.slots.slots_in.Goals as goal

pub loop-i-init : goal.loop-i-init
loop-i-init c =
    let a = c.args in
    let all : a.n - 0 ≡ a.n = omega arith in (
      refl,
      refl,
      refl,
      ap (λ (m : ℕ). pass_from a.body.now slot_timed 10 m 1) all,
      ap (λ (m : ℕ). pass_from a.body.now slot_ruled 10 m 1) all,
    )

pub returns-in_err-f : goal.returns-in_err-f
returns-in_err-f c =
    let l = c.loop-i in
    let v = l.invariant in
    rw c.from_residual.ensures (turn-bad c.args.body.now l.slots l.i (1 + 36 * l.i) (omega arith) v.0 v.1 v.2 c.in_err-f.ensures)

pub loop-i-preserved : goal.loop-i-preserved
loop-i-preserved c =
    let l = c.loop-i in
    let v = l.invariant in
    let a = c.args in
    let b = a.body.now in
    let at = 1 + 36 * l.i in
    let next : at + 36 ≡ 1 + 36 * (l.i + 1) = omega arith in
    let told = c.in_ok-f.ensures in (
      length-set l.slots l.i _ ∙ v.0,
      ap (good_from b (10 - (l.i + 1))) (sym next) ∙ turn-good b l.slots l.i at (omega arith) v.0 v.1 v.2 told.0,
      ap (λ (k : ℕ). take (l.i + 1) (set l.slots l.i c.in_ok-f.f.slot) ++ slots_from b (10 - (l.i + 1)) k) (sym next) ∙ turn-slots b l.slots l.i at (omega arith) v.0 v.1 v.2 _ told.1,
      ap (λ (k : ℕ). (l.timed && c.in_ok-f.f.timed) && pass_from b slot_timed (10 - (l.i + 1)) (a.n - (l.i + 1)) k) (sym next) ∙ turn-pass b l.slots l.i at (omega arith) v.0 v.1 v.2 slot_timed a.n l.timed v.3 told.2 refl,
      ap (λ (k : ℕ). (l.ruled && c.slot_right-ruled.result) && pass_from b slot_ruled (10 - (l.i + 1)) (a.n - (l.i + 1)) k) (sym next) ∙ turn-pass b l.slots l.i at (omega arith) v.0 v.1 v.2 slot_ruled a.n l.ruled v.4
          (c.slot_right-ruled.ensures ∙ ruled-is b at (omega arith) (ltb l.i a.n) _ told.1) refl,
    )

pub returns : goal.returns
returns c =
    let l = c.loop-i in
    let v = l.invariant in
    let a = c.args in
    let b = a.body.now in
    let at = 1 + 36 * l.i in (
      sym (done-good b l.slots l.i at (omega arith) (omega arith) v.0 v.1),
      done-slots b l.slots l.i at (omega arith) (omega arith) v.0 v.2,
      done-pass b l.slots l.i at (omega arith) (omega arith) v.0 slot_timed a.n l.timed v.3,
      done-pass b l.slots l.i at (omega arith) (omega arith) v.0 slot_ruled a.n l.ruled v.4,
    )
