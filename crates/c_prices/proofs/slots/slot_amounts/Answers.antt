-- `slots::slot_amounts` meets its contract. The loop's invariant: putting what the slots from i on tell is putting what all tell.
use Prim.Native.Nat.{ℕ, ◌*◌}
use mathlib.Core.Path.{◌≡◌, refl, sym, ap, ◌∙◌}
use mathlib.Core.List.{List}
use native.Mathlib.Omega.{arith}
use lib.ListN.{length, get_or, replicate}
use lib.Seq.{sets, length-sets}
use Rattle.stock_prices.proofs.Shapes.{some_slot, codes-long}
use Rattle.c_prices.specs.Slots.{spread, amounts_in}
use Rattle.c_prices.proofs.SlotLaws.{spread-turn, spread-done, sets-all}
use Rattle.c_prices.proofs.SlotLaws.{amounts-all}
use Rattle.c_prices.proofs.slots.slot_amounts.Goals as goal

pub loop-i-init : goal.loop-i-init
loop-i-init c =
    let e : c.no_amounts-amounts.result ≡ replicate 50 0 = c.no_amounts-amounts.ensures in
    (omega arith, ap length e, ap (λ (x : List ℕ). sets x 0 (spread amounts_in c.args.slots)) e)

pub loop-i-preserved : goal.loop-i-preserved
loop-i-preserved c =
    let l = c.loop-i in
    let k = codes-long 10 c.args.slots _ c.well_formed.0 in
    let wide : length (amounts_in (get_or c.args.slots l.i some_slot)) ≡ 5 = refl in
    let put : c.put_amounts.new.amounts ≡ sets l.amounts (5 * l.i) (amounts_in (get_or c.args.slots l.i some_slot)) = c.put_amounts.ensures in (
      omega arith,
      ap length put ∙ length-sets l.amounts (5 * l.i) (amounts_in (get_or c.args.slots l.i some_slot)) ∙ l.invariant.1,
      spread-turn amounts_in 5 c.args.slots some_slot l.i l.amounts c.put_amounts.new.amounts (omega (arith, k.0)) wide put ∙ l.invariant.2,
    )

pub returns : goal.returns
returns c =
    let l = c.loop-i in
    let k = codes-long 10 c.args.slots _ c.well_formed.0 in
    let all : length (spread amounts_in c.args.slots) ≡ 50 = amounts-all c.args.slots ∙ omega (arith, k.0) in
    sym (spread-done amounts_in 5 c.args.slots some_slot l.i l.amounts (omega (arith, k.0))) ∙ l.invariant.2 ∙ sets-all 50 (spread amounts_in c.args.slots) all
