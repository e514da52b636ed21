-- `slots::slot_codes` meets its contract. The loop's invariant: putting what the slots from i on tell is putting what all tell.
use Prim.Native.Nat.{ℕ, ◌*◌}
use mathlib.Core.Path.{◌≡◌, sym, ap, ◌∙◌}
use mathlib.Core.List.{List}
use native.Mathlib.Omega.{arith}
use lib.ListN.{length, get_or, replicate}
use lib.Seq.{sets, length-sets}
use Rattle.stock_prices.proofs.Shapes.{some_slot, codes-long}
use Rattle.c_prices.specs.Slots.{spread, code_in}
use Rattle.c_outcomes.proofs.ListLaws.{bytes-in}
use Rattle.c_prices.proofs.SlotLaws.{spread-turn, spread-done, sets-all}
use Rattle.c_prices.proofs.SlotLaws.{codes_all, code-wide}
use Rattle.c_prices.proofs.slots.slot_codes.Goals as goal

pub loop-i-init : goal.loop-i-init
loop-i-init c =
    let e : c.no_codes-codes.result ≡ replicate 60 0 = c.no_codes-codes.ensures in
    (omega arith, ap length e, ap (λ (x : List ℕ). sets x 0 (spread code_in c.args.slots)) e)

pub loop-i-preserved : goal.loop-i-preserved
loop-i-preserved c =
    let l = c.loop-i in
    let k = codes-long 10 c.args.slots _ c.well_formed.0 in
    let wide : length (code_in (get_or c.args.slots l.i some_slot)) ≡ 6 = code-wide c.args.slots some_slot l.i k.1 (omega arith) in
    let put : c.put_code.new.codes ≡ sets l.codes (6 * l.i) (code_in (get_or c.args.slots l.i some_slot)) = c.put_code.ensures ∙ bytes-in l.codes (code_in (get_or c.args.slots l.i some_slot)) (6 * l.i) (omega (arith, l.invariant.1, wide)) in (
      omega arith,
      ap length put ∙ length-sets l.codes (6 * l.i) (code_in (get_or c.args.slots l.i some_slot)) ∙ l.invariant.1,
      spread-turn code_in 6 c.args.slots some_slot l.i l.codes c.put_code.new.codes (omega (arith, k.0)) wide put ∙ l.invariant.2,
    )

pub returns : goal.returns
returns c =
    let l = c.loop-i in
    let k = codes-long 10 c.args.slots _ c.well_formed.0 in
    let all : length (spread code_in c.args.slots) ≡ 60 = codes_all c.args.slots k.1 ∙ omega (arith, k.0) in
    sym (spread-done code_in 6 c.args.slots some_slot l.i l.codes (omega (arith, k.0))) ∙ l.invariant.2 ∙ sets-all 60 (spread code_in c.args.slots) all
