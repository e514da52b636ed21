-- `keeping::cells_from` meets its contract.
use Prim.Native.Nat.{ℕ, ◌/◌, ◌%◌}
use mathlib.Core.Path.{◌≡◌, ap, ◌∙◌}
use mathlib.Core.List.{List, [], ◌∷◌, ◌++◌}
use native.Mathlib.Omega.{arith}
use lib.ListN.{length, get_or, drop, length-drop}
use lib.Seq.{take_all}
use Rattle.layout.proofs.ListLaws.{listed-is}
use borrow.Author.Rules.{rules}
use Rattle.stock_board_flat.proofs.keeping.cells_from.Goals as goal

pub returns : goal.returns
returns c =
    let a = c.args in
    let n : length a.n ≡ 23 = search rules in
    let tail : List ℕ = a.shown ∷ a.time % 4294967296 ∷ a.time / 4294967296 ∷ [] in
    ap (λ (l : List ℕ). get_or a.n 0 0 ∷ a.trade.price.0 ∷ a.trade.quantity.0 ∷ (l ++ tail))
    (listed-is 20 3 0 a.n (omega (arith, n)) ∙ take_all 20 (drop 3 a.n) (simp length-drop (omega (arith, n))))
