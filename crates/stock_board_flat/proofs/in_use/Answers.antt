-- `in_use` meets its contract.
use mathlib.Core.Path.{sym, ap, ◌∙◌}
use Prim.Native.Nat.{ℕ, ◌-◌}
use lib.ListN.{length}
use Rattle.std.specs.Prelude.{Result, Ok}
use Rattle.stock_board.specs.declared.BoardError.{BoardError}
use Rattle.stock_board_flat.proofs.CallLaws.{used-not, used-is}
use Rattle.stock_board_flat.proofs.in_use.Goals as goal

pub returns-then-not-is_whole : goal.returns-then-not-is_whole
returns-then-not-is_whole c = used-not _ (sym c.is_whole.ensures ∙ c.if-not-is_whole.true)

pub returns : goal.returns
returns c =
    ap {B = Result ℕ BoardError} (λ (n : ℕ). Ok (length c.args.heads.now - n)) c.count_of.ensures.0
    ∙ used-is _ (sym c.is_whole.ensures ∙ c.if-not-is_whole.false)
