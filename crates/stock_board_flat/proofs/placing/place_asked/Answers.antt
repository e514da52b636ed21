-- `placing::place_asked` meets its contract.
use mathlib.Core.Path.{◌≡◌, sym, ap, ◌∙◌}
use mathlib.Core.Bool.{true, false}
use Prim.Native.Nat.{ℕ}
use native.Mathlib.Omega.{arith}
use lib.ListN.{length}
use Rattle.codes_times.specs.Times.{code_right, zero_code}
use Rattle.stock_board_flat.specs.Flat.{Flat, whole, head_of}
use Rattle.stock_board_flat.specs.Steps.{flat, first_of}
use Rattle.stock_board_flat.proofs.WholeLaws.{whole_long}
use Rattle.stock_board_flat.proofs.CallLaws.{asked-not, asked-bytes, asked-zeros, asked-row, asked-none}
use borrow.Author.Rules.{rules}
use Rattle.stock_board_flat.proofs.placing.place_asked.Goals as goal

pub returns-then-not-is_whole : goal.returns-then-not-is_whole
returns-then-not-is_whole c = asked-not _ c.args.code (sym c.is_whole.ensures ∙ c.if-not-is_whole.true)

pub returns-then-not-code_right : goal.returns-then-not-code_right
returns-then-not-code_right c = asked-bytes _ (sym c.is_whole.ensures ∙ c.if-not-is_whole.false) c.args.code (sym c.code_right.ensures ∙ c.if-not-code_right.true)

pub returns-then-zero_code : goal.returns-then-zero_code
returns-then-zero_code c =
    asked-zeros _ (sym c.is_whole.ensures ∙ c.if-not-is_whole.false) c.args.code (sym c.code_right.ensures ∙ c.if-not-code_right.false) (sym c.zero_code.ensures ∙ c.if-zero_code.true)

pub returns-then-own-lt-ROWS : goal.returns-then-own-lt-ROWS
returns-then-own-lt-ROWS c =
    let f : Flat = let a = c.args in flat a.heads.now a.cells.now in
    let wholly : whole f ≡ true = sym c.is_whole.ensures ∙ c.if-not-is_whole.false in
    let right : code_right c.args.code ≡ true = sym c.code_right.ensures ∙ c.if-not-code_right.false in
    let stock : zero_code c.args.code ≡ false = sym c.zero_code.ensures ∙ c.if-zero_code.false in
    let n : length c.args.code ≡ 6 = search rules in
    let own : c.find-own.result ≡ first_of (head_of c.args.code 0 0) f.heads = c.find-own.ensures ∙ ap (λ (k : ℕ). first_of k f.heads) c.head_of.ensures in
    record { there = c.if-own-lt-ROWS.true; long = whole_long f wholly; row_is = asked-row f wholly c.args.code right n stock c.find-own.result own c.if-own-lt-ROWS.true }

pub returns : goal.returns
returns c =
    let f : Flat = let a = c.args in flat a.heads.now a.cells.now in
    let wholly : whole f ≡ true = sym c.is_whole.ensures ∙ c.if-not-is_whole.false in
    let right : code_right c.args.code ≡ true = sym c.code_right.ensures ∙ c.if-not-code_right.false in
    let stock : zero_code c.args.code ≡ false = sym c.zero_code.ensures ∙ c.if-zero_code.false in
    let n : length c.args.code ≡ 6 = search rules in
    let own : c.find-own.result ≡ first_of (head_of c.args.code 0 0) f.heads = c.find-own.ensures ∙ ap (λ (k : ℕ). first_of k f.heads) c.head_of.ensures in
    asked-none f wholly c.args.code right n stock (omega (arith, own, c.if-own-lt-ROWS.false))
