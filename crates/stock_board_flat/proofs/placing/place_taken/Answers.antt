-- `placing::place_taken` meets its contract.
use mathlib.Core.Path.{◌≡◌, sym, ◌∙◌, subst}
use mathlib.Core.Bool.{true, false}
use lib.ListN.{length}
use Rattle.stock_frame.specs.Codec.{legal}
use Rattle.stock_quotes.specs.Quotes.{six_codec, ShapedQuote}
use Rattle.stock_quotes.proofs.PairLaws.{length-mapped}
use Rattle.stock_board_flat.specs.Flat.{Flat, whole}
use Rattle.stock_board_flat.specs.Steps.{flat}
use Rattle.stock_board_flat.proofs.TakeLaws.{code-is-right, last-by-code, change-not, change-wrong, change-day}
use Rattle.stock_board_flat.proofs.PlaceLaws.{Found, found-says}
use borrow.Author.Rules.{rules}
use Rattle.stock_board_flat.proofs.placing.place_taken.Goals as goal

pub returns-then-not-is_whole : goal.returns-then-not-is_whole
returns-then-not-is_whole c = change-not _ c.args.m (sym c.is_whole.ensures ∙ c.if-not-is_whole.true)

pub returns-then-not-is_legal : goal.returns-then-not-is_legal
returns-then-not-is_legal c = change-wrong _ c.args.m (sym c.is_whole.ensures ∙ c.if-not-is_whole.false) (sym c.is_legal.ensures ∙ c.if-not-is_legal.true)

pub returns-then-zero_code : goal.returns-then-zero_code
returns-then-zero_code c =
    let f : Flat = let a = c.args in flat a.heads.now a.cells.now in
    let wholly : whole f ≡ true = sym c.is_whole.ensures ∙ c.if-not-is_whole.false in
    let shaped : ShapedQuote c.args.m = let n : length c.args.m.code ≡ 6 = search rules in let b : length c.args.m.bids ≡ 5 = search (rules, length-mapped) in let a : length c.args.m.asks ≡ 5 = search (rules, length-mapped) in record { code-long = n; bids-long = b; asks-long = a } in
    let right : legal six_codec c.args.m ≡ true = sym c.is_legal.ensures ∙ c.if-not-is_legal.false in
    change-day f c.args.m wholly right (last-by-code c.args.m shaped right true (sym c.zero_code.ensures ∙ c.if-zero_code.true))

pub returns-in_default : goal.returns-in_default
returns-in_default c =
    let f : Flat = let a = c.args in flat a.heads.now a.cells.now in
    let wholly : whole f ≡ true = sym c.is_whole.ensures ∙ c.if-not-is_whole.false in
    let m = c.args.m in
    let shaped : ShapedQuote m = let n : length c.args.m.code ≡ 6 = search rules in let b : length c.args.m.bids ≡ 5 = search (rules, length-mapped) in let a : length c.args.m.asks ≡ 5 = search (rules, length-mapped) in record { code-long = n; bids-long = b; asks-long = a } in
    let right : legal six_codec m ≡ true = sym c.is_legal.ensures ∙ c.if-not-is_legal.false in
    let stock = last-by-code m shaped right false (sym c.zero_code.ensures ∙ c.if-zero_code.false) in
    subst (Found f m) c.in_default.is (found-says f m wholly right stock shaped.code-long (code-is-right m shaped right) c.head_of.result c.head_of.ensures c.found.result c.found.ensures)

pub returns : goal.returns
returns c =
    let f : Flat = let a = c.args in flat a.heads.now a.cells.now in
    let wholly : whole f ≡ true = sym c.is_whole.ensures ∙ c.if-not-is_whole.false in
    let m = c.args.m in
    let shaped : ShapedQuote m = let n : length c.args.m.code ≡ 6 = search rules in let b : length c.args.m.bids ≡ 5 = search (rules, length-mapped) in let a : length c.args.m.asks ≡ 5 = search (rules, length-mapped) in record { code-long = n; bids-long = b; asks-long = a } in
    let right : legal six_codec m ≡ true = sym c.is_legal.ensures ∙ c.if-not-is_legal.false in
    let stock = last-by-code m shaped right false (sym c.zero_code.ensures ∙ c.if-zero_code.false) in
    subst (Found f m) c.in-Some.is (found-says f m wholly right stock shaped.code-long (code-is-right m shaped right) c.head_of.result c.head_of.ensures c.found.result c.found.ensures)
