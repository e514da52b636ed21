-- `is_legal` meets its contract: one test after the other.
use Prim.Native.Nat.{ℕ, ◌%◌}
use mathlib.Core.Path.{◌≡◌, sym, ap, ◌∙◌}
use mathlib.Core.Bool.{true}
use lib.ListN.{length}
use lib.Dec.{eqb}
use borrow.Author.Tests.{lt-leb, eq-eqb, ne_eqb}
use Rattle.codes_times.specs.Times.{code_right}
use Rattle.stock_quotes.specs.declared.Reveal.{Reveal}
use Rattle.stock_quotes.specs.Quotes.{quote_timed, ShapedQuote}
use Rattle.stock_quotes.proofs.PairLaws.{length-mapped}
use Rattle.stock_quotes_write.specs.Steps.{pairs_right}
use Rattle.stock_quotes_write.proofs.LegalLaws.{illegal, pairs-last}
use borrow.Author.Rules.{rules}
use Rattle.stock_quotes_write.proofs.is_legal.Goals as goal

pub returns-then-m-gt-MOST_SEQ : goal.returns-then-m-gt-MOST_SEQ
returns-then-m-gt-MOST_SEQ c =
    let shaped : ShapedQuote c.args.m = let n : length c.args.m.code ≡ 6 = search rules in let b : length c.args.m.bids ≡ 5 = search (rules, length-mapped) in let a : length c.args.m.asks ≡ 5 = search (rules, length-mapped) in record { code-long = n; bids-long = b; asks-long = a } in
    illegal c.args.m shaped 0 (lt-leb c.args.m.seq 99999999 c.if-m-gt-MOST_SEQ.true)

pub returns-then-not-time_right : goal.returns-then-not-time_right
returns-then-not-time_right c =
    let shaped : ShapedQuote c.args.m = let n : length c.args.m.code ≡ 6 = search rules in let b : length c.args.m.bids ≡ 5 = search (rules, length-mapped) in let a : length c.args.m.asks ≡ 5 = search (rules, length-mapped) in record { code-long = n; bids-long = b; asks-long = a } in
    illegal c.args.m shaped 1 (sym c.time_right.ensures ∙ c.if-not-time_right.true)

pub returns-then-not-code_right : goal.returns-then-not-code_right
returns-then-not-code_right c =
    let shaped : ShapedQuote c.args.m = let n : length c.args.m.code ≡ 6 = search rules in let b : length c.args.m.bids ≡ 5 = search (rules, length-mapped) in let a : length c.args.m.asks ≡ 5 = search (rules, length-mapped) in record { code-long = n; bids-long = b; asks-long = a } in
    illegal c.args.m shaped 2 (sym c.code_right.ensures ∙ c.if-not-code_right.true)

pub returns-then-m-gt-MOST : goal.returns-then-m-gt-MOST
returns-then-m-gt-MOST c =
    let shaped : ShapedQuote c.args.m = let n : length c.args.m.code ≡ 6 = search rules in let b : length c.args.m.bids ≡ 5 = search (rules, length-mapped) in let a : length c.args.m.asks ≡ 5 = search (rules, length-mapped) in record { code-long = n; bids-long = b; asks-long = a } in
    illegal c.args.m shaped 3 (lt-leb c.args.m.total.0 99999999 c.if-m-gt-MOST.true)

pub returns-then-bit-m : goal.returns-then-bit-m
returns-then-bit-m c =
    let shaped : ShapedQuote c.args.m = let n : length c.args.m.code ≡ 6 = search rules in let b : length c.args.m.bids ≡ 5 = search (rules, length-mapped) in let a : length c.args.m.asks ≡ 5 = search (rules, length-mapped) in record { code-long = n; bids-long = b; asks-long = a } in
    illegal c.args.m shaped 4 (ap (λ (x : ℕ). eqb x (c.args.m.reveal % 2)) (sym c.bit.ensures) ∙ ne_eqb _ _ c.if-bit-m.true)

pub returns : goal.returns
returns c =
    let shaped : ShapedQuote c.args.m = let n : length c.args.m.code ≡ 6 = search rules in let b : length c.args.m.bids ≡ 5 = search (rules, length-mapped) in let a : length c.args.m.asks ≡ 5 = search (rules, length-mapped) in record { code-long = n; bids-long = b; asks-long = a } in
    let time-ok : let m = c.args.m in quote_timed m.code m.time ≡ true = sym c.time_right.ensures ∙ c.if-not-time_right.false in
    let code_ok : code_right c.args.m.code ≡ true = sym c.code_right.ensures ∙ c.if-not-code_right.false in
    let m = c.args.m in
    c.pairs_right.ensures ∙ ap (λ (r : Reveal). pairs_right r m) c.from_byte.ensures
    ∙ pairs-last m shaped c.if-m-gt-MOST_SEQ.false time-ok code_ok c.if-m-gt-MOST.false
    (ap (λ (x : ℕ). eqb x (m.reveal % 2)) (sym c.bit.ensures) ∙ eq-eqb _ _ c.if-bit-m.false)
