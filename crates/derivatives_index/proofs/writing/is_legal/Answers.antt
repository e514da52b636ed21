-- `writing::is_legal` meets its contract: at each return, the test that the message fails.
use Prim.Native.Nat.{◌+◌, ◌≤◌}
use mathlib.Core.Path.{◌≡◌, sym, ◌∙◌}
use mathlib.Core.Bool.{true}
use native.Mathlib.Omega.{arith}
use lib.ListN.{length, take}
use lib.Seq.{length-take-le}
use borrow.Author.Rules.{rules}
use Rattle.codes_times.specs.Times.{time_of_day, code_right}
use Rattle.derivatives_index.specs.Index.{known, beside, body_length, room, tidy_index}
use Rattle.derivatives_index.proofs.IndexLaws.{two-lengths}
use Rattle.derivatives_index.proofs.WriteSteps.{clear_behind, illegal-length, illegal-places, illegal-seq, illegal-value, illegal-known, illegal-sent, illegal-time, illegal-code, legal-status}
use Rattle.derivatives_index.proofs.writing.is_legal.Goals as goal

pub returns-then-not-is_contract : goal.returns-then-not-is_contract
returns-then-not-is_contract c = illegal-length c.args.m (sym c.is_contract.ensures ∙ c.if-not-is_contract.true)

pub slice_bounds-is_clear-count : goal.slice_bounds-is_clear-count
slice_bounds-is_clear-count c =
    let length_at : body_length (c.args.m.length + beside) ≡ true = sym c.is_contract.ensures ∙ c.if-not-is_contract.false in
    let within : c.args.m.length ≤ room = omega (arith, (two-lengths (c.args.m.length + beside) length_at).1) in
    within

pub slice_bounds-is_clear-start : goal.slice_bounds-is_clear-start
slice_bounds-is_clear-start c =
    let length_at : body_length (c.args.m.length + beside) ≡ true = sym c.is_contract.ensures ∙ c.if-not-is_contract.false in
    let within : c.args.m.length ≤ room = omega (arith, (two-lengths (c.args.m.length + beside) length_at).1) in
    let h = within in
    search rules

pub slice_bounds-is_clear-end : goal.slice_bounds-is_clear-end
slice_bounds-is_clear-end c =
    let long : length c.args.m.contract ≡ room = search rules in
    let l = long in
    search rules

pub returns-then-not-is_clear : goal.returns-then-not-is_clear
returns-then-not-is_clear c =
    let long : length c.args.m.contract ≡ room = search rules in
    let tidy-told : c.is_clear.result ≡ tidy_index c.args.m = let m = c.args.m in c.is_clear.ensures ∙ clear_behind m.contract m.length room long in
    illegal-places c.args.m (sym tidy-told ∙ c.if-not-is_clear.true)

pub returns-then-m-gt-MOST_SEQ : goal.returns-then-m-gt-MOST_SEQ
returns-then-m-gt-MOST_SEQ c = illegal-seq c.args.m c.if-m-gt-MOST_SEQ.true

pub returns-then-value-gt-MOST : goal.returns-then-value-gt-MOST
returns-then-value-gt-MOST c =
    let long : length c.args.m.contract ≡ room = search rules in
    illegal-value c.args.m (record { contract-long = long }) c.if-value-gt-MOST.true

pub returns-then-not-is_known : goal.returns-then-not-is_known
returns-then-not-is_known c = illegal-known c.args.m (sym c.is_known.ensures ∙ c.if-not-is_known.true)

pub returns-then-not-is_time : goal.returns-then-not-is_time
returns-then-not-is_time c = illegal-sent c.args.m (sym c.is_time.ensures ∙ c.if-not-is_time.true)

pub returns-then-not-is_time-2 : goal.returns-then-not-is_time-2
returns-then-not-is_time-2 c = illegal-time c.args.m (sym c.is_time-2.ensures ∙ c.if-not-is_time-2.true)

pub slice_bounds-contract-end : goal.slice_bounds-contract-end
slice_bounds-contract-end c =
    let long : length c.args.m.contract ≡ room = search rules in
    let length_at : body_length (c.args.m.length + beside) ≡ true = sym c.is_contract.ensures ∙ c.if-not-is_contract.false in
    let within : c.args.m.length ≤ room = omega (arith, (two-lengths (c.args.m.length + beside) length_at).1) in
    omega (arith, within, long)

pub slice_bounds-code_right-end : goal.slice_bounds-code_right-end
slice_bounds-code_right-end c =
    let long : length c.args.m.contract ≡ room = search rules in
    let length_at : body_length (c.args.m.length + beside) ≡ true = sym c.is_contract.ensures ∙ c.if-not-is_contract.false in
    let within : c.args.m.length ≤ room = omega (arith, (two-lengths (c.args.m.length + beside) length_at).1) in
    let m = c.args.m in
    sym (length-take-le m.length m.contract (omega (arith, within, long)))

pub returns-then-not-code_right : goal.returns-then-not-code_right
returns-then-not-code_right c = illegal-code c.args.m (sym c.code_right.ensures ∙ c.if-not-code_right.true)

pub returns : goal.returns
returns c =
    let long : length c.args.m.contract ≡ room = search rules in
    let length_at : body_length (c.args.m.length + beside) ≡ true = sym c.is_contract.ensures ∙ c.if-not-is_contract.false in
    let tidy-told : c.is_clear.result ≡ tidy_index c.args.m = let m = c.args.m in c.is_clear.ensures ∙ clear_behind m.contract m.length room long in
    let tidy-at : tidy_index c.args.m ≡ true = sym tidy-told ∙ c.if-not-is_clear.false in
    let known_at : known c.args.m.market c.args.m.kind ≡ true = sym c.is_known.ensures ∙ c.if-not-is_known.false in
    let sent-at : time_of_day 2 c.args.m.sent ≡ true = sym c.is_time.ensures ∙ c.if-not-is_time.false in
    let time-at : time_of_day 2 c.args.m.time ≡ true = sym c.is_time-2.ensures ∙ c.if-not-is_time-2.false in
    let code_at : code_right (take c.args.m.length c.args.m.contract) ≡ true = sym c.code_right.ensures ∙ c.if-not-code_right.false in
    c.is_status.ensures
    ∙ legal-status c.args.m (record { contract-long = long }) length_at tidy-at (omega (arith, c.if-m-gt-MOST_SEQ.false)) (omega (arith, c.if-value-gt-MOST.false))
    known_at sent-at time-at code_at
