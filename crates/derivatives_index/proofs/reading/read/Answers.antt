-- `reading::read` meets its contract: at each return, the check that the tests before it tell.
use Prim.Native.Nat.{◌+◌, ◌-◌, ◌^◌}
use mathlib.Core.Path.{◌≡◌, refl, sym, ap, ◌∙◌}
use mathlib.Core.Bool.{true}
use native.Mathlib.Omega.{arith}
use lib.ListN.{length, get_or, take}
use lib.Dec.{ltb}
use borrow.Author.Tests.{not-true, not-false}
use Rattle.words.specs.Blocks.{block_at}
use Rattle.codes_times.specs.Times.{time_of_day, code_right}
use Rattle.answers.specs.declared.Answer.{Answer}
use Rattle.derivatives_index.specs.Index.{known, version_of, free, body_length}
use Rattle.derivatives_index.proofs.IndexLaws.{two-lengths}
use Rattle.derivatives_index.proofs.ReadSteps.{fails-known, fails-version, fails-length, read-refused, read-digit, bad-digits, bad-sent, bad-time, bad-contract, bad-status, read-accepted}
use Rattle.derivatives_index.proofs.reading.read.Goals as goal

pub returns-then-not-is_known : goal.returns-then-not-is_known
returns-then-not-is_known c =
    let a = c.args in
    read-refused a.head a.body.now 7 c.refused.result (omega arith) refl
    (fails-known a.head a.body.now (sym c.is_known.ensures ∙ c.if-not-is_known.true))
    c.refused.ensures

pub returns-then-head-version : goal.returns-then-head-version
returns-then-head-version c =
    let known_at : known c.args.head.market c.args.head.kind ≡ true = sym c.is_known.ensures ∙ c.if-not-is_known.false in
    let a = c.args in
    read-refused a.head a.body.now 8 c.refused-then-head-version.result (omega arith) refl
    (fails-version a.head a.body.now known_at (λ e. c.if-head-version.true (e ∙ sym c.version_of-version.ensures)))
    c.refused-then-head-version.ensures

pub returns-then-not-is_length : goal.returns-then-not-is_length
returns-then-not-is_length c =
    let known_at : known c.args.head.market c.args.head.kind ≡ true = sym c.is_known.ensures ∙ c.if-not-is_known.false in
    let version-at : c.args.head.version ≡ version_of c.args.head.kind = c.if-head-version.false ∙ c.version_of-version.ensures in
    let a = c.args in
    read-refused a.head a.body.now 9 c.refused-then-not-is_length.result (omega arith) refl
    (fails-length a.head a.body.now known_at version-at
    (sym c.is_length.ensures ∙ c.if-not-is_length.true))
    c.refused-then-not-is_length.ensures

pub overflow_sub-long : goal.overflow_sub-long
overflow_sub-long c =
    let long-at : body_length (length c.args.body.now) ≡ true = sym c.is_length.ensures ∙ c.if-not-is_length.false in
    omega (arith, two-lengths (length c.args.body.now) long-at)

pub place_in-place-requires : goal.place_in-place-requires
place_in-place-requires c =
    let long-at : body_length (length c.args.body.now) ≡ true = sym c.is_length.ensures ∙ c.if-not-is_length.false in
    long-at

pub returns-then-not-h : goal.returns-then-not-h
returns-then-not-h c =
    let known_at : known c.args.head.market c.args.head.kind ≡ true = sym c.is_known.ensures ∙ c.if-not-is_known.false in
    let version-at : c.args.head.version ≡ version_of c.args.head.kind = c.if-head-version.false ∙ c.version_of-version.ensures in
    let long-at : body_length (length c.args.body.now) ≡ true = sym c.is_length.ensures ∙ c.if-not-is_length.false in
    let a = c.args in
    read-digit a.head a.body.now _
    (bad-digits a.head a.body.now known_at version-at long-at
    c.eight_at-h.result c.eight_at-h.ensures (not-true _ c.if-not-h.true))
    (ap (Answer.Refused 11 (17 + length a.body.now)) c.place_in-place.ensures, c.empty-index.ensures)

pub returns-then-not-is_time : goal.returns-then-not-is_time
returns-then-not-is_time c =
    let known_at : known c.args.head.market c.args.head.kind ≡ true = sym c.is_known.ensures ∙ c.if-not-is_known.false in
    let outlined : known c.args.head.market c.args.head.kind ≡ true = known_at in
    let version-at : c.args.head.version ≡ version_of c.args.head.kind = c.if-head-version.false ∙ c.version_of-version.ensures in
    let versioned : c.args.head.version ≡ version_of c.args.head.kind = version-at in
    let long-at : body_length (length c.args.body.now) ≡ true = sym c.is_length.ensures ∙ c.if-not-is_length.false in
    let lengthed : body_length (length c.args.body.now) ≡ true = long-at in
    let told : c.eight_at-h.result ≡ block_at 8 4 c.args.body.now (length c.args.body.now - 9) = c.eight_at-h.ensures in
    let good-at : c.eight_at-h.result.good ≡ true = not-false _ c.if-not-h.false in
    read-refused c.args.head c.args.body.now 12 c.refused-then-not-is_time.result (omega arith) refl
    (bad-sent c.args.head c.args.body.now outlined versioned lengthed c.eight_at-h.result told good-at
    (sym c.is_time.ensures ∙ c.if-not-is_time.true))
    c.refused-then-not-is_time.ensures

pub returns-then-not-is_time-2 : goal.returns-then-not-is_time-2
returns-then-not-is_time-2 c =
    let known_at : known c.args.head.market c.args.head.kind ≡ true = sym c.is_known.ensures ∙ c.if-not-is_known.false in
    let outlined : known c.args.head.market c.args.head.kind ≡ true = known_at in
    let version-at : c.args.head.version ≡ version_of c.args.head.kind = c.if-head-version.false ∙ c.version_of-version.ensures in
    let versioned : c.args.head.version ≡ version_of c.args.head.kind = version-at in
    let long-at : body_length (length c.args.body.now) ≡ true = sym c.is_length.ensures ∙ c.if-not-is_length.false in
    let lengthed : body_length (length c.args.body.now) ≡ true = long-at in
    let told : c.eight_at-h.result ≡ block_at 8 4 c.args.body.now (length c.args.body.now - 9) = c.eight_at-h.ensures in
    let good-at : c.eight_at-h.result.good ≡ true = not-false _ c.if-not-h.false in
    let sent-at : time_of_day 2 c.args.head.sent ≡ true = sym c.is_time.ensures ∙ c.if-not-is_time.false in
    read-refused c.args.head c.args.body.now 12 c.refused-then-not-is_time-2.result (omega arith) refl
    (bad-time c.args.head c.args.body.now outlined versioned lengthed c.eight_at-h.result told good-at sent-at
    (sym c.is_time-2.ensures ∙ c.if-not-is_time-2.true))
    c.refused-then-not-is_time-2.ensures

pub contract_right-requires : goal.contract_right-requires
contract_right-requires c =
    let long-at : body_length (length c.args.body.now) ≡ true = sym c.is_length.ensures ∙ c.if-not-is_length.false in
    let lengthed : body_length (length c.args.body.now) ≡ true = long-at in
    lengthed

pub returns-then-not-contract_right : goal.returns-then-not-contract_right
returns-then-not-contract_right c =
    let known_at : known c.args.head.market c.args.head.kind ≡ true = sym c.is_known.ensures ∙ c.if-not-is_known.false in
    let outlined : known c.args.head.market c.args.head.kind ≡ true = known_at in
    let version-at : c.args.head.version ≡ version_of c.args.head.kind = c.if-head-version.false ∙ c.version_of-version.ensures in
    let versioned : c.args.head.version ≡ version_of c.args.head.kind = version-at in
    let long-at : body_length (length c.args.body.now) ≡ true = sym c.is_length.ensures ∙ c.if-not-is_length.false in
    let lengthed : body_length (length c.args.body.now) ≡ true = long-at in
    let told : c.eight_at-h.result ≡ block_at 8 4 c.args.body.now (length c.args.body.now - 9) = c.eight_at-h.ensures in
    let good-at : c.eight_at-h.result.good ≡ true = not-false _ c.if-not-h.false in
    let sent-at : time_of_day 2 c.args.head.sent ≡ true = sym c.is_time.ensures ∙ c.if-not-is_time.false in
    let time-at : time_of_day 2 c.eight_at-h.result.first ≡ true = sym c.is_time-2.ensures ∙ c.if-not-is_time-2.false in
    read-refused c.args.head c.args.body.now 13 c.refused-then-not-contract_right.result (omega arith) refl
    (bad-contract c.args.head c.args.body.now outlined versioned lengthed c.eight_at-h.result told good-at sent-at time-at
    (sym c.contract_right.ensures ∙ c.if-not-contract_right.true))
    c.refused-then-not-contract_right.ensures

pub overflow_sub-status : goal.overflow_sub-status
overflow_sub-status c =
    let long-at : body_length (length c.args.body.now) ≡ true = sym c.is_length.ensures ∙ c.if-not-is_length.false in
    let lengthed : body_length (length c.args.body.now) ≡ true = long-at in
    omega (arith, two-lengths (length c.args.body.now) lengthed)

pub bounds-body-n : goal.bounds-body-n
bounds-body-n c =
    let long-at : body_length (length c.args.body.now) ≡ true = sym c.is_length.ensures ∙ c.if-not-is_length.false in
    let lengthed : body_length (length c.args.body.now) ≡ true = long-at in
    omega (arith, two-lengths (length c.args.body.now) lengthed)

pub returns-then-not-is_status : goal.returns-then-not-is_status
returns-then-not-is_status c =
    let known_at : known c.args.head.market c.args.head.kind ≡ true = sym c.is_known.ensures ∙ c.if-not-is_known.false in
    let outlined : known c.args.head.market c.args.head.kind ≡ true = known_at in
    let version-at : c.args.head.version ≡ version_of c.args.head.kind = c.if-head-version.false ∙ c.version_of-version.ensures in
    let versioned : c.args.head.version ≡ version_of c.args.head.kind = version-at in
    let long-at : body_length (length c.args.body.now) ≡ true = sym c.is_length.ensures ∙ c.if-not-is_length.false in
    let lengthed : body_length (length c.args.body.now) ≡ true = long-at in
    let told : c.eight_at-h.result ≡ block_at 8 4 c.args.body.now (length c.args.body.now - 9) = c.eight_at-h.ensures in
    let good-at : c.eight_at-h.result.good ≡ true = not-false _ c.if-not-h.false in
    let sent-at : time_of_day 2 c.args.head.sent ≡ true = sym c.is_time.ensures ∙ c.if-not-is_time.false in
    let time-at : time_of_day 2 c.eight_at-h.result.first ≡ true = sym c.is_time-2.ensures ∙ c.if-not-is_time-2.false in
    let contract-at : code_right (take (length c.args.body.now - 9) c.args.body.now) ≡ true = sym c.contract_right.ensures ∙ c.if-not-contract_right.false in
    read-refused c.args.head c.args.body.now 13 c.refused-then-not-is_status.result (omega arith) refl
    (bad-status c.args.head c.args.body.now outlined versioned lengthed c.eight_at-h.result told good-at sent-at time-at contract-at
    (sym c.is_status.ensures ∙ c.if-not-is_status.true))
    c.refused-then-not-is_status.ensures

pub contract_in-contract-requires : goal.contract_in-contract-requires
contract_in-contract-requires c =
    let long-at : body_length (length c.args.body.now) ≡ true = sym c.is_length.ensures ∙ c.if-not-is_length.false in
    let lengthed : body_length (length c.args.body.now) ≡ true = long-at in
    lengthed

pub returns : goal.returns
returns c =
    let known_at : known c.args.head.market c.args.head.kind ≡ true = sym c.is_known.ensures ∙ c.if-not-is_known.false in
    let outlined : known c.args.head.market c.args.head.kind ≡ true = known_at in
    let version-at : c.args.head.version ≡ version_of c.args.head.kind = c.if-head-version.false ∙ c.version_of-version.ensures in
    let versioned : c.args.head.version ≡ version_of c.args.head.kind = version-at in
    let long-at : body_length (length c.args.body.now) ≡ true = sym c.is_length.ensures ∙ c.if-not-is_length.false in
    let lengthed : body_length (length c.args.body.now) ≡ true = long-at in
    let told : c.eight_at-h.result ≡ block_at 8 4 c.args.body.now (length c.args.body.now - 9) = c.eight_at-h.ensures in
    let good-at : c.eight_at-h.result.good ≡ true = not-false _ c.if-not-h.false in
    let sent-at : time_of_day 2 c.args.head.sent ≡ true = sym c.is_time.ensures ∙ c.if-not-is_time.false in
    let time-at : time_of_day 2 c.eight_at-h.result.first ≡ true = sym c.is_time-2.ensures ∙ c.if-not-is_time-2.false in
    let contract-at : code_right (take (length c.args.body.now - 9) c.args.body.now) ≡ true = sym c.contract_right.ensures ∙ c.if-not-contract_right.false in
    let status-at : ltb (get_or c.args.body.now (length c.args.body.now - 1) 0) (2 ^ free c.args.head.kind) ≡ true = sym c.is_status.ensures ∙ c.if-not-is_status.false in
    read-accepted c.args.head c.args.body.now outlined versioned lengthed c.eight_at-h.result told good-at sent-at time-at contract-at status-at
    c.number_of-format.result c.contract_in-contract.result c.number_of-format.ensures c.contract_in-contract.ensures
