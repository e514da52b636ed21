-- `reading::contract_in` meets its contract.
use mathlib.Core.Path.{◌≡◌}
use native.Mathlib.Omega.{arith}
use lib.ListN.{length}
use borrow.Author.Rules.{rules}
use Rattle.derivatives_index.proofs.ReadSteps.{long-one, short-contract, long-contract}
use Rattle.derivatives_index.proofs.reading.contract_in.Goals as goal

pub returns-then-body-eq12 : goal.returns-then-body-eq12
returns-then-body-eq12 c = short-contract c.args.body.now (omega arith)

pub bounds-body-0-2 : goal.bounds-body-0-2
bounds-body-0-2 c =
    let long : length c.args.body.now ≡ 17 = long-one (length c.args.body.now) c.requires c.if-body-eq12.false in
    let n = long in
    search rules

pub bounds-body-1-2 : goal.bounds-body-1-2
bounds-body-1-2 c =
    let long : length c.args.body.now ≡ 17 = long-one (length c.args.body.now) c.requires c.if-body-eq12.false in
    let n = long in
    search rules

pub bounds-body-2-2 : goal.bounds-body-2-2
bounds-body-2-2 c =
    let long : length c.args.body.now ≡ 17 = long-one (length c.args.body.now) c.requires c.if-body-eq12.false in
    let n = long in
    search rules

pub bounds-body-3 : goal.bounds-body-3
bounds-body-3 c =
    let long : length c.args.body.now ≡ 17 = long-one (length c.args.body.now) c.requires c.if-body-eq12.false in
    let n = long in
    search rules

pub bounds-body-4 : goal.bounds-body-4
bounds-body-4 c =
    let long : length c.args.body.now ≡ 17 = long-one (length c.args.body.now) c.requires c.if-body-eq12.false in
    let n = long in
    search rules

pub bounds-body-5 : goal.bounds-body-5
bounds-body-5 c =
    let long : length c.args.body.now ≡ 17 = long-one (length c.args.body.now) c.requires c.if-body-eq12.false in
    let n = long in
    search rules

pub bounds-body-6 : goal.bounds-body-6
bounds-body-6 c =
    let long : length c.args.body.now ≡ 17 = long-one (length c.args.body.now) c.requires c.if-body-eq12.false in
    let n = long in
    search rules

pub bounds-body-7 : goal.bounds-body-7
bounds-body-7 c =
    let long : length c.args.body.now ≡ 17 = long-one (length c.args.body.now) c.requires c.if-body-eq12.false in
    let n = long in
    search rules

pub returns : goal.returns
returns c =
    let long : length c.args.body.now ≡ 17 = long-one (length c.args.body.now) c.requires c.if-body-eq12.false in
    long-contract c.args.body.now long
