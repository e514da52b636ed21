-- `fixed_fields` meets its contract: the total's digits are good, and the time's say whether there is an answer.
use Rattle.std.proofs.Common.{◌≡◌, ◌∙◌, Bool, true, false, sym, refl}
use Rattle.std.specs.Bool.{then_some}
use Rattle.std.specs.Option.{MatchOption}
use Rattle.stock_quotes_read.specs.declared.Fixed.{Fixed}
use Rattle.stock_quotes_read.specs.Steps.{fixed_good, FixedOf}
use Rattle.stock_quotes_read.proofs.ReadLaws.{fixed-read}
use Rattle.stock_quotes_read.proofs.fixed_fields.Goals as goal

by-flag : (P : Fixed → Type 0) (g t : Bool) (x : Fixed) → g ≡ t → (g ≡ true → P x) → MatchOption (then_some g x) (t ≡ false) (λ y. (t ≡ true) × P y)
by-flag P true t x e f = (sym e, f refl)
by-flag P false t x e f = sym e

pub returns : goal.returns
returns c =
    let b = c.args.body.now in
    let r = fixed-read b c.requires c.in_ok-total.total c.six_at-time.ensures (sym c.from_digits.ensures ∙ c.in_ok-total.was) in
    rw c.then_some.ensures (by-flag (λ y. FixedOf b y.first y.last y.total) c.six_at-time.result.good (fixed_good b) _ r.0 r.1)
