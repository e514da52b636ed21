-- What a reveal byte shows, and what its rule comes to: the only laws that look into the rule.
use Prim.Native.Nat.{ℕ, ◌+◌, ◌%◌, ◌≤◌, ◌<◌}
use mathlib.Core.Path.{◌≡◌, refl, sym, ap, ◌∙◌}
use mathlib.Core.Bool.{Bool, true, false, cond, ◌&&◌}
use native.Mathlib.Omega.{arith}
use lib.Dec.{eqb, leb}
use borrow.Author.Tests.{leb-true, eqb-true, eqb-false, eq-eqb, ne_eqb}
use Rattle.digits.proofs.Bools.{and_left, and_right}
use Rattle.stock_quotes.specs.declared.Levels.{Levels}
use Rattle.stock_quotes.specs.declared.Levels.TheVariants.{Shown, NotShown}
use Rattle.stock_quotes.specs.declared.Reveal.{Reveal}
use Rattle.stock_quotes.specs.Reveal.{levels_of, levels_bit, revealed, side_room, count_right, levels_right, pair_count}

-- what a byte's bits can count
module _ (r : Reveal) (byte : ℕ) (e : r ≡ revealed byte) where
  pub trades-lt : r.trades < 2
  trades-lt = rw e (omega arith)

  pub pairs_lt : pair_count r < 16
  pairs_lt = rw e (omega arith)

module _ (r : Reveal) (right : levels_right r ≡ true) where
  -- each side has room for its levels
  pub bids-few : r.bids ≤ side_room
  unfolding levels_right
  bids-few = leb-true r.bids side_room (and_left _ _ right)

  rest : leb r.asks side_room && count_right r.levels (r.bids + r.asks) ≡ true
  unfolding levels_right
  rest = and_right (leb r.bids side_room) _ right

  pub asks-few : r.asks ≤ side_room
  asks-few = leb-true r.asks side_room (and_left _ _ rest)

  -- and levels that are not shown are none
  none-counted : r.levels ≡ NotShown → r.bids + r.asks ≡ 0
  none-counted e =
      eqb-true (r.bids + r.asks) 0
      (sym (ap (λ (l : Levels). count_right l (r.bids + r.asks)) e) ∙ and_right (leb r.asks side_room) _ rest)

  pub no-bids : r.levels ≡ NotShown → r.bids ≡ 0
  no-bids e = omega (arith, none-counted e)

  pub no-asks : r.levels ≡ NotShown → r.asks ≡ 0
  no-asks e = omega (arith, none-counted e)

-- a word on the levels and its bit tell each other
pub bit-of : (byte : ℕ) → levels_bit (levels_of byte) ≡ byte % 2
bit-of byte = go (eqb (byte % 2) 0) refl
  where
    go : (t : Bool) → eqb (byte % 2) 0 ≡ t → levels_bit (cond t Shown NotShown) ≡ byte % 2
    go true e = sym (eqb-true (byte % 2) 0 e)
    go false e = omega (arith, eqb-false (byte % 2) 0 e)

pub of-bit : (l : Levels) (byte : ℕ) → levels_bit l ≡ byte % 2 → levels_of byte ≡ l
of-bit Shown byte e = rw (eq-eqb (byte % 2) 0 (sym e))
of-bit NotShown byte e = rw (ne_eqb (byte % 2) 0 (λ z. absurd (omega (arith, e, z))))
