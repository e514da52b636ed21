-- What the steps of writing a quote test, and what they put.
use Rattle.std.specs.Prelude.{ℕ, zero, suc, ◌+◌, ◌*◌, ◌^◌, ◌≤◌, ◌≡◌, Bool, true, false, cond, ◌&&◌, List, [], ◌∷◌, ◌++◌, take, replicate, eqb, ltb}
use Rattle.digits.specs.Packed.{packed}
use Rattle.digits.specs.Tests.{all_of}
use Rattle.layout.specs.Cells.{fits}
use Rattle.amounts.specs.declared.Pair.{Pair}
use Rattle.stock_quotes.specs.declared.Quote.{Quote}
use Rattle.stock_quotes.specs.declared.Reveal.{Reveal}
use Rattle.stock_quotes.specs.Reveal.{revealed, side_room, levels_right, pair_count}
use Rattle.stock_quotes.specs.Quotes.{pair_cells, flat}

-- a used pair's numbers have at most their digits; an unused pair is zero
abbrev pub pair_right : Bool → Pair → Bool
pair_right used p = cond used (ltb p.price.0 (10 ^ 9) && ltb p.quantity.0 (10 ^ 8)) (eqb 0 p.price.0 && eqb 0 p.quantity.0)

-- of some pairs the first n are used
abbrev pub part_right : ℕ → List Pair → Bool
part_right n [] = true
part_right zero (p ∷ ps) = pair_right false p && part_right zero ps
part_right (suc n) (p ∷ ps) = pair_right true p && part_right n ps

-- the rule on what is shown, and the pairs of all three parts
abbrev pub pair_tests : Reveal → Quote → List Bool
pair_tests r m =
    levels_right r ∷ part_right r.trades (m.trade ∷ []) ∷ part_right r.bids m.bids ∷ part_right r.asks m.asks ∷ []

unfoldable pub pairs_right : Reveal → Quote → Bool
pairs_right r m = all_of (pair_tests r m)

-- the bytes of a quote's body before its pairs
unfoldable pub fixed_bytes : Quote → List ℕ
fixed_bytes m = m.code ++ (packed 6 m.time ++ (m.reveal ∷ m.limit ∷ m.status ∷ packed 4 m.total.0))

-- what the reveal byte shows, the pairs of each part within their digits, and room for them in n bytes
pub record Ready (m : Quote) (r : Reveal) (n : ℕ) : Type 0 where
  pub shown : r ≡ revealed m.reveal
  pub few-trades : r.trades ≤ side_room
  pub few-bids : r.bids ≤ side_room
  pub few-asks : r.asks ≤ side_room
  pub trade-fits : fits (pair_cells r.trades) (flat (take r.trades (replicate side_room m.trade))) ≡ true
  pub bids-fit : fits (pair_cells r.bids) (flat (take r.bids m.bids)) ≡ true
  pub asks-fit : fits (pair_cells r.asks) (flat (take r.asks m.asks)) ≡ true
  pub room : 29 + 9 * pair_count r ≤ n
