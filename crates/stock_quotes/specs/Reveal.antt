-- What a quote's reveal byte shows, and the rule on it.
use Rattle.std.specs.Prelude.{ℕ, ◌+◌, ◌/◌, ◌%◌, Bool, true, cond, ◌&&◌, eqb, leb}
use Rattle.stock_quotes.specs.declared.Levels.{Levels}
use Rattle.stock_quotes.specs.declared.Levels.TheVariants.{Shown, NotShown}
use Rattle.stock_quotes.specs.declared.Reveal.{Reveal}

-- bit 0 set: only the trade is sent, and the levels are not shown; and the bit of such a word
abbrev pub levels_of : ℕ → Levels
levels_of byte = cond (eqb (byte % 2) 0) Shown NotShown

abbrev pub levels_bit : Levels → ℕ
levels_bit Shown = 0
levels_bit NotShown = 1

-- bit 7, a trade pair; bits 6-4, bid levels; bits 3-1, ask levels; bit 0, whether levels are shown
abbrev pub revealed : ℕ → Reveal
revealed byte = record { trades = byte / 128 % 2; bids = byte / 16 % 8; asks = byte / 2 % 8; levels = levels_of byte }

-- the levels that a side has room for
abbrev pub side_room : ℕ
side_room = 5

-- levels that are not shown are none
abbrev pub count_right : Levels → ℕ → Bool
count_right Shown n = true
count_right NotShown n = eqb n 0

-- check 10: each side's levels have room, and there are none where levels are not shown
unfoldable pub levels_right : Reveal → Bool
levels_right r = leb r.bids side_room && (leb r.asks side_room && count_right r.levels (r.bids + r.asks))

-- the pairs in a frame: trade, bids, asks
abbrev pub pair_count : Reveal → ℕ
pair_count r = r.trades + (r.bids + r.asks)
