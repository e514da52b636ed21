-- The board that is kept as lists of numbers: messages and lines as memory holds them.
use Rattle.std.specs.Prelude.{ℕ, ◌<◌, List, [], ◌∷◌, get_or}
use Rattle.stock_quotes.specs.Quotes.{ShapedQuote}
use Rattle.stock_quotes.specs.declared.Quote.{Quote}
use Rattle.stock_board_flat.specs.Flat.{Flat}
use Rattle.stock_board_flat.specs.Calls.{taken_answer, taken_flat, clear_flat, asked_flat, row_at_flat, in_use_flat}
use Rattle.laws_board.specs.History.{CallsTell}

-- a message as memory holds it: its arrays have their lengths, its bytes are below 256
pub record Held (m : Quote) : Type 0 where
  pub shaped : ShapedQuote m
  pub limit-byte : m.limit < 256
  pub status-byte : m.status < 256

-- a line as memory holds it: every byte of it is below 256
abbrev pub Bytes : List ℕ → Type 0
Bytes line = (i : ℕ) → get_or line i 0 < 256

-- the lists that a series of calls leaves, the latest message first
abbrev pub after_flat : List Quote → Flat
after_flat [] = clear_flat
after_flat (m ∷ ms) = taken_flat (after_flat ms) m

-- the calls on the lists tell after a series what its messages say, as those on rows do
abbrev pub KeptTells : List Quote → Type 0
KeptTells ms = let f = after_flat ms in CallsTell ms (taken_answer f) (asked_flat f) (in_use_flat f) (row_at_flat f)
