-- The beginning of a line of an exchange.
use Rattle.std.specs.Prelude.{false, None}
use Rattle.walk.specs.Told.{fresh}
use Rattle.lines.specs.declared.exchanges.Exchange.{Exchange}
use Rattle.lines.specs.declared.exchanges.Exchange.TheVariants.{Stock}
use Rattle.line_feed.specs.declared.feed.Feed.{Feed}
use Rattle.line_feed.specs.declared.frames.Frames.{Frames}
use Rattle.line_feed.specs.declared.moves.Moves.{Moves}
use Rattle.line_feed.specs.declared.rows.Rows.{Rows}

-- nothing in hand, no text that waits, and nothing failed
abbrev pub fresh_feed : Exchange → Feed
fresh_feed e = record { at = 0; end = 0; to = 0; short = false; closed = false; exchange = e; failure = None }

-- and no row that is known
abbrev pub fresh_rows : Exchange → Rows
fresh_rows e = record { feed = fresh_feed e; kept = fresh; later = None }

-- and the place of the line's first byte
abbrev pub fresh_frames : Frames
fresh_frames = record { feed = fresh_feed Stock; place = 0 }

abbrev pub fresh_moves : Exchange → Moves
fresh_moves e = record { feed = fresh_feed e; place = 0 }
