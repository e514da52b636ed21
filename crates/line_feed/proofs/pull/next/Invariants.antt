-- `pull::next` keeps what it is lent: after each turn the streams and both buffers are those of the beginning, and the text that waits is as it was.
use Rattle.std.proofs.Common.{◌≡◌, length}
use Rattle.line_feed.proofs.pull.next.Given as goal

abbrev pub invariant-loop : goal.invariant-loop
invariant-loop g l =
    (l.input.stream.ghost_name ≡ l.fn.input.stream.ghost_name)
    × (l.input.buf.ghost_name ≡ l.fn.input.buf.ghost_name)
    × (length l.input.buf.now ≡ length l.fn.input.buf.now)
    × (l.output.stream.ghost_name ≡ l.fn.output.stream.ghost_name)
    × (l.output.out.ghost_name ≡ l.fn.output.out.ghost_name)
    × (l.output.out.now ≡ l.fn.output.out.now)
