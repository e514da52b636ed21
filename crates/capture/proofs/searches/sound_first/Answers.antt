-- `searches::sound_first` meets its contract: counting on from here is counting from the start.
use Prim.Native.Nat.{◌+◌}
use mathlib.Core.List.{List}
use Prim.Native.Nat.{ℕ}
use mathlib.Core.Path.{◌≡◌, ap, ◌∙◌}
use Rattle.capture.specs.Blocks.{check_fits}
use Rattle.capture.specs.Searches.{formed}
use Rattle.capture.proofs.SearchLaws.{at-unformed, at-unsound, past-sound, all_sound, search-starts}
use native.Mathlib.Omega.{arith}
use Rattle.capture.proofs.searches.sound_first.Goals as goal

pub loop-n-init : goal.loop-n-init
loop-n-init c = search-starts c.args.capture.now

pub returns-then-not-is_formed : goal.returns-then-not-is_formed
returns-then-not-is_formed c =
    let l = c.loop-n in
    let r = c.is_formed in
    let same = ap (λ (b : List ℕ). formed b (l.n + 1)) c.block_at-block.ensures in
    (at-unformed c.args.capture.now l.n (omega arith) r.result (r.ensures ∙ same) c.if-not-is_formed.true ∙ l.invariant, omega arith)

pub returns-then-not-check_fits : goal.returns-then-not-check_fits
returns-then-not-check_fits c =
    let l = c.loop-n in
    let r = c.is_formed in
    let same = ap (λ (b : List ℕ). formed b (l.n + 1)) c.block_at-block.ensures in (
      at-unsound c.args.capture.now l.n (omega arith) r.result (r.ensures ∙ same) c.check_fits.result (c.check_fits.ensures ∙ ap check_fits c.block_at-block.ensures)
          c.if-not-is_formed.false c.if-not-check_fits.true ∙ l.invariant,
      omega arith,
    )

pub loop-n-preserved : goal.loop-n-preserved
loop-n-preserved c =
    let l = c.loop-n in
    let r = c.is_formed in
    let same = ap (λ (b : List ℕ). formed b (l.n + 1)) c.block_at-block.ensures in
    past-sound c.args.capture.now l.n (omega arith) r.result (r.ensures ∙ same) c.check_fits.result (c.check_fits.ensures ∙ ap check_fits c.block_at-block.ensures)
    c.if-not-is_formed.false c.if-not-check_fits.false ∙ l.invariant

pub returns : goal.returns
returns c =
    let l = c.loop-n in
    let end : 128 ≡ l.n = omega arith in
    (end ∙ all_sound c.args.capture.now l.n (omega arith) ∙ l.invariant, omega arith)
