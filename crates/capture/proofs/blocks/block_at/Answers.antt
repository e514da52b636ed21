-- `blocks::block_at` meets its contract.
use Prim.Native.Nat.{ℕ, ◌/◌}
use mathlib.Core.Path.{◌≡◌, ap, ◌∙◌}
use mathlib.Core.List.{List, []}
use lib.ListN.{length, get_or}
use Rattle.std.specs.Simd.{first_chunks}
use Rattle.capture.proofs.SearchLaws.{chunk-block}
use native.Mathlib.Omega.{arith}
use Rattle.capture.proofs.blocks.block_at.Goals as goal

pub returns : goal.returns
returns c =
    let a = c.args in
    let k : length a.capture.now / 512 ≡ 128 = omega arith in
    ap (λ (l : List (List ℕ)). get_or l a.n []) (c.as_chunks.ensures.front ∙ ap (λ (j : ℕ). first_chunks 512 j a.capture.now) k)
    ∙ chunk-block a.capture.now a.n (omega arith)
