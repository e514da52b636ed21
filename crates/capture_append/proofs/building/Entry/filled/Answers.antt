-- `Entry::filled` meets its contract.
use Prim.Native.Nat.{◌+◌, ◌-◌}
use mathlib.Core.Path.{refl, ◌∙◌}
use lib.ListN.{length}
use Rattle.std.proofs.lemmas.Slice.{put_mid-paste}
use Rattle.capture_append.proofs.BuildLaws.{filled_is}
use native.Mathlib.Omega.{arith}
use Rattle.capture_append.proofs.building.Entry.filled.Goals as goal

pub returns : goal.returns
returns c =
    let a = c.args.self.now in
    let n = length a.payload.now in
    let d = c.headed-block in
    put_mid-paste 6 (6 + n - 6) d.result c.copy_from_slice.new.self a.payload.now n c.copy_from_slice.ensures.after (omega arith) refl
    ∙ filled_is a.place a.payload.now (omega arith) (omega arith) d.result d.ensures
