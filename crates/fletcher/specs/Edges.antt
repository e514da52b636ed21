-- Fletcher-16 of some bytes: the letters a to e, a to f and a to h, and bytes that add up to 255.
use Rattle.std.specs.Prelude.{◌≡◌, [], ◌∷◌}
use Rattle.fletcher.specs.Fletcher.{sums_of, fletcher}

pub record Edges : Type 0 where
  pub nothing : fletcher [] ≡ sums_of 0 0
  pub five-letters : fletcher (0x61 ∷ 0x62 ∷ 0x63 ∷ 0x64 ∷ 0x65 ∷ []) ≡ sums_of 0xF0 0xC8
  pub six-letters : fletcher (0x61 ∷ 0x62 ∷ 0x63 ∷ 0x64 ∷ 0x65 ∷ 0x66 ∷ []) ≡ sums_of 0x57 0x20
  pub eight-letters : fletcher (0x61 ∷ 0x62 ∷ 0x63 ∷ 0x64 ∷ 0x65 ∷ 0x66 ∷ 0x67 ∷ 0x68 ∷ []) ≡ sums_of 0x27 0x06
  -- 255 is 0
  pub one-255 : fletcher (0xFF ∷ []) ≡ sums_of 0 0
  pub adds-to-255 : fletcher (0xFE ∷ 0x01 ∷ []) ≡ sums_of 0 0xFE
