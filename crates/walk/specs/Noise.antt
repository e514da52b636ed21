-- Bytes before the next 27.
use Rattle.std.specs.Prelude.{ℕ, suc, cond, List, [], ◌∷◌, eqb}

-- how many bytes stand before the first 27, or the end
abbrev pub noise_length : List ℕ → ℕ
noise_length [] = 0
noise_length (b ∷ bs) = cond (eqb b 27) 0 (suc (noise_length bs))
