-- Bytes moved within a lent buffer.
use Rattle.std.specs.Prelude.{ℕ, ◌-◌, ◌≡◌, List, ◌++◌, length, take, drop}

-- the bytes from a place up to an end, as far as they are there
abbrev pub between : ℕ → ℕ → List ℕ → List ℕ
between at end buf = take (end - at) (drop at buf)

-- a call that moves them to the front, answers how many they are and leaves after
abbrev pub MovesDown : ℕ → ℕ → List ℕ → ℕ → List ℕ → Type 0
MovesDown at end buf r after =
    let moved = between at end buf in
    (r ≡ length moved) × (after ≡ moved ++ drop (length moved) buf)
