-- The two searches by which a capture is judged, the sound blocks that stand first and a numbered block behind them; and the payload at
-- a place where so many blocks are finished.
use Rattle.std.specs.Prelude.{ℕ, zero, suc, ◌+◌, ◌-◌, Bool, cond, ◌&&◌, List, eqb, ltb, Option, Some, None}
use Rattle.capture.specs.Blocks.{number, used, in_range, zeros_behind, intact}
use Rattle.capture.specs.declared.Part.{Part}
use Rattle.capture.specs.Calls.{part_from}
use Rattle.capture.specs.Captures.{places, start_of, block_at, numbered, first_from}

-- a block that is right but for its check: its number is its place, and its range and its zeros hold
unfoldable pub formed : List ℕ → ℕ → Bool
formed b p = eqb (number b) p && (in_range b && zeros_behind b)

-- a sound block: its number is its place, and it is intact
unfoldable pub sound : List ℕ → ℕ → Bool
sound b p = eqb (number b) p && intact b

-- how many blocks next to each other, of so many from a place on, are sound
abbrev pub sound_from : List ℕ → ℕ → ℕ → ℕ
sound_from m zero p = 0
sound_from m (suc k) p = cond (sound (block_at m p) p) (suc (sound_from m k (p + 1))) 0

-- how many stand first
unfoldable pub sound_first : List ℕ → ℕ
sound_first m = sound_from m places 1

-- the first place with a number behind so many, 0 if there is none
unfoldable pub numbered_behind : List ℕ → ℕ → ℕ
numbered_behind m n = first_from (numbered m) (places - n) (n + 1)

-- a place that is no 0
abbrev pub place_in : ℕ → Option ℕ
place_in p = cond (eqb p 0) None (Some p)

-- the payload at a place where the first n blocks are finished and no other
unfoldable pub part_in : List ℕ → ℕ → ℕ → Part
part_in m n p = cond (eqb p 0) (part_from 0 0) (cond (ltb n p) (part_from 0 0) (part_from (start_of p + 6) (used (block_at m p))))
