-- A series of appends to a fresh capture, the latest first, each of which the power may cut short after any number of its stores.
use Rattle.std.specs.Prelude.{ℕ, ◌+◌, ◌-◌, ◌≡◌, Bool, cond, not, ◌&&◌, List, [], ◌∷◌, ◌++◌, length, get_or, take, drop, eqb, leb, ltb, Result, Ok, Err}
use Rattle.capture.specs.Captures.{places, capture_size, first_bad, found}
use Rattle.capture.specs.Calls.{fresh, held_of, part_of, part_number}
use Rattle.capture.specs.declared.Unsound.{Unsound}
use Rattle.capture.specs.declared.Part.{Part}
use Rattle.capture_append.specs.Stores.{stores}
use Rattle.capture_append.specs.Appending.{misfit, taken_of, taken_bytes}
use Rattle.capture_append.specs.declared.AppendError.{AppendError}

-- ---- said of the payloads alone
-- an append of a payload, and how many of its stores were done: all of them, or fewer where the power went
pub record Attempt : Type 0 where
  pub payload : List ℕ
  pub done : ℕ

-- it is kept if its payload fits, fewer than 128 are kept before it, and all its stores were done
abbrev pub keeps : List (List ℕ) → Attempt → Bool
keeps ps t = not (misfit t.payload) && (ltb (length ps) places && leb stores t.done)

-- what is kept behind others
abbrev pub kept_with : List (List ℕ) → Attempt → List (List ℕ)
kept_with ps t = cond (keeps ps t) (ps ++ (t.payload ∷ [])) ps

-- the payloads whose appends were finished, the earliest first
abbrev pub kept : List Attempt → List (List ℕ)
kept [] = []
kept (t ∷ ts) = kept_with (kept ts) t

-- the payload at a place, the first at 1; empty if there is none
abbrev pub kept_at : List (List ℕ) → ℕ → List ℕ
kept_at ps p = cond (eqb p 0) [] (get_or ps (p - 1) [])

-- what an append is answered where some are kept: 31; 32 where they are 128; else the place behind them
abbrev pub answer_by : List (List ℕ) → List ℕ → Result ℕ AppendError
answer_by ps x = cond (misfit x) (Err AppendError.PayloadLength) (cond (ltb (length ps) places) (Ok (length ps + 1)) (Err AppendError.Full))

-- ---- the calls
-- the memory that a series leaves
abbrev pub after : List Attempt → List ℕ
after [] = fresh
after (t ∷ ts) = taken_bytes (after ts) t.payload t.done

-- the bytes that are handed back of a capture
abbrev pub handed : List ℕ → Result Part Unsound → List ℕ
handed m (Ok part) = take part.length (drop part.start m)
handed m (Err e) = []

-- ---- what the calls tell after a series
pub record Tells (ts : List Attempt) : Type 0 where
  -- no call is refused with 34 or 33
  pub long : length (after ts) ≡ capture_size
  pub no-bad : first_bad (after ts) ≡ 0
  -- what is found is the payloads whose appends were finished
  pub finds : found (after ts) ≡ kept ts
  pub counts : held_of (after ts) ≡ Ok (length (kept ts))
  -- the next append takes the first place that is unfinished, whatever was left there
  pub answers : (x : List ℕ) → taken_of (after ts) x ≡ answer_by (kept ts) x
  -- a place hands back the payload that is kept there, byte for byte
  pub accepts : (p : ℕ) → part_number (part_of (after ts) p) ≡ 0
  pub hands : (p : ℕ) → handed (after ts) (part_of (after ts) p) ≡ kept_at (kept ts) p
