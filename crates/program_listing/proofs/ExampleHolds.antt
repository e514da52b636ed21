-- The rules' example, one of the derivatives exchange, and the listing of an empty line of either, hold byte for byte, by computation.
use Prim.Native.Nat.{ℕ}
use mathlib.Core.Path.{◌≡◌, refl}
use mathlib.Core.List.{List, [], ◌∷◌, ◌++◌}
use Rattle.walk.specs.Tally.{tally_of}
use Rattle.stock_reading.specs.Reading.{format_of, checks, answer_of}
use Rattle.derivatives_reading.specs.Reading as derivatives
use Rattle.lines.specs.declared.exchanges.Exchange.TheVariants.{Stock, Derivatives}
use Rattle.program_listing.specs.Listing.{header, listing}
use Rattle.program_listing.specs.Example.{line, output, derivatives_line, derivatives_output}

pub example-holds : listing Stock line ≡ output
unfolding format_of checks answer_of tally_of
example-holds = refl

pub derivatives-example-holds : listing Derivatives derivatives_line ≡ derivatives_output
unfolding derivatives.answer_of tally_of
derivatives-example-holds = refl

-- `total,0,0,0`
abbrev zeros : List ℕ
zeros = 116 ∷ 111 ∷ 116 ∷ 97 ∷ 108 ∷ 44 ∷ 48 ∷ 44 ∷ 48 ∷ 44 ∷ 48 ∷ 10 ∷ []

pub empty_holds : (listing Stock [] ≡ header ++ zeros) × (listing Derivatives [] ≡ header ++ zeros)
unfolding format_of checks answer_of derivatives.answer_of tally_of
empty_holds = (refl, refl)
