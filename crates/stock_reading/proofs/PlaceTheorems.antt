-- The place beside an answer is the lowest bad half of what its number speaks of: the law of any exchange, in the stock exchange's words.
use Prim.Native.Nat.{ℕ}
use mathlib.Core.Path.{◌≡◌, refl, sym, subst}
use mathlib.Core.List.{List}
use lib.ListN.{drop}
use Rattle.digits.specs.Halves.{Lowest}
use Rattle.layout.specs.Places.{bad_half}
use Rattle.layout.proofs.PlaceLaws.{first_bad-lowest}
use Rattle.answers.specs.Answers.{answer_number, answer_place}
use Rattle.stock_frame.specs.Outline.{own, kind_cells}
use Rattle.exchange.proofs.PlaceLaws as common
use Rattle.exchange.proofs.PlaceLaws.{place_at}
use Rattle.stock_frame.proofs.OutlineLaws.{header-law}
use Rattle.stock_reading.specs.Reading.{stock, checks, place_of, answer_of}
use Rattle.stock_reading.specs.Places.{PlaceSays}
use Rattle.stock_reading.proofs.Exchange.{behind}

module _ (t : List ℕ) where
  pub place_is : answer_place (answer_of t) ≡ place_of (answer_number (answer_of t)) t
  unfolding answer_of checks
  place_is = place_at stock header-law behind t (answer_number (answer_of t)) refl

  -- beside 6 the length's digits are good, so it stands in bytes 4 to 10
  pub place-says : PlaceSays t
  unfolding answer_of checks
  place-says =
      let says = common.place-says stock header-law behind t in
      record {
        of_length = says.of_length;
        length-cause = says.length-cause;
        of-head = λ e. subst (Lowest (bad_half kind_cells (drop 3 (own t))) 6) (sym (place_at stock header-law behind t 6 e)) (first_bad-lowest kind_cells 6 (drop 3 (own t)));
        head-cause = says.head-cause;
        of-body = says.of-body;
        body-cause = says.body-cause;
        no_other = says.no_other;
        within = says.within;
      }
