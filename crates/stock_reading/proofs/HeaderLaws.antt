-- The checks on a header, for the formats of the list: 7, 8, or the body of the format that its six digits name.
use Rattle.std.specs.Prelude.{None, Option}
use Prim.Native.Nat.{ℕ, ◌+◌, ◌/◌, ◌%◌, ◌<◌}
use mathlib.Core.Path.{◌≡◌, refl, sym, ap, ap₂, ◌∙◌}
use mathlib.Core.Bool.{Bool, true, false, ◌&&◌}
use mathlib.Core.List.{List, [], ◌∷◌, ◌++◌}
use native.Mathlib.Omega.{arith}
use lib.ListN.{length}
use lib.Dec.{eqb}
use borrow.Author.Tests.{eq-eqb, ne_eqb, eqb-true}
use Rattle.digits.proofs.Bools.{and_both}
use Rattle.digits.proofs.TestLaws.{holds}
use Rattle.layout.specs.Checks.{Check, must, first_fail}
use Rattle.answers.specs.Answers.{named}
use Rattle.stock_frame.specs.Outline.{body, business, format, version}
use Rattle.stock_frame.specs.Format.{Format, body_checks, body_place, body_answer, around}
use Rattle.answers.specs.declared.Frame.{Frame}
use Rattle.answers.specs.declared.Answer.TheVariants.{Refused}
use Rattle.layout.proofs.CheckLaws.{check-holds, checks-after}
use Rattle.stock_frame.proofs.FormatsLaws.{Listed, here, later, Named, listed-named, one-small, NoneIs, none-listed}
use Rattle.stock_notices.specs.Notices.{five}
use Rattle.stock_quotes.specs.Quotes.{six}
use Rattle.stock_prices.specs.Prices.{twelve}
use Rattle.stock_halts.specs.Halts.{nineteen}
use Rattle.stock_reading.specs.Reading.{formats, format_of, is_format, kind_checks, stock}
use Rattle.stock_reading.specs.Steps.{kind_of, after_outline}

-- ---- the formats, each by its place in the list
pub five-listed : Listed five formats
five-listed = here refl

pub six-listed : Listed six formats
six-listed = later (here refl)

pub twelve-listed : Listed twelve formats
twelve-listed = later (later (here refl))

pub nineteen-listed : Listed nineteen formats
nineteen-listed = later (later (later (here refl)))

pub format_small : (n : ℕ) → is_format n ≡ true → n < 100
format_small n h = one-small formats n refl h

module _ (F : Format) (listed : Listed F formats) where
  pub named-format : Named formats F
  named-format = listed-named formats F refl listed

  pub same_format : format_of F.number ≡ F
  unfolding format_of
  same_format = named-format.first five

  pub same_version : (format_of F.number).version ≡ F.version
  same_version = ap (λ (G : Format). G.version) same_format

-- ---- the checks on the header
module _ (bu fm ve : ℕ) (more : List Check) where
  abbrev known : Bool
  known = eqb bu 1 && is_format fm

  header-seven : known ≡ false → first_fail (kind_checks bu fm ve ++ more) ≡ 7
  header-seven e = rw e

  header-eight : known ≡ true → eqb ve (format_of fm).version ≡ false → first_fail (kind_checks bu fm ve ++ more) ≡ 8
  header-eight e v = rw (e, v)

  header-passes : known ≡ true → eqb ve (format_of fm).version ≡ true → first_fail (kind_checks bu fm ve ++ more) ≡ first_fail more
  header-passes e v = rw (e, v)

  pub header-holds : first_fail (kind_checks bu fm ve ++ more) ≡ 0 → (bu ≡ 1) × (is_format fm ≡ true) × (ve ≡ (format_of fm).version)
  header-holds p =
      let right = must 8 (eqb ve (format_of fm).version) ∷ more in
      let named = check-holds 6 known right p in (
        eqb-true bu 1 (holds (eqb bu 1 ∷ is_format fm ∷ []) named 0),
        holds (eqb bu 1 ∷ is_format fm ∷ []) named 1,
        eqb-true ve (format_of fm).version (check-holds 7 (eqb ve (format_of fm).version) more (checks-after 6 known right p)),
      )

-- the header of a format passes, and its body's checks are left
pub header-known : (F : Format) → Listed F formats → (b : List ℕ)
    → first_fail (kind_checks 1 F.number F.version ++ body_checks (format_of F.number) b) ≡ first_fail (body_checks F b)
header-known F listed b =
    header-passes 1 F.number F.version (body_checks (format_of F.number) b) (named-format F listed).is_one
    (eq-eqb F.version (format_of F.number).version (sym (same_version F listed)))
    ∙ ap (λ (G : Format). first_fail (body_checks G b)) (same_format F listed)

-- the same of a frame's own bytes: its header is a format's exactly where it passes and names the format
module _ (F : Format) (listed : Listed F formats) (f : List ℕ) where
  pub frame-known : business f ≡ 1 → format f ≡ F.number → version f ≡ F.version → first_fail (stock.checks f) ≡ first_fail (body_checks F (body f))
  frame-known bu fm ve =
      (λ i. first_fail (kind_checks (bu i) (fm i) (ve i) ++ body_checks (format_of (fm i)) (body f))) ∙ header-known F listed (body f)

  pub frame-holds : first_fail (stock.checks f) ≡ 0 → format f ≡ F.number → (business f ≡ 1) × (version f ≡ F.version)
  frame-holds p fm =
      let h = header-holds (business f) (format f) (version f) (body_checks (format_of (format f)) (body f)) p in
      (h.0, h.2 ∙ ap (λ (n : ℕ). (format_of n).version) fm ∙ same_version F listed)

-- ---- what a header's six digits answer, and the body behind them
module _ (kind seq : ℕ) (b : List ℕ) where
  abbrev frame : Frame
  frame = record { format = kind / 100 % 100; seq = seq; length = around + length b }

  abbrev checks : List Check
  checks = body_checks (format_of (kind / 100 % 100)) b

  abbrev place : ℕ → Option ℕ
  place n = body_place (format_of (kind / 100 % 100)) b n

  -- they name no format under business 01
  pub kind-seven : NoneIs (kind / 100) formats → Refused 7 (around + length b) None ≡ after_outline kind seq b
  unfolding after_outline
  kind-seven unnamed =
      sym (ap (λ (n : ℕ). named n frame (place n)) (header-seven (kind / 10000) (kind / 100 % 100) (kind % 100) checks (go (eqb (kind / 10000) 1) refl)))
    where
      go : (t : Bool) → eqb (kind / 10000) 1 ≡ t → (t && is_format (kind / 100 % 100)) ≡ false
      go true e =
          let one = eqb-true (kind / 10000) 1 e in
          none-listed formats (kind / 100) (omega arith) unnamed
      go false e = refl

  module _ (F : Format) (listed : Listed F formats) where
    abbrev says : Named formats F
    says = named-format F listed

    -- they name a format, but not its version
    pub kind-eight : kind / 100 ≡ 100 + F.number → (kind ≡ kind_of F → ⊥) → Refused 8 (around + length b) None ≡ after_outline kind seq b
    unfolding after_outline
    kind-eight is other =
        let small = says.number_fits in
        let bu : kind / 10000 ≡ 1 = omega arith in
        let fm : kind / 100 % 100 ≡ F.number = omega arith in
        let ve : kind % 100 ≡ (format_of (kind / 100 % 100)).version → ⊥ =
        λ e. let v = e ∙ ap (λ (n : ℕ). (format_of n).version) fm ∙ same_version F listed in other (omega arith) in
        sym (ap (λ (n : ℕ). named n frame (place n))
        (header-eight (kind / 10000) (kind / 100 % 100) (kind % 100) checks
        (and_both (eq-eqb (kind / 10000) 1 bu) (ap is_format fm ∙ says.is_one)) (ne_eqb (kind % 100) (format_of (kind / 100 % 100)).version ve)))

    -- they name a format and its version
    pub kind-hit : kind ≡ kind_of F → body_answer F seq b ≡ after_outline kind seq b
    unfolding body_answer after_outline
    kind-hit is =
        let small = says.number_fits in
        let most = says.version-fits in
        let bu : kind / 10000 ≡ 1 = omega arith in
        let fm : kind / 100 % 100 ≡ F.number = omega arith in
        let ve : kind % 100 ≡ F.version = omega arith in
        ap₂ (λ (n : ℕ) (G : Format). named n (record { format = F.number; seq = seq; length = around + length b }) (body_place G b n))
        (sym (header-known F listed b)) (sym (same_format F listed))
        ∙ (λ i.
        let n = first_fail (kind_checks (sym bu i) (sym fm i) (sym ve i) ++ body_checks (format_of (sym fm i)) b) in
        named n (record { format = sym fm i; seq = seq; length = around + length b }) (body_place (format_of (sym fm i)) b n))
