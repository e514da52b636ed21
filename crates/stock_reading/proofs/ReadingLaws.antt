-- A reading by its steps: the outline, the header's six digits, and the message of the format that is asked for.
use Rattle.std.specs.Prelude.{Err}
use Prim.Native.Nat.{ℕ, ◌+◌, ◌*◌, ◌/◌, ◌%◌, ◌^◌, ◌<◌}
use mathlib.Core.Path.{◌≡◌, refl, sym, ap, ap₂, ◌∙◌}
use mathlib.Core.Bool.{Bool, true, false, cond, ◌&&◌, and-true}
use mathlib.Core.List.{List, [], ◌∷◌, ◌++◌}
use native.Mathlib.Omega.{arith}
use lib.Dec.{eqb, ltb}
use borrow.Author.Tests.{eq-eqb, ne_eqb, eqb-true, ltb-true}
use Rattle.digits.proofs.TestLaws.{holds}
use Rattle.layout.specs.Cells.{fits}
use Rattle.layout.specs.Checks.{first_fail}
use Rattle.answers.specs.Answers.{named}
use Rattle.frame.proofs.HeaderLaws.{rear-fits}
use Rattle.exchange.proofs.ReadingLaws as common
use Rattle.stock_frame.specs.Outline.{header, length_of, own, body, business, format, version, sequence, outline_checks, kind_cells, kind_values, outline_of}
use Rattle.stock_frame.specs.Format.{values_of, body_checks, body_place}
use Rattle.stock_frame.specs.Codec.{Codec}
use Rattle.answers.specs.declared.Answer.{Answer}
use Rattle.stock_frame.specs.Reads.{Outlined}
use Rattle.stock_frame.proofs.FormatsLaws.{Listed}
use Rattle.stock_frame.proofs.OutlineLaws.{header-law, length-body}
use Rattle.stock_frame.proofs.PartLaws.{not-outlined}
use Rattle.stock_reading.specs.Reading.{formats, format_of, kind_checks, stock, checks, answer_of, message_by}
use Rattle.stock_reading.specs.Steps.{after_outline}
use Rattle.stock_reading.proofs.Exchange.{behind}
use Rattle.stock_reading.proofs.HeaderLaws.{frame-known, frame-holds}

-- ---- the header's six digits
module _ (t : List ℕ) (o : Outlined t) where
  abbrev f : List ℕ
  f = own t

  kinds-fit : fits kind_cells (kind_values f) ≡ true
  kinds-fit = rear-fits header header-law t o

  abbrev kind-tests : List Bool
  kind-tests = ltb (business f) 100 ∷ ltb (format f) 100 ∷ ltb (version f) 100 ∷ ltb (sequence f) (10 ^ 8) ∷ true ∷ []

  pub business-lt : business f < 100
  business-lt = ltb-true (business f) 100 (holds kind-tests kinds-fit 0)

  pub format-lt : format f < 100
  format-lt = ltb-true (format f) 100 (holds kind-tests kinds-fit 1)

  pub version-lt : version f < 100
  version-lt = ltb-true (version f) 100 (holds kind-tests kinds-fit 2)

  abbrev kind : ℕ
  kind = (business f * 100 + format f) * 100 + version f

  pub kind-business : kind / 10000 ≡ business f
  kind-business = omega (arith, business-lt, format-lt, version-lt)

  pub kind-format : kind / 100 % 100 ≡ format f
  kind-format = omega (arith, business-lt, format-lt, version-lt)

  pub kind-version : kind % 100 ≡ version f
  kind-version = omega (arith, business-lt, format-lt, version-lt)

  -- behind a whole outline the answer is that of the exchange's own checks
  pub checks-outlined : first_fail (checks t) ≡ first_fail (stock.checks f)
  unfolding checks
  checks-outlined = common.checks-outlined stock t o

  pub answer-outlined : after_outline kind (sequence f) (body f) ≡ answer_of t
  unfolding after_outline answer_of checks
  answer-outlined =
      (λ i.
      let n = first_fail (kind_checks (kind-business i) (kind-format i) (kind-version i) ++ body_checks (format_of (kind-format i)) (body f)) in
      named n (record { format = kind-format i; seq = sequence f; length = length-body t o i }) (body_place (format_of (kind-format i)) (body f) n))
      ∙ common.answer-outlined stock behind t o

-- ---- no whole outline
module _ (t : List ℕ) (a : Answer) (e : outline_of t ≡ Err a) where
  checks-not : first_fail (checks t) ≡ first_fail (outline_checks t)
  unfolding checks
  checks-not = common.checks-not stock t (not-outlined t a e).0

  pub answer-not : a ≡ answer_of t
  unfolding answer_of checks
  answer-not = (not-outlined t a e).1 ∙ common.answer-not stock behind t (record { format = 0; seq = 0; length = length_of t }) refl (not-outlined t a e).0

  pub message-not : {M : Type 0} (C : Codec M) (none : M) → none ≡ message_by C none t
  unfolding message_by
  message-not C none =
      sym (ap (λ (b : Bool). cond (b && eqb (format (own t)) C.form.number) (C.message (sequence (own t)) (values_of C.form (body (own t)))) none)
      (ap (λ (n : ℕ). eqb n 0) checks-not ∙ ne_eqb (first_fail (outline_checks t)) 0 (not-outlined t a e).0))

-- ---- the message of the format that is asked for
module _ {M : Type 0} (C : Codec M) (none : M) (listed : Listed C.form formats) (t : List ℕ) (o : Outlined t) where
  abbrev given : M
  given = C.message (sequence (own t)) (values_of C.form (body (own t)))

  module _ (bu : business (own t) ≡ 1) (fm : format (own t) ≡ C.form.number) (ve : version (own t) ≡ C.form.version) where
    checks-body : first_fail (checks t) ≡ first_fail (body_checks C.form (body (own t)))
    checks-body = checks-outlined t o ∙ frame-known C.form listed (own t) bu fm ve

    pub message-hit : cond (eqb (first_fail (body_checks C.form (body (own t)))) 0) given none ≡ message_by C none t
    unfolding message_by
    message-hit =
        sym (ap₂ (λ (n : ℕ) (b : Bool). cond (eqb n 0 && b) given none) checks-body (eq-eqb (format (own t)) C.form.number fm)
        ∙ ap (λ (b : Bool). cond b given none) (and-true (eqb (first_fail (body_checks C.form (body (own t)))) 0)))

  pub message-miss : ((business (own t) ≡ 1) × (format (own t) ≡ C.form.number) × (version (own t) ≡ C.form.version) → ⊥) → none ≡ message_by C none t
  unfolding message_by
  message-miss h = go (eqb (first_fail (checks t)) 0 && eqb (format (own t)) C.form.number) refl
    where
      go : (x : Bool) → (eqb (first_fail (checks t)) 0 && eqb (format (own t)) C.form.number) ≡ x → none ≡ cond x given none
      go false e = refl
      go true e =
          let tests = eqb (first_fail (checks t)) 0 ∷ eqb (format (own t)) C.form.number ∷ [] in
          let z = eqb-true (first_fail (checks t)) 0 (holds tests e 0) in
          let fm = eqb-true (format (own t)) C.form.number (holds tests e 1) in
          let hold = frame-holds C.form listed (own t) (sym (checks-outlined t o) ∙ z) fm in
          absurd (h (hold.0, fm, hold.1))
