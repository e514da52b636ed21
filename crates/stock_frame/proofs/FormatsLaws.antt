-- A list of formats whose numbers differ: each of its formats is the one that its number names.
use Prim.Native.Nat.{ℕ, ◌+◌, ◌/◌, ◌%◌, ◌<◌}
use mathlib.Core.Path.{◌≡◌, refl, sym, ap, ◌∙◌}
use mathlib.Core.Bool.{Bool, true, false, not, cond, ◌||◌, or-false}
use mathlib.Core.List.{List, [], ◌∷◌}
use native.Mathlib.Omega.{arith}
use lib.Dec.{eqb, ltb}
use borrow.Author.Tests.{eq-eqb, ne_eqb, eqb-true, ltb-true, not-true}
use Rattle.digits.specs.Tests.{all_of}
use Rattle.digits.proofs.Bools.{no_false}
use Rattle.digits.proofs.TestLaws.{holds}
use Rattle.stock_frame.specs.Format.{Format}
use Rattle.stock_frame.specs.Formats.{is_one_of, first_of}

-- a format stands in a list
pub data Listed (F : Format) : List Format → Type 0 where
  here : {G : Format} {Fs : List Format} → F ≡ G → Listed F (G ∷ Fs)
  later : {G : Format} {Fs : List Format} → Listed F Fs → Listed F (G ∷ Fs)

-- a format's number and version have two digits, and no format behind it has its number
abbrev pub apart_from : Format → List Format → Bool → List Bool
apart_from F Fs behind = ltb F.number 100 ∷ ltb F.version 100 ∷ not (is_one_of Fs F.number) ∷ behind ∷ []

-- a header tells the formats of a list apart
abbrev pub apart : List Format → Bool
apart [] = true
apart (F ∷ Fs) = all_of (apart_from F Fs (apart Fs))

-- one format and more
one_more : (F : Format) (Fs : List Format) (n : ℕ) → is_one_of (F ∷ Fs) n ≡ (eqb n F.number || is_one_of Fs n)
one_more F [] n = sym (or-false (eqb n F.number))
one_more F (G ∷ Fs) n = refl

-- what a header says of a format of the list
pub record Named (Fs : List Format) (F : Format) : Type 0 where
  pub is_one : is_one_of Fs F.number ≡ true
  pub first : (other : Format) → first_of Fs other F.number ≡ F
  pub number_fits : F.number < 100
  pub version-fits : F.version < 100

pub listed-named : (Fs : List Format) (F : Format) → apart Fs ≡ true → Listed F Fs → Named Fs F
listed-named [] F a l = elim l [ ]
listed-named (G ∷ Fs) F a (here e) =
    let tests = apart_from G Fs (apart Fs) in
    let same = eq-eqb F.number G.number (ap (λ (H : Format). H.number) e) in
    record {
      is_one = one_more G Fs F.number ∙ ap (λ (b : Bool). b || is_one_of Fs F.number) same;
      first = λ other. ap (λ (b : Bool). cond b G (first_of Fs other F.number)) same ∙ sym e;
      number_fits = rw e (ltb-true G.number 100 (holds tests a 0));
      version-fits = rw e (ltb-true G.version 100 (holds tests a 1));
    }
listed-named (G ∷ Fs) F a (later l) =
    let tests = apart_from G Fs (apart Fs) in
    let named = listed-named Fs F (holds tests a 3) l in
    let new : is_one_of Fs G.number ≡ false = not-true (is_one_of Fs G.number) (holds tests a 2) in
    let other = ne_eqb F.number G.number (λ e. no_false (sym new ∙ ap (is_one_of Fs) (sym e) ∙ named.is_one)) in
    record {
      is_one = one_more G Fs F.number ∙ ap (λ (b : Bool). b || is_one_of Fs F.number) other ∙ named.is_one;
      first = λ else. ap (λ (b : Bool). cond b G (first_of Fs else F.number)) other ∙ named.first else;
      number_fits = named.number_fits;
      version-fits = named.version-fits;
    }

-- the number of a format of the list has two digits
pub one-small : (Fs : List Format) (n : ℕ) → apart Fs ≡ true → is_one_of Fs n ≡ true → n < 100
one-small [] n a h = absurd (no_false h)
one-small (F ∷ Fs) n a h = go (eqb n F.number) refl (sym (one_more F Fs n) ∙ h) (one-small Fs n (holds (apart_from F Fs (apart Fs)) a 3))
  where
    go : (b : Bool) → eqb n F.number ≡ b → (b || is_one_of Fs n) ≡ true → (is_one_of Fs n ≡ true → n < 100) → n < 100
    go true e q behind = rw (eqb-true n F.number e) (ltb-true F.number 100 (holds (apart_from F Fs (apart Fs)) a 0))
    go false e q behind = behind q

-- four digits, a business and a format, are those of no format of the list under business 01
pub data NoneIs (n : ℕ) : List Format → Type 0 where
  no_more : NoneIs n []
  ◌nor◌ : {F : Format} {Fs : List Format} → (n ≡ 100 + F.number → ⊥) → NoneIs n Fs → NoneIs n (F ∷ Fs)

infixr 4 ◌nor◌
pub none-listed : (Fs : List Format) (n : ℕ) → n / 100 ≡ 1 → NoneIs n Fs → is_one_of Fs (n % 100) ≡ false
none-listed [] n b no_more = refl
none-listed (F ∷ Fs) n b (h nor hs) =
    let other = ne_eqb (n % 100) F.number (λ e. h (omega arith)) in
    one_more F Fs (n % 100) ∙ ap (λ (x : Bool). x || is_one_of Fs (n % 100)) other ∙ none-listed Fs n b hs
