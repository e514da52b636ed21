-- Both round trips, once for every exchange and kind: reading a written frame gives the message, writing a read message gives the bytes.
use Prim.Native.Nat.{ℕ, ◌+◌, ◌≤◌}
use mathlib.Core.Path.{◌≡◌, sym, ap, ap₂, ◌∙◌, subst}
use mathlib.Core.Bool.{true}
use mathlib.Core.List.{List, [], ◌++◌, append-nil}
use native.Mathlib.Omega.{arith}
use lib.ListN.{length, take}
use lib.Dec.{eqb}
use borrow.Author.Tests.{eq-eqb, eqb-true, leb-true, le-leb}
use Rattle.digits.proofs.TestLaws.{holds, all, ◌also◌, together}
use Rattle.layout.specs.Cells.{Cell, size, good_cells, decode, fits, encode}
use Rattle.layout.proofs.CellLaws.{length-encode, good-encode, decode-encode, encode-decode, fits-decode}
use Rattle.frame.specs.Header.{Header, around, own, body, front, rear, length_of}
use Rattle.frame.specs.Writing.{frame_around}
use Rattle.frame.specs.Codec.{Codec, values_of, Allowed, Reads, legal_tests, legal, frame_of, Lawful}
use Rattle.frame.proofs.HeaderLaws.{length-frame, body-frame, front-frame, rear-frame, own-frame, outlined-frame, own-frame_around, length-body, least-length, most-length, front_fits, rear-fits}

module _ {H : Header} {M : Type 0} (C : Codec H M) where
  -- ---- what legal says, by name
  module _ (m : M) (l : legal C m ≡ true) where
    pub legal-front : fits H.before (C.before m) ≡ true
    legal-front = holds (legal_tests C m) l 0

    pub legal-rear : fits H.after (C.behind m) ≡ true
    legal-rear = holds (legal_tests C m) l 1

    pub legal-least : H.least ≤ around H + size (C.cells m)
    legal-least = leb-true H.least (around H + size (C.cells m)) (holds (legal_tests C m) l 2)

    pub legal-most : around H + size (C.cells m) ≤ H.most
    legal-most = leb-true (around H + size (C.cells m)) H.most (holds (legal_tests C m) l 3)

    pub legal-fits : fits (C.cells m) (C.values m) ≡ true
    legal-fits = holds (legal_tests C m) l 4

    pub legal-rules : C.rules (C.before m) (C.behind m) (size (C.cells m)) (C.values m) ≡ true
    legal-rules = holds (legal_tests C m) l 5

    pub legal-tidy : C.tidy m ≡ true
    legal-tidy = holds (legal_tests C m) l 6

  -- ---- reading a written frame gives the message, whatever follows the frame
  module _ (Shaped : M → Type 0) (law : Lawful C Shaped) where
    module _ (m : M) (s : Shaped m) (l : legal C m ≡ true) where
      abbrev coded : List ℕ
      coded = encode (C.cells m) (C.values m)

      length-coded : length coded ≡ size (C.cells m)
      length-coded = length-encode (C.cells m) (C.values m) (legal-fits m l)

      pub length-frame_of : length (frame_of C m) ≡ around H + size (C.cells m)
      length-frame_of =
          length-frame H law.header-law (C.before m) (C.behind m) coded (legal-front m l) (legal-rear m l)
          ∙ ap (λ (n : ℕ). around H + n) length-coded

      told-coded : C.told coded ≡ C.cells m
      told-coded = law.cells_told m s l

      values-coded : values_of C coded ≡ C.values m
      values-coded =
          ap (λ (k : List Cell). decode k coded) told-coded
          ∙ ap (decode (C.cells m)) (sym (append-nil coded)) ∙ decode-encode (C.cells m) (C.values m) [] (legal-fits m l)

      module _ (r : List ℕ) where
        low-body : H.least ≤ around H + length coded
        low-body = omega (arith, legal-least m l, length-coded)

        high-body : around H + length coded ≤ H.most
        high-body = omega (arith, legal-most m l, length-coded)

        pub own-frame_of : own H (frame_of C m ++ r) ≡ frame_of C m
        own-frame_of = own-frame H law.header-law (C.before m) (C.behind m) coded (legal-front m l) (legal-rear m l) low-body high-body r

        pub front_read : front H (own H (frame_of C m ++ r)) ≡ C.before m
        front_read = ap (front H) own-frame_of ∙ front-frame H law.header-law (C.before m) (C.behind m) coded (legal-front m l) (legal-rear m l)

        pub rear-read : rear H (own H (frame_of C m ++ r)) ≡ C.behind m
        rear-read = ap (rear H) own-frame_of ∙ rear-frame H law.header-law (C.before m) (C.behind m) coded (legal-front m l) (legal-rear m l)

        pub body-read : body H (own H (frame_of C m ++ r)) ≡ coded
        body-read = ap (body H) own-frame_of ∙ body-frame H law.header-law (C.before m) (C.behind m) coded (legal-front m l) (legal-rear m l)

        pub read-written : Reads C (frame_of C m ++ r) m
        read-written = record {
          outlined = outlined-frame H law.header-law (C.before m) (C.behind m) coded (legal-front m l) (legal-rear m l) low-body high-body r;
          sized =
              ap (λ (b : List ℕ). eqb (size (C.told b)) (length b)) body-read
              ∙ eq-eqb (size (C.told coded)) (length coded) (ap size told-coded ∙ sym length-coded);
          good-digits =
              ap (λ (b : List ℕ). good_cells (C.told b) b) body-read
              ∙ ap (λ (k : List Cell). good_cells k coded) told-coded
              ∙ ap (good_cells (C.cells m)) (sym (append-nil coded)) ∙ good-encode (C.cells m) (C.values m) [] (legal-fits m l);
          ruled =
              (λ i. C.rules (front_read i) (rear-read i) (length (body-read i)) (values_of C (body-read i)))
              ∙ ap₂ (C.rules (C.before m) (C.behind m)) length-coded values-coded
              ∙ legal-rules m l;
          meant =
              sym ((λ i. C.message (front_read i) (rear-read i) (values_of C (body-read i)))
              ∙ ap (C.message (C.before m) (C.behind m)) values-coded
              ∙ law.message-values m s l);
        }

    -- ---- writing a read message gives the bytes
    module _ (t : List ℕ) (m : M) (rd : Reads C t m) where
      abbrev f : List ℕ
      f = own H t

      abbrev b : List ℕ
      b = body H (own H t)

      pub allowed : Allowed C (front H f) (rear H f) b
      allowed = record {
        front_fits = front_fits H law.header-law t rd.outlined;
        rear-fits = rear-fits H law.header-law t rd.outlined;
        sized = rd.sized;
        good-digits = rd.good-digits;
        ruled = rd.ruled;
      }

      pub same-front : C.before m ≡ front H f
      same-front = ap C.before rd.meant ∙ law.before-message (front H f) (rear H f) b allowed

      pub same-rear : C.behind m ≡ rear H f
      same-rear = ap C.behind rd.meant ∙ law.behind-message (front H f) (rear H f) b allowed

      pub same-cells : C.cells m ≡ C.told b
      same-cells = ap C.cells rd.meant ∙ law.cells-message (front H f) (rear H f) b allowed

      pub same-values : C.values m ≡ values_of C b
      same-values = ap C.values rd.meant ∙ law.values-message (front H f) (rear H f) b allowed

      size-body : size (C.told b) ≡ length b
      size-body = eqb-true (size (C.told b)) (length b) rd.sized

      same_body : encode (C.cells m) (C.values m) ≡ b
      same_body =
          ap₂ encode same-cells same-values
          ∙ encode-decode (C.told b) b (omega (arith, size-body)) rd.good-digits
          ∙ ap (λ (n : ℕ). take n b) size-body ∙ lib.Seq.take-length b

      pub written_read : frame_of C m ≡ own H t
      written_read =
          (λ i. frame_around H (same-front i) (same-rear i) (same_body i)) ∙ sym (own-frame_around H law.header-law t rd.outlined)

      pub shaped-read : Shaped m
      shaped-read = subst Shaped (sym rd.meant) (law.shaped-message (front H f) (rear H f) b allowed)

      pub legal-read : legal C m ≡ true
      legal-read =
          let same_size : size (C.cells m) ≡ length b = ap size same-cells ∙ size-body in
          let whole : around H + size (C.cells m) ≡ length_of H t = omega (arith, same_size, length-body H law.header-law t rd.outlined) in
          together (legal_tests C m)
          (ap (fits H.before) same-front ∙ allowed.front_fits
          also ap (fits H.after) same-rear ∙ allowed.rear-fits
          also le-leb H.least (around H + size (C.cells m)) (omega (arith, whole, least-length H law.header-law t rd.outlined))
          also le-leb (around H + size (C.cells m)) H.most (omega (arith, whole, most-length H law.header-law t rd.outlined))
          also ap₂ fits same-cells same-values ∙ fits-decode (C.told b) b (omega (arith, size-body)) rd.good-digits
          also (λ i. C.rules (same-front i) (same-rear i) (same_size i) (same-values i)) ∙ rd.ruled
          also ap C.tidy rd.meant ∙ law.tidy-message (front H f) (rear H f) b allowed
          also all)
