-- The rules' example of a listing: two bytes of noise, then a notice without text. And the same noise before an index value.
use Rattle.std.specs.Prelude.{ℕ, List, [], ◌∷◌}

abbrev pub line : List ℕ
line = 0x41 ∷ 0x42 ∷ 0x1B ∷ 0x00 ∷ 0x14 ∷ 0x01 ∷ 0x05 ∷ 0x01 ∷ 0x00 ∷ 0x00 ∷ 0x00 ∷ 0x01 ∷ 0x09 ∷ 0x19 ∷ 0x0D ∷ 0x0A ∷ []

-- at,answer,bytes,format,seq / 0,1,2,-,- / 2,0,14,5,1 / total,14,0,2
abbrev pub output : List ℕ
output =
    97 ∷ 116 ∷ 44 ∷ 97 ∷ 110 ∷ 115 ∷ 119 ∷ 101 ∷ 114 ∷ 44 ∷ 98 ∷ 121 ∷ 116 ∷ 101 ∷ 115 ∷ 44
    ∷ 102 ∷ 111 ∷ 114 ∷ 109 ∷ 97 ∷ 116 ∷ 44 ∷ 115 ∷ 101 ∷ 113 ∷ 10
    ∷ 48 ∷ 44 ∷ 49 ∷ 44 ∷ 50 ∷ 44 ∷ 45 ∷ 44 ∷ 45 ∷ 10
    ∷ 50 ∷ 44 ∷ 48 ∷ 44 ∷ 49 ∷ 52 ∷ 44 ∷ 53 ∷ 44 ∷ 49 ∷ 10
    ∷ 116 ∷ 111 ∷ 116 ∷ 97 ∷ 108 ∷ 44 ∷ 49 ∷ 52 ∷ 44 ∷ 48 ∷ 44 ∷ 50 ∷ 10 ∷ []

abbrev pub derivatives_line : List ℕ
derivatives_line =
    0x41 ∷ 0x42 ∷ 0x1B ∷ 0x31 ∷ 0x35 ∷ 0x13 ∷ 0x30 ∷ 0x00 ∷ 0x25 ∷ 0x00 ∷ 0x00 ∷ 0x00 ∷ 0x07 ∷ 0x02 ∷ 0x00 ∷ 0x12
    ∷ 0x54 ∷ 0x58 ∷ 0x46 ∷ 0x13 ∷ 0x29 ∷ 0x59 ∷ 0x95 ∷ 0x17 ∷ 0x23 ∷ 0x45 ∷ 0x67 ∷ 0x00 ∷ 0xBF ∷ 0x0D ∷ 0x0A ∷ []

-- at,answer,bytes,format,seq / 0,1,2,-,- / 2,0,29,I060,7 / total,29,0,2
abbrev pub derivatives_output : List ℕ
derivatives_output =
    97 ∷ 116 ∷ 44 ∷ 97 ∷ 110 ∷ 115 ∷ 119 ∷ 101 ∷ 114 ∷ 44 ∷ 98 ∷ 121 ∷ 116 ∷ 101 ∷ 115 ∷ 44
    ∷ 102 ∷ 111 ∷ 114 ∷ 109 ∷ 97 ∷ 116 ∷ 44 ∷ 115 ∷ 101 ∷ 113 ∷ 10
    ∷ 48 ∷ 44 ∷ 49 ∷ 44 ∷ 50 ∷ 44 ∷ 45 ∷ 44 ∷ 45 ∷ 10
    ∷ 50 ∷ 44 ∷ 48 ∷ 44 ∷ 50 ∷ 57 ∷ 44 ∷ 73 ∷ 48 ∷ 54 ∷ 48 ∷ 44 ∷ 55 ∷ 10
    ∷ 116 ∷ 111 ∷ 116 ∷ 97 ∷ 108 ∷ 44 ∷ 50 ∷ 57 ∷ 44 ∷ 48 ∷ 44 ∷ 50 ∷ 10 ∷ []
