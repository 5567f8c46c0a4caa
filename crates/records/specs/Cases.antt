-- Records and lines of the ten (CHIP, reader).
use Rattle.std.specs.Prelude.{◌≡◌, refl, [], ◌∷◌, None, Some}
use Rattle.records.specs.Records.{record_of}
use Rattle.records.specs.Lines.{decimal_in, line_text, bad_text, end_text}

-- 20(0,1,7), with a byte of the next record behind it
pub create_model_lem : record_of (0x53 ∷ 0x44 ∷ 20 ∷ 0 ∷ 0 ∷ 0 ∷ 0 ∷ 0 ∷ 1 ∷ 0 ∷ 0 ∷ 0 ∷ 7 ∷ 0 ∷ 0 ∷ 0 ∷ 0x53 ∷ []) ≡ Some (record { op = 20; a = 0; b = 1; c = 7 })
create_model_lem = refl

-- the same with its last byte cut off
pub cut : record_of (0x53 ∷ 0x44 ∷ 20 ∷ 0 ∷ 0 ∷ 0 ∷ 0 ∷ 0 ∷ 1 ∷ 0 ∷ 0 ∷ 0 ∷ 7 ∷ 0 ∷ 0 ∷ []) ≡ None
cut = refl

-- the line of the tenth record
pub tenth_line : line_text 10 42 27 0 1 ≡ 0x31 ∷ 0x30 ∷ 0x20 ∷ 0x34 ∷ 0x32 ∷ 0x20 ∷ 0x32 ∷ 0x37 ∷ 0x20 ∷ 0x30 ∷ 0x20 ∷ 0x31 ∷ 0x0a ∷ []
unfolding decimal_in
tenth_line = refl

-- and the last one
pub last_line_lem : end_text 10 ≡ 0x65 ∷ 0x6e ∷ 0x64 ∷ 0x20 ∷ 0x31 ∷ 0x30 ∷ 0x0a ∷ []
unfolding decimal_in
last_line_lem = refl

-- `bad 1`
pub bad_line : bad_text 1 ≡ 0x62 ∷ 0x61 ∷ 0x64 ∷ 0x20 ∷ 0x31 ∷ 0x0a ∷ []
unfolding decimal_in
bad_line = refl
