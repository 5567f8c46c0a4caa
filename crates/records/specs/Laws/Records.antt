-- A record is what its own bytes say.
use Rattle.std.specs.Prelude.{◌≡◌, refl, List, ◌++◌, ℕ, ◌≤◌, ◌<◌, Some, length, get_or, take, drop}
use Rattle.std.proofs.Common.{arith, ap, sym, ◌∙◌, le-leb, length-append, length-take, take-append-drop}
use Rattle.std.proofs.Math.ListN.{get_or-append}
use Rattle.records.specs.Records.{size, record_of, fields_of}

-- the bytes behind it play no part
pub record_alone : (s t : List ℕ) → size ≤ length s → record_of (s ++ t) ≡ record_of s
record_alone s t h =
    let g : (i : ℕ) → i < 16 → get_or (s ++ t) i 0 ≡ get_or s i 0 = λ i l. get_or-append s t 0 i (omega arith) in
    let l : size ≤ length (s ++ t) = omega (arith, length-append s t) in
    rw (
      le-leb size (length (s ++ t)) l,
      le-leb size (length s) h,
      g 0 (omega arith),
      g 1 (omega arith),
      g 2 (omega arith),
      g 3 (omega arith),
      g 4 (omega arith),
      g 5 (omega arith),
      g 6 (omega arith),
      g 7 (omega arith),
      g 8 (omega arith),
      g 9 (omega arith),
      g 10 (omega arith),
      g 11 (omega arith),
      g 12 (omega arith),
      g 13 (omega arith),
      g 14 (omega arith),
      g 15 (omega arith),
    )

-- its bytes cut out, and the fields that they say
pub record_front : (s r : List ℕ) → size ≤ length s → r ≡ take size s → record_of r ≡ record_of s
record_front s r h e =
    ap record_of e
    ∙ sym (record_alone (take size s) (drop size s) (omega (arith, length-take size s)))
    ∙ ap record_of (take-append-drop size s)

pub record_whole : (r : List ℕ) → length r ≡ size → get_or r 0 0 ≡ 0x53 → get_or r 1 0 ≡ 0x44 → record_of r ≡ Some (fields_of r)
record_whole r l first second = rw (l, first, second) refl
