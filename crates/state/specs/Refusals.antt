-- The refusal numbers (CHIP, refusals), by the standard's names, NO_ROOM by ours, and the places that they name (CHIP, places).
-- 0 is done, on no place.
use Rattle.std.specs.Prelude.{ℕ, ◌+◌, ◌*◌, ◌/◌, ◌%◌}
use Rattle.words.specs.declared.layout.Kind.{Kind}
use Rattle.words.specs.declared.layout.Kind.TheVariants.{Model, SchemaInstance, Instance}

abbrev pub done : ℕ
done = 0

-- anything unsound
abbrev pub SY_ERR : ℕ
SY_ERR = 1

-- an operation number that is not listed
abbrev pub FN_NAVL : ℕ
FN_NAVL = 2

-- a session is open
abbrev pub SS_OPN : ℕ
SS_OPN = 3

-- no session is open
abbrev pub SS_NOPN : ℕ
SS_NOPN = 4

-- the transaction is aborted
abbrev pub TR_EAB : ℕ
TR_EAB = 5

-- a transaction exists
abbrev pub TR_EXS : ℕ
TR_EXS = 6

-- no transaction to end, commit or abort
abbrev pub TR_NEXS : ℕ
TR_NEXS = 7

-- no transaction to work in
abbrev pub TR_NAVL : ℕ
TR_NAVL = 8

-- the transaction is read-only
abbrev pub TR_NRW : ℕ
TR_NRW = 9

-- repository above 7
abbrev pub RP_NEXS : ℕ
RP_NEXS = 10

-- the repository is open
abbrev pub RP_OPN : ℕ
RP_OPN = 11

-- the repository is not open
abbrev pub RP_NOPN : ℕ
RP_NOPN = 12

-- model above 63 or free
abbrev pub MO_NEXS : ℕ
MO_NEXS = 13

-- the repository has a model of this name
abbrev pub MO_DUP : ℕ
MO_DUP = 14

-- schemas differ
abbrev pub MO_NDEQ : ℕ
MO_NDEQ = 15

-- not in the set; for 44, in no set with it
abbrev pub MO_NVLD : ℕ
MO_NVLD = 16

-- has read-only access already
abbrev pub MX_RO : ℕ
MX_RO = 17

-- has read-write access already
abbrev pub MX_RW : ℕ
MX_RW = 18

-- no access
abbrev pub MX_NDEF : ℕ
MX_NDEF = 19

-- no read-write access
abbrev pub MX_NRW : ℕ
MX_NRW = 20

-- schema neither 1 nor 2
abbrev pub SD_NDEF : ℕ
SD_NDEF = 21

-- schema instance above 15 or free
abbrev pub SI_NEXS : ℕ
SI_NEXS = 22

-- the repository has a schema instance of this name
abbrev pub SI_DUP : ℕ
SI_DUP = 23

-- type above 9
abbrev pub ED_NDEF : ℕ
ED_NDEF = 24

-- types of different schemas
abbrev pub ED_NDEQ : ℕ
ED_NDEQ = 25

-- type of another schema than the model's
abbrev pub ED_NVLD : ℕ
ED_NVLD = 26

-- instance above 127 or free
abbrev pub EI_NEXS : ℕ
EI_NEXS = 27

-- attribute not of its type
abbrev pub AT_NDEF : ℕ
AT_NDEF = 28

-- the attribute is not set
abbrev pub VA_NSET : ℕ
VA_NSET = 29

-- no such instance
abbrev pub VA_NVLD : ℕ
VA_NVLD = 30

-- an instance of the wrong type
abbrev pub VT_NVLD : ℕ
VT_NVLD = 31

-- every entry live
abbrev pub NO_ROOM : ℕ
NO_ROOM = 32

-- ---- a refusal on its place, as one number: place 0 is none, 1 to 3 the argument that failed its check

infix 75 ◌on◌
abbrev pub ◌on◌ : ℕ → ℕ → ℕ
number on place = number + 0x100 * place

abbrev pub number_in : ℕ → ℕ
number_in refusal = refusal % 0x100

abbrev pub place_in : ℕ → ℕ
place_in refusal = refusal / 0x100 % 0x100

-- NO_ROOM: which table is full
abbrev pub room_of : Kind → ℕ
room_of Model = 4
room_of SchemaInstance = 5
room_of Instance = 6

-- MX_NRW of 21 and 41: a reference that remains; the last place that there is
abbrev pub REMAINING : ℕ
REMAINING = 7
