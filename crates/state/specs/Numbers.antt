-- The code's refusals, places and transactions by their numbers, which are what the definitions speak of, and what an operation
-- gives: its value, or why it is refused.
use Rattle.std.specs.Prelude.{◌≡◌, ℕ, List, codes, Result, Ok, Err}
use Rattle.state.specs.declared.refusals.Refusal.{Refusal}
use Rattle.state.specs.declared.refusals.Refusal.TheVariants as refusal
use Rattle.state.specs.declared.refusals.Place.{Place}
use Rattle.state.specs.declared.refusals.Place.TheVariants as place
use Rattle.state.specs.declared.refusals.Refused.{Refused}
use Rattle.state.specs.declared.refusals.NoRefusal.{NoRefusal}
use Rattle.state.specs.declared.state.Transaction.{Transaction}
use Rattle.state.specs.declared.state.Transaction.TheVariants as transaction
use Rattle.state.specs.Refusals as numbered
use Rattle.state.specs.Refusals.{◌on◌}
use Rattle.state.specs.States as state

abbrev pub number_of : Refusal → ℕ
number_of refusal.SyErr = numbered.SY_ERR
number_of refusal.FnNavl = numbered.FN_NAVL
number_of refusal.SsOpn = numbered.SS_OPN
number_of refusal.SsNopn = numbered.SS_NOPN
number_of refusal.TrEab = numbered.TR_EAB
number_of refusal.TrExs = numbered.TR_EXS
number_of refusal.TrNexs = numbered.TR_NEXS
number_of refusal.TrNavl = numbered.TR_NAVL
number_of refusal.TrNrw = numbered.TR_NRW
number_of refusal.RpNexs = numbered.RP_NEXS
number_of refusal.RpOpn = numbered.RP_OPN
number_of refusal.RpNopn = numbered.RP_NOPN
number_of refusal.MoNexs = numbered.MO_NEXS
number_of refusal.MoDup = numbered.MO_DUP
number_of refusal.MoNdeq = numbered.MO_NDEQ
number_of refusal.MoNvld = numbered.MO_NVLD
number_of refusal.MxRo = numbered.MX_RO
number_of refusal.MxRw = numbered.MX_RW
number_of refusal.MxNdef = numbered.MX_NDEF
number_of refusal.MxNrw = numbered.MX_NRW
number_of refusal.SdNdef = numbered.SD_NDEF
number_of refusal.SiNexs = numbered.SI_NEXS
number_of refusal.SiDup = numbered.SI_DUP
number_of refusal.EdNdef = numbered.ED_NDEF
number_of refusal.EdNdeq = numbered.ED_NDEQ
number_of refusal.EdNvld = numbered.ED_NVLD
number_of refusal.EiNexs = numbered.EI_NEXS
number_of refusal.AtNdef = numbered.AT_NDEF
number_of refusal.VaNset = numbered.VA_NSET
number_of refusal.VaNvld = numbered.VA_NVLD
number_of refusal.VtNvld = numbered.VT_NVLD
number_of refusal.NoRoom = numbered.NO_ROOM

abbrev pub place_number : Place → ℕ
place_number place.Nowhere = 0
place_number place.First = 1
place_number place.Second = 2
place_number place.Third = 3
place_number place.Models = 4
place_number place.SchemaInstances = 5
place_number place.Instances = 6
place_number place.Remaining = numbered.REMAINING

abbrev pub transaction_number : Transaction → ℕ
transaction_number transaction.Absent = state.NONE
transaction_number transaction.ReadOnly = state.RO
transaction_number transaction.ReadWrite = state.RW
transaction_number transaction.Aborted = state.ABORTED

-- a refusal on its place, as one number
abbrev pub number_on : Refused → ℕ
number_on r = number_of r.refusal on place_number r.place

-- ---- what an operation gives, by numbers: the refusal, or done, and the value, which is 0 beside a refusal

abbrev pub told : {A : Type 0} → Result A Refused → ℕ
told (Ok a) = numbered.done
told (Err r) = number_on r

abbrev pub value_told : Result ℕ Refused → ℕ
value_told (Ok value) = value
value_told (Err r) = 0

-- ---- a refusal by its number: it is the one that has it, or no refusal has it
abbrev pub Numbers : ℕ → Result Refusal NoRefusal → Type 0
Numbers n (Ok r) = number_of r ≡ n
Numbers n (Err e) = (r : Refusal) → number_of r ≡ n → ⊥

-- ---- a refusal by the page's name
abbrev pub letters_of : Refusal → List ℕ
letters_of refusal.SyErr = codes "SY_ERR"
letters_of refusal.FnNavl = codes "FN_NAVL"
letters_of refusal.SsOpn = codes "SS_OPN"
letters_of refusal.SsNopn = codes "SS_NOPN"
letters_of refusal.TrEab = codes "TR_EAB"
letters_of refusal.TrExs = codes "TR_EXS"
letters_of refusal.TrNexs = codes "TR_NEXS"
letters_of refusal.TrNavl = codes "TR_NAVL"
letters_of refusal.TrNrw = codes "TR_NRW"
letters_of refusal.RpNexs = codes "RP_NEXS"
letters_of refusal.RpOpn = codes "RP_OPN"
letters_of refusal.RpNopn = codes "RP_NOPN"
letters_of refusal.MoNexs = codes "MO_NEXS"
letters_of refusal.MoDup = codes "MO_DUP"
letters_of refusal.MoNdeq = codes "MO_NDEQ"
letters_of refusal.MoNvld = codes "MO_NVLD"
letters_of refusal.MxRo = codes "MX_RO"
letters_of refusal.MxRw = codes "MX_RW"
letters_of refusal.MxNdef = codes "MX_NDEF"
letters_of refusal.MxNrw = codes "MX_NRW"
letters_of refusal.SdNdef = codes "SD_NDEF"
letters_of refusal.SiNexs = codes "SI_NEXS"
letters_of refusal.SiDup = codes "SI_DUP"
letters_of refusal.EdNdef = codes "ED_NDEF"
letters_of refusal.EdNdeq = codes "ED_NDEQ"
letters_of refusal.EdNvld = codes "ED_NVLD"
letters_of refusal.EiNexs = codes "EI_NEXS"
letters_of refusal.AtNdef = codes "AT_NDEF"
letters_of refusal.VaNset = codes "VA_NSET"
letters_of refusal.VaNvld = codes "VA_NVLD"
letters_of refusal.VtNvld = codes "VT_NVLD"
letters_of refusal.NoRoom = codes "NO_ROOM"
