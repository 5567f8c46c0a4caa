-- What the conditions of the refusals say, what several operations ask alike, and what the gate asks of each family.
use Rattle.std.specs.Prelude.{ℕ, Bool, true, cond, not, ◌||◌, List, [], ◌∷◌, eqb, leb}
use Rattle.words.specs.Sets.{has}
use Rattle.words.specs.Fields.{repositories, repository_in, schema_in, type_in, is_free}
use Rattle.dictionary.specs.Dictionary.{schema_of, attribute_of, lacks}
use Rattle.dictionary.specs.Subtype.{subtype}
use Rattle.tables.specs.View.{share_set}
use Rattle.checks.specs.declared.operations.Operation.{Operation}
use Rattle.checks.specs.declared.operations.Operation.TheVariants.{Unlisted, Opening, InSession, Reader, Writer}
use Rattle.state.specs.declared.state.State.{State}
use Rattle.state.specs.Refusals.{FN_NAVL, SS_OPN, SS_NOPN, TR_EAB, TR_NAVL, TR_NRW, RP_NOPN, MO_NEXS, MX_NDEF, MX_NRW, done, ◌on◌}
use Rattle.state.specs.States.{NONE, RO, ABORTED, is_open, under}

-- a condition and the refusal that it gives, on its place
infix 70 ◌gives◌
pub record Check : Type 0 where
  pub condition : Bool
  pub refusal : ℕ

abbrev pub ◌gives◌ : Bool → ℕ → Check
b gives refusal = record { condition = b; refusal = refusal }

-- the first whose condition holds
unfoldable pub first_of : List Check → ℕ
first_of [] = done
first_of (check ∷ checks) =
    let later = first_of checks in
    cond check.condition check.refusal later

-- ---- what the conditions say

-- RP_NEXS, RP_NOPN
abbrev pub no_repository : ℕ → Bool
no_repository r = leb repositories r

abbrev pub not_opened : State → ℕ → Bool
not_opened s r = not (has s.repositories r)

-- the repository of a label is not open
abbrev pub away : State → ℕ → Bool
away s label = not_opened s (repository_in label)

-- MO_NEXS, SI_NEXS, EI_NEXS: past the last entry a first word reads as 0 too
abbrev pub missing : ℕ → Bool
missing first = is_free first

abbrev pub no_writing : State → ℕ → Bool
no_writing s m = not (has s.rw m)

abbrev pub no_access : State → ℕ → Bool
no_access s m = not (has s.ro m || has s.rw m)

-- AT_NDEF: the type of a header has no attribute k
abbrev pub lacks_attribute : ℕ → ℕ → Bool
lacks_attribute header k = lacks (attribute_of (type_in header) k)

-- MO_NDEQ, of two labels
abbrev pub schemas_differ : ℕ → ℕ → Bool
schemas_differ label other = not (eqb (schema_in label) (schema_in other))

-- ED_NVLD: the schema of a type and that of a model's label
abbrev pub type_foreign : ℕ → ℕ → Bool
type_foreign t label = not (eqb (schema_of t) (schema_in label))

-- ED_NDEQ: types of different schemas
abbrev pub types_differ : ℕ → ℕ → Bool
types_differ t u = not (eqb (schema_of t) (schema_of u))

-- VT_NVLD: a header neither of type `target` nor of a subtype
abbrev pub wrong_type : ℕ → ℕ → Bool
wrong_type header target = not (subtype (type_in header) target)

-- MO_NVLD of 44: two models, and no set has both
abbrev pub apart : List ℕ → ℕ → ℕ → Bool
apart w m n = not (eqb m n || share_set w m n)

-- ---- what several operations ask alike

-- the entry with this first word, which the argument at this place names, is there, or this refusal is given, and its
-- repository is open; and then the rest
abbrev pub in_reach : ℕ → ℕ → ℕ → State → List Check → List Check
in_reach label refusal place s rest = missing label gives refusal on place ∷ away s label gives RP_NOPN on place ∷ rest

-- the entry with this first word is there, or this refusal is given, and model m has read-write access; and then the rest
abbrev pub writable : ℕ → ℕ → ℕ → State → List Check → List Check
writable first refusal m s rest = missing first gives refusal on 1 ∷ no_writing s m gives MX_NRW on 1 ∷ rest

-- 24 and 25: model m with this label is there, and it has access; and then the rest
abbrev pub accessed : ℕ → ℕ → State → List Check → List Check
accessed label m s rest = missing label gives MO_NEXS on 1 ∷ no_access s m gives MX_NDEF on 1 ∷ rest

-- ---- the gate, by family (CHIP, before every call)

-- a session and a transaction are open, and then the rest
abbrev pub transacted : State → List Check → List Check
transacted s rest = not (is_open s) gives SS_NOPN on 0 ∷ under s ABORTED gives TR_EAB on 0 ∷ under s NONE gives TR_NAVL on 0 ∷ rest

abbrev pub gate : Operation → State → List Check
gate Unlisted s = true gives FN_NAVL on 0 ∷ []
gate Opening s = is_open s gives SS_OPN on 0 ∷ []
gate (InSession o) s = not (is_open s) gives SS_NOPN on 0 ∷ []
gate (Reader o) s = transacted s []
gate (Writer o) s = transacted s (under s RO gives TR_NRW on 0 ∷ [])
