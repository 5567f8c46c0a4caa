-- No refusal on a place has the number of what is done, and no two have one number.
use Rattle.std.specs.Prelude.{ℕ, ◌≡◌, ◌≤◌, ◌<◌, ◌-◌, refl, false, List, [], ◌∷◌, eqb, get_or, Result, Ok, Err}
use Rattle.std.proofs.Common.{arith, ne_eqb, sym, ap, ◌∙◌}
use Rattle.state.specs.declared.refusals.Refused.{Refused}
use Rattle.state.specs.declared.refusals.NoRefusal.{NoRefusal}
use Rattle.state.specs.declared.refusals.Refusal.{Refusal}
use Rattle.state.specs.declared.refusals.Refusal.TheVariants as refusal
use Rattle.state.specs.declared.refusals.Place.{Place}
use Rattle.state.specs.declared.refusals.Place.TheVariants as place
use Rattle.state.specs.Refusals.{done, number_in, place_in}
use Rattle.state.specs.Numbers.{number_of, place_number, number_on, Numbers, told, value_told}

abbrev Bounds : ℕ → Type 0
Bounds n = (1 ≤ n) × (n ≤ 32)

number_bounds : (r : Refusal) → Bounds (number_of r)
number_bounds refusal.SyErr = (omega arith, omega arith)
number_bounds refusal.FnNavl = (omega arith, omega arith)
number_bounds refusal.SsOpn = (omega arith, omega arith)
number_bounds refusal.SsNopn = (omega arith, omega arith)
number_bounds refusal.TrEab = (omega arith, omega arith)
number_bounds refusal.TrExs = (omega arith, omega arith)
number_bounds refusal.TrNexs = (omega arith, omega arith)
number_bounds refusal.TrNavl = (omega arith, omega arith)
number_bounds refusal.TrNrw = (omega arith, omega arith)
number_bounds refusal.RpNexs = (omega arith, omega arith)
number_bounds refusal.RpOpn = (omega arith, omega arith)
number_bounds refusal.RpNopn = (omega arith, omega arith)
number_bounds refusal.MoNexs = (omega arith, omega arith)
number_bounds refusal.MoDup = (omega arith, omega arith)
number_bounds refusal.MoNdeq = (omega arith, omega arith)
number_bounds refusal.MoNvld = (omega arith, omega arith)
number_bounds refusal.MxRo = (omega arith, omega arith)
number_bounds refusal.MxRw = (omega arith, omega arith)
number_bounds refusal.MxNdef = (omega arith, omega arith)
number_bounds refusal.MxNrw = (omega arith, omega arith)
number_bounds refusal.SdNdef = (omega arith, omega arith)
number_bounds refusal.SiNexs = (omega arith, omega arith)
number_bounds refusal.SiDup = (omega arith, omega arith)
number_bounds refusal.EdNdef = (omega arith, omega arith)
number_bounds refusal.EdNdeq = (omega arith, omega arith)
number_bounds refusal.EdNvld = (omega arith, omega arith)
number_bounds refusal.EiNexs = (omega arith, omega arith)
number_bounds refusal.AtNdef = (omega arith, omega arith)
number_bounds refusal.VaNset = (omega arith, omega arith)
number_bounds refusal.VaNvld = (omega arith, omega arith)
number_bounds refusal.VtNvld = (omega arith, omega arith)
number_bounds refusal.NoRoom = (omega arith, omega arith)

place_bound : (p : Place) → place_number p < 8
place_bound place.Nowhere = omega arith
place_bound place.First = omega arith
place_bound place.Second = omega arith
place_bound place.Third = omega arith
place_bound place.Models = omega arith
place_bound place.SchemaInstances = omega arith
place_bound place.Instances = omega arith
place_bound place.Remaining = omega arith

pub number_on_done : (r : Refused) → eqb (number_on r) done ≡ false
number_on_done r = ne_eqb (number_on r) done (λ e. omega (arith, e, (number_bounds r.refusal).0))

-- ---- back from a number

abbrev numbered : List Refusal
numbered =
    refusal.SyErr
    ∷ refusal.FnNavl
    ∷ refusal.SsOpn
    ∷ refusal.SsNopn
    ∷ refusal.TrEab
    ∷ refusal.TrExs
    ∷ refusal.TrNexs
    ∷ refusal.TrNavl
    ∷ refusal.TrNrw
    ∷ refusal.RpNexs
    ∷ refusal.RpOpn
    ∷ refusal.RpNopn
    ∷ refusal.MoNexs
    ∷ refusal.MoDup
    ∷ refusal.MoNdeq
    ∷ refusal.MoNvld
    ∷ refusal.MxRo
    ∷ refusal.MxRw
    ∷ refusal.MxNdef
    ∷ refusal.MxNrw
    ∷ refusal.SdNdef
    ∷ refusal.SiNexs
    ∷ refusal.SiDup
    ∷ refusal.EdNdef
    ∷ refusal.EdNdeq
    ∷ refusal.EdNvld
    ∷ refusal.EiNexs
    ∷ refusal.AtNdef
    ∷ refusal.VaNset
    ∷ refusal.VaNvld
    ∷ refusal.VtNvld
    ∷ refusal.NoRoom
    ∷ []

abbrev refusal_at : ℕ → Refusal
refusal_at n = get_or numbered (n - 1) refusal.SyErr

refusal_back : (r : Refusal) → refusal_at (number_of r) ≡ r
refusal_back refusal.SyErr = refl
refusal_back refusal.FnNavl = refl
refusal_back refusal.SsOpn = refl
refusal_back refusal.SsNopn = refl
refusal_back refusal.TrEab = refl
refusal_back refusal.TrExs = refl
refusal_back refusal.TrNexs = refl
refusal_back refusal.TrNavl = refl
refusal_back refusal.TrNrw = refl
refusal_back refusal.RpNexs = refl
refusal_back refusal.RpOpn = refl
refusal_back refusal.RpNopn = refl
refusal_back refusal.MoNexs = refl
refusal_back refusal.MoDup = refl
refusal_back refusal.MoNdeq = refl
refusal_back refusal.MoNvld = refl
refusal_back refusal.MxRo = refl
refusal_back refusal.MxRw = refl
refusal_back refusal.MxNdef = refl
refusal_back refusal.MxNrw = refl
refusal_back refusal.SdNdef = refl
refusal_back refusal.SiNexs = refl
refusal_back refusal.SiDup = refl
refusal_back refusal.EdNdef = refl
refusal_back refusal.EdNdeq = refl
refusal_back refusal.EdNvld = refl
refusal_back refusal.EiNexs = refl
refusal_back refusal.AtNdef = refl
refusal_back refusal.VaNset = refl
refusal_back refusal.VaNvld = refl
refusal_back refusal.VtNvld = refl
refusal_back refusal.NoRoom = refl

abbrev placed : List Place
placed = place.Nowhere ∷ place.First ∷ place.Second ∷ place.Third ∷ place.Models ∷ place.SchemaInstances ∷ place.Instances ∷ place.Remaining ∷ []

abbrev place_at : ℕ → Place
place_at n = get_or placed n place.Nowhere

place_back : (p : Place) → place_at (place_number p) ≡ p
place_back place.Nowhere = refl
place_back place.First = refl
place_back place.Second = refl
place_back place.Third = refl
place_back place.Models = refl
place_back place.SchemaInstances = refl
place_back place.Instances = refl
place_back place.Remaining = refl

number_back : (r : Refused) → number_in (number_on r) ≡ number_of r.refusal
number_back r = omega (arith, (number_bounds r.refusal).1)

place_number_back : (r : Refused) → place_in (number_on r) ≡ place_number r.place
place_number_back r = omega (arith, (number_bounds r.refusal).1, place_bound r.place)

abbrev refused_at : ℕ → Refused
refused_at n = record { refusal = refusal_at (number_in n); place = place_at (place_in n) }

refused_back : (r : Refused) → refused_at (number_on r) ≡ r
refused_back r = rw (number_back r, place_number_back r, refusal_back r.refusal, place_back r.place)

pub number_of_one : (r s : Refusal) → number_of r ≡ number_of s → r ≡ s
number_of_one r s e = sym (refusal_back r) ∙ ap refusal_at e ∙ refusal_back s

pub place_number_one : (p q : Place) → place_number p ≡ place_number q → p ≡ q
place_number_one p q e = sym (place_back p) ∙ ap place_at e ∙ place_back q

-- of a number that is tried one refusal at most is given, and where none is, none
pub numbers_one : (n : ℕ) (x y : Result Refusal NoRefusal) → Numbers n x → Numbers n y → x ≡ y
numbers_one n (Ok r) (Ok s) e f = ap (λ (q : Refusal). Ok q) (number_of_one r s (e ∙ sym f))
numbers_one n (Ok r) (Err a) e f = absurd (f r e)
numbers_one n (Err a) (Ok s) e f = absurd (e s f)
numbers_one n (Err a) (Err b) e f = refl

pub number_on_one : (r s : Refused) → number_on r ≡ number_on s → r ≡ s
number_on_one r s e = sym (refused_back r) ∙ ap refused_at e ∙ refused_back s

-- what was given is known by its numbers
pub told_one : (x y : Result ℕ Refused) → told x ≡ told y → value_told x ≡ value_told y → x ≡ y
told_one (Ok v) (Ok w) e f = ap (λ (n : ℕ). Ok n) f
told_one (Ok v) (Err s) e f = absurd (omega (arith, e, (number_bounds s.refusal).0))
told_one (Err r) (Ok w) e f = absurd (omega (arith, e, (number_bounds r.refusal).0))
told_one (Err r) (Err s) e f = ap (λ (n : Refused). Err n) (number_on_one r s e)
