-- What a table's words tell of a history, and what one more call makes of it.
use Rattle.std.specs.Prelude.{ℕ, ◌+◌, ◌≡◌, refl, Bool, true, false, not, ◌↔◌, List, ◌∷◌, eqb}
use Rattle.std.proofs.Common.{ap, sym, ◌∙◌, arith}
use Rattle.std.proofs.Math.Bool.{and-false}
use Rattle.std.proofs.Math.Logic.{⊎_elim}
use Rattle.words.specs.declared.layout.Kind.{Kind}
use Rattle.words.specs.declared.layout.Kind.TheVariants.{Model, SchemaInstance, Instance}
use Rattle.words.specs.Sets.{has}
use Rattle.words.specs.Fields.{header_of, type_in, model_in, is_free, flagged}
use Rattle.words.specs.Entries.{word_of, cursor_in}
use Rattle.words.specs.Laws.Fields.{type_of_header, model_of_header}
use Rattle.tables.specs.declared.changes.Change.{Change}
use Rattle.tables.specs.declared.changes.Change.TheVariants.{Made, Gone, Joined, Left, Put, Unset}
use Rattle.logic.specs.Laws.Bools.{clash}
use Rattle.session.specs.Runs.{Call, Answered}
use Rattle.history.specs.Remains.{of_both, gave}
use Rattle.history.specs.Live.{Since, now, still, Member, SetTo, is_r, undoes, Puts}
use Rattle.history.specs.Demand3.{Asked, Tells, creation_of, tried_first}
use Rattle.history.proofs.Saying.{Said, changes, makes, takes, joins, leaves, puts, unsets, names, parted_by, refers_by, undone_by}
use Rattle.history.proofs.Since.{since_cases, Lives, lives, is_live_lem, own_lives, named_lives}
use Rattle.history.proofs.Reading.{Tests, asked, told, in_said, word_asked, ended, gave_said, of_said, parts_said, made_said, said_made, joined_said}
use Rattle.history.proofs.Reading.{said_joined, put_said, said_put, parts_is, ended_is, undoes_is, refers_asked}

-- the words of a table by kind, entry and place
abbrev pub Words : Type 0
Words = Kind → ℕ → ℕ → ℕ

-- what the first word of an entry shows of the one that it was made with
abbrev pub shown : Kind → ℕ → ℕ
shown Model w = w
shown SchemaInstance w = w
shown Instance w = header_of (type_in w) (model_in w) 0

-- entry n is live, made with this first word
pub record Entry (e : Words) (kind : Kind) (n first : ℕ) : Type 0 where
  pub live : is_free (e kind n 0) ≡ false
  pub shows : shown kind (e kind n 0) ≡ first

-- attribute k of instance i is set to v
pub record Value (e : Words) (i k v : ℕ) : Type 0 where
  pub set : flagged (e Instance i 0) k ≡ true
  pub value : e Instance i (1 + k) ≡ v

-- entry n is live as the call q asked for it, and its fields hold that
pub record MadeBy (e : Words) (kind : Kind) (n : ℕ) (q : Call) : Type 0 where
  pub entry : Entry e kind n (word_asked kind q)
  pub asked : Asked kind (word_asked kind q) q

pub record Told (e : Words) (h : List Answered) : Type 0 where
  pub live : (kind : Kind) (n : ℕ) → is_free (e kind n 0) ≡ false → (q : Call) × Lives kind n q h
  pub made_by : (kind : Kind) (n : ℕ) (q : Call) → Lives kind n q h → MadeBy e kind n q
  pub members : (s m : ℕ) → Member s m h ↔ (has (e SchemaInstance s 1) m ≡ true)
  pub attributes : (i k v : ℕ) → SetTo i k v h ↔ Value e i k v

not_live : (b : Bool) → b ≡ false → not b ≡ true
not_live b p = rw p

not_free : (b : Bool) → not b ≡ true → b ≡ false
not_free true p = sym p
not_free false p = refl

-- the type and the model that a header shows
pub shown_type : (h : ℕ) → type_in (shown Instance h) ≡ type_in h
shown_type h = type_of_header (type_in h) (model_in h) 0 (omega arith) (omega arith) (omega arith)

pub shown_model : (h : ℕ) → model_in (shown Instance h) ≡ model_in h
shown_model h = model_of_header (type_in h) (model_in h) 0 (omega arith) (omega arith) (omega arith)

holds_asked : (kind : Kind) (w : ℕ) (q : Call) → shown kind w ≡ word_asked kind q → Asked kind (word_asked kind q) q → Asked kind w q
holds_asked Model w q e a = rw e a
holds_asked SchemaInstance w q e a = rw e a
holds_asked Instance w q e a = (sym (shown_model w) ∙ ap model_in e ∙ a.0, sym (shown_type w) ∙ ap type_in e ∙ a.1)

pub tells_of : (t : List ℕ) (h : List Answered) → Told (word_of t) h → ((kind : Kind) → cursor_in t kind ≡ tried_first kind h) → Tells t h
tells_of t h w points = record {
  live = λ kind n. (
    (λ x. not_live _ (w.made_by kind n x.0 (lives kind n x.0 h x.1)).entry.live),
    (λ l. let x = w.live kind n (not_free _ l) in (x.0, is_live_lem kind n x.0 h x.1)),
  );
  asked = λ kind n q l. let m = w.made_by kind n q (lives kind n q h l) in holds_asked kind _ q m.entry.shows m.asked;
  members = w.members;
  attributes = λ i k v. ((λ s. let x = (w.attributes i k v).0 s in (x.set, x.value)), (λ x. (w.attributes i k v).1 (record { set = x.0; value = x.1 })));
  cursors = points;
}

-- ---- what becomes of an entry, of a member and of an attribute

pub data EntryAfter (c : Change) (e e' : Words) (kind : Kind) (n : ℕ) : Type 0 where
  same : is_free (e' kind n 0) ≡ is_free (e kind n 0) → shown kind (e' kind n 0) ≡ shown kind (e kind n 0)
      → ((first : ℕ) → c ≡ Made kind n first → ⊥)
      → (is_free (e kind n 0) ≡ false → names c kind n (shown kind (e kind n 0)) ≡ false) → EntryAfter c e e' kind n
  made : (first : ℕ) → c ≡ Made kind n first → Entry e' kind n first → is_free (e kind n 0) ≡ true → EntryAfter c e e' kind n
  gone : is_free (e' kind n 0) ≡ true → ((first : ℕ) → c ≡ Made kind n first → ⊥)
      → (is_free (e kind n 0) ≡ false → names c kind n (shown kind (e kind n 0)) ≡ true) → EntryAfter c e e' kind n

pub data MemberAfter (c : Change) (e e' : Words) (s m : ℕ) : Type 0 where
  same : has (e' SchemaInstance s 1) m ≡ has (e SchemaInstance s 1) m → (c ≡ Joined s m → ⊥)
      → (has (e SchemaInstance s 1) m ≡ true → parted_by s m c ≡ false) → MemberAfter c e e' s m
  joined : c ≡ Joined s m → has (e' SchemaInstance s 1) m ≡ true → MemberAfter c e e' s m
  parted : has (e' SchemaInstance s 1) m ≡ false → (c ≡ Joined s m → ⊥)
      → (has (e SchemaInstance s 1) m ≡ true → parted_by s m c ≡ true) → MemberAfter c e e' s m

-- a set attribute with the instances concerned, as they are
pub record Holding (e : Words) (i k header target : ℕ) : Type 0 where
  pub set : flagged (e Instance i 0) k ≡ true
  pub own : Entry e Instance i header
  pub named : refers_by header k ≡ true → Entry e Instance (e Instance i (1 + k)) target

pub data ValueAfter (c : Change) (e e' : Words) (i k : ℕ) : Type 0 where
  same : flagged (e' Instance i 0) k ≡ flagged (e Instance i 0) k → e' Instance i (1 + k) ≡ e Instance i (1 + k)
      → ((v : ℕ) → c ≡ Put i k v → ⊥)
      → ((header target : ℕ) → Holding e i k header target → undone_by i k (e Instance i (1 + k)) header target c ≡ false) → ValueAfter c e e' i k
  put : (v header target : ℕ) → c ≡ Put i k v → Value e' i k v → Entry e Instance i header
      → (refers_by header k ≡ true → Entry e Instance v target) → ValueAfter c e e' i k
  unset : flagged (e' Instance i 0) k ≡ false → ((v : ℕ) → c ≡ Put i k v → ⊥)
      → ((header target : ℕ) → Holding e i k header target → undone_by i k (e Instance i (1 + k)) header target c ≡ true) → ValueAfter c e e' i k

pub record After (c : Change) (e e' : Words) : Type 0 where
  pub entries : (kind : Kind) (n : ℕ) → EntryAfter c e e' kind n
  pub members : (s m : ℕ) → MemberAfter c e e' s m
  pub attributes : (i k : ℕ) → ValueAfter c e e' i k

-- ---- and that the words tell it still

-- one call more, which says a change; a creation's fields hold what it asked for
module _ (x : Answered) (c : Change) (r : asked x ≡ told (changes c)) (h : List Answered) (e e' : Words) (w : Told e h)
    (fits : (kind : Kind) (n : ℕ) → gave (creation_of kind) n x ≡ true → Asked kind (word_asked kind x.call) x.call) where
  module _ (kind : Kind) (n : ℕ) where
    -- what ends one that lived, by the change and by the call
    ended_named : (q : Call) → Lives kind n q h → ended kind n q x ≡ names c kind n (shown kind (e kind n 0))
    ended_named q l =
        let m = w.made_by kind n q l in
        ended_is x c r kind n q m.asked ∙ ap (names c kind n) (sym m.entry.shows)

    live_on : EntryAfter c e e' kind n → is_free (e' kind n 0) ≡ false → (q : Call) × Lives kind n q (x ∷ h)
    live_on (same free shows none keeps) l =
        let was = sym free ∙ l in
        let y = w.live kind n was in
        (y.0, still y.1 (ended_named y.0 y.1 ∙ keeps was))
    live_on (made first p v free) l = (x.call, now (said_made x c r kind n first p, refl))
    live_on (gone free none ends) l = clash _ free l

    made_on : (q : Call) → EntryAfter c e e' kind n → Lives kind n q (x ∷ h) → MadeBy e' kind n q
    made_on q a s = ⊎_elim (λ p. new p.0 p.1 a) (λ p. old a p.0 p.1) (since_cases s)
      where
        new : gave (creation_of kind) n x ≡ true → x.call ≡ q → EntryAfter c e e' kind n → MadeBy e' kind n q
        new g p (same free shows none keeps) = absurd (none _ (made_said x c r kind n g))
        new g p (made first o v free) =
            let word : first ≡ word_asked kind x.call = cc (o, made_said x c r kind n g) in
            rw (← p) (record { entry = rw word at v; asked = fits kind n g })
        new g p (gone free none ends) = absurd (none _ (made_said x c r kind n g))

        old : EntryAfter c e e' kind n → Lives kind n q h → ended kind n q x ≡ false → MadeBy e' kind n q
        old (same free shows none keeps) l p =
            let m = w.made_by kind n q l in
            record { entry = record { live = free ∙ m.entry.live; shows = shows ∙ m.entry.shows }; asked = m.asked }
        old (made first o v free) l p = clash _ free (w.made_by kind n q l).entry.live
        old (gone free none ends) l p = clash _ (ended_named q l ∙ ends (w.made_by kind n q l).entry.live) p

  member_on : (s m : ℕ) → MemberAfter c e e' s m → Member s m (x ∷ h) ↔ (has (e' SchemaInstance s 1) m ≡ true)
  unfolding Member
  member_on s m (same now-has none keeps) = (
    (λ y. ⊎_elim (λ p. absurd (none (joined_said x c r s m p))) (λ p. now-has ∙ (w.members s m).0 p.0) (since_cases y)),
    (λ y. still ((w.members s m).1 (sym now-has ∙ y)) (parts_is x c r s m ∙ keeps (sym now-has ∙ y))),
  )
  member_on s m (joined p y) = ((λ z. y), (λ z. now (said_joined x c r s m p)))
  member_on s m (parted y none ends) = (
    (λ z. ⊎_elim (λ p. absurd (none (joined_said x c r s m p))) (λ p. clash _ (parts_is x c r s m ∙ ends ((w.members s m).0 p.0)) p.1) (since_cases z)),
    (λ z. clash _ z y),
  )

  module _ (i k v : ℕ) where
    -- what is set, with the instances concerned as they are, and what undoes it
    module _ (made target : Call) (s : Since (Puts i k v made target) (undoes i k v made target) h) where
      own : MadeBy e Instance i made
      own = w.made_by Instance i made (own_lives i k v made target s)

      target_is : is_r made k ≡ true → MadeBy e Instance v target
      target_is q = w.made_by Instance v target (named_lives i k v made target s q)

      held : Value e i k v
      unfolding SetTo
      held = (w.attributes i k v).0 (made, target, s)

      holding : Holding e i k (word_asked Instance made) (word_asked Instance target)
      holding = record {
        set = held.set;
        own = own.entry;
        named = λ q. rw held.value (target_is (sym (refers_asked made k own.asked) ∙ q)).entry;
      }

      undone : undoes i k v made target x ≡ undone_by i k (e Instance i (1 + k)) (word_asked Instance made) (word_asked Instance target) c
      undone = rw held.value (undoes_is x c r i k v made target own.asked (λ q. (target_is q).asked))

    value_on : ValueAfter c e e' i k → SetTo i k v (x ∷ h) ↔ Value e' i k v
    unfolding SetTo
    value_on (same flags words none keeps) = ((λ y. there y.0 y.1 y.2), back)
      where
        there : (maker target : Call) → Since (Puts i k v maker target) (undoes i k v maker target) (x ∷ h) → Value e' i k v
        there maker target s =
            ⊎_elim (λ p. absurd (none _ (put_said x c r i k p.put)))
            (λ p. let y = held maker target p.0 in record { set = flags ∙ y.set; value = words ∙ y.value }) (since_cases s)

        back : Value e' i k v → (maker : Call) × (target : Call) × Since (Puts i k v maker target) (undoes i k v maker target) (x ∷ h)
        back y =
            let z = (w.attributes i k v).1 (record { set = sym flags ∙ y.set; value = sym words ∙ y.value }) in
            (z.0, z.1, still z.2 (undone z.0 z.1 z.2 ∙ keeps _ _ (holding z.0 z.1 z.2)))
    value_on (put u header target' p y itself named) = ((λ z. there z.0 z.1 z.2), back)
      where
        there : (maker target : Call) → Since (Puts i k v maker target) (undoes i k v maker target) (x ∷ h) → Value e' i k v
        there maker target s =
            ⊎_elim (λ q. let same_value : u ≡ v = cc (p, put_said x c r i k q.put, q.value) in rw (same_value) at y)
            (λ q. clash _ (rw (said_put x c r i k u p)) q.1) (since_cases s)

        back : Value e' i k v → (maker : Call) × (target : Call) × Since (Puts i k v maker target) (undoes i k v maker target) (x ∷ h)
        back z = by_target (is_r maker k) refl
          where
            maker : Call
            maker = (w.live Instance i itself.live).0

            lives_on : Lives Instance i maker h
            lives_on = (w.live Instance i itself.live).1

            same_value : x.call.c ≡ v
            same_value =
                let put_there : u ≡ x.call.c = cc (p, put_said x c r i k (said_put x c r i k u p)) in
                sym put_there ∙ sym y.value ∙ z.value

            by_target : (b : Bool) → is_r maker k ≡ b → (q : Call) × (target : Call) × Since (Puts i k v q target) (undoes i k v q target) (x ∷ h)
            by_target true e =
                let m = w.made_by Instance i maker lives_on in
                let refers : refers_by header k ≡ true = ap (λ (f : ℕ). refers_by f k) (sym itself.shows ∙ m.entry.shows) ∙ refers_asked maker k m.asked ∙ e in
                let there : u ≡ v = sym y.value ∙ z.value in
                let t = w.live Instance v (rw there at (named refers).live) in
                (maker, t.0, now (record { put = said_put x c r i k u p; value = same_value; instance = lives_on; named = λ q. t.1 }))
            by_target false e =
                (maker, maker, now (record { put = said_put x c r i k u p; value = same_value; instance = lives_on; named = λ q. clash _ q e }))
    value_on (unset flags none ends) = ((λ y. there y.0 y.1 y.2), (λ y. clash _ y.set flags))
      where
        there : (maker target : Call) → Since (Puts i k v maker target) (undoes i k v maker target) (x ∷ h) → Value e' i k v
        there maker target s =
            ⊎_elim (λ p. absurd (none _ (put_said x c r i k p.put)))
            (λ p. clash _ (undone maker target p.0 ∙ ends _ _ (holding maker target p.0)) p.1) (since_cases s)

  pub told_on : After c e e' → Told e' (x ∷ h)
  told_on a = record {
    live = λ kind n. live_on kind n (a.entries kind n);
    made_by = λ kind n q. made_on kind n q (a.entries kind n);
    members = λ s m. member_on s m (a.members s m);
    attributes = λ i k v. value_on i k v (a.attributes i k);
  }

-- one call more, which says no change
module _ (x : Answered) (s : Said) (r : asked x ≡ told s) (none : (f : Change → Bool) → in_said f s ≡ false) (h : List Answered) (e : Words) (w : Told e h) where
  unended : (kind : Kind) (n : ℕ) (q : Call) → ended kind n q x ≡ false
  unended Model n q = of_said x s r Model n ∙ none (takes Model n)
  unended SchemaInstance n q = of_said x s r SchemaInstance n ∙ none (takes SchemaInstance n)
  unended Instance n q = rw (of_said x s r Instance n ∙ none (takes Instance n), of_said x s r Model q.a ∙ none (takes Model q.a))

  unput : (i k : ℕ) → of_both 44 i k x ≡ false
  unput i k = ap (λ (t : Tests). t.puts i k) r ∙ none (puts i k)

  not_undone : (i k v : ℕ) (maker target : Call) → undoes i k v maker target x ≡ false
  not_undone i k v maker target =
      rw (unput i k, ap (λ (t : Tests). t.unsets i k) r ∙ none (unsets i k), gave_said x s r Instance i ∙ none (makes Instance i), unended Instance i maker, unended Instance v target)
      (and-false (is_r maker k))

  pub told_past : Told e (x ∷ h)
  unfolding Member SetTo
  told_past = record {
    live = λ kind n l. let y = w.live kind n l in (y.0, still y.1 (unended kind n y.0));
    made_by = λ kind n q l. ⊎_elim (λ p. clash _ p.0 (gave_said x s r kind n ∙ none (makes kind n))) (λ p. w.made_by kind n q p.0) (since_cases l);
    members = λ n m. (
      (λ y. ⊎_elim (λ p. clash _ p (ap (λ (t : Tests). t.joins n m) r ∙ none (joins n m))) (λ p. (w.members n m).0 p.0) (since_cases y)),
      (λ y. still ((w.members n m).1 y) (parts_said x s r n m ∙ rw (none (makes SchemaInstance n), none (takes SchemaInstance n), none (leaves n m), none (takes Model m)))),
    );
    attributes = λ i k v. (
      (λ y. ⊎_elim (λ p. clash _ p.put (unput i k)) (λ p. (w.attributes i k v).0 (y.0, y.1, p.0)) (since_cases y.2)),
      (λ y. let z = (w.attributes i k v).1 y in (z.0, z.1, still z.2 (not_undone i k v z.0 z.1))),
    );
  }

-- ---- what is as it was

-- the changes told apart
abbrev pub shape : Change → ℕ
shape (Made kind n first) = 0
shape (Gone kind n) = 1
shape (Joined s m) = 2
shape (Left s m) = 3
shape (Put i k v) = 4
shape (Unset i k) = 5

pub not_made : (c : Change) {kind : Kind} {n first : ℕ} → eqb (shape c) 0 ≡ false → c ≡ Made kind n first → ⊥
not_made c {kind} {n} {first} p e = clash (eqb (shape c) 0) (ap (λ (x : Change). eqb (shape x) 0) e) p

pub not_joined : (c : Change) {s m : ℕ} → eqb (shape c) 2 ≡ false → c ≡ Joined s m → ⊥
not_joined c {s} {m} p e = clash (eqb (shape c) 2) (ap (λ (x : Change). eqb (shape x) 2) e) p

pub not_put : (c : Change) {i k v : ℕ} → eqb (shape c) 4 ≡ false → c ≡ Put i k v → ⊥
not_put c {i} {k} {v} p e = clash (eqb (shape c) 4) (ap (λ (x : Change). eqb (shape x) 4) e) p

module _ (c : Change) (e e' : Words) where
  pub entry_kept : (kind : Kind) (n : ℕ) → e' kind n 0 ≡ e kind n 0 → ((first : ℕ) → c ≡ Made kind n first → ⊥)
      → (is_free (e kind n 0) ≡ false → names c kind n (shown kind (e kind n 0)) ≡ false) → EntryAfter c e e' kind n
  entry_kept kind n p none keeps = same (ap is_free p) (ap (shown kind) p) none keeps

  pub member_kept : (s m : ℕ) → e' SchemaInstance s 1 ≡ e SchemaInstance s 1 → (c ≡ Joined s m → ⊥)
      → (has (e SchemaInstance s 1) m ≡ true → parted_by s m c ≡ false) → MemberAfter c e e' s m
  member_kept s m p none keeps = same (ap (λ (x : ℕ). has x m) p) none keeps

  pub value_kept : (i k : ℕ) → ((j : ℕ) → e' Instance i j ≡ e Instance i j) → ((v : ℕ) → c ≡ Put i k v → ⊥)
      → ((header target : ℕ) → Holding e i k header target → undone_by i k (e Instance i (1 + k)) header target c ≡ false) → ValueAfter c e e' i k
  value_kept i k p none keeps = same (ap (λ (x : ℕ). flagged x k) (p 0)) (p (1 + k)) none keeps
