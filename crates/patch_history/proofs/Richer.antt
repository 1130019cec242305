-- Changes whose patches name more are as well made.
use Rattle.std.proofs.Common.{◌≡◌, ℕ, ◌∙◌, inl, inr, Bool, true, false, List, [], ◌∷◌, ◌++◌, length, refl, sym, ap}
use Rattle.std.proofs.Common.{arith, subst}
use Rattle.std.specs.Prelude.{◌&&◌, ◌||◌, nat_lt, if◌then◌else◌}
use Rattle.std.proofs.lemmas.Bool.{cases_Bool}
use Rattle.patch_model.specs.Patch.{Patch}
use Rattle.patch_model.specs.Entry.{is_among}
use Rattle.patch_model.specs.Dependency.{depends_directly, shares_byte}
use Rattle.patch_model.specs.Member.{In, In-from_Contains, Contains-from_In}
use Rattle.patch_frame.specs.declared.geometries.Geometry.{Geometry}
use Rattle.patch_recovery.specs.Change.{Made, patch_of, patches_of, block_of, start_of, bytes_of}
use Rattle.patch_recovery.specs.Ledger.{Ledger, after, after_all}
use Rattle.patch_recovery.specs.Orders.{Reaches, directly, onward, StandsIn, AreWellMade, comes_after}
use Rattle.patch_recovery.specs.Right.{IsRight}
use Rattle.patch_recovery.specs.Said.{last_said, speaks_of, said}
use Rattle.patch_history.proofs.Members.{In-left, In-right, In-append}

-- the second is the same change, and names all that the first does
pub record IsRicher (m r : Made) : Type 0 where
  pub change : r.change ≡ m.change
  pub names : (n : ℕ) → is_among m.after n ≡ true → is_among r.after n ≡ true

abbrev pub AreRicher : List Made → List Made → Type 0
AreRicher [] [] = Unit {0}
AreRicher [] (r ∷ rs) = ⊥
AreRicher (m ∷ ms) [] = ⊥
AreRicher (m ∷ ms) (r ∷ rs) = IsRicher m r × AreRicher ms rs

pub richer_self : (m : Made) → IsRicher m m
richer_self m = record { change = refl; names = λ n t. t }

pub all_richer_self : (ms : List Made) → AreRicher ms ms
all_richer_self [] = tt
all_richer_self (m ∷ ms) = (richer_self m, all_richer_self ms)

pub richer_length : (ms rs : List Made) → AreRicher ms rs → length rs ≡ length ms
richer_length [] [] h = refl
richer_length [] (r ∷ rs) h = absurd h
richer_length (m ∷ ms) [] h = absurd h
richer_length (m ∷ ms) (r ∷ rs) h = let e = richer_length ms rs h.1 in omega (arith, e)

pub richer_ledger : (first : Ledger) (ms rs : List Made) → AreRicher ms rs → after_all first rs ≡ after_all first ms
richer_ledger first [] [] h = refl
richer_ledger first [] (r ∷ rs) h = absurd h
richer_ledger first (m ∷ ms) [] h = absurd h
richer_ledger first (m ∷ ms) (r ∷ rs) h =
    ap (λ l. after l r.change) (richer_ledger first ms rs h.1) ∙ ap (after (after_all first ms)) h.0.change

-- the patch is the same, and names all that the other does
record IsRicherPatch (p q : Patch) : Type 0 where
  pub no : q.no ≡ p.no
  pub block : q.block ≡ p.block
  pub start : q.start ≡ p.start
  pub bytes : q.bytes ≡ p.bytes
  pub names : (n : ℕ) → is_among p.after n ≡ true → is_among q.after n ≡ true

richer_patch : (g : Geometry) (n k : ℕ) (m r : Made) → k ≡ n → IsRicher m r
    → IsRicherPatch (patch_of g n m) (patch_of g k r)
richer_patch g n k m r e h = record {
  no = e;
  block = ap (block_of g) h.change;
  start = ap start_of h.change;
  bytes = ap (bytes_of g) h.change;
  names = h.names;
}

shares_same : (p x q y : Patch) → IsRicherPatch p x → IsRicherPatch q y → shares_byte x y ≡ shares_byte p q
shares_same p x q y hp hq = rw (hp.block, hp.start, hp.bytes, hq.block, hq.start, hq.bytes) refl

or_true : (a b c d : Bool) → (a ≡ true → c ≡ true) → d ≡ b → (a || b) ≡ true → (c || d) ≡ true
or_true true b c d f e h = rw (f refl) refl
or_true false b c d f e h =
    let dt : d ≡ true = e ∙ h in elim (cases_Bool c) [ inl u ↦ rw u refl | inr u ↦ rw (u, dt) refl ]

richer_depends : (p x q y : Patch) → IsRicherPatch p x → IsRicherPatch q y → depends_directly p q ≡ true
    → depends_directly x y ≡ true
richer_depends p x q y hp hq h =
    or_true (is_among p.after q.no) (nat_lt q.no p.no && shares_byte p q) (is_among x.after y.no) (nat_lt y.no x.no && shares_byte x y)
    (λ t. ap (is_among x.after) hq.no ∙ hp.names q.no t)
    (ap (λ b. nat_lt y.no x.no && b) (shares_same p x q y hp hq) ∙ ap (λ n. nat_lt n x.no && shares_byte p q) hq.no ∙ ap (λ n. nat_lt q.no n && shares_byte p q) hp.no)
    h

richer_in : (g : Geometry) (ms rs : List Made) → AreRicher ms rs → (q : Patch) → In (patches_of g ms) q
    → (y : Patch) × In (patches_of g rs) y × IsRicherPatch q y
richer_in g [] [] h q i = absurd i
richer_in g [] (r ∷ rs) h q i = absurd h
richer_in g (m ∷ ms) [] h q i = absurd h
richer_in g (m ∷ ms) (r ∷ rs) h q i = elim (In-append (patches_of g ms) (patch_of g (length ms) m ∷ []) q i) [
  | inl old ↦ (let there = richer_in g ms rs h.1 q old in (there.0, In-left (patches_of g rs) (patch_of g (length rs) r ∷ []) there.0 there.1, there.2))
  | inr new ↦ elim new [
    | inl e ↦ (
      patch_of g (length rs) r,
      In-right (patches_of g rs) (patch_of g (length rs) r ∷ []) (patch_of g (length rs) r) (inl refl),
      subst (λ x. IsRicherPatch x (patch_of g (length rs) r)) e
          (richer_patch g (length ms) (length rs) m r (richer_length ms rs h.1) h.0),
    )
    | inr none ↦ absurd none
  ]
]

richer_reaches : (g : Geometry) (ms rs : List Made) → AreRicher ms rs → (p q x y : Patch)
    → Reaches (patches_of g ms) p q → IsRicherPatch p x → IsRicherPatch q y → Reaches (patches_of g rs) x y
richer_reaches g ms rs h p q x y (directly d) hp hq = directly (richer_depends p x q y hp hq d)
richer_reaches g ms rs h p q x y (onward {p = u} {q = z} {r = v} d inside rest) hp hq =
    let there = richer_in g ms rs h z (In-from_Contains (patches_of g ms) z inside) in
    onward (richer_depends p x z there.0 hp there.2 d) (Contains-from_In (patches_of g rs) there.0 there.1) (richer_reaches g ms rs h z q there.0 y rest there.2 hq)

-- what stands among the richer ones stands among the others
record StandsPoorer (ms : List Made) (r : Made) (rs : List Made) : Type 0 where
  pub made : Made
  pub before : List Made
  pub stands : StandsIn ms made before
  pub richer : IsRicher made r
  pub all : AreRicher before rs

poorer : (ms rs later : List Made) (other : Made) (before : List Made) → AreRicher ms rs
    → rs ≡ later ++ other ∷ before → StandsPoorer ms other before
poorer ms [] [] other before h e = absurd (let n = ap length e in omega (arith, n))
poorer ms [] (x ∷ later) other before h e = absurd (let n = ap length e in omega (arith, n))
poorer [] (r ∷ rs) later other before h e = absurd h
poorer (m ∷ ms) (r ∷ rs) [] other before h e =
    record { made = m; before = ms; stands = record { later = []; are = refl }; richer = subst (λ x. IsRicher m x) (cc) h.0; all = subst (λ x. AreRicher ms x) (cc) h.1 }
poorer (m ∷ ms) (r ∷ rs) (x ∷ later) other before h e =
    let tail : rs ≡ later ++ other ∷ before = cc in
    let there = poorer ms rs later other before h.1 tail in
    record { made = there.made; before = there.before; stands = record { later = m ∷ there.stands.later; are = ap (λ xs. m ∷ xs) there.stands.are }; richer = there.richer; all = there.all }

pub richer_well : (first : Ledger) (ms rs : List Made) → AreRicher ms rs → AreWellMade first ms → AreWellMade first rs
richer_well first [] [] h well = tt
richer_well first [] (r ∷ rs) h well = absurd h
richer_well first (m ∷ ms) [] h well = absurd h
richer_well first (m ∷ ms) (r ∷ rs) h well = (
  record {
    right =
        subst (λ l. IsRight l r.change) (sym (richer_ledger first ms rs h.1))
        (subst (λ c. IsRight (after_all first ms) c) (sym h.0.change) well.0.right);
    reaches = λ other before stands t.
        let there = poorer ms rs stands.later other before h.1 stands.are in
        let same : comes_after (after_all first ms) m.change (after_all first there.before) there.made.change ≡ true =
        ap (λ c. comes_after (after_all first ms) c (after_all first there.before) there.made.change) (sym h.0.change)
        ∙ ap (λ c. comes_after (after_all first ms) r.change (after_all first there.before) c) (sym there.richer.change)
        ∙ ap (λ k. comes_after (after_all first ms) r.change k other.change)
        (sym (richer_ledger first there.before before there.all))
        ∙ ap (λ l. comes_after l r.change (after_all first before) other.change) (sym (richer_ledger first ms rs h.1))
        ∙ t in
        richer_reaches first.geometry (m ∷ ms) (r ∷ rs) h (patch_of first.geometry (length ms) m) (patch_of first.geometry (length there.before) there.made)
        (patch_of first.geometry (length rs) r) (patch_of first.geometry (length before) other)
        (well.0.reaches there.made there.before there.stands same)
        (richer_patch first.geometry (length ms) (length rs) m r (richer_length ms rs h.1) h.0)
        (richer_patch first.geometry (length there.before) (length before) there.made other (richer_length there.before before there.all) there.richer);
  },
  richer_well first ms rs h.1 well.1,
)

-- names say nothing of a key
pub richer_said : (first : Ledger) (ms rs : List Made) (key : List ℕ) → AreRicher ms rs
    → last_said (λ number. true) first rs key ≡ last_said (λ number. true) first ms key
richer_said first [] [] key h = refl
richer_said first [] (r ∷ rs) key h = absurd h
richer_said first (m ∷ ms) [] key h = absurd h
richer_said first (m ∷ ms) (r ∷ rs) key h =
    ap (λ x. if speaks_of key (after_all first rs) r.change then said (after_all first rs) r.change else x)
    (richer_said first ms rs key h.1)
    ∙ ap (λ l. if speaks_of key l r.change then said l r.change else last_said (λ number. true) first ms key)
    (richer_ledger first ms rs h.1)
    ∙ ap (λ c. if speaks_of key (after_all first ms) c then said (after_all first ms) c else last_said (λ number. true) first ms key) h.0.change
