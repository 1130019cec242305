-- Patches by their numbers, and two classes that may become one.
use Rattle.std.proofs.Common.{◌≡◌, ◌≢◌, ℕ, zero, suc, ◌+◌, ◌-◌, ◌<◌, ◌≤◌, ◌∙◌, inl, inr, Bool, true, false, List, [], ◌∷◌, length, get_or, refl, sym, ap, arith, subst, Option, Some, None, cond}
use Rattle.std.specs.Prelude.{◌==◌, ◌&&◌, ◌||◌, nat_le, nat_lt, not, slice_get, Contains, IsTrue, MatchOption}
use Rattle.std.specs.List.{list_any, AllByRecursion}
use Rattle.std.proofs.lemmas.Bool.{cases_Bool, and_parts, and_from, both_ways, not-false}
use Rattle.std.proofs.lemmas.Bool.Decides.{nat_tests}
use Rattle.std.proofs.lemmas.Option.{slice_get-get_or}
use Rattle.patch_model.specs.declared.refusals.Refusal.{Refusal}
use Rattle.patch_model.specs.declared.patches.Mark.TheVariants.{Memory, Flight, Durable}
use Rattle.patch_model.specs.declared.patches.Mark.{Mark}
use Rattle.patch_model.specs.Entry.{Entry, marks_memory, marks_durable, is_memory, is_undoable}
use Rattle.patch_model.specs.State.{class_of, entries_of}
use Rattle.patch_model.specs.declared.refusals.RefusalKind.TheVariants as kind
use Rattle.patch_model.specs.Pile.{end, covers}
use Rattle.patch_model.specs.Ready.{IsRising}
use Rattle.patch_model.specs.Dependency.{Path, one, onward}
use Rattle.patch_model.specs.Legal.{touch, block_of_patch, is_undoable_at}
use Rattle.patch_model.specs.Refusing.{with_number, why_no_pair, is_memory_at, is_hard_at, IsBetween, IsLeastThird}
use Rattle.patch_model.specs.Orderly.{IsOrderly, IsNumbered}
use Rattle.patch_model.specs.Member.{In, In-filter, Contains-from_In, list_any-at, list_any-from}
use Rattle.patch_model.specs.Execution.{Execution}
use Rattle.patch_model.specs.History.{history_of}
use Rattle.patch_view.specs.Answers.{IsPatch}
use Rattle.patch_graph.specs.Meaning.{IsNotLive, IsLiveClass}
use Rattle.patch_graph.specs.Between.{HasNoRing, IsLeastBetween}
use Rattle.patch_graph.specs.Showing.{IsShown}
use Rattle.patch_graph.specs.declared.classes.LiveClass.{LiveClass}
use Rattle.patch_cache.specs.Merging.{IsInMemory, spans_touch, why_apart}

-- Numbers.

slice_get-In : (es : List Entry) (i : ℕ) (e : Entry) → slice_get es i ≡ Some e → In es e
slice_get-In [] i e at = absurd (cc)
slice_get-In (x ∷ xs) zero e at = inl (cc)
slice_get-In (x ∷ xs) (suc i) e at = inr (slice_get-In xs i e at)

-- rising numbers below a bound leave room for those behind them
rising_room : (e : Entry) (es : List Entry) (top : ℕ) → IsRising (e ∷ es) → ((x : Entry) → In (e ∷ es) x → x.patch.no < top) → e.patch.no + length es < top
rising_room e [] top h below = let b = below e (inl refl) in omega arith
rising_room e (x ∷ es) top h below =
    let b = rising_room x es top h.1 (λ z i. below z (inr i)) in
    let c : e.patch.no < x.patch.no = h.0.0 in omega arith

each_above : (n : ℕ) (es : List Entry) → AllByRecursion (λ f. n < f.patch.no) es → (z : Entry) → In es z → n < z.patch.no
each_above n [] h z i = absurd i
each_above n (x ∷ es) h z (inl is) = subst (λ f. n < f.patch.no) is h.0
each_above n (x ∷ es) h z (inr i) = each_above n es h.1 z i

-- so each of as many as the bound has the number of its place
place_is : (es : List Entry) (low i : ℕ) (e : Entry) → IsRising es → ((x : Entry) → In es x → low ≤ x.patch.no) → ((x : Entry) → In es x → x.patch.no < low + length es)
    → slice_get es i ≡ Some e → e.patch.no ≡ low + i
place_is [] low i e h above below at = absurd (cc)
place_is (x ∷ es) low zero e h above below at =
    let same : x ≡ e = cc in
    let room = rising_room x es (low + length (x ∷ es)) h below in
    let a = above x (inl refl) in
    let n = ap (λ z. z.patch.no) same in omega arith
place_is (x ∷ es) low (suc i) e h above below at =
    let room = rising_room x es (low + length (x ∷ es)) h below in
    let a = above x (inl refl) in
    let r = place_is es (low + 1) i e h.1
    (λ z j. let b : x.patch.no < z.patch.no = each_above x.patch.no es h.0 z j in omega arith)
    (λ z j. let b = below z (inr j) in omega arith) at in
    omega arith

-- the patch of this number, at its place
pub record StandsAt (all : List Entry) (n : ℕ) (e : Entry) : Type 0 where
  pub at : slice_get all n ≡ Some e
  pub is_in : In all e
  pub number : e.patch.no ≡ n
  pub made : n < length all

pub of_place : (all : List Entry) (n : ℕ) (e : Entry) → IsOrderly all → IsNumbered all → slice_get all n ≡ Some e → StandsAt all n e
of_place all n e o u at =
    let i = slice_get-In all n e at in
    let place : e.patch.no ≡ 0 + n = place_is all 0 n e o.rising (λ x j. omega arith) (λ x j. let b = u.below x (Contains-from_In all x j) in omega arith) at in
    let less = u.below e (Contains-from_In all e i) in
    record { at = at; is_in = i; number = omega arith; made = omega arith }

pub of_number : (all : List Entry) (n : ℕ) (e : Entry) → IsOrderly all → IsNumbered all → In all e → e.patch.no ≡ n → StandsAt all n e
of_number all n e o u i number =
    let less : e.patch.no < length all = u.below e (Contains-from_In all e i) in
    let within : n < length all = omega arith in
    let s = of_place all n (get_or all n e) o u (slice_get-get_or all n e within) in
    let same : get_or all n e ≡ e = o.apart (get_or all n e) e (Contains-from_In all (get_or all n e) s.is_in) (Contains-from_In all e i) (s.number ∙ sym number) in
    subst (StandsAt all n) same s

pub memory_at : (all : List Entry) (n : ℕ) (e : Entry) → slice_get all n ≡ Some e → is_memory_at all n ≡ is_memory e
memory_at all n e at = ap (λ o. elim o [ Some x ↦ is_memory x | None ↦ false ]) at

pub hard_at : (all : List Entry) (n : ℕ) (e : Entry) → slice_get all n ≡ Some e → is_hard_at all n ≡ e.hard
hard_at all n e at = ap (λ o. elim o [ Some x ↦ x.hard | None ↦ false ]) at

pub name_at : (all : List Entry) (n : ℕ) (e : Entry) → slice_get all n ≡ Some e → class_of all n ≡ e.class
name_at all n e at = ap (λ o. elim o [ Some x ↦ x.class | None ↦ n ]) at

pub place_at : (all : List Entry) (n : ℕ) (e : Entry) → slice_get all n ≡ Some e → block_of_patch all n ≡ e.patch.block
place_at all n e at = ap (λ o. elim o [ Some x ↦ x.patch.block | None ↦ 0 ]) at

marks_apart : (m : Mark) → marks_durable m ≡ true → marks_memory m ≡ false
marks_apart Memory h = absurd (cc)
marks_apart Flight h = refl
marks_apart Durable h = refl

marks_live : (m : Mark) → marks_memory m ≡ true → marks_durable m ≡ false
marks_live Memory h = refl
marks_live Flight h = refl
marks_live Durable h = absurd (cc)

-- In memory or not.

pub not_live : (all : List Entry) (n : ℕ) → IsOrderly all → IsNumbered all → IsNotLive all n → is_memory_at all n ≡ false
not_live all n o u gone = by (slice_get all n) refl
  where
    by : (found : Option Entry) → slice_get all n ≡ found → is_memory_at all n ≡ false
    by None at = ap (λ x. elim x [ Some e ↦ is_memory e | None ↦ false ]) at
    by (Some e) at = let s = of_place all n e o u at in memory_at all n e at ∙ marks_apart e.mark (gone e s.is_in s.number)

pub not_memory : (all : List Entry) (n : ℕ) (c : LiveClass) → IsOrderly all → IsNumbered all → IsShown all n c → marks_memory c.mark ≡ false → is_memory_at all n ≡ false
not_memory all n c o u h off = let s = of_number all n h.patch o u h.inside h.number in memory_at all n h.patch s.at ∙ ap marks_memory h.mark ∙ off

-- the patch in memory of this number
pub some_at : (all : List Entry) (n : ℕ) → IsOrderly all → IsNumbered all → is_memory_at all n ≡ true → (e : Entry) × StandsAt all n e × (is_memory e ≡ true)
some_at all n o u h = by (slice_get all n) refl
  where
    by : (found : Option Entry) → slice_get all n ≡ found → (e : Entry) × StandsAt all n e × (is_memory e ≡ true)
    by None at = let off : is_memory_at all n ≡ false = ap (λ x. elim x [ Some e ↦ is_memory e | None ↦ false ]) at in absurd (both_ways _ off h)
    by (Some e) at = (e, of_place all n e o u at, sym (memory_at all n e at) ∙ h)

-- and that of an undoable one
pub undoable_at : (all : List Entry) (n : ℕ) → IsOrderly all → IsNumbered all → is_undoable_at all n ≡ true → (e : Entry) × StandsAt all n e
undoable_at all n o u h = by (slice_get all n) refl
  where
    by : (found : Option Entry) → slice_get all n ≡ found → (e : Entry) × StandsAt all n e
    by None at = let off : is_undoable_at all n ≡ false = ap (λ x. elim x [ Some e ↦ is_undoable e | None ↦ false ]) at in absurd (both_ways _ off h)
    by (Some e) at = (e, of_place all n e o u at)

-- it is a patch of its block
pub on_its_block : (run : Execution) (block n : ℕ) (e : Entry) → StandsAt (entries_of run) n e → block_of_patch (entries_of run) n ≡ block → IsPatch (history_of run block) n e
on_its_block run block n e s there =
    let here : e.patch.block ≡ block = sym (place_at (entries_of run) n e s.at) ∙ there in
    record { is_in = In-filter (λ x. x.patch.block == block) (entries_of run) e s.is_in (let t : (e.patch.block == block) ≡ true = grind (arith, nat_tests) in t); number = s.number }

pub live_class : (all : List Entry) (n : ℕ) → IsOrderly all → IsNumbered all → is_memory_at all n ≡ true → IsLiveClass all n (class_of all n)
live_class all n o u h = let r = some_at all n o u h in (r.0, r.1.is_in, r.1.number, marks_live r.0.mark r.2, sym (name_at all n r.0 r.1.at))

-- Two classes.

-- what a class in memory tells of a patch of it
pub record IsKnown (all : List Entry) (n : ℕ) (c : LiveClass) : Type 0 where
  pub made : n < length all
  pub memory : is_memory_at all n ≡ true
  pub name : class_of all n ≡ c.name
  pub block : block_of_patch all n ≡ c.block
  pub hard : is_hard_at all n ≡ c.hard

pub known : (all : List Entry) (n : ℕ) (c : LiveClass) → IsOrderly all → IsNumbered all → IsInMemory all n c → IsKnown all n c
known all n c o u m =
    let h = m.shown in
    let s = of_number all n h.patch o u h.inside h.number in
    record {
      made = s.made;
      memory = memory_at all n h.patch s.at ∙ ap marks_memory (h.mark ∙ m.memory);
      name = name_at all n h.patch s.at ∙ h.name;
      block = place_at all n h.patch s.at ∙ h.block;
      hard = hard_at all n h.patch s.at ∙ h.hard;
    }

-- the law of whole spans, for these patches
abbrev pub SpansAreWhole : List Entry → Type 0
SpansAreWhole all =
    (e e2 g g2 : Entry) → Contains all e → Contains all e2 → Contains all g → Contains all g2
    → e.class ≡ e2.class → g.class ≡ g2.class → e.patch.start ≤ end g2.patch → g.patch.start ≤ end e2.patch → IsTrue (touch all e.class g.class)

-- a patch of the class lies in its span
record LiesIn (e : Entry) (c : LiveClass) : Type 0 where
  from : c.start ≤ e.patch.start
  to : end e.patch ≤ c.stop
  some : 0 < length e.patch.bytes

covers-from : (e : Entry) (x : ℕ) → e.patch.start ≤ x → x < end e.patch → covers e.patch x ≡ true
covers-from e x a b = and_from (nat_le e.patch.start x) (nat_lt x (end e.patch)) (grind (arith, nat_tests)) (grind (arith, nat_tests))

class_is : (a b : ℕ) → a ≡ b → (a == b) ≡ true
class_is a b h = grind (arith, nat_tests)

in_span : (all : List Entry) (n : ℕ) (c : LiveClass) (e : Entry) (x : ℕ) → IsShown all n c → In all e → e.class ≡ c.name → covers e.patch x ≡ true → (c.start ≤ x) × (x < c.stop)
in_span all n c e x h i name on =
    let t : (nat_le c.start x && nat_lt x c.stop) ≡ true = h.span x ∙ list_any-from (λ e. e.class == c.name && covers e.patch x) all e i (and_from (e.class == c.name) (covers e.patch x) (class_is _ _ name) on) in
    let p = and_parts (nat_le c.start x) (nat_lt x c.stop) t in
    (grind (arith, nat_tests, p.0), grind (arith, nat_tests, p.1))

lies : (all : List Entry) (n : ℕ) (c : LiveClass) (e : Entry) → IsOrderly all → IsShown all n c → In all e → e.class ≡ c.name → LiesIn e c
lies all n c e o h i name =
    let some : 0 < length e.patch.bytes = o.filled e (Contains-from_In all e i) in
    let first = in_span all n c e e.patch.start h i name (covers-from e e.patch.start (omega arith) (omega (arith, some))) in
    let last = in_span all n c e (e.patch.start + length e.patch.bytes - 1) h i name (covers-from e (e.patch.start + length e.patch.bytes - 1) (omega (arith, some)) (omega (arith, some))) in
    record { from = first.0; to = omega (arith, last, some); some = some }

-- a patch of the class that changes a byte of its span
record Changes (all : List Entry) (name x : ℕ) (e : Entry) : Type 0 where
  is_in : Contains all e
  class : e.class ≡ name
  from : e.patch.start ≤ x
  to : x < end e.patch

changes : (all : List Entry) (n : ℕ) (c : LiveClass) (x : ℕ) → IsShown all n c → c.start ≤ x → x < c.stop → (e : Entry) × Changes all c.name x e
changes all n c x h a b =
    let t : (nat_le c.start x && nat_lt x c.stop) ≡ true = and_from (nat_le c.start x) (nat_lt x c.stop) (grind (arith, nat_tests)) (grind (arith, nat_tests)) in
    let r = list_any-at (λ e. e.class == c.name && covers e.patch x) all (sym (h.span x) ∙ t) in
    let p = and_parts (r.0.class == c.name) (covers r.0.patch x) r.2 in
    let q = and_parts (nat_le r.0.patch.start x) (nat_lt x (end r.0.patch)) p.1 in
    (r.0, record { is_in = Contains-from_In all r.0 r.1; class = grind (arith, nat_tests, p.0); from = grind (arith, nat_tests, q.0); to = grind (arith, nat_tests, q.1) })

spans_from : (all : List Entry) (a b : ℕ) (c d : LiveClass) → IsOrderly all → IsShown all a c → IsShown all b d → touch all c.name d.name ≡ true → spans_touch c d ≡ true
spans_from all a b c d o h k t =
    let x = list_any-at (λ e. e.class == c.name && list_any (λ f. f.class == d.name && nat_le e.patch.start (end f.patch) && nat_le f.patch.start (end e.patch)) all) all t in
    let p = and_parts (x.0.class == c.name) (list_any (λ f. f.class == d.name && nat_le x.0.patch.start (end f.patch) && nat_le f.patch.start (end x.0.patch)) all) x.2 in
    let y = list_any-at (λ f. f.class == d.name && nat_le x.0.patch.start (end f.patch) && nat_le f.patch.start (end x.0.patch)) all p.1 in
    let q = and_parts (y.0.class == d.name && nat_le x.0.patch.start (end y.0.patch)) (nat_le y.0.patch.start (end x.0.patch)) y.2 in
    let r = and_parts (y.0.class == d.name) (nat_le x.0.patch.start (end y.0.patch)) q.0 in
    let in_c = lies all a c x.0 o h x.1 (grind (arith, nat_tests, p.0)) in
    let in_d = lies all b d y.0 o k y.1 (grind (arith, nat_tests, r.0)) in
    let near : x.0.patch.start ≤ end y.0.patch = grind (arith, nat_tests, r.1) in
    let near2 : y.0.patch.start ≤ end x.0.patch = grind (arith, nat_tests, q.1) in
    let low : c.start ≤ d.stop = let f = in_c.from in let g = in_d.to in omega (arith, f, g, near) in
    let high : d.start ≤ c.stop = let f = in_d.from in let g = in_c.to in omega (arith, f, g, near2) in
    and_from (nat_le c.start d.stop) (nat_le d.start c.stop) (grind (arith, nat_tests)) (grind (arith, nat_tests))

spans_to : (all : List Entry) (a b : ℕ) (c d : LiveClass) → SpansAreWhole all → IsOrderly all → IsShown all a c → IsShown all b d → spans_touch c d ≡ true → touch all c.name d.name ≡ true
spans_to all a b c d whole o h k t =
    let p = and_parts (nat_le c.start d.stop) (nat_le d.start c.stop) t in
    let low : c.start ≤ d.stop = grind (arith, nat_tests, p.0) in
    let high : d.start ≤ c.stop = grind (arith, nat_tests, p.1) in
    let in_c = lies all a c h.patch o h h.inside h.name in
    let in_d = lies all b d k.patch o k k.inside k.name in
    let some_c : c.start < c.stop = let f = in_c.from in let g = in_c.to in let s = in_c.some in omega (arith, f, g, s) in
    let some_d : d.start < d.stop = let f = in_d.from in let g = in_d.to in let s = in_d.some in omega (arith, f, g, s) in
    let e = changes all a c c.start h (omega arith) (omega (arith, some_c)) in
    let e2 = changes all a c (c.stop - 1) h (omega (arith, some_c)) (omega (arith, some_c)) in
    let g = changes all b d d.start k (omega arith) (omega (arith, some_d)) in
    let g2 = changes all b d (d.stop - 1) k (omega (arith, some_d)) (omega (arith, some_d)) in
    let one_end : e.0.patch.start ≤ end g2.0.patch = let u = e.1.from in let v = g2.1.to in omega (arith, u, v, low) in
    let other_end : g.0.patch.start ≤ end e2.0.patch = let u = g.1.from in let v = e2.1.to in omega (arith, u, v, high) in
    let near : touch all e.0.class g.0.class ≡ true = whole e.0 e2.0 g.0 g2.0 e.1.is_in e2.1.is_in g.1.is_in g2.1.is_in (e.1.class ∙ sym e2.1.class) (g.1.class ∙ sym g2.1.class) one_end other_end in
    subst (λ (n : ℕ). touch all c.name n ≡ true) g.1.class (subst (λ (n : ℕ). touch all n g.0.class ≡ true) e.1.class near)

touching : (all : List Entry) (a b : ℕ) (c d : LiveClass) → SpansAreWhole all → IsOrderly all → IsShown all a c → IsShown all b d → touch all c.name d.name ≡ spans_touch c d
touching all a b c d whole o h k = elim (cases_Bool (spans_touch c d)) [
  | inl u ↦ spans_to all a b c d whole o h k u ∙ sym u
  | inr u ↦ elim (cases_Bool (touch all c.name d.name)) [ inl v ↦ absurd (both_ways _ u (spans_from all a b c d o h k v)) | inr v ↦ v ∙ sym u ]
]

made_both : (m a b : ℕ) → a < m → b < m → (nat_le m a || nat_le m b) ≡ false
made_both m a b h k = let u : nat_le m a ≡ false = grind (arith, nat_tests) in let v : nat_le m b ≡ false = grind (arith, nat_tests) in rw (u, v) refl

-- the first cause, as the two classes show it
pub shown_apart : (all : List Entry) (a b : ℕ) (c d : LiveClass) → SpansAreWhole all → IsOrderly all → IsNumbered all → IsInMemory all a c → IsInMemory all b d
    → why_no_pair all a b ≡ why_apart a c b d
shown_apart all a b c d whole o u m n =
    let k = known all a c o u m in
    let l = known all b d o u n in
    let t : touch all (class_of all a) (class_of all b) ≡ spans_touch c d = rw (k.name, l.name) (touching all a b c d whole o m.shown n.shown) in
    rw (made_both (length all) a b k.made l.made, k.memory, l.memory, t, k.hard, l.hard, k.block, l.block, k.name, l.name) refl

-- A third class.

join_paths : (all : List Entry) (a b c : ℕ) → Path all a b → Path all b c → Path all a c
join_paths all a b c (one h) q = onward h q
join_paths all a b c (onward h p) q = onward h (join_paths all _ b c p q)

-- what the causes leave
passed : (b : Bool) (r : Refusal) (rest : Option Refusal) → cond b (Some r) rest ≡ None → (b ≡ false) × (rest ≡ None)
passed true r rest h = absurd (cc)
passed false r rest h = (refl, h)

pub record AreTwo (all : List Entry) (a b : ℕ) : Type 0 where
  pub memory_a : is_memory_at all a ≡ true
  pub memory_b : is_memory_at all b ≡ true
  pub two : class_of all a ≢ class_of all b

pub two_from : (all : List Entry) (a b : ℕ) → why_no_pair all a b ≡ None → AreTwo all a b
two_from all a b h =
    let made = passed (nat_le (length all) a || nat_le (length all) b) _ _ h in
    let memory_a = passed (not (is_memory_at all a)) _ _ made.1 in
    let memory_b = passed (not (is_memory_at all b)) _ _ memory_a.1 in
    let two = passed (class_of all a == class_of all b) _ _ memory_b.1 in
    record { memory_a = not-false (is_memory_at all a) memory_a.0; memory_b = not-false (is_memory_at all b) memory_b.0; two = grind (arith, nat_tests, two.0) }

-- the least one way is the least of both, since no path leads back
pub least_third : (all : List Entry) (a b n : ℕ) → HasNoRing all → class_of all a ≢ class_of all b
    → IsLeastBetween all (class_of all a) (class_of all b) (Some n) → IsLeastThird all a b n
least_third all a b n ring two h = record {
  is = inl h.0;
  least = λ m w. elim w [
    | inl x ↦ h.1 m x
    | inr x ↦ absurd (ring (class_of all a) (class_of all b) two (join_paths all _ n _ h.0.from h.0.to) (join_paths all _ m _ x.from x.to))
  ];
}

-- where none lies between the one way, the other way tells
other_way : (all : List Entry) (a b n : ℕ) → IsLeastBetween all (class_of all a) (class_of all b) None → IsLeastBetween all (class_of all b) (class_of all a) (Some n) → IsLeastThird all a b n
other_way all a b n none h = record { is = inr h.0; least = λ m w. elim w [ inl x ↦ absurd (none m x) | inr x ↦ h.1 m x ] }

pub either_way : (all : List Entry) (a b : ℕ) (found : Option ℕ) → IsLeastBetween all (class_of all a) (class_of all b) None → IsLeastBetween all (class_of all b) (class_of all a) found
    → MatchOption found ((c : ℕ) → IsBetween all a b c → ⊥) (IsLeastThird all a b)
either_way all a b None none h = λ c w. elim w [ inl x ↦ none c x | inr x ↦ h c x ]
either_way all a b (Some n) none h = other_way all a b n none h

-- the first patch is in memory, and the second isn't
pub only_second : (all : List Entry) (a b : ℕ) (c : LiveClass) → IsOrderly all → IsNumbered all → IsInMemory all a c → b < length all → is_memory_at all b ≡ false
    → why_no_pair all a b ≡ Some (with_number kind.NotInMemory b)
only_second all a b c o u m made off =
    let k = known all a c o u m in
    rw (made_both (length all) a b k.made made, k.memory, off) refl
