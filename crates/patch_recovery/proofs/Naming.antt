-- What a patch names makes it reach all that its change comes after.
use Rattle.std.proofs.Common.{◌≡◌, ℕ, ◌+◌, ◌*◌, ◌/◌, ◌%◌, ◌<◌, ◌≤◌, ◌⊎◌, ◌∙◌, inl, inr, Bool, true, List, [], ◌∷◌, ◌++◌}
use Rattle.std.proofs.Common.{length, Option, Some, None, refl, sym, ap, arith, subst}
use Rattle.std.specs.Prelude.{◌==◌, ◌&&◌, ◌||◌, nat_le, nat_lt, max, min, IfSome, Contains, is_none}
use Rattle.std.proofs.lemmas.Bool.{cases_Bool, cases_lt, and_parts, and_from, or_cases, or_left, or_right}
use Rattle.std.proofs.lemmas.Bool.Decides.{nat_tests}
use Rattle.std.proofs.lemmas.List.{length-append}
use Rattle.std.proofs.Math.Nat.{div-add-mod}
use Rattle.patch_model.specs.Patch.{Patch}
use Rattle.patch_model.specs.Pile.{end}
use Rattle.patch_model.specs.Entry.{is_among}
use Rattle.patch_model.specs.Dependency.{depends_directly, shares_byte}
use Rattle.patch_model.specs.Member.{In, In-from_Contains, Contains-from_In}
use Rattle.patch_frame.specs.declared.geometries.Geometry.{Geometry}
use Rattle.patch_frame.specs.Geometry.{first_block}
use Rattle.patch_frame.specs.Slot.{SlotFields}
use Rattle.patch_recovery.specs.Change.{Change, Data, Point, Fill, Clear, Widen, Made, patch_of, patches_of, block_of}
use Rattle.patch_recovery.specs.Change.{start_of, bytes_of}
use Rattle.patch_recovery.specs.Ledger.{Ledger, after_all, writes_at}
use Rattle.patch_recovery.specs.Right.{IsRight}
use Rattle.patch_recovery.specs.Orders.{Reaches, directly, onward, StandsIn, IsWellMade, AreWellMade, comes_after}
use Rattle.patch_recovery.specs.Orders.{is_of_frame, is_reset, takes_from, is_clear, is_widen}
use Rattle.patch_recovery.specs.Naming.{is_point, newest, Names, NamesFrame, NamesOfPoint, HasNames, NamesSuffice}
use Rattle.patch_recovery.proofs.Held.{In-left, patches_in, earlier_number}

-- ---- places in a list

head_same : (m n : Made) (ms ns : List Made) → m ∷ ms ≡ n ∷ ns → m ≡ n
head_same m n ms ns h = cc

tail_same : (m n : Made) (ms ns : List Made) → m ∷ ms ≡ n ∷ ns → ms ≡ ns
tail_same m n ms ns h = cc

not_in_nothing : (later : List Made) (made : Made) (before : List Made) → [] ≡ later ++ made ∷ before → ⊥
not_in_nothing [] made before h = cc
not_in_nothing (m ∷ ms) made before h = cc

-- of two places the one is the other or stands before it
below_split : (l1 l2 : List Made) (x other : Made) (bx before : List Made) → l1 ++ x ∷ bx ≡ l2 ++ other ∷ before
    → length before ≤ length bx → ((x ≡ other) × (bx ≡ before)) ⊎ StandsIn bx other before
below_split [] [] x other bx before h le = inl (head_same x other bx before h, tail_same x other bx before h)
below_split [] (m ∷ ms) x other bx before h le = inr (record {
  later = ms;
  are =
      tail_same x m bx (ms ++ other ∷ before) h;
})
below_split (m ∷ ms) [] x other bx before h le =
    let long = ap length (tail_same m other (ms ++ x ∷ bx) before h) in
    let parts = length-append ms (x ∷ bx) in
    absurd (omega arith)
below_split (m ∷ ms) (n ∷ ns) x other bx before h le =
    below_split ms ns x other bx before (tail_same m n (ms ++ x ∷ bx) (ns ++ other ∷ before) h) le

below : (all : List Made) (x other : Made) (bx before : List Made) → StandsIn all x bx → StandsIn all other before
    → length before ≤ length bx → ((x ≡ other) × (bx ≡ before)) ⊎ StandsIn bx other before
below all x other bx before s t le = below_split s.later t.later x other bx before (sym s.are ∙ t.are) le

-- the newest change of a kind, where there is one of it
record IsNewest (kind : Change → Bool) (all : List Made) (other : Made) (before : List Made) : Type 0 where
  pub x : Made
  pub bx : List Made
  pub stands : StandsIn all x bx
  pub is : newest kind all ≡ Some (length bx)
  pub kind_is : kind x.change ≡ true
  pub least : length before ≤ length bx

newest_is : (kind : Change → Bool) (all later : List Made) (other : Made) (before : List Made)
    → all ≡ later ++ other ∷ before → kind other.change ≡ true → IsNewest kind all other before
newest_is kind [] later other before h t = absurd (not_in_nothing later other before h)
newest_is kind (m ∷ ms) [] other before h t =
    let same : m ≡ other = head_same m other ms before h in
    let rest : ms ≡ before = tail_same m other ms before h in
    let here : kind m.change ≡ true = ap (λ y. kind y.change) same ∙ t in
    record {
      x = m;
      bx = ms;
      stands = record { later = []; are = refl };
      is = rw here refl;
      kind_is = here;
      least = rw rest (omega arith);
    }
newest_is kind (m ∷ ms) (n ∷ ns) other before h t = elim (cases_Bool (kind m.change)) [
  | inl u ↦
      let rest : ms ≡ ns ++ other ∷ before = tail_same m n ms (ns ++ other ∷ before) h in
      let long : length ms ≡ length ns + length (other ∷ before) = ap length rest ∙ length-append ns (other ∷ before) in
      record {
        x = m;
        bx = ms;
        stands = record { later = []; are = refl };
        is = rw u refl;
        kind_is = u;
        least = omega arith;
      }
  | inr u ↦
      let r = newest_is kind ms ns other before (tail_same m n ms (ns ++ other ∷ before) h) t in
      record {
        x = r.x;
        bx = r.bx;
        stands = record { later = m ∷ r.stands.later; are = ap (λ ys. m ∷ ys) r.stands.are };
        is = rw u (r.is);
        kind_is = r.kind_is;
        least = r.least;
      }
]

-- the change whose number is the newest
record IsFound (kind : Change → Bool) (all : List Made) (n : ℕ) : Type 0 where
  pub x : Made
  pub bx : List Made
  pub stands : StandsIn all x bx
  pub number : length bx ≡ n
  pub kind_is : kind x.change ≡ true

some_number : (a b : ℕ) → Some a ≡ Some b → a ≡ b
some_number a b h = cc

newest_found : (kind : Change → Bool) (all : List Made) (n : ℕ) → newest kind all ≡ Some n → IsFound kind all n
newest_found kind [] n h = absurd (cc)
newest_found kind (m ∷ ms) n h = elim (cases_Bool (kind m.change)) [
  | inl u ↦ record {
    x = m;
    bx = ms;
    stands = record { later = []; are = refl };
    number = some_number (length ms) n (rw u at h);
    kind_is = u;
  }
  | inr u ↦ let r = newest_found kind ms n (rw u at h) in
      record {
        x = r.x;
        bx = r.bx;
        stands = record { later = m ∷ r.stands.later; are = ap (λ ys. m ∷ ys) r.stands.are };
        number = r.number;
        kind_is = r.kind_is;
      }
]

empty_is : (o : Option SlotFields) → is_none o ≡ true → o ≡ None
empty_is None h = refl
empty_is (Some s) h = absurd (cc)

-- ---- reaching

reaches_more : (ps qs : List Patch) → ((r : Patch) → Contains ps r → Contains qs r) → (p q : Patch) → Reaches ps p q
    → Reaches qs p q
reaches_more ps qs f p q (directly d) = directly d
reaches_more ps qs f p q (onward {p = a} {q = r} {r = b} d inside rest) =
    onward {q = r} d (f r inside) (reaches_more ps qs f r q rest)

patches_more : (g : Geometry) (later : List Made) (ms : List Made) (p : Patch) → In (patches_of g ms) p
    → In (patches_of g (later ++ ms)) p
patches_more g [] ms p i = i
patches_more g (m ∷ later) ms p i = In-left (patches_of g (later ++ ms)) _ _ (patches_more g later ms p i)

well_at_split : (first : Ledger) (later : List Made) (made : Made) (before : List Made)
    → AreWellMade first (later ++ made ∷ before) → IsWellMade first made before
well_at_split first [] made before h = h.0
well_at_split first (m ∷ later) made before h = well_at_split first later made before h.1

well_at : (first : Ledger) (all : List Made) (made : Made) (before : List Made) → AreWellMade first all
    → StandsIn all made before → IsWellMade first made before
well_at first all made before h s = well_at_split first s.later made before (subst (λ ys. AreWellMade first ys) s.are h)

-- two patches share a byte at a place of their block
shared_at : (p q : Patch) (place : ℕ) → p.block ≡ q.block → p.start ≤ place → place < end p → q.start ≤ place
    → place < end q → shares_byte p q ≡ true
shared_at p q place block from_p to_p from_q to_q =
    let a : (p.block == q.block) ≡ true = grind (arith, nat_tests) in
    let less : max p.start q.start < min (end p) (end q) = omega arith in
    let b : nat_lt (max p.start q.start) (min (end p) (end q)) ≡ true = grind (arith, nat_tests) in
    and_from _ _ a b

-- two changes share a byte
record Shares (g : Geometry) (c d : Change) : Type 0 where
  pub block : block_of g c ≡ block_of g d
  pub place : ℕ
  pub from_c : start_of c ≤ place
  pub to_c : place < start_of c + length (bytes_of g c)
  pub from_d : start_of d ≤ place
  pub to_d : place < start_of d + length (bytes_of g d)

points_share : (g : Geometry) (e : ℕ) (c d : Change) → is_point e c ≡ true → is_point e d ≡ true → Shares g c d
points_share g e (Point x gen o) (Point y gen2 o2) h k =
    let a : e ≡ x = grind (arith, nat_tests) in
    let b : e ≡ y = grind (arith, nat_tests) in
    record {
      block = refl;
      place = 8 * x;
      from_c = omega arith;
      to_c = omega arith;
      from_d = omega arith;
      to_d = omega arith;
    }
points_share g e (Point x gen o) (Data y offset bytes) h k = absurd (cc)
points_share g e (Point x gen o) (Fill slot s) h k = absurd (cc)
points_share g e (Point x gen o) (Clear slot) h k = absurd (cc)
points_share g e (Point x gen o) Widen h k = absurd (cc)
points_share g e (Data y offset bytes) d h k = absurd (cc)
points_share g e (Fill slot s) d h k = absurd (cc)
points_share g e (Clear slot) d h k = absurd (cc)
points_share g e Widen d h k = absurd (cc)

widens_share : (g : Geometry) (c d : Change) → is_widen c ≡ true → is_widen d ≡ true → Shares g c d
widens_share g Widen Widen h k = record {
  block = refl;
  place = 8;
  from_c = omega arith;
  to_c = omega arith;
  from_d = omega arith;
  to_d = omega arith;
}
widens_share g Widen (Point x gen o) h k = absurd (cc)
widens_share g Widen (Data y offset bytes) h k = absurd (cc)
widens_share g Widen (Fill slot s) h k = absurd (cc)
widens_share g Widen (Clear slot) h k = absurd (cc)
widens_share g (Point x gen o) d h k = absurd (cc)
widens_share g (Data y offset bytes) d h k = absurd (cc)
widens_share g (Fill slot s) d h k = absurd (cc)
widens_share g (Clear slot) d h k = absurd (cc)

-- a place that a change is over lies in the one block of the change
record IsWritten (g : Geometry) (e i : ℕ) (c : Change) : Type 0 where
  pub block : block_of g c ≡ first_block g e + i / 4096
  pub from : start_of c ≤ i % 4096
  pub to : i % 4096 < start_of c + length (bytes_of g c)

written_is : (g : Geometry) (e i : ℕ) (k : Ledger) (c : Change) → IsRight k c → writes_at e i c ≡ true
    → IsWritten g e i c
written_is g e i k (Data x offset bytes) right h =
    let parts = and_parts (e == x && nat_le offset i) (nat_lt i (offset + length bytes)) h in
    let front = and_parts (e == x) (nat_le offset i) parts.0 in
    let same : e ≡ x = grind (arith, nat_tests, front.0) in
    let from : offset ≤ i = grind (arith, nat_tests, front.1) in
    let to : i < offset + length bytes = grind (arith, nat_tests, parts.1) in
    let at_o = div-add-mod offset 4096 in
    let at_i = div-add-mod i 4096 in
    let small : i % 4096 < 4096 = omega arith in
    let one = right.one_block in
    let quotient : offset / 4096 ≡ i / 4096 = omega arith in
    record {
      block = ap (λ n. first_block g n + offset / 4096) (sym same) ∙ ap (λ n. first_block g e + n) quotient;
      from = omega arith;
      to = omega arith;
    }
written_is g e i k (Point x gen o) right h = absurd (cc)
written_is g e i k (Fill slot s) right h = absurd (cc)
written_is g e i k (Clear slot) right h = absurd (cc)
written_is g e i k Widen right h = absurd (cc)

writes_share : (g : Geometry) (e i : ℕ) (k l : Ledger) (c d : Change) → IsRight k c → IsRight l d
    → writes_at e i c ≡ true → writes_at e i d ≡ true → Shares g c d
writes_share g e i k l c d right_c right_d h_c h_d =
    let a = written_is g e i k c right_c h_c in
    let b = written_is g e i l d right_d h_d in
    record {
      block = a.block ∙ sym b.block;
      place = i % 4096;
      from_c = a.from;
      to_c = a.to;
      from_d = b.from;
      to_d = b.to;
    }

point_of_reset : (e : ℕ) (c : Change) → is_reset e c ≡ true → is_point e c ≡ true
point_of_reset e (Point x gen o) h = (and_parts (e == x) (o == 0) h).0
point_of_reset e (Data x offset bytes) h = absurd (cc)
point_of_reset e (Fill slot s) h = absurd (cc)
point_of_reset e (Clear slot) h = absurd (cc)
point_of_reset e Widen h = absurd (cc)

point_of_slot : (f : SlotFields) → 0 < f.length → (k : Ledger) (c : Change) → IsRight k c → is_of_frame f k c ≡ true
    → (is_point f.extent c ≡ true) ⊎ ((i : ℕ) × (f.offset ≤ i) × (i < f.offset + f.length)
    × (writes_at f.extent i c ≡ true))
point_of_slot f long k (Point x gen o) right h =
    let p2 = and_parts (f.extent == x && f.generation == gen && nat_lt (k.pointer x).offset (f.offset + f.length))
    (nat_le (f.offset + f.length) o) h in
    let p1 = and_parts (f.extent == x && f.generation == gen)
    (nat_lt (k.pointer x).offset (f.offset + f.length)) p2.0 in
    inl (and_parts (f.extent == x) (f.generation == gen) p1.0).0
point_of_slot f long k (Data x offset bytes) right h =
    let parts = and_parts (f.extent == x && nat_lt offset (f.offset + f.length))
    (nat_lt f.offset (offset + length bytes)) h in
    let front = and_parts (f.extent == x) (nat_lt offset (f.offset + f.length)) parts.0 in
    let a : offset < f.offset + f.length = grind (arith, nat_tests, front.1) in
    let b : f.offset < offset + length bytes = grind (arith, nat_tests, parts.1) in
    elim (cases_lt offset f.offset) [
      | inl less ↦
          let c : nat_le offset f.offset ≡ true = grind (arith, nat_tests) in
          inr (f.offset, omega arith, omega arith, and_from _ _ (and_from _ _ front.0 c) parts.1)
      | inr le ↦
          let some = right.some in
          let more : offset < offset + length bytes = omega arith in
          let c : nat_le offset offset ≡ true = grind (arith, nat_tests) in
          let d : nat_lt offset (offset + length bytes) ≡ true = grind (arith, nat_tests) in
          inr (offset, omega arith, omega arith, and_from _ _ (and_from _ _ front.0 c) d)
    ]
point_of_slot f long k (Fill slot s) right h = absurd (cc)
point_of_slot f long k (Clear slot) right h = absurd (cc)
point_of_slot f long k Widen right h = absurd (cc)

no_taker : (e : ℕ) (k : Ledger) (c : Change) → is_reset e c ≡ true → takes_from e k c ≡ true → ⊥
no_taker e k (Point x gen o) h t = cc
no_taker e k (Data x offset bytes) h t = cc
no_taker e k (Fill slot s) h t = cc
no_taker e k (Clear slot) h t = cc
no_taker e k Widen h t = cc

reset_comes : (e : ℕ) (k l : Ledger) (x c : Change) → is_reset e x ≡ true → takes_from e l c ≡ true
    → comes_after k x l c ≡ true
reset_comes e k l (Point y gen o) c h t =
    let parts = and_parts (e == y) (o == 0) h in
    let same : e ≡ y = grind (arith, nat_tests, parts.0) in
    and_from _ _ parts.1 (subst (λ n. takes_from n l c ≡ true) same t)
reset_comes e k l (Data x offset bytes) c h t = absurd (cc)
reset_comes e k l (Fill slot s) c h t = absurd (cc)
reset_comes e k l (Clear slot) c h t = absurd (cc)
reset_comes e k l Widen c h t = absurd (cc)

clear_comes : (k l : Ledger) (x c : Change) → is_clear x ≡ true → is_clear c ≡ true → comes_after k x l c ≡ true
clear_comes k l (Clear slot) c h t = t
clear_comes k l (Point y gen o) c h t = absurd (cc)
clear_comes k l (Data x offset bytes) c h t = absurd (cc)
clear_comes k l (Fill slot s) c h t = absurd (cc)
clear_comes k l Widen c h t = absurd (cc)

module _ (first : Ledger) (made : Made) (earlier : List Made) (well : AreWellMade first earlier) where
  inside_all : (other : Made) (before : List Made) → StandsIn earlier other before
      → Contains (patches_of first.geometry (made ∷ earlier)) (patch_of first.geometry (length before) other)
  inside_all other before s = Contains-from_In _ _ (In-left (patches_of first.geometry earlier) _ _
      (patches_in first.geometry earlier other before s))

  -- a number that is named
  named_directly : (m : Made) (n : ℕ) (other : Made) (before : List Made) → is_among m.after (length before) ≡ true
      → depends_directly (patch_of first.geometry n m) (patch_of first.geometry (length before) other) ≡ true
  named_directly m n other before h = or_left (is_among m.after (length before)) _ h

  -- a byte in common with a later one
  shared_directly : (m : Made) (n : ℕ) (other : Made) (before : List Made) → length before < n
      → Shares first.geometry m.change other.change → depends_directly (patch_of first.geometry n m)
      (patch_of first.geometry (length before) other) ≡ true
  shared_directly m n other before less s =
      let below : nat_lt (length before) n ≡ true = grind (arith, nat_tests) in
      let p : Patch = patch_of first.geometry n m in
      let q : Patch = patch_of first.geometry (length before) other in
      let shared : shares_byte p q ≡ true = shared_at p q s.place s.block s.from_c s.to_c s.from_d s.to_d in
      let both : (nat_lt (length before) n && shares_byte p q) ≡ true = and_from _ _ below shared in
      or_right (is_among m.after (length before)) _ both

  -- by the newest of a kind each of which shares bytes with the others
  by_newest : (kind : Change → Bool) (from : Made) (n : ℕ)
      → ((x y : Made) (bx by : List Made) → StandsIn earlier x bx → StandsIn earlier y by → kind x.change ≡ true
      → kind y.change ≡ true → Shares first.geometry x.change y.change)
      → IfSome (newest kind earlier) (λ k. is_among from.after k ≡ true)
      → (other : Made) (before : List Made) → StandsIn earlier other before → kind other.change ≡ true
      → Reaches (patches_of first.geometry (made ∷ earlier)) (patch_of first.geometry n from)
      (patch_of first.geometry (length before) other)
  by_newest kind from n share named other before s t =
      let r = newest_is kind earlier s.later other before s.are t in
      let name : is_among from.after (length r.bx) ≡ true =
      subst (λ o. IfSome o (λ k. is_among from.after k ≡ true)) r.is named in
      elim (below earlier r.x other r.bx before r.stands s r.least) [
        | inl same ↦ directly (named_directly from n other before
            (subst (λ b. is_among from.after (length b) ≡ true) same.1 name))
        | inr inner ↦
            let less = earlier_number r.bx other before inner in
            onward {q = patch_of first.geometry (length r.bx) r.x} (named_directly from n r.x r.bx name)
            (inside_all r.x r.bx r.stands)
            (directly (shared_directly r.x (length r.bx) other before less
            (share r.x other r.bx before r.stands s r.kind_is t)))
      ]

  -- what a patch reaches it reaches among all
  reaches_on : (x : Made) (bx : List Made) → StandsIn earlier x bx → (q : Patch)
      → Reaches (patches_of first.geometry (x ∷ bx)) (patch_of first.geometry (length bx) x) q
      → Reaches (patches_of first.geometry (made ∷ earlier)) (patch_of first.geometry (length bx) x) q
  reaches_on x bx s q r = reaches_more (patches_of first.geometry (x ∷ bx)) (patches_of first.geometry (made ∷ earlier))
      (λ p i.
      Contains-from_In _ _ (In-left (patches_of first.geometry earlier) _ _
      (subst (λ ms. In (patches_of first.geometry ms) p) (sym s.are)
      (patches_more first.geometry s.later (x ∷ bx) p (In-from_Contains _ _ i))))) _ q r

  by_clears : Names made (newest is_clear earlier) → (other : Made) (before : List Made) → StandsIn earlier other before
      → is_clear other.change ≡ true
      → Reaches (patches_of first.geometry (made ∷ earlier)) (patch_of first.geometry (length earlier) made)
      (patch_of first.geometry (length before) other)
  by_clears named other before s t =
      let r = newest_is is_clear earlier s.later other before s.are t in
      let name : is_among made.after (length r.bx) ≡ true = subst (λ o. Names made o) r.is named in
      elim (below earlier r.x other r.bx before r.stands s r.least) [
        | inl same ↦ directly (named_directly made (length earlier) other before
            (subst (λ b. is_among made.after (length b) ≡ true) same.1 name))
        | inr inner ↦
            let w = well_at first earlier r.x r.bx well r.stands in
            onward {q = patch_of first.geometry (length r.bx) r.x} (named_directly made (length earlier) r.x r.bx name)
            (inside_all r.x r.bx r.stands)
            (reaches_on r.x r.bx r.stands _ (w.reaches other before inner
            (clear_comes (after_all first r.bx) (after_all first before) r.x.change other.change r.kind_is t)))
      ]

  share_points : (e : ℕ) (x y : Made) (bx by : List Made) → StandsIn earlier x bx → StandsIn earlier y by
      → is_point e x.change ≡ true → is_point e y.change ≡ true → Shares first.geometry x.change y.change
  share_points e x y bx by s t h k = points_share first.geometry e x.change y.change h k

  share_resets : (e : ℕ) (x y : Made) (bx by : List Made) → StandsIn earlier x bx → StandsIn earlier y by
      → is_reset e x.change ≡ true → is_reset e y.change ≡ true → Shares first.geometry x.change y.change
  share_resets e x y bx by s t h k = points_share first.geometry e x.change y.change (point_of_reset e x.change h)
      (point_of_reset e y.change k)

  share_widens : (x y : Made) (bx by : List Made) → StandsIn earlier x bx → StandsIn earlier y by
      → is_widen x.change ≡ true → is_widen y.change ≡ true → Shares first.geometry x.change y.change
  share_widens x y bx by s t h k = widens_share first.geometry x.change y.change h k

  share_bytes : (e i : ℕ) (x y : Made) (bx by : List Made) → StandsIn earlier x bx → StandsIn earlier y by
      → writes_at e i x.change ≡ true → writes_at e i y.change ≡ true → Shares first.geometry x.change y.change
  share_bytes e i x y bx by s t h k = writes_share first.geometry e i (after_all first bx)
      (after_all first by) x.change y.change (well_at first earlier x bx well s).right
      (well_at first earlier y by well t).right h k

  by_frame : (f : SlotFields) → 0 < f.length → NamesFrame made earlier f → (other : Made) (before : List Made)
      → StandsIn earlier other before → is_of_frame f (after_all first before) other.change ≡ true
      → Reaches (patches_of first.geometry (made ∷ earlier)) (patch_of first.geometry (length earlier) made)
      (patch_of first.geometry (length before) other)
  by_frame f long n other before s t = elim (point_of_slot f long (after_all first before) other.change
      (well_at first earlier other before well s).right t) [
        | inl point ↦ by_newest (is_point f.extent) made (length earlier) (share_points f.extent)
            (subst (λ o. IfSome o (λ k. is_among made.after k ≡ true)) (sym n.newest_pointer) n.named) other before s
            point
        | inr at ↦ onward {q = patch_of first.geometry (length n.before) n.pointer}
            (named_directly made (length earlier) n.pointer n.before n.named) (inside_all n.pointer n.before n.stands)
            (by_newest (writes_at f.extent at.0) n.pointer (length n.before) (share_bytes f.extent at.0)
            (n.bytes at.0 at.1 at.2) other before s at.3)
      ]

  by_takers : (e generation offset : ℕ) → made.change ≡ Point e generation offset → offset ≡ 0
      → NamesOfPoint first made earlier e offset → (other : Made) (before : List Made) → StandsIn earlier other before
      → takes_from e (after_all first before) other.change ≡ true
      → Reaches (patches_of first.geometry (made ∷ earlier)) (patch_of first.geometry (length earlier) made)
      (patch_of first.geometry (length before) other)
  by_takers e generation offset is start names other before s t = by_last (newest (is_reset e) earlier) refl
    where
      by_last : (o : Option ℕ) → newest (is_reset e) earlier ≡ o
          → Reaches (patches_of first.geometry (made ∷ earlier)) (patch_of first.geometry (length earlier) made)
          (patch_of first.geometry (length before) other)
      by_last None none = directly (named_directly made (length earlier) other before
          (names start other before s t (subst (λ o. IfSome o (λ n. n < length before)) (sym none) tt)))
      by_last (Some n) some = elim (cases_lt n (length before)) [
        | inl less ↦ directly (named_directly made (length earlier) other before
            (names start other before s t (subst (λ o. IfSome o (λ n. n < length before)) (sym some) less)))
        | inr le ↦
            let r = newest_found (is_reset e) earlier n some in
            let at = r.number in
            elim (below earlier r.x other r.bx before r.stands s (omega arith)) [
              | inl same ↦ absurd (no_taker e (after_all first before) other.change
                  (ap (λ y. is_reset e y.change) (sym same.0) ∙ r.kind_is) t)
              | inr inner ↦
                  let w = well_at first earlier r.x r.bx well r.stands in
                  let less = earlier_number earlier r.x r.bx r.stands in
                  let mine : is_point e made.change ≡ true = ap (is_point e) is
                  ∙ (let own : (e == e) ≡ true = grind (arith, nat_tests) in own) in
                  onward {q = patch_of first.geometry (length r.bx) r.x}
                  (shared_directly made (length earlier) r.x r.bx less
                  (points_share first.geometry e made.change r.x.change mine
                  (point_of_reset e r.x.change r.kind_is)))
                  (inside_all r.x r.bx r.stands)
                  (reaches_on r.x r.bx r.stands _ (w.reaches other before inner
                  (reset_comes e (after_all first r.bx)
                  (after_all first before) r.x.change other.change r.kind_is t)))
            ]
      ]

  suffices : (c : Change) → made.change ≡ c → IsRight (after_all first earlier) c → HasNames first made earlier c
      → (other : Made) (before : List Made) → StandsIn earlier other before
      → comes_after (after_all first earlier) c (after_all first before) other.change ≡ true
      → Reaches (patches_of first.geometry (made ∷ earlier)) (patch_of first.geometry (length earlier) made)
      (patch_of first.geometry (length before) other)
  suffices (Data e offset bytes) is right names other before s t =
      by_newest (is_reset e) made (length earlier) (share_resets e) names other before s t
  suffices (Point e generation offset) is right names other before s t =
      let parts = and_parts (offset == 0) (takes_from e (after_all first before) other.change) t in
      let start : offset ≡ 0 = grind (arith, nat_tests, parts.0) in
      by_takers e generation offset is start names other before s parts.1
  suffices (Fill slot f) is right names other before s t =
      elim (or_cases (is_of_frame f (after_all first before) other.change || is_widen other.change)
      (is_none ((after_all first earlier).slot slot) && is_clear other.change) t) [
        | inl front ↦ elim (or_cases (is_of_frame f (after_all first before) other.change)
            (is_widen other.change) front) [
              | inl frame ↦ by_frame f (let long = right.fits.some_frame in
                  omega arith) names.frame other before s frame
              | inr widen ↦ by_newest is_widen made (length earlier) share_widens names.upgrade other before s widen
            ]
        | inr claim ↦
            let parts = and_parts (is_none ((after_all first earlier).slot slot)) (is_clear other.change) claim in
            by_clears (names.cleared (empty_is ((after_all first earlier).slot slot) parts.0)) other before s parts.1
      ]
  suffices (Clear slot) is right names other before s t = by_clears names other before s t
  suffices Widen is right names other before s t = absurd (cc)

-- the law, kind by kind
pub names_suffice : NamesSuffice
names_suffice first made earlier well right names = record {
  right = right;
  reaches = suffices first made earlier well made.change refl right names;
}
