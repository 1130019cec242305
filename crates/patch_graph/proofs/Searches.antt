-- Searches.
use Rattle.std.proofs.Common.{◌≡◌, ℕ, zero, suc, ◌+◌, ◌<◌, ◌≤◌, ◌∙◌, inl, inr, Bool, true, false, cond, List, [], ◌∷◌, length, take, refl, sym, ap, arith, subst, Option, Some}
use Rattle.std.specs.Prelude.{◌==◌, ◌≢◌, slice_index_or, slice_set}
use Rattle.std.specs.List.{list_any}
use Rattle.std.specs.Option.{option_map_or}
use Rattle.std.proofs.lemmas.Bool.{cases_Bool, cases_eq, both_ways, eqb-true}
use Rattle.std.proofs.lemmas.List.{get_or-set_same, get_or-set_other, length-set, length-take}
use Rattle.std.proofs.lemmas.List.Sums.{sum_by-set, sum_by-cons, count_by-le-length}
use Rattle.patch_model.specs.Member.{In, list_any-at, Contains-from_In}
use Rattle.patch_links.specs.State.{Slots, Numbers, find, leads_at}
use Rattle.patch_graph.specs.Marks.{is_marked, HoldsMarked, marked_count}
use Rattle.patch_graph.specs.Search.{queued_at, admits, steps, AreNext, Chain, once, further, Reaches, IsSearch, IsReachable, Visited, IsLook}
use Rattle.patch_graph.specs.declared.searching.Way.{Way}
use Rattle.patch_graph.proofs.Places.{at-place}
use Rattle.patch_graph.proofs.ReadySet.{cases_found}

abbrev one_for : Bool → ℕ
one_for b = cond b 1 0

one-most : (b : Bool) → one_for b ≤ 1
one-most true = omega arith
one-most false = omega arith

count-unmarked : (marks : List Bool) (key : ℕ) → key < length marks → is_marked marks key ≡ false → marked_count marks < length marks
count-unmarked [] key h u = absurd (omega arith)
count-unmarked (b ∷ bs) zero h u =
    let c = sum_by-cons one_for b bs in
    let none : ◌≡◌ {A = ℕ} (one_for b) 0 = ap one_for u in
    let most : marked_count bs ≤ length bs = count_by-le-length (λ b. b) bs in
    omega (arith, c, none, most)
count-unmarked (b ∷ bs) (suc key) h u =
    let c = sum_by-cons one_for b bs in
    let rest = count-unmarked bs key (omega arith) u in
    let most : one_for b ≤ 1 = one-most b in
    omega (arith, c, rest, most)

reaches-far : (goes : ℕ → ℕ → Bool) (from k j : ℕ) → Reaches goes from k → goes k j ≡ true → Chain goes from j
reaches-far goes from k j (inl e) t = once (ap (λ z. goes z j) e ∙ t)
reaches-far goes from k j (inr chain) t = further chain t

set-marked : (marks : List Bool) (key other : ℕ) → key < length marks → is_marked marks other ≡ true → is_marked (slice_set marks key true) other ≡ true
set-marked marks key other low t = elim (cases_eq other key) [
  | inl e ↦ subst (λ k. is_marked (slice_set marks key true) k ≡ true) (sym e) (get_or-set_same marks key true false low)
  | inr d ↦ get_or-set_other marks key other true false d ∙ t
]

marked-before : (marks : List Bool) (key other : ℕ) → other ≢ key → is_marked (slice_set marks key true) other ≡ true → is_marked marks other ≡ true
marked-before marks key other d t = sym (get_or-set_other marks key other true false d) ∙ t

count-marked : (marks : List Bool) (key : ℕ) → key < length marks → is_marked marks key ≡ false → marked_count (slice_set marks key true) ≡ marked_count marks + 1
count-marked marks key low u =
    let e = sum_by-set {X = Bool} one_for marks key true false low in
    let none : ◌≡◌ {A = ℕ} (one_for (is_marked marks key)) 0 = ap one_for u in
    omega (arith, e, none)

-- a class that the search reaches is put at the queue's end
opened : (goes : ℕ → ℕ → Bool) (from stop : ℕ) (marks : List Bool) (queue : List ℕ) (head tail key : ℕ) → IsSearch goes from stop marks queue head tail
    → key < length marks → is_marked marks key ≡ false → tail < length queue → Chain goes from key
    → IsSearch goes from stop (slice_set marks key true) (slice_set queue tail key) head (tail + 1)
opened goes from stop marks queue head tail key s low u room l = record {
  first = set-marked marks key from low s.first;
  queued = λ i h. elim (cases_eq i tail) [
    | inl e ↦ subst (λ k. is_marked (slice_set marks key true) k ≡ true) (sym (ap (queued_at (slice_set queue tail key)) e ∙ get_or-set_same queue tail key 0 room)) (get_or-set_same marks key true false low)
    | inr d ↦ subst (λ k. is_marked (slice_set marks key true) k ≡ true) (sym (get_or-set_other queue tail i key 0 d)) (set-marked marks key (queued_at queue i) low (s.queued i (omega arith)))
  ];
  listed = λ k t. elim (cases_eq k key) [
    | inl e ↦ (tail, omega arith, get_or-set_same queue tail key 0 room ∙ sym e)
    | inr d ↦
        let w = s.listed k (marked-before marks key k d t) in
        let h = w.1 in
        (w.0, omega arith, get_or-set_other queue tail w.0 key 0 (λ e. omega arith) ∙ w.2)
  ];
  reached = λ k t. elim (cases_eq k key) [
    | inl e ↦ inr (subst (λ j. Chain goes from j) (sym e) l)
    | inr d ↦ s.reached k (marked-before marks key k d t)
  ];
  counted = let c = count-marked marks key low u in let d = s.counted in omega arith;
  ordered = let o = s.ordered in omega arith;
  done = λ i j h other t low2.
      let o = s.ordered in
      let n : i ≢ tail = λ e. omega arith in
      let same = get_or-set_other queue tail i key 0 n in
      let long = length-set marks key true in
      set-marked marks key j low (s.done i j h (λ e. other (same ∙ e)) (sym (ap (λ k. goes k j) same) ∙ t) (omega arith));
}

In-place : (ns : List ℕ) (m : ℕ) → m < length ns → In ns (slice_index_or ns m 0)
In-place [] m h = absurd (omega arith)
In-place (n ∷ ns) zero h = inl refl
In-place (n ∷ ns) (suc m) h = inr (In-place ns m (omega arith))

some_key : (a b : ℕ) → ◌≡◌ {A = Option ℕ} (Some a) (Some b) → a ≡ b
some_key a b e = cc

-- one more number of those by which the search goes on
pub looked : (slots : Slots) (numbers : Numbers) (way : Way) (from stop key : ℕ) (next : List ℕ) (old new : List Bool) (old_queue queue : List ℕ) (head tail end upto : ℕ)
    → AreNext slots numbers way key next → IsLook slots numbers way from stop key next old old_queue head tail upto → upto < length next
    → Visited numbers way (slice_index_or next upto 0) old new old_queue queue tail end
    → IsLook slots numbers way from stop key next new queue head end (upto + 1)
looked slots numbers way from stop key next old new old_queue queue head tail end upto are l low (inl o) =
    let s = l.search in
    let h = l.inside in
    let here : is_marked old key ≡ true = subst (λ k. is_marked old k ≡ true) l.here (s.queued head h) in
    let goes : steps slots numbers way key o.key ≡ true = elim (are.each (slice_index_or next upto 0) o.key (In-place next upto low) o.at o.admitted) [
      | inl e ↦ absurd (both_ways _ o.unmarked (ap (is_marked old) e ∙ here))
      | inr t ↦ t
    ] in
    let opens = opened (steps slots numbers way) from stop old old_queue head tail o.key s o.low o.unmarked o.room (reaches-far (steps slots numbers way) from key o.key (s.reached key here) goes) in
    let long = length-set old o.key true in
    let long2 = length-set old_queue tail o.key in
    let long3 = l.long in
    rw (o.marks, o.queue_is, o.end_is) (record {
      search = opens;
      here = get_or-set_other old_queue tail head o.key 0 (λ e. omega arith) ∙ l.here;
      inside = omega arith;
      long = omega arith;
      seen = λ m j b found let_in small. elim (cases_eq m upto) [
        | inl e ↦
            let same : o.key ≡ j = some_key o.key j (sym o.at ∙ sym (ap (λ x. find numbers (slice_index_or next x 0)) e) ∙ found) in
            subst (λ k. is_marked (slice_set old o.key true) k ≡ true) same (get_or-set_same old o.key true false o.low)
        | inr d ↦ set-marked old o.key j o.low (l.seen m j (omega arith) found let_in (omega arith))
      ];
    })
looked slots numbers way from stop key next old new old_queue queue head tail end upto are l low (inr p) =
    let s = l.search in
    let long3 = l.long in
    rw (p.marks, p.queue_is, p.end_is) (record {
      search = s;
      here = l.here;
      inside = l.inside;
      long = l.long;
      seen = λ m j b found let_in small. elim (cases_eq m upto) [
        | inl e ↦ elim (cases_Bool (is_marked old j)) [
          | inl t ↦ t
          | inr u ↦
              let few = count-unmarked old j small u in
              let many = s.counted in
              let t = p.marked j (sym (ap (λ x. find numbers (slice_index_or next x 0)) e) ∙ found) let_in small (omega arith) in absurd (both_ways _ u t)
        ]
        | inr d ↦ l.seen m j (omega arith) found let_in small
      ];
    })

get_any : (ns : List ℕ) (m d : ℕ) → m < length ns → slice_index_or ns m 0 ≡ slice_index_or ns m d
get_any [] m d h = absurd (omega arith)
get_any (n ∷ ns) zero d h = refl
get_any (n ∷ ns) (suc m) d h = get_any ns m d (omega arith)

pub found-lead : (numbers : Numbers) (j n : ℕ) → leads_at numbers j n ≡ true → find numbers n ≡ Some j
found-lead numbers j n t = elim (cases_found numbers n) [
  | inl none ↦ let u : leads_at numbers j n ≡ false = ap (λ q. option_map_or (λ k. k == j) q false) none in absurd (both_ways _ u t)
  | inr s ↦
      let u : (s.0 == j) ≡ true = sym (ap (λ q. option_map_or (λ k. k == j) q false) s.1) ∙ t in
      s.1 ∙ ap (λ z. Some z) (eqb-true s.0 j u)
]

led-marked : (slots : Slots) (numbers : Numbers) (way : Way) (from stop key : ℕ) (next : List ℕ) (marks : List Bool) (queue : List ℕ) (head tail : ℕ)
    → IsLook slots numbers way from stop key next marks queue head tail (length next) → (j : ℕ) → list_any (leads_at numbers j) next ≡ true → admits way j ≡ true → j < length marks → is_marked marks j ≡ true
led-marked slots numbers way from stop key next marks queue head tail l j t let_in low =
    let w = list_any-at (leads_at numbers j) next t in
    let k = Contains-from_In next w.0 w.1 in
    let place : slice_index_or next k.0 0 ≡ w.0 = get_any next k.0 w.0 k.1 ∙ k.2 in
    l.seen k.0 j k.1 (ap (find numbers) place ∙ found-lead numbers j w.0 w.2) let_in low

-- where all of them were looked at
pub look-done : (slots : Slots) (numbers : Numbers) (way : Way) (from stop key : ℕ) (next : List ℕ) (marks : List Bool) (queue : List ℕ) (head tail : ℕ)
    → AreNext slots numbers way key next → IsLook slots numbers way from stop key next marks queue head tail (length next) → IsSearch (steps slots numbers way) from stop marks queue (head + 1) tail
look-done slots numbers way from stop key next marks queue head tail are l =
    let s = l.search in
    let h = l.inside in
    record {
      first = s.first;
      queued = s.queued;
      listed = s.listed;
      reached = s.reached;
      counted = s.counted;
      ordered = omega arith;
      done = λ i j d other t low. elim (cases_eq i head) [
        | inl e ↦
            let at : queued_at queue i ≡ key = ap (queued_at queue) e ∙ l.here in
            elim (are.all j (sym (ap (λ k. steps slots numbers way k j) at) ∙ t)) [
              | inl self ↦ ap (is_marked marks) (self ∙ sym l.here) ∙ s.queued head h
              | inr led ↦ led-marked slots numbers way from stop key next marks queue head tail l j led.0 led.1 low
            ]
        | inr n ↦ s.done i j (omega arith) other t low
      ];
    }

pub look-none-yet : (slots : Slots) (numbers : Numbers) (way : Way) (from stop : ℕ) (next : List ℕ) (marks : List Bool) (queue : List ℕ) (head tail : ℕ) → head < tail → length marks ≤ length queue
    → IsSearch (steps slots numbers way) from stop marks queue head tail → IsLook slots numbers way from stop (queued_at queue head) next marks queue head tail 0
look-none-yet slots numbers way from stop next marks queue head tail h long s = record { search = s; here = refl; inside = h; long = long; seen = λ m j b. absurd (omega arith) }

-- from the key stop it doesn't go on
pub look-stop : (goes : ℕ → ℕ → Bool) (from stop : ℕ) (marks : List Bool) (queue : List ℕ) (head tail : ℕ) → head < tail
    → queued_at queue head ≡ stop → IsSearch goes from stop marks queue head tail → IsSearch goes from stop marks queue (head + 1) tail
look-stop goes from stop marks queue head tail h here s = record {
  first = s.first;
  queued = s.queued;
  listed = s.listed;
  reached = s.reached;
  counted = s.counted;
  ordered = omega arith;
  done = λ i j d other t low. elim (cases_eq i head) [
    | inl e ↦ absurd (other (ap (queued_at queue) e ∙ here))
    | inr n ↦ s.done i j (omega arith) other t low
  ];
}

-- a queue holds no more than there are marks
pub tail-within : (goes : ℕ → ℕ → Bool) (from stop : ℕ) (marks : List Bool) (queue : List ℕ) (head tail : ℕ) → IsSearch goes from stop marks queue head tail
    → tail ≤ length marks
tail-within goes from stop marks queue head tail s =
    let most : marked_count marks ≤ length marks = count_by-le-length (λ b. b) marks in
    let many = s.counted in omega arith

pub take-place : (xs : List ℕ) (n i : ℕ) → i < n → slice_index_or (take n xs) i 0 ≡ slice_index_or xs i 0
take-place xs zero i h = absurd (omega arith)
take-place [] (suc n) i h = refl
take-place (x ∷ xs) (suc n) zero h = refl
take-place (x ∷ xs) (suc n) (suc i) h = take-place xs n i (omega arith)

pub found-held : (goes : ℕ → ℕ → Bool) (from stop : ℕ) (marks : List Bool) (queue : List ℕ) (head tail : ℕ) → IsSearch goes from stop marks queue head tail
    → tail ≤ length queue → HoldsMarked marks (take tail queue)
found-held goes from stop marks queue head tail s room key t =
    let w = s.listed key t in
    let b = w.1 in
    let l = length-take tail queue in
    at-place (take tail queue) w.0 key (omega arith) (take-place queue tail w.0 w.1 ∙ w.2)

-- the marked ones are the first of a queue that is as long as the marks
pub course_held : (goes : ℕ → ℕ → Bool) (from stop : ℕ) (marks : List Bool) (queue : List ℕ) (head tail : ℕ) → IsSearch goes from stop marks queue head tail
    → length marks ≤ length queue → HoldsMarked marks (take tail queue)
course_held goes from stop marks queue head tail s long =
    let most = tail-within goes from stop marks queue head tail s in
    found-held goes from stop marks queue head tail s (omega (arith, most, long))

-- a queue that is at its end
pub found-all : (goes : ℕ → ℕ → Bool) (from stop : ℕ) (marks : List Bool) (queue : List ℕ) (head tail : ℕ) → IsSearch goes from stop marks queue head tail
    → tail ≤ head → IsReachable goes from stop marks
found-all goes from stop marks queue head tail s h = record {
  first = s.first;
  reached = s.reached;
  closed = λ k j t other led low. let w = s.listed k t in let b = w.1 in s.done w.0 j (omega arith) (λ e. other (sym w.2 ∙ e)) (ap (λ z. goes z j) w.2 ∙ led) low;
}

count-none : (marks : List Bool) → ((k : ℕ) → is_marked marks k ≡ false) → marked_count marks ≡ 0
count-none [] h = refl
count-none (b ∷ bs) h =
    let c = sum_by-cons one_for b bs in
    let none : ◌≡◌ {A = ℕ} (one_for b) 0 = ap one_for (h 0) in
    let rest : marked_count bs ≡ 0 = count-none bs (λ k. h (suc k)) in
    omega (arith, c, none, rest)

-- a search that begins
pub begins : (goes : ℕ → ℕ → Bool) (from stop : ℕ) (marks : List Bool) (queue : List ℕ) → ((k : ℕ) → is_marked marks k ≡ false) → from < length marks → length marks ≤ length queue
    → IsSearch goes from stop (slice_set marks from true) (slice_set queue 0 from) 0 1
begins goes from stop marks queue none low long =
    let some : 0 < length queue = omega arith in
    let at : queued_at (slice_set queue 0 from) 0 ≡ from = get_or-set_same queue 0 from 0 some in
    let here : is_marked (slice_set marks from true) from ≡ true = get_or-set_same marks from true false low in
    record {
      first = here;
      queued = λ i h. let z : i ≡ 0 = omega arith in subst (λ k. is_marked (slice_set marks from true) k ≡ true) (sym (ap (queued_at (slice_set queue 0 from)) z ∙ at)) here;
      listed = λ k t. elim (cases_eq k from) [ inl e ↦ (0, omega arith, at ∙ sym e) | inr d ↦ absurd (both_ways _ (none k) (marked-before marks from k d t)) ];
      reached = λ k t. elim (cases_eq k from) [ inl e ↦ inl (sym e) | inr d ↦ absurd (both_ways _ (none k) (marked-before marks from k d t)) ];
      counted = let c = count-marked marks from low (none from) in let z = count-none marks none in omega arith;
      ordered = omega arith;
      done = λ i j h. absurd (omega arith);
    }

pub look-ends : (slots : Slots) (numbers : Numbers) (way : Way) (from stop key : ℕ) (next : List ℕ) (marks : List Bool) (queue : List ℕ) (head tail upto : ℕ)
    → IsLook slots numbers way from stop key next marks queue head tail upto → length next ≤ upto → IsLook slots numbers way from stop key next marks queue head tail (length next)
look-ends slots numbers way from stop key next marks queue head tail upto l h = record { search = l.search; here = l.here; inside = l.inside; long = l.long; seen = λ m j b. l.seen m j (omega arith) }
