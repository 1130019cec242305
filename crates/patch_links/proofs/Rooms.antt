-- Room for one more class.
use Rattle.std.proofs.Common.{◌≡◌, ℕ, zero, suc, ◌+◌, ◌<◌, ◌≤◌, ◌⊎◌, ◌∙◌, inl, inr, Bool, false, List, [], ◌∷◌, ◌++◌, length, refl, sym, ap, arith, subst, Option, Some, None, take, length-append}
use Rattle.std.specs.Prelude.{◌==◌, ◌&&◌, not, slice_set, slice_index_or, count_by, is_some}
use Rattle.std.specs.Option.{option_map, option_map_or}
use Rattle.std.proofs.lemmas.Bool.{cases_eq, eq-eqb, ne_eqb}
use Rattle.std.proofs.lemmas.List.{get_or-set_same, get_or-set_other}
use Rattle.std.proofs.lemmas.List.Sums.{count_by-le-length}
use Rattle.std.proofs.Math.Seq.{map-set_same}
use Rattle.patch_model.specs.Member.{In}
use Rattle.patch_links.specs.State.{Node, Nodes, Numbers, find, leads_at, node_at, is_at, changed_at}
use Rattle.patch_links.specs.Waiting.{of_block, ready_in, is_unmet, unmet_of}
use Rattle.patch_links.specs.Lists.{OfBlock, Blocks, of_at, once, due_in, flying_in, IsListed, AreListed, AreSettled}
use Rattle.patch_links.specs.Invariants.{has_member, names, AreBelow, Stands}
use Rattle.patch_links.specs.Adding.{with_room, IsRoomier, HasRoom, HasRoomTo, HasRoomForAll, followed, followed_to, told, retold, AreFollowed, KeepsLists, LeadNowhere}
use Rattle.patch_links.specs.Joining.{AreTied}
use Rattle.patch_links.proofs.Counts.{count-cons, count-last}
use Rattle.patch_links.proofs.Places.{cases_option, same_some, below-nodes, changed-here, changed-else, changed-long}
use Rattle.patch_links.proofs.Waits.{unmet-alike}
use Rattle.patch_links.proofs.Listings.{listed-alike}

pub roomier-same : (nodes : Nodes) → IsRoomier nodes nodes
roomier-same nodes = record { slots = refl; same = λ k. refl; grows = λ k x y at at2. let e = ap (λ z. z.room) (same_some x y (sym at ∙ at2)) in omega arith }

-- room that was made stays room where nothing changes
pub room-alike : (numbers later : Numbers) (after same : List ℕ) (old new : Nodes) → later ≡ numbers → after ≡ same → new ≡ old → HasRoomForAll numbers (length after) after old → HasRoomForAll later (length same) same new
room-alike numbers later after same old new p q r room =
    subst (λ (ns : Nodes). HasRoomForAll later (length same) same ns) (sym r)
    (subst (λ (found : Numbers). HasRoomForAll found (length same) same old) (sym p) (subst (λ (xs : List ℕ). HasRoomForAll numbers (length xs) xs old) q room))

pub roomier-set : (nodes : Nodes) (key : ℕ) (x y : Node) → node_at nodes key ≡ Some x → y ≡ record x { room = y.room } → x.room ≤ y.room → IsRoomier nodes (slice_set nodes key (Some y))
roomier-set nodes key x y at same grows =
    let low = below-nodes nodes key x at in
    let here : node_at (slice_set nodes key (Some y)) key ≡ Some y = get_or-set_same nodes key (Some y) None low in
    record {
      slots = map-set_same (option_map (λ z. z.class)) nodes key (Some y) None (ap (λ z. Some z.class) same ∙ sym (ap (option_map (λ z. z.class)) at));
      same = λ k. elim (cases_eq k key) [
        | inl e ↦ rw e (ap (option_map (with_room 0)) here ∙ ap (λ z. Some (with_room 0 z)) same ∙ sym (ap (option_map (with_room 0)) at))
        | inr d ↦ ap (option_map (with_room 0)) (get_or-set_other nodes key k (Some y) None d)
      ];
      grows = λ k a b at2 at3. elim (cases_eq k key) [
        | inl e ↦
            let ax = ap (λ z. z.room) (same_some a x (sym at2 ∙ ap (node_at nodes) e ∙ at)) in
            let by = ap (λ z. z.room) (same_some b y (sym at3 ∙ ap (node_at (slice_set nodes key (Some y))) e ∙ here)) in omega arith
        | inr d ↦ let ab = ap (λ z. z.room) (same_some a b (sym at2 ∙ sym (get_or-set_other nodes key k (Some y) None d) ∙ at3)) in omega arith
      ];
    }

-- what is left of a node that may have got room
pub roomless-was : (old new : Nodes) (k : ℕ) (y : Node) → IsRoomier old new → node_at new k ≡ Some y → (x : Node) × (node_at old k ≡ Some x) × (with_room 0 y ≡ with_room 0 x)
roomless-was old new k y r at = elim (cases_option (node_at old k)) [
  | inl none ↦
      let a : option_map (with_room 0) (node_at new k) ≡ Some (with_room 0 y) = ap (option_map (with_room 0)) at in
      let b : option_map (with_room 0) (node_at old k) ≡ None = ap (option_map (with_room 0)) none in
      let e = r.same k in absurd (cc)
  | inr x ↦ (x.0, x.1, same_some (with_room 0 y) (with_room 0 x.0) (sym (ap (option_map (with_room 0)) at) ∙ r.same k ∙ ap (option_map (with_room 0)) x.1))
]

pub roomier-then : (a b c : Nodes) → IsRoomier a b → IsRoomier b c → IsRoomier a c
roomier-then a b c p q = record {
  slots = q.slots ∙ p.slots;
  same = λ k. q.same k ∙ p.same k;
  grows = λ k x z at at2.
      let y = roomless-was b c k z q at2 in
      let m = p.grows k x y.0 at y.1 in
      let n = q.grows k y.0 z y.1 at2 in omega arith;
}

pub room-kept : (more key : ℕ) (old new : Nodes) → IsRoomier old new → HasRoom more key old → HasRoom more key new
room-kept more key old new r h y at =
    let x = roomless-was old new key y r at in
    let a = h x.0 x.1 in
    let b = r.grows key x.0 y x.1 at in
    let e : length y.followers ≡ length x.0.followers = ap (λ z. length z.followers) x.2 in omega arith

in-more : (xs : List ℕ) (i n m : ℕ) → i < length xs → slice_index_or xs i 0 ≡ m → In (take (suc i) xs) n → In (take i xs) n ⊎ (m ≡ n)
in-more [] i n m h at t = absurd (omega arith)
in-more (x ∷ xs) zero n m h at (inl e) = inr (sym at ∙ e)
in-more (x ∷ xs) zero n m h at (inr t) = absurd t
in-more (x ∷ xs) (suc i) n m h at (inl e) = inl (inl e)
in-more (x ∷ xs) (suc i) n m h at (inr t) = elim (in-more xs i n m (omega arith) at t) [ inl g ↦ inl (inr g) | inr e ↦ inr e ]

-- so far: the first of these lead to classes with room
pub record AreReserved (numbers : Numbers) (more : ℕ) (after : List ℕ) (old new : Nodes) (place : ℕ) : Type 0 where
  pub roomier : IsRoomier old new
  pub room : HasRoomForAll numbers more (take place after) new

pub reserved-none : (numbers : Numbers) (more : ℕ) (after : List ℕ) (nodes : Nodes) → AreReserved numbers more after nodes nodes 0
reserved-none numbers more after nodes = record { roomier = roomier-same nodes; room = λ n i. absurd i }

-- the first numbers lead nowhere
pub gone-none : (numbers : Numbers) (after : List ℕ) → LeadNowhere numbers after 0
gone-none numbers after = record { within = omega arith; gone = λ n i. absurd i }

pub gone-more : (numbers : Numbers) (after : List ℕ) (place n : ℕ) → LeadNowhere numbers after place → place < length after → slice_index_or after place 0 ≡ n → find numbers n ≡ None
    → LeadNowhere numbers after (place + 1)
gone-more numbers after place n p h at none = record {
  within = omega (arith, h);
  gone = λ m i. elim (in-more after place m n h at (subst (λ j. In (take j after) m) (let e : place + 1 ≡ suc place = omega arith in e) i)) [
    | inl g ↦ p.gone m g
    | inr e ↦ ap (find numbers) (sym e) ∙ none
  ];
}

pub reserved-gone : (numbers : Numbers) (more : ℕ) (after : List ℕ) (nodes : Nodes) (count : ℕ) → LeadNowhere numbers after count → AreReserved numbers more after nodes nodes count
reserved-gone numbers more after nodes count p = record { roomier = roomier-same nodes; room = λ n i key led. let none = p.gone n i in absurd (cc) }

none-pass : (test : ℕ → Bool) (xs : List ℕ) → ((n : ℕ) → In xs n → test n ≡ false) → count_by test xs ≡ 0
none-pass test [] none = refl
none-pass test (x ∷ xs) none =
    let rest = none-pass test xs (λ n i. none n (inr i)) in
    let all = count-cons test x xs in
    let one : once (test x) ≡ 0 = ap once (none x (inl refl)) in omega (arith, rest, all, one)

pub unmet-gone : (numbers : Numbers) (nodes : Nodes) (key block : ℕ) (after : List ℕ) (count : ℕ) → LeadNowhere numbers after count → count_by (is_unmet nodes numbers key block) (take count after) ≡ 0
unmet-gone numbers nodes key block after count p =
    none-pass (is_unmet nodes numbers key block) (take count after) (λ n i. ap (λ o. option_map_or (λ j. not (j == key) && not (is_at (ready_in block) nodes j)) o false) (p.gone n i))

pub followed-gone : (numbers : Numbers) (m : ℕ) (after : List ℕ) (nodes : Nodes) (count : ℕ) → LeadNowhere numbers after count → AreFollowed numbers m (take count after) nodes nodes
followed-gone numbers m after nodes count p = record {
  long = refl;
  at = λ k. sym (by (node_at nodes k)) ∙ ap (λ c. option_map (retold m c) (node_at nodes k)) (sym (none-pass (leads_at numbers k) (take count after)
      (λ n i. ap (λ o. option_map_or (λ j. j == k) o false) (p.gone n i))));
}
  where
    by : (o : Option Node) → option_map (retold m 0) o ≡ o
    by None = refl
    by (Some x) = refl

pub reserved-more : (numbers : Numbers) (more : ℕ) (after : List ℕ) (old mid new : Nodes) (place n : ℕ) → AreReserved numbers more after old mid place → place < length after → slice_index_or after place 0 ≡ n
    → IsRoomier mid new → HasRoomTo numbers more n new → AreReserved numbers more after old new (place + 1)
reserved-more numbers more after old mid new place n p h at r room = record {
  roomier = roomier-then old mid new p.roomier r;
  room = λ m i key led. elim (in-more after place m n h at (subst (λ j. In (take j after) m) (let e : place + 1 ≡ suc place = omega arith in e) i)) [
    | inl g ↦ room-kept more key mid new r (p.room m g key led)
    | inr e ↦ room key (ap (find numbers) e ∙ led)
  ];
}

take-whole : (xs : List ℕ) (j : ℕ) → length xs ≡ j → take j xs ≡ xs
take-whole [] zero e = refl
take-whole [] (suc j) e = refl
take-whole (x ∷ xs) zero e = absurd (omega arith)
take-whole (x ∷ xs) (suc j) e = ap (λ ys. x ∷ ys) (take-whole xs j (omega arith))

pub reserved-all : (numbers : Numbers) (more : ℕ) (after : List ℕ) (old new : Nodes) (place : ℕ) → AreReserved numbers more after old new place → length after ≡ place → HasRoomForAll numbers more after new
reserved-all numbers more after old new place p all = subst (λ xs. HasRoomForAll numbers more xs new) (take-whole after place all) p.room

take-next : (xs : List ℕ) (i m : ℕ) → i < length xs → slice_index_or xs i 0 ≡ m → take (suc i) xs ≡ take i xs ++ m ∷ []
take-next [] i m h at = absurd (omega arith)
take-next (x ∷ xs) zero m h at = ap (λ z. z ∷ []) at
take-next (x ∷ xs) (suc i) m h at = ap (λ ys. x ∷ ys) (take-next xs i m (omega arith) at)

pub told-long : (n count : ℕ) (xs : List ℕ) → length (told n count xs) ≡ length xs + count
told-long n zero xs = omega arith
told-long n (suc count) xs =
    let e = told-long n count xs in
    let a = length-append (told n count xs) (n ∷ []) in omega arith

pub followed-none : (numbers : Numbers) (m : ℕ) (after : List ℕ) (nodes : Nodes) → AreFollowed numbers m (take 0 after) nodes nodes
followed-none numbers m after nodes = record { long = refl; at = λ k. sym (by (node_at nodes k)) }
  where
    by : (o : Option Node) → option_map (retold m 0) o ≡ o
    by None = refl
    by (Some x) = refl

-- there is room for the next follower
pub follow-room : (numbers : Numbers) (m : ℕ) (after : List ℕ) (old mid : Nodes) (place n : ℕ) → AreFollowed numbers m (take place after) old mid → HasRoomForAll numbers (length after) after old
    → In after n → place < length after → HasRoomTo numbers 1 n mid
follow-room numbers m after old mid place n p room i h key led y at = elim (cases_option (node_at old key)) [
  | inl none ↦
      let e : node_at mid key ≡ None = p.at key ∙ ap (option_map (retold m (count_by (leads_at numbers key) (take place after)))) none in absurd (cc)
  | inr x ↦
      let e : y ≡ record x.0 { followers = told m (count_by (leads_at numbers key) (take place after)) x.0.followers } =
      same_some y _ (sym at ∙ p.at key ∙ ap (option_map (retold m (count_by (leads_at numbers key) (take place after)))) x.1) in
      let r = room n i key led x.0 x.1 in
      let long = told-long m (count_by (leads_at numbers key) (take place after)) x.0.followers in
      let most = count_by-le-length (leads_at numbers key) (take place after) in
      let few = take-long after place in
      let a : length y.followers ≡ length (told m (count_by (leads_at numbers key) (take place after)) x.0.followers) = ap (λ z. length z.followers) e in
      let b : y.room ≡ x.0.room = ap (λ z. z.room) e in omega arith
]
  where
    take-long : (xs : List ℕ) (j : ℕ) → length (take j xs) ≤ j
    take-long xs zero = omega arith
    take-long [] (suc j) = omega arith
    take-long (x ∷ xs) (suc j) = let e = take-long xs j in omega arith

pub followed-more : (numbers : Numbers) (m : ℕ) (after : List ℕ) (old mid : Nodes) (place n : ℕ) → AreFollowed numbers m (take place after) old mid → place < length after → slice_index_or after place 0 ≡ n
    → AreFollowed numbers m (take (place + 1) after) old (followed_to numbers m mid n)
followed-more numbers m after old mid place n p h at = record {
  long = elim (cases_option (find numbers n)) [
    | inl none ↦ ap (λ o. length (option_map_or (changed_at (followed m) mid) o mid)) none ∙ p.long
    | inr j ↦ ap (λ o. length (option_map_or (changed_at (followed m) mid) o mid)) j.1 ∙ changed-long (followed m) mid j.0 ∙ p.long
  ];
  at = λ k.
      let count : count_by (leads_at numbers k) (take (place + 1) after) ≡ count_by (leads_at numbers k) (take place after) + once (leads_at numbers k n) =
      ap (λ j. count_by (leads_at numbers k) (take j after)) (let e : place + 1 ≡ suc place = omega arith in e)
      ∙ ap (count_by (leads_at numbers k)) (take-next after place n h at) ∙ count-last (leads_at numbers k) (take place after) n in
      step k (count_by (leads_at numbers k) (take place after)) (node_at old k) (p.at k) ∙ sym (ap (λ c. option_map (retold m c) (node_at old k)) count);
}
  where
    step : (k c : ℕ) (o : Option Node) → node_at mid k ≡ option_map (retold m c) o
        → node_at (followed_to numbers m mid n) k ≡ option_map (retold m (c + once (leads_at numbers k n))) o
    step k c o was = elim (cases_option (find numbers n)) [
      | inl none ↦
          let z : once (leads_at numbers k n) ≡ 0 = ap once (ap (λ o. option_map_or (λ j. j == k) o false) none) in
          let same : c + once (leads_at numbers k n) ≡ c = omega arith in
          ap (λ o. node_at (option_map_or (changed_at (followed m) mid) o mid) k) none ∙ was ∙ sym (ap (λ c. option_map (retold m c) o) same)
      | inr j ↦
          ap (λ o. node_at (option_map_or (changed_at (followed m) mid) o mid) k) j.1 ∙ elim (cases_eq k j.0) [
            | inl e ↦
                let z : once (leads_at numbers k n) ≡ 1 = ap once (ap (λ o. option_map_or (λ j. j == k) o false) j.1 ∙ eq-eqb j.0 k (sym e)) in
                let same : c + once (leads_at numbers k n) ≡ suc c = omega arith in
                ap (node_at (changed_at (followed m) mid j.0)) e ∙ changed-here (followed m) mid j.0 ∙ ap (λ i. option_map (followed m) (node_at mid i)) (sym e) ∙ ap (option_map (followed m)) was ∙ twice o
                ∙ sym (ap (λ c. option_map (retold m c) o) same)
            | inr d ↦
                let z : once (leads_at numbers k n) ≡ 0 = ap once (ap (λ o. option_map_or (λ j. j == k) o false) j.1 ∙ ne_eqb j.0 k (λ e. d (sym e))) in
                let same : c + once (leads_at numbers k n) ≡ c = omega arith in
                changed-else (followed m) mid j.0 k d ∙ was ∙ sym (ap (λ c. option_map (retold m c) o) same)
          ]
    ]
      where
        twice : (p : Option Node) → option_map (followed m) (option_map (retold m c) p) ≡ option_map (retold m (suc c)) p
        twice None = refl
        twice (Some x) = refl

-- followers have no part in what keeps a class out
followed-unmet : (numbers : Numbers) (m : ℕ) (after : List ℕ) (old new : Nodes) (key block n : ℕ) → AreFollowed numbers m after old new → is_unmet new numbers key block n ≡ is_unmet old numbers key block n
followed-unmet numbers m after old new key block n f = by (find numbers n)
  where
    ready : (j : ℕ) → is_at (ready_in block) new j ≡ is_at (ready_in block) old j
    ready j = ap (λ o. option_map_or (ready_in block) o false) (f.at j) ∙ kept (node_at old j)
      where
        kept : (o : Option Node) → option_map_or (ready_in block) (option_map (retold m (count_by (leads_at numbers j) after)) o) false ≡ option_map_or (ready_in block) o false
        kept None = refl
        kept (Some x) = refl

    by : (o : Option ℕ) → option_map_or (λ j. not (j == key) && not (is_at (ready_in block) new j)) o false ≡ option_map_or (λ j. not (j == key) && not (is_at (ready_in block) old j)) o false
    by None = refl
    by (Some j) = ap (λ b. not (j == key) && not b) (ready j)

-- so far: how many of the first numbers keep a class out
pub unmet-so-far : (numbers : Numbers) (m : ℕ) (after : List ℕ) (old mid : Nodes) (key block place n count : ℕ) → AreFollowed numbers m (take place after) old mid → place < length after → slice_index_or after place 0 ≡ n
    → count ≡ count_by (is_unmet old numbers key block) (take place after)
    → count + once (is_unmet mid numbers key block n) ≡ count_by (is_unmet old numbers key block) (take (place + 1) after)
unmet-so-far numbers m after old mid key block place n count p h at was =
    let more : count_by (is_unmet old numbers key block) (take (place + 1) after) ≡ count_by (is_unmet old numbers key block) (take place after) + once (is_unmet old numbers key block n) =
    ap (λ j. count_by (is_unmet old numbers key block) (take j after)) (let e : place + 1 ≡ suc place = omega arith in e)
    ∙ ap (count_by (is_unmet old numbers key block)) (take-next after place n h at) ∙ count-last (is_unmet old numbers key block) (take place after) n in
    let same : once (is_unmet mid numbers key block n) ≡ once (is_unmet old numbers key block n) = ap once (followed-unmet numbers m (take place after) old mid key block n p) in omega arith

pub followed-all : (numbers : Numbers) (m : ℕ) (after : List ℕ) (old new : Nodes) (place : ℕ) → AreFollowed numbers m (take place after) old new → length after ≡ place → AreFollowed numbers m after old new
followed-all numbers m after old new place p all = subst (λ xs. AreFollowed numbers m xs old new) (take-whole after place all) p

pub at-In : (xs : List ℕ) (i n : ℕ) → i < length xs → slice_index_or xs i 0 ≡ n → In xs n
at-In [] i n h at = absurd (omega arith)
at-In (x ∷ xs) zero n h at = inl at
at-In (x ∷ xs) (suc i) n h at = inr (at-In xs i n (omega arith) at)

pub lists-same : (blocks : Blocks) → KeepsLists blocks blocks
lists-same blocks b = record { same = refl; ready = omega arith; flying = omega arith }

pub listed-roomier : (nodes : Nodes) (old new : Blocks) → KeepsLists old new → AreListed nodes old → AreListed nodes new
listed-roomier nodes old new k l b =
    let r = k b in
    let o = l b in
    let counted = o.counted in
    let within = o.within in
    let a = o.room_ready in
    let c = o.room_flying in
    let ready = r.ready in
    let flying = r.flying in
    let count : (of_at new b).count ≡ (of_at old b).count = ap (λ z. z.count) r.same in
    let done : (of_at new b).done ≡ (of_at old b).done = ap (λ z. z.done) r.same in
    let long : length (of_at new b).ready ≡ length (of_at old b).ready = ap (λ z. length z.ready) r.same in
    record {
      due = λ j. ap (λ z. count_by (λ i. i == j) z.ready) r.same ∙ o.due j;
      ready = λ j. ap (λ z. count_by (λ i. i == j) (take z.done z.ready)) r.same ∙ o.ready j;
      flying = λ j. ap (λ z. count_by (λ i. i == j) z.flying) r.same ∙ o.flying j;
      counted = omega arith;
      within = omega arith;
      room_ready = omega arith;
      room_flying = omega arith;
    }

pub settled-roomier : (old new : Blocks) → KeepsLists old new → AreSettled old → AreSettled new
settled-roomier old new k s b = ap (λ z. z.done) (k b).same ∙ s b ∙ sym (ap (λ z. length z.ready) (k b).same)

-- links stand, with more room
-- a test that room has no part in
roomless-test : (test : Node → Bool) (nodes after : Nodes) (j : ℕ) → IsRoomier nodes after → ((x : Node) → test (with_room 0 x) ≡ test x) → is_at test after j ≡ is_at test nodes j
roomless-test test nodes after j r same = sym (by (node_at after j)) ∙ ap (λ o. option_map_or test o false) (r.same j) ∙ by (node_at nodes j)
  where
    by : (o : Option Node) → option_map_or test (option_map (with_room 0) o) false ≡ option_map_or test o false
    by None = refl
    by (Some x) = same x

tied-roomier : (nodes after : Nodes) (numbers : Numbers) → IsRoomier nodes after → AreTied nodes numbers → AreTied after numbers
tied-roomier nodes after numbers r t = record {
  members = λ n key. t.members n key ∙ sym (roomless-test (has_member n) nodes after key r (λ x. refl));
  linked = λ key j x y apart at at2.
      let a = roomless-was nodes after key x r at in
      let b = roomless-was nodes after j y r at2 in
      ap (λ z. count_by (leads_at numbers key) z.followers) b.2 ∙ t.linked key j a.0 b.0 apart a.1 b.1 ∙ sym (ap (λ z. count_by (leads_at numbers j) z.class.after) a.2);
  counted = λ key x at.
      let a = roomless-was nodes after key x r at in
      let w = t.counted key a.0 a.1 in
      let waits : x.waits ≡ a.0.waits = ap (λ z. z.waits) a.2 in
      let same : unmet_of after numbers key x.class ≡ unmet_of after numbers key a.0.class = ap (λ z. unmet_of after numbers key z.class) a.2 in
      let more = unmet-alike nodes after numbers key a.0.class (λ j. roomless-test (ready_in a.0.class.block) nodes after j r (λ x. refl)) in omega arith;
}

block-roomier : (block : ℕ) (nodes after : Nodes) (of : OfBlock) → IsRoomier nodes after → IsListed block nodes of → IsListed block after of
block-roomier block nodes after of r l = listed-alike block nodes after of (record {
  due = λ j. roomless-test (due_in block) nodes after j r (λ x. refl);
  ready = λ j. roomless-test (ready_in block) nodes after j r (λ x. refl);
  flying = λ j. roomless-test (flying_in block) nodes after j r (λ x. refl);
  of = λ j. roomless-test (of_block block) nodes after j r (λ x. refl);
}) l

pub stands-roomier : (nodes after : Nodes) (numbers : Numbers) (old new : Blocks) → IsRoomier nodes after → KeepsLists old new → Stands nodes numbers old → Stands after numbers new
stands-roomier nodes after numbers old new r k s =
    let t = tied-roomier nodes after numbers r (record { members = s.members; linked = s.linked; counted = s.counted }) in
    record {
      members = t.members;
      linked = t.linked;
      counted = t.counted;
      listed = listed-roomier after old new k (λ b. block-roomier b nodes after (of_at old b) r (s.listed b));
      settled = settled-roomier old new k s.settled;
    }

pub below-roomier : (made : ℕ) (nodes after : Nodes) → IsRoomier nodes after → AreBelow made nodes → AreBelow made after
below-roomier made nodes after r b key n t = b key n (sym (sym (by (node_at after key)) ∙ ap (λ o. option_map_or (names n) o false) (r.same key) ∙ by (node_at nodes key)) ∙ t)
  where
    by : (o : Option Node) → option_map_or (names n) (option_map (with_room 0) o) false ≡ option_map_or (names n) o false
    by None = refl
    by (Some x) = refl

pub lists-then : (a b c : Blocks) → KeepsLists a b → KeepsLists b c → KeepsLists a c
lists-then a b c p q k =
    let x = p k in
    let y = q k in
    let xr = x.ready in
    let yr = y.ready in
    let xf = x.flying in
    let yf = y.flying in
    record {
      same = y.same ∙ ap (λ (o : OfBlock). record o { room_ready = (of_at c k).room_ready; room_flying = (of_at c k).room_flying }) x.same;
      ready = omega arith;
      flying = omega arith;
    }

some-alike : (old new : Nodes) → length new ≡ length old → ((k : ℕ) → is_some (node_at new k) ≡ is_some (node_at old k)) → count_by is_some new ≡ count_by is_some old
some-alike [] [] long same = refl
some-alike [] (y ∷ new) long same = absurd (omega arith)
some-alike (x ∷ old) [] long same = absurd (omega arith)
some-alike (x ∷ old) (y ∷ new) long same =
    let rest = some-alike old new (omega arith) (λ k. same (suc k)) in
    let a = count-cons is_some x old in
    let b = count-cons is_some y new in
    let one : once (is_some y) ≡ once (is_some x) = ap once (same 0) in omega arith

-- as many nodes as before
pub as-many : (numbers : Numbers) (m : ℕ) (after : List ℕ) (old new : Nodes) → AreFollowed numbers m after old new → count_by is_some new ≡ count_by is_some old
as-many numbers m after old new f = some-alike old new f.long (λ k. ap is_some (f.at k) ∙ by (count_by (leads_at numbers k) after) (node_at old k))
  where
    by : (cnt : ℕ) (o : Option Node) → is_some (option_map (retold m cnt) o) ≡ is_some o
    by cnt None = refl
    by cnt (Some x) = refl
